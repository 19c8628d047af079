-- A tag does not end before the place from which it is read.
use Rattle.std.proofs.Common.{◌≡◌, ℕ, zero, suc, ◌+◌, ◌-◌, ◌≤◌, Bool, true, false, cond, [], ◌∷◌, length, drop, arith, subst, length-drop, Option, Some, None}
use Rattle.std.specs.Prelude.{Result, Ok, Err, nat_lt, ◌||◌, ◌&&◌, ◌==◌}
use Rattle.minijinja_syntax.specs.Texts.{Text}
use Rattle.minijinja_syntax.specs.Syntax.{Syntax, end_of}
use Rattle.minijinja_syntax.specs.Markers.{stands}
use Rattle.minijinja_syntax.specs.declared.syntax.StartMarker.{StartMarker}
use Rattle.minijinja_syntax.specs.declared.syntax.StartMarker.TheVariants as markers
use Rattle.minijinja_lexer.specs.TokenAt.{token_at}
use Rattle.minijinja_lexer.specs.Brackets.{opened_by, shut_by}
use Rattle.minijinja_lexer.specs.Whitespace.{past_space, past_line_space, line_end_len, control_at, is_given}
use Rattle.minijinja_lexer.specs.Cut.{close_over, close_at, end_at, delimited_close, line_close, scanned, token_part, tag_part_from, Inner, inner_from, inner_at, tag_part_at, go_on, close_stop}
use Rattle.minijinja_lexer.specs.Controls.{Control, Absent}
use Rattle.minijinja_lexer.specs.Sorts.{Sort}
use Rattle.minijinja_lexer.specs.Faults.{LexFault}
use Rattle.minijinja_lexer.specs.Tags.{Tag, Variable, Block, Line}
use Rattle.minijinja_lexer.specs.TagParts.{Lexeme, Close, Closed, TagPart, Token, End}

TagPartStops : ℕ → ℕ → TagPart → Type 0
TagPartStops at len (Token l) = Unit {0}
TagPartStops at len (End close) = at ≤ close_stop len close

OptionStops : ℕ → ℕ → Option Close → Type 0
OptionStops at len None = Unit {0}
OptionStops at len (Some close) = at ≤ close_stop len close

over_stops : (at len p : ℕ) (k : Tag) → at ≤ len → at ≤ close_stop len (close_over len p k)
over_stops at len p Variable h = h
over_stops at len p Block h = h
over_stops at len p Line h = h

scanned_stops : (at len p : ℕ) (r : Result (Sort × ℕ) (LexFault × ℕ)) → at ≤ len → TagPartStops at len (scanned p r)
unfolding TagPartStops
scanned_stops at len p (Ok r) h = tt
scanned_stops at len p (Err f) h = h

token_stops : (text : Text) (k : Tag) (at p : ℕ) → at ≤ length text → TagPartStops at (length text) (token_part text k p)
unfolding TagPartStops
token_stops text k at p h = either (nat_lt p (length text))
  where
    either : (t : Bool) → TagPartStops at (length text) (cond t (scanned p (token_at text p)) (End (close_over (length text) p k)))
    either true = scanned_stops at (length text) p (token_at text p) h
    either false = over_stops at (length text) p k h

EndOn : ℕ → Option (Control × ℕ) → Type 0
EndOn p None = Unit {0}
EndOn p (Some e) = p ≤ e.1

end_on : (d text : Text) (p : ℕ) → EndOn p (end_at d text p)
unfolding end_at EndOn
end_on d text p = either (is_given (control_at text p) && stands d text (p + 1)) (stands d text p)
  where
    either : (t u : Bool) → EndOn p (cond t (Some (control_at text p, p + 1 + length d)) (cond u (Some (Absent, p + length d)) None))
    either true u = omega arith
    either false true = omega arith
    either false false = tt

delimited_stops : (s : Syntax) (text : Text) (m : StartMarker) (at p : ℕ) (e : Option (Control × ℕ)) → at ≤ p → EndOn p e → OptionStops at (length text) (delimited_close s text m p e)
unfolding EndOn OptionStops
delimited_stops s text m at p None h e = tt
delimited_stops s text m at p (Some end) h e = omega arith

line_stops : (text : Text) (at : ℕ) → OptionStops at (length text) (line_close text at)
unfolding OptionStops
line_stops text at = either (past_line_space text at == length text || nat_lt (past_line_space text at) (past_line_space text at + line_end_len (drop (past_line_space text at) text)))
  where
    either : (t : Bool) → OptionStops at (length text) (let p = past_line_space text at in let stop = p + line_end_len (drop p text) in cond t (Some (Closed at stop stop)) None)
    either true = omega arith
    either false = tt

at_stops : (s : Syntax) (text : Text) (k : Tag) (at : ℕ) → OptionStops at (length text) (close_at s text k at)
unfolding close_at
at_stops s text Variable at = delimited_stops s text markers.Variable at (past_space text at) _ (omega arith) (end_on (end_of s markers.Variable) text (past_space text at))
at_stops s text Block at = delimited_stops s text markers.Block at (past_space text at) _ (omega arith) (end_on (end_of s markers.Block) text (past_space text at))
at_stops s text Line at = line_stops text at

from_stops : (text : Text) (k : Tag) (at : ℕ) (x : Option Close) → at ≤ length text → OptionStops at (length text) x → TagPartStops at (length text) (tag_part_from text k at x)
unfolding OptionStops TagPartStops
from_stops text k at None h e = token_stops text k at (past_space text at) h
from_stops text k at (Some close) h e = e

tag_part_stops : (s : Syntax) (text : Text) (k : Tag) (o c at : ℕ) → at ≤ length text → TagPartStops at (length text) (tag_part_at s text k o c at)
unfolding tag_part_at OptionStops
tag_part_stops s text k o c at h = either (o == c)
  where
    either : (t : Bool) → TagPartStops at (length text) (tag_part_from text k at (cond t (close_at s text k at) None))
    either true = from_stops text k at (close_at s text k at) h (at_stops s text k at)
    either false = from_stops text k at None h tt

go_stops : (at len : ℕ) (t : TagPart) (next : Lexeme → Inner) → TagPartStops at len t → ((l : Lexeme) → at + 1 ≤ close_stop len (next l).close) → at ≤ close_stop len (go_on t next).close
unfolding TagPartStops
go_stops at len (Token l) next h f = let m = f l in omega (arith, m)
go_stops at len (End close) next h f = h

inner_stops : (s : Syntax) (text : Text) (k : Tag) (o c at skip : ℕ) (bs : Text) → at + length bs ≡ length text → at ≤ close_stop (length text) (inner_from s text k o c at skip bs).close
inner_stops s text k o c at skip [] e = over_stops at (length text) (at + skip) k (omega (arith, e))
inner_stops s text k o c at (suc skip) (b ∷ bs) e = let m = inner_stops s text k o c (at + 1) skip bs (omega (arith, e)) in omega (arith, m)
inner_stops s text k o c at zero (b ∷ bs) e =
    go_stops at (length text) (tag_part_at s text k o c at) _ (tag_part_stops s text k o c at (omega (arith, e)))
    (λ l. inner_stops s text k (o + opened_by l.sort) (c + shut_by l.sort) (at + 1) (l.stop - (at + 1)) bs (omega (arith, e)))

pub inner_stop : (s : Syntax) (text : Text) (k : Tag) (o c at : ℕ) → at ≤ length text → at ≤ close_stop (length text) (inner_at s text k o c at).close
unfolding inner_at
inner_stop s text k o c at h = let l = length-drop at text in inner_stops s text k o c at 0 (drop at text) (omega (arith, l))

pub end_forward : (d text : Text) (p : ℕ) (control : Control) (stop : ℕ) → end_at d text p ≡ Some (control, stop) → p ≤ stop
unfolding EndOn
end_forward d text p control stop e = subst (EndOn p) e (end_on d text p)
