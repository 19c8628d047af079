-- What is skipped, and tags of one word, end within the text.
use Rattle.std.proofs.Common.{◌≡◌, ℕ, ◌+◌, ◌<◌, ◌≤◌, Bool, true, false, cond, length, drop, get_or, refl, arith, subst, length-drop, Option, Some, None, eqb, lit<}
use Rattle.std.specs.Prelude.{◌&&◌, not}
use Rattle.std.proofs.lemmas.Bool.{eqb-true}
use Rattle.minijinja_syntax.specs.Texts.{Text}
use Rattle.minijinja_syntax.specs.Syntax.{Syntax, end_of, IsBuildable}
use Rattle.minijinja_syntax.specs.Markers.{stands}
use Rattle.minijinja_syntax.specs.declared.syntax.StartMarker.{StartMarker}
use Rattle.minijinja_syntax.specs.declared.syntax.StartMarker.TheVariants as markers
use Rattle.minijinja_syntax.proofs.Delimiters.{stands_within}
use Rattle.minijinja_lexer.specs.Whitespace.{control_at, control_len, control_behind, is_given, past_space, past_line_space, line_end_len, tail_len, is_variable}
use Rattle.minijinja_lexer.specs.Raw.{word_tag}
use Rattle.minijinja_lexer.specs.Cut.{end_at}
use Rattle.minijinja_lexer.specs.Relation.{IsDelimiterClose}
use Rattle.minijinja_lexer.specs.Controls.{Control, Absent, Remove, Preserve}
use Rattle.minijinja_lexer.proofs.Boundaries.{within}

control_fits : (text : Text) (n : ℕ) → n ≤ length text → n + control_len (control_at text n) ≤ length text
control_fits text n h = either (eqb (get_or text n 0) 45) (eqb (get_or text n 0) 43) refl refl
  where
    either : (t v : Bool) → eqb (get_or text n 0) 45 ≡ t → eqb (get_or text n 0) 43 ≡ v → n + control_len (cond t Remove (cond v Preserve Absent)) ≤ length text
    either true v e f = let q = eqb-true (get_or text n 0) 45 e in let w = within text n (omega (arith, q)) in omega (arith, w)
    either false true e f = let q = eqb-true (get_or text n 0) 43 f in let w = within text n (omega (arith, q)) in omega (arith, w)
    either false false e f = omega (arith, h)

pub behind_within : (text : Text) (n : ℕ) (m : StartMarker) → n ≤ length text → n + control_len (control_behind text n m) ≤ length text
behind_within text n markers.Variable h = control_fits text n h
behind_within text n markers.Block h = control_fits text n h
behind_within text n markers.Comment h = control_fits text n h
behind_within text n markers.LineComment h = control_fits text n h
behind_within text n markers.LineStatement h = omega (arith, h)

one_fits : (bs : Text) (n b : ℕ) (t : Bool) → eqb (get_or bs n 0) b ≡ t → 0 < b → n ≤ length bs → n + cond t 1 0 ≤ length bs
one_fits bs n b true e some h = let q = eqb-true (get_or bs n 0) b e in let w = within bs n (omega (arith, q)) in omega (arith, w)
one_fits bs n b false e some h = omega arith

pub line_end_within : (bs : Text) → line_end_len bs ≤ length bs
line_end_within bs =
    let r : ℕ = cond (eqb (get_or bs 0 0) 13) 1 0 in
    let a : 0 + r ≤ length bs = one_fits bs 0 13 (eqb (get_or bs 0 0) 13) refl (lit< tt) (omega arith) in
    let b : r ≤ length bs = omega arith in
    one_fits bs r 10 (eqb (get_or bs r 0) 10) refl (lit< tt) b

pub tail_within : (s : Syntax) (m : StartMarker) (control : Control) (rest : Text) → tail_len s m control rest ≤ length rest
unfolding tail_len
tail_within s m Remove rest = omega arith
tail_within s m Preserve rest = omega arith
tail_within s m Absent rest = either (s.trim_blocks && not (is_variable m))
  where
    either : (t : Bool) → cond t (line_end_len rest) 0 ≤ length rest
    either true = line_end_within rest
    either false = omega arith

-- ---- tags of one word

OnWards : ℕ → Option (Control × ℕ) → Type 0
OnWards at None = Unit {0}
OnWards at (Some r) = at ≤ r.1

word_onwards : (s : Syntax) (text word : Text) (at : ℕ) → OnWards at (word_tag s text word at)
unfolding word_tag OnWards
word_onwards s text word at =
    let q : ℕ = past_space text (past_space text at + length word) in
    let e : ℕ = q + control_len (control_at text q) in
    either q e (stands word text (past_space text at) && stands s.block_end text e) (omega arith)
  where
    either : (q e : ℕ) (t : Bool) → at ≤ e → OnWards at (cond t (Some (control_at text q, e + length s.block_end)) None)
    either q e true h = omega (arith, h)
    either q e false h = tt

pub word_on : (s : Syntax) (text word : Text) (at : ℕ) (r : Control × ℕ) → word_tag s text word at ≡ Some r → at ≤ r.1
unfolding OnWards
word_on s text word at r e = subst (OnWards at) e (word_onwards s text word at)

EndsWithin : Text → Option (Control × ℕ) → Type 0
EndsWithin text None = Unit {0}
EndsWithin text (Some r) = r.1 ≤ length text

word_ends : (s : Syntax) (text word : Text) (at : ℕ) → IsBuildable s → EndsWithin text (word_tag s text word at)
unfolding word_tag EndsWithin
word_ends s text word at built =
    let q : ℕ = past_space text (past_space text at + length word) in
    let e : ℕ = q + control_len (control_at text q) in
    either q e (stands word text (past_space text at)) (stands s.block_end text e) refl
  where
    either : (q e : ℕ) (t u : Bool) → stands s.block_end text e ≡ u → EndsWithin text (cond (t && u) (Some (control_at text q, e + length s.block_end)) None)
    either q e true true h = stands_within s.block_end text e (built.delimiters markers.Block tt).1 h
    either q e true false h = tt
    either q e false u h = tt

pub word_within : (s : Syntax) (text word : Text) (at : ℕ) (r : Control × ℕ) → IsBuildable s → word_tag s text word at ≡ Some r → r.1 ≤ length text
unfolding EndsWithin
word_within s text word at r built e = subst (EndsWithin text) e (word_ends s text word at built)

-- ---- the ends of tags

pub past_line_space_within : (text : Text) (at : ℕ) → at ≤ length text → past_line_space text at ≤ length text
past_line_space_within text at h = let d = length-drop at text in omega (arith, h, d)

Ends : Text → Option (Control × ℕ) → Type 0
Ends text None = Unit {0}
Ends text (Some r) = r.1 ≤ length text

end_ends : (d text : Text) (p : ℕ) → 0 < length d → Ends text (end_at d text p)
unfolding end_at Ends
end_ends d text p some = either (is_given (control_at text p)) (stands d text (p + 1)) (stands d text p) refl refl
  where
    either : (a b c : Bool) → stands d text (p + 1) ≡ b → stands d text p ≡ c → Ends text (cond {A = Option (Control × ℕ)} (a && b) (Some (control_at text p, p + 1 + length d)) (cond c (Some (Absent, p + length d)) None))
    either true true c e f = stands_within d text (p + 1) some e
    either true false true e f = stands_within d text p some f
    either true false false e f = tt
    either false b true e f = stands_within d text p some f
    either false b false e f = tt

pub delimited_within : (s : Syntax) (text : Text) (m : StartMarker) (at start stop after : ℕ) → 0 < length (end_of s m) → IsDelimiterClose s text m at start stop after → after ≤ length text
unfolding Ends
delimited_within s text m at start stop after some is =
    let w : stop ≤ length text = subst (Ends text) is.end (end_ends (end_of s m) text start some) in
    let t = tail_within s m is.control (drop stop text) in
    let d = length-drop stop text in
    let e = is.tail in
    omega (arith, w, t, d, e)
