-- A text has one cut.
use Rattle.std.proofs.Common.{◌≡◌, ℕ, ◌+◌, ◌<◌, ◌≤◌, Bool, true, false, cond, List, [], ◌∷◌, length, drop, refl, ap, sym, ◌∙◌, arith, subst, Option, Some, None, Result, Ok, Err, ⊎_elim, inl, inr, ◌==◌}
use Rattle.std.specs.Prelude.{◌&&◌, codes, is_some, nat_lt, ◌||◌}
use Rattle.std.specs.List.{prefix_len}
use Rattle.std.specs.Char.{is_ascii_whitespace}
use Rattle.std.proofs.lemmas.List.{drop_all}
use Rattle.std.proofs.lemmas.Bool.{cases_lt, lt-ltb, le-ltb, eq-eqb, eqb-true}
use Rattle.minijinja_syntax.specs.Texts.{Text}
use Rattle.minijinja_syntax.specs.Syntax.{Syntax, start_of, end_of, IsBuildable}
use Rattle.minijinja_syntax.specs.Markers.{stands, IsMarkerAt}
use Rattle.minijinja_syntax.specs.declared.syntax.StartMarker.{StartMarker}
use Rattle.minijinja_syntax.specs.declared.syntax.StartMarker.TheVariants as markers
use Rattle.minijinja_syntax.proofs.Markers.{marker_is, no_marker_is, eligible_some, eligible_stands}
use Rattle.minijinja_syntax.proofs.Delimiters.{stands_past, stands_within}
use Rattle.minijinja_syntax.proofs.Finding.{next_marker_is}
use Rattle.minijinja_lexer.specs.TokenAt.{token_at}
use Rattle.minijinja_lexer.specs.Brackets.{opened_by, shut_by}
use Rattle.minijinja_lexer.specs.Whitespace.{control_at, is_given, body_of, past_space, past_line_space, line_end_len, tail_len}
use Rattle.minijinja_lexer.specs.Raw.{raw_at, next_endraw}
use Rattle.minijinja_lexer.specs.Cut.{Inner, Segment, plain, comment, line_comment, raw, tag, unclosed_comment, unclosed_raw, marker_of, stop_of, close_stop, close_over, close_at, end_at, delimited_close, line_close, scanned, token_part, tag_part_from, tag_part_at, inner_at, segment_at, segment_of, tag_at, comment_to, raw_to, block_to, tail_control, cut_at}
use Rattle.minijinja_lexer.specs.Relation.{NoEnd, IsLexeme, IsDelimiterClose, IsLineClose, IsClosedAt, IsOver, IsRefused, IsClose, IsInner, IsPlain, IsComment, IsUnclosedComment, IsLineComment, PassesOver, IsRaw, IsUnclosedRaw, IsTag, IsNoRaw, IsSegment, IsCut, IsExpression}
use Rattle.minijinja_lexer.specs.Controls.{Control, Absent}
use Rattle.minijinja_lexer.specs.RawBlocks.{RawBlock}
use Rattle.minijinja_lexer.specs.Faults.{LexFault}
use Rattle.minijinja_lexer.specs.Sorts.{Sort}
use Rattle.minijinja_lexer.specs.Tags.{Tag, Variable, Block, Line}
use Rattle.minijinja_lexer.specs.TagParts.{Lexeme, Close, Closed, Broken, Refused, Token, End}
use Rattle.minijinja_lexer.proofs.Searching.{delimiter_is, no_delimiter_is, line_end_is, endraw-found, endraw-none}
use Rattle.minijinja_lexer.proofs.OutsideSteps.{marked, plain_at}
use Rattle.minijinja_lexer.proofs.Within.{behind_within, word_within, word_on}
use Rattle.minijinja_lexer.proofs.Steps.{inner_at-token, inner_at-end, inner_over, cut_step, cut_over}
use Rattle.minijinja_lexer.proofs.Stops.{inner_stop}

-- ---- inside a tag

-- where no end is, a token is looked for
no_end_part : (s : Syntax) (text : Text) (k : Tag) (o c at : ℕ) → NoEnd s text k o c at → tag_part_at s text k o c at ≡ token_part text k (past_space text at)
unfolding tag_part_at
no_end_part s text k o c at none = either (o == c) refl
  where
    either : (t : Bool) → (o == c) ≡ t → tag_part_from text k at (cond t (close_at s text k at) None) ≡ token_part text k (past_space text at)
    either true e = ap (tag_part_from text k at) (none (eqb-true o c e))
    either false e = refl

within_part : (text : Text) (k : Tag) (p : ℕ) (r : Result (Sort × ℕ) (LexFault × ℕ)) → p < length text → token_at text p ≡ r → token_part text k p ≡ scanned p r
within_part text k p r h e = ap (λ b. cond b (scanned p (token_at text p)) (End (close_over (length text) p k))) (lt-ltb p (length text) h) ∙ ap (scanned p) e

over_part : (text : Text) (k : Tag) (p : ℕ) → length text ≤ p → token_part text k p ≡ End (close_over (length text) p k)
over_part text k p h = ap (λ b. cond b (scanned p (token_at text p)) (End (close_over (length text) p k))) (le-ltb p (length text) h)

lexeme_part : (s : Syntax) (text : Text) (k : Tag) (o c at : ℕ) (l : Lexeme) → IsLexeme s text k o c at l → tag_part_at s text k o c at ≡ Token l
lexeme_part s text k o c at l is =
    no_end_part s text k o c at is.no_end ∙ ap (token_part text k) (sym is.space) ∙ within_part text k l.start (Ok (l.sort, l.stop)) is.within is.token

refused_part : (s : Syntax) (text : Text) (k : Tag) (o c at start p : ℕ) (f : LexFault) → IsRefused s text k o c at start p f → tag_part_at s text k o c at ≡ End (Refused f start p)
refused_part s text k o c at start p f is =
    no_end_part s text k o c at is.no_end ∙ ap (token_part text k) (sym is.space) ∙ within_part text k start (Err (f, p)) is.within is.token

-- an end that stands there
end_part : (s : Syntax) (text : Text) (k : Tag) (o c at : ℕ) (close : Close) → o ≡ c → close_at s text k at ≡ Some close → tag_part_at s text k o c at ≡ End close
unfolding tag_part_at
end_part s text k o c at close e f = ap (λ t. tag_part_from text k at (cond t (close_at s text k at) None)) (eq-eqb o c e) ∙ ap (tag_part_from text k at) f

delimiter_close_is : (s : Syntax) (text : Text) (m : StartMarker) (at start stop after : ℕ) → IsDelimiterClose s text m at start stop after → delimited_close s text m (past_space text at) (end_at (end_of s m) text (past_space text at)) ≡ Some (Closed start stop after)
delimiter_close_is s text m at start stop after is =
    ap (λ p. delimited_close s text m p (end_at (end_of s m) text p)) (sym is.space)
    ∙ ap (delimited_close s text m start) is.end
    ∙ ap (λ n. Some (Closed start stop n)) (sym is.tail)

line_close_is : (text : Text) (at start stop after : ℕ) → IsLineClose text at start stop after → line_close text at ≡ Some (Closed start stop after)
line_close_is text at start stop after is =
    let p : ℕ = past_line_space text at in
    let q : ℕ = p + line_end_len (drop p text) in
    let t : ((p == length text) || nat_lt p q) ≡ true = ⊎_elim
    (λ e. ap (λ b. b || nat_lt p q) (eq-eqb p (length text) e))
    (λ h. let l : p < q = omega (arith, h, is.stop_is) in or_right (p == length text) (nat_lt p q) (lt-ltb p q l))
    is.line_end in
    ap (λ b. cond b (Some (Closed at q q)) None) t
    ∙ ap (λ n. Some (Closed n q q)) (sym is.start_is) ∙ ap (λ n. Some (Closed start n n)) (sym is.stop_is) ∙ ap (λ n. Some (Closed start stop n)) (sym is.after_is)
  where
    or_right : (a b : Bool) → b ≡ true → (a || b) ≡ true
    or_right true b e = refl
    or_right false b e = e

closed_at_is : (s : Syntax) (text : Text) (k : Tag) (at start stop after : ℕ) → IsClosedAt s text k at start stop after → close_at s text k at ≡ Some (Closed start stop after)
unfolding close_at
closed_at_is s text Variable at start stop after is = delimiter_close_is s text markers.Variable at start stop after is
closed_at_is s text Block at start stop after is = delimiter_close_is s text markers.Block at start stop after is
closed_at_is s text Line at start stop after is = line_close_is text at start stop after is

line_over : (len p start stop after : ℕ) (k : Tag) → k ≡ Line → start ≡ p → stop ≡ start → after ≡ len → close_over len p k ≡ Closed start stop after
line_over len p start stop after k e f g h =
    ap (close_over len p) e ∙ ap (λ n. Closed n n len) (sym f) ∙ ap (λ n. Closed start n len) (sym g) ∙ ap (Closed start stop) (sym h)

not_line : (len p : ℕ) (k : Tag) → (k ≡ Line → ⊥) → close_over len p k ≡ Broken
not_line len p Variable n = refl
not_line len p Block n = refl
not_line len p Line n = absurd (n refl)

pub past_over : (text : Text) (at : ℕ) → length text ≤ at → past_space text at ≡ at
past_over text at h = let e : at + 0 ≡ at = omega arith in ap (λ t. at + prefix_len is_ascii_whitespace t) (drop_all at text h) ∙ e

over_is : (s : Syntax) (text : Text) (k : Tag) (o c at : ℕ) (close : Close) → length text ≤ past_space text at → (at < length text → NoEnd s text k o c at) → close_over (length text) (past_space text at) k ≡ close → inner_at s text k o c at ≡ record { lexemes = []; close = close }
over_is s text k o c at close h none e = ⊎_elim
    (λ (l : at < length text). inner_at-end s text k o c at close l (no_end_part s text k o c at (none l) ∙ over_part text k (past_space text at) h ∙ ap End e))
    (λ (l : length text ≤ at). inner_over s text k o c at l ∙ ap (λ n. let i : Inner = record { lexemes = []; close = close_over (length text) n k } in i) (sym (past_over text at l)) ∙ ap (λ x. let i : Inner = record { lexemes = []; close = x } in i) e)
    (cases_lt at (length text))

no_end_past : (d text : Text) (p : ℕ) → 0 < length d → length text ≤ p → end_at d text p ≡ None
unfolding end_at
no_end_past d text p some h = neither (is_given (control_at text p)) (stands d text (p + 1)) (stands d text p) (stands_past d text (p + 1) some (omega arith)) (stands_past d text p some h)
  where
    neither : (a b c : Bool) → b ≡ false → c ≡ false → cond {A = Option (Control × ℕ)} (a && b) (Some (control_at text p, p + 1 + length d)) (cond c (Some (Absent, p + length d)) None) ≡ None
    neither true false false e f = refl
    neither false false false e f = refl
    neither a true c e f = cc
    neither a b true e f = cc

no_delimiter_close : (s : Syntax) (text : Text) (m : StartMarker) (at : ℕ) → 0 < length (end_of s m) → length text ≤ past_space text at → delimited_close s text m (past_space text at) (end_at (end_of s m) text (past_space text at)) ≡ None
no_delimiter_close s text m at some h = ap (delimited_close s text m (past_space text at)) (no_end_past (end_of s m) text (past_space text at) some h)

broken_none : (s : Syntax) (text : Text) (k : Tag) (at : ℕ) → IsBuildable s → (k ≡ Line → ⊥) → length text ≤ past_space text at → close_at s text k at ≡ None
unfolding close_at
broken_none s text Variable at built n h = no_delimiter_close s text markers.Variable at (built.delimiters markers.Variable tt).1 h
broken_none s text Block at built n h = no_delimiter_close s text markers.Block at (built.delimiters markers.Block tt).1 h
broken_none s text Line at built n h = absurd (n refl)

close_is : (s : Syntax) (text : Text) (k : Tag) (o c at : ℕ) (close : Close) → IsBuildable s → IsClose s text k o c at close → inner_at s text k o c at ≡ record { lexemes = []; close = close }
close_is s text k o c at (Closed start stop after) built is = ⊎_elim
    (λ (x : (at < length text) × (o ≡ c) × IsClosedAt s text k at start stop after). inner_at-end s text k o c at (Closed start stop after) x.0 (end_part s text k o c at (Closed start stop after) x.1 (closed_at_is s text k at start stop after x.2)))
    (λ (x : IsOver text k at start stop after × (at < length text → NoEnd s text k o c at)).
    over_is s text k o c at (Closed start stop after) x.0.none_left x.1 (line_over (length text) (past_space text at) start stop after k x.0.kind x.0.start_is x.0.stop_is x.0.after_is))
    is
close_is s text k o c at (Refused f start p) built is = inner_at-end s text k o c at (Refused f start p) is.0 (refused_part s text k o c at start p f is.1)
close_is s text k o c at Broken built is = over_is s text k o c at Broken is.none_left (λ _ _. broken_none s text k at built is.kind is.none_left) (not_line (length text) (past_space text at) k is.kind)

lexeme_inside : (s : Syntax) (text : Text) (k : Tag) (o c at : ℕ) (l : Lexeme) → IsLexeme s text k o c at l → (at < length text) × (at < l.stop)
lexeme_inside s text k o c at l is = let a = is.space in let b = is.within in let d = is.some in (omega arith, omega arith)

pub inner_is : (s : Syntax) (text : Text) (k : Tag) (o c at : ℕ) (ls : List Lexeme) (close : Close) → IsBuildable s → IsInner s text k o c at ls close → inner_at s text k o c at ≡ record { lexemes = ls; close = close }
inner_is s text k o c at [] close built is = close_is s text k o c at close built is
inner_is s text k o c at (l ∷ ls) close built is =
    let m = lexeme_inside s text k o c at l is.0 in
    inner_at-token s text k o c at l m.0 m.1 (lexeme_part s text k o c at l is.0)
    ∙ ap (λ (i : Inner). let j : Inner = record { lexemes = l ∷ i.lexemes; close = i.close } in j) (inner_is s text k (o + opened_by l.sort) (c + shut_by l.sort) l.stop ls close built is.1)

-- ---- segments

-- a marker that stands ends within the text
pub marker_within : (s : Syntax) (text : Text) (m : StartMarker) (at : ℕ) → IsMarkerAt s text at m → (0 < length (start_of s m)) × (at + length (start_of s m) ≤ length text)
marker_within s text m at is =
    let some = eligible_some s text at m is.eligible in
    (some, stands_within (start_of s m) text at some (eligible_stands s text at m is.eligible))

-- and so does its control
pub body_within : (s : Syntax) (text : Text) (m : StartMarker) (at : ℕ) → IsMarkerAt s text at m → (at < body_of s text m at) × (body_of s text m at ≤ length text)
body_within s text m at is =
    let w = marker_within s text m at is in
    let stop : ℕ = at + length (start_of s m) in
    let c = behind_within text stop m w.1 in
    (omega (arith, w.0), c)

plain_is : (s : Syntax) (text : Text) (start stop : ℕ) → IsBuildable s → IsPlain s text start stop → segment_at s text start ≡ plain start stop
plain_is s text start stop built is =
    let le : start ≤ stop = let m = is.some in omega arith in
    let n = next_marker_is s text start stop le is.within is.no_marker
    (⊎_elim (λ f. inl f) (λ (m : (m : StartMarker) × IsMarkerAt s text stop m). inr (ap is_some (marker_is s text stop m.0 built m.1))) is.maximal) in
    plain_at s text start (no_marker_is s text start (is.no_marker start (omega arith) is.some)) ∙ ap (plain start) n

marked_is : (s : Syntax) (text : Text) (start : ℕ) (m : StartMarker) → IsBuildable s → IsMarkerAt s text start m → segment_at s text start ≡ segment_of s text start (Some m)
marked_is s text start m built is = marked s text start m (marker_is s text start m built is)

comment_is : (s : Syntax) (text : Text) (start stop : ℕ) → IsBuildable s → IsComment s text start stop → segment_at s text start ≡ comment start stop
comment_is s text start stop built is =
    let body : ℕ = body_of s text markers.Comment start in
    let d : Text = end_of s markers.Comment in
    let some = (built.delimiters markers.Comment tt).1 in
    let w = body_within s text markers.Comment start is.marker in
    let l = stands_within d text is.end some is.delimiter.there in
    marked_is s text start markers.Comment built is.marker
    ∙ ap (comment_to s text start body) (delimiter_is d text body is.end some w.1 is.delimiter)
    ∙ ap (λ b. cond b (comment start (is.end + length d + tail_len s markers.Comment (tail_control text body is.end) (drop (is.end + length d) text))) (unclosed_comment start)) (lt-ltb is.end (length text) (omega (arith, l, some)))
    ∙ ap (comment start) (sym is.tail)

unclosed_comment_is : (s : Syntax) (text : Text) (start : ℕ) → IsBuildable s → IsUnclosedComment s text start → segment_at s text start ≡ unclosed_comment start
unclosed_comment_is s text start built is =
    let body : ℕ = body_of s text markers.Comment start in
    let d : Text = end_of s markers.Comment in
    let len : ℕ = length text in
    let w = body_within s text markers.Comment start is.marker in
    marked_is s text start markers.Comment built is.marker
    ∙ ap (comment_to s text start body) (no_delimiter_is d text body w.1 is.none)
    ∙ ap (λ b. cond b (comment start (len + length d + tail_len s markers.Comment (tail_control text body len) (drop (len + length d) text))) (unclosed_comment start)) (le-ltb len len (omega arith))

line_comment_is : (s : Syntax) (text : Text) (start stop : ℕ) → IsBuildable s → IsLineComment s text start stop → segment_at s text start ≡ line_comment start stop
line_comment_is s text start stop built is =
    marked_is s text start markers.LineComment built is.marker
    ∙ ap (λ p. line_comment start (p + line_end_len (drop p text))) (line_end_is text (body_of s text markers.LineComment start) is.end is.onwards is.within is.one_line is.line_end)
    ∙ ap (line_comment start) (sym is.stop_is)

-- over the block starts that begin no endraw tag
passes_to : (s : Syntax) (text : Text) (from : ℕ) (ps : List ℕ) (to : ℕ) → IsBuildable s → from ≤ length text → PassesOver s text from ps to → (next_endraw s text from ≡ next_endraw s text to) × (to ≤ length text)
passes_to s text from [] to built h is = (ap (next_endraw s text) is, omega (arith, h, is))
passes_to s text from (p ∷ ps) to built h is =
    let some = (built.delimiters markers.Block tt).0 in
    let l = stands_within s.block_start text p some is.0.there in
    let rest = passes_to s text (p + length s.block_start) ps to built l is.2 in
    (endraw-found s text from p None some h (delimiter_is s.block_start text from p some h is.0) (omega (arith, l, some)) is.1 ∙ rest.0, rest.1)

raw_begin_within : (s : Syntax) (text : Text) (at : ℕ) (r : Control × ℕ) → IsBuildable s → raw_at s text at ≡ Some r → r.1 ≤ length text
raw_begin_within s text at r built e = word_within s text (codes "raw") at r built e

raw_is : (s : Syntax) (text : Text) (start : ℕ) (block : RawBlock) → IsBuildable s → IsRaw s text start block → segment_at s text start ≡ raw start block
raw_is s text start block built is =
    let body : ℕ = body_of s text markers.Block start in
    let some = (built.delimiters markers.Block tt).0 in
    let b = raw_begin_within s text body (is.control, is.begin) built is.raw_tag in
    let over = passes_to s text is.begin is.passed is.last built b is.passes in
    let l = stands_within s.block_start text is.close some is.delimiter.there in
    marked_is s text start markers.Block built is.marker
    ∙ ap (block_to s text start body) is.raw_tag
    ∙ ap (raw_to s text start is.begin is.control)
    (over.0 ∙ endraw-found s text is.last is.close (Some is.tag_end) some over.1 (delimiter_is s.block_start text is.last is.close some over.1 is.delimiter) (omega (arith, l, some)) is.endraw_tag)
    ∙ ap (raw start) (sym is.block_is)

unclosed_raw_is : (s : Syntax) (text : Text) (start : ℕ) → IsBuildable s → IsUnclosedRaw s text start → segment_at s text start ≡ unclosed_raw start
unclosed_raw_is s text start built is =
    let body : ℕ = body_of s text markers.Block start in
    let b = raw_begin_within s text body (is.control, is.begin) built is.raw_tag in
    let over = passes_to s text is.begin is.passed is.last built b is.passes in
    marked_is s text start markers.Block built is.marker
    ∙ ap (block_to s text start body) is.raw_tag
    ∙ ap (raw_to s text start is.begin is.control)
    (over.0 ∙ endraw-none s text is.last (length text) over.1 (no_delimiter_is s.block_start text is.last over.1 is.none) refl)

tag_marked : (s : Syntax) (text : Text) (k : Tag) (start body : ℕ) → segment_at s text start ≡ segment_of s text start (Some (marker_of k)) → body ≡ body_of s text (marker_of k) start → IsNoRaw s text k body → segment_at s text start ≡ tag_at s text k start body
tag_marked s text Variable start body e b n = e ∙ ap (tag_at s text Variable start) (sym b)
tag_marked s text Block start body e b n = e ∙ ap (λ n. block_to s text start n (raw_at s text n)) (sym b) ∙ ap (block_to s text start body) n
tag_marked s text Line start body e b n = e ∙ ap (tag_at s text Line start) (sym b)

tag_is : (s : Syntax) (text : Text) (k : Tag) (start body : ℕ) (inner : Inner) → IsBuildable s → IsTag s text k start body inner → segment_at s text start ≡ tag k start body inner
tag_is s text k start body inner built is =
    tag_marked s text k start body (marked_is s text start (marker_of k) built is.marker) is.body_is is.no_raw
    ∙ ap (tag k start body) (inner_is s text k 0 0 body inner.lexemes inner.close built is.inside)

segment_is : (s : Syntax) (text : Text) (at : ℕ) (g : Segment) → IsBuildable s → IsSegment s text at g → segment_at s text at ≡ g
segment_is s text at (plain start stop) built is = subst (λ a. segment_at s text a ≡ plain start stop) is.0 (plain_is s text start stop built is.1)
segment_is s text at (comment start stop) built is = subst (λ a. segment_at s text a ≡ comment start stop) is.0 (comment_is s text start stop built is.1)
segment_is s text at (line_comment start stop) built is = subst (λ a. segment_at s text a ≡ line_comment start stop) is.0 (line_comment_is s text start stop built is.1)
segment_is s text at (raw start block) built is = subst (λ a. segment_at s text a ≡ raw start block) is.0 (raw_is s text start block built is.1)
segment_is s text at (tag k start body inner) built is = subst (λ a. segment_at s text a ≡ tag k start body inner) is.0 (tag_is s text k start body inner built is.1)
segment_is s text at (unclosed_comment start) built is = subst (λ a. segment_at s text a ≡ unclosed_comment start) is.0 (unclosed_comment_is s text start built is.1)
segment_is s text at (unclosed_raw start) built is = subst (λ a. segment_at s text a ≡ unclosed_raw start) is.0 (unclosed_raw_is s text start built is.1)

-- where a raw block ends, after where it begins
pub passes_on : (s : Syntax) (text : Text) (from : ℕ) (ps : List ℕ) (to : ℕ) → PassesOver s text from ps to → from ≤ to
passes_on s text from [] to is = omega (arith, is)
passes_on s text from (p ∷ ps) to is = let m = passes_on s text (p + length s.block_start) ps to is.2 in let o = is.0.onwards in omega (arith, m, o)

raw_moves : (s : Syntax) (text : Text) (start : ℕ) (block : RawBlock) → IsBuildable s → IsRaw s text start block → start < block.after
raw_moves s text start block built is =
    let w = body_within s text markers.Block start is.marker in
    let a = word_on s text (codes "raw") (body_of s text markers.Block start) (is.control, is.begin) is.raw_tag in
    let b = passes_on s text is.begin is.passed is.last is.passes in
    let o = is.delimiter.onwards in
    let d = word_on s text (codes "endraw") _ is.tag_end is.endraw_tag in
    let e = ap (λ (x : RawBlock). x.after) is.block_is in
    omega (arith, w.0, a, b, o, d, e)

pub segment_moves : (s : Syntax) (text : Text) (at : ℕ) (g : Segment) → IsBuildable s → at < length text → IsSegment s text at g → at < stop_of (length text) g
segment_moves s text at (plain start stop) built h is = let e = is.0 in let m = is.1.some in omega arith
segment_moves s text at (comment start stop) built h is =
    let e = is.0 in let w = body_within s text markers.Comment start is.1.marker in let o = is.1.delimiter.onwards in let t = is.1.tail in omega (arith, e, w.0, o, t)
segment_moves s text at (line_comment start stop) built h is =
    let e = is.0 in let w = body_within s text markers.LineComment start is.1.marker in let o = is.1.onwards in let t = is.1.stop_is in omega (arith, e, w.0, o, t)
segment_moves s text at (raw start block) built h is = let e = is.0 in let m = raw_moves s text start block built is.1 in omega (arith, e, m)
segment_moves s text at (unclosed_comment start) built h is = h
segment_moves s text at (unclosed_raw start) built h is = h
segment_moves s text at (tag k start body inner) built h is =
    let e = is.0 in
    let b = body_within s text (marker_of k) start is.1.marker in
    let f = is.1.body_is in
    let i = inner_is s text k 0 0 body inner.lexemes inner.close built is.1.inside in
    let g = ap (λ (i : Inner). close_stop (length text) i.close) i in
    let m = inner_stop s text k 0 0 body (omega (arith, b.1, f)) in
    omega (arith, e, b.0, f, g, m)

pub cut_is : (s : Syntax) (text : Text) (at : ℕ) (gs : List Segment) → IsBuildable s → IsCut s text at gs → gs ≡ cut_at s text at
cut_is s text at [] built is = sym (cut_over s text at (omega (arith, is)))
cut_is s text at (g ∷ gs) built is =
    ap (λ xs. g ∷ xs) (cut_is s text (stop_of (length text) g) gs built is.2)
    ∙ sym (cut_step s text at g is.0 (segment_is s text at g built is.1) (segment_moves s text at g built is.0 is.1))

-- A TEXT HAS ONE CUT
pub one_cut : (s : Syntax) (text : Text) (gs hs : List Segment) → IsBuildable s → IsCut s text 0 gs → IsCut s text 0 hs → gs ≡ hs
one_cut s text gs hs built g h = cut_is s text 0 gs built g ∙ sym (cut_is s text 0 hs built h)

-- ---- expressions

pub one_expression : (s : Syntax) (text : Text) (i j : Inner) → IsBuildable s → IsExpression s text i → IsExpression s text j → i ≡ j
one_expression s text i j built h g = sym (inner_is s text Variable 0 0 0 i.lexemes i.close built h) ∙ inner_is s text Variable 0 0 0 j.lexemes j.close built g
