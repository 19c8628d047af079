-- The computed cut is a cut of the text.
use Rattle.std.proofs.Common.{◌≡◌, ℕ, zero, suc, ◌+◌, ◌<◌, ◌≤◌, Bool, true, false, cond, List, [], ◌∷◌, ◌==◌, length, drop, refl, ap, sym, ◌∙◌, arith, subst, Option, Some, None, Result, Ok, Err, ⊎_elim, inl, inr, length-drop}
use Rattle.std.specs.Prelude.{is_some, nat_lt, ◌||◌, codes}
use Rattle.std.proofs.lemmas.Bool.{cases_lt, lt-ltb, le-ltb, eqb-true, ltb-true, eq-eqb}
use Rattle.minijinja_syntax.specs.Texts.{Text}
use Rattle.minijinja_syntax.specs.Syntax.{Syntax, end_of, IsBuildable}
use Rattle.minijinja_syntax.specs.Markers.{marker_at, next_marker, IsMarkerAt}
use Rattle.minijinja_syntax.specs.declared.syntax.StartMarker.{StartMarker}
use Rattle.minijinja_syntax.specs.declared.syntax.StartMarker.TheVariants as markers
use Rattle.minijinja_syntax.proofs.Markers.{AtMarker, marker_holds, some_from}
use Rattle.minijinja_syntax.proofs.Walking.{next_marker-on, next_marker-within, next_marker-stops}
use Rattle.minijinja_syntax.proofs.Delimiters.{stands_within}
use Rattle.minijinja_syntax.proofs.Finding.{none_between}
use Rattle.minijinja_lexer.specs.TokenAt.{token_at}
use Rattle.minijinja_lexer.specs.Brackets.{opened_by, shut_by}
use Rattle.minijinja_lexer.specs.Whitespace.{body_of, past_space, past_line_space, line_end_len, tail_len}
use Rattle.minijinja_lexer.specs.Raw.{raw_at, endraw_at, next_endraw, or_later}
use Rattle.minijinja_lexer.specs.Cut.{Inner, Segment, plain, comment, line_comment, raw, tag, unclosed_comment, unclosed_raw, marker_of, stop_of, close_stop, close_over, close_at, end_at, delimited_close, line_close, scanned, token_part, tag_part_from, tag_part_at, inner_at, segment_at, segment_of, tag_at, comment_at, line_comment_at, raw_to, block_to, next_delimiter, next_line_end, tail_control, cut_at}
use Rattle.minijinja_lexer.specs.Relation.{NoEnd, IsLexeme, IsDelimiterClose, IsLineClose, IsClosedAt, IsOver, IsClose, IsInner, IsPlain, IsComment, IsUnclosedComment, PassesOver, IsRaw, IsNoRaw, IsSegment, IsCut, IsAbsent, IsFirst}
use Rattle.minijinja_lexer.specs.Controls.{Control}
use Rattle.minijinja_lexer.specs.RawBlocks.{RawBlock}
use Rattle.minijinja_lexer.specs.Sorts.{Sort}
use Rattle.minijinja_lexer.specs.Faults.{LexFault}
use Rattle.minijinja_lexer.specs.Tags.{Tag, Variable, Block, Line}
use Rattle.minijinja_lexer.specs.TagParts.{Lexeme, Close, Closed, Broken, Refused, TagPart, Token, End}
use Rattle.minijinja_lexer.proofs.Tokens.{token_is}
use Rattle.minijinja_lexer.proofs.Within.{line_end_within, tail_within, word_within, past_line_space_within, delimited_within}
use Rattle.minijinja_lexer.proofs.Searching.{delimiter-before, delimiter-within, delimiter-stops, line_end-before, line_end-within, line_end-stops, endraw-found, endraw-none, endraw-over}
use Rattle.minijinja_lexer.proofs.OneCut.{segment_moves, body_within, past_over}
use Rattle.minijinja_lexer.proofs.Steps.{inner_at-token, inner_at-end, inner_over, cut_step, cut_over}

-- ---- parts of tags

TagPartIs : Syntax → Text → Tag → (opened shut at : ℕ) → TagPart → Type 0
TagPartIs s text k o c at (Token l) = IsLexeme s text k o c at l
TagPartIs s text k o c at (End close) = IsClose s text k o c at close

over_closes : (s : Syntax) (text : Text) (k : Tag) (o c at : ℕ) → length text ≤ past_space text at → (at < length text → NoEnd s text k o c at) → IsClose s text k o c at (close_over (length text) (past_space text at) k)
over_closes s text Variable o c at h n = record { kind = λ e. cc; none_left = h }
over_closes s text Block o c at h n = record { kind = λ e. cc; none_left = h }
over_closes s text Line o c at h n = inr (record { kind = refl; none_left = h; start_is = refl; stop_is = refl; after_is = refl }, n)

scanned_holds : (s : Syntax) (text : Text) (k : Tag) (o c at : ℕ) (r : Result (Sort × ℕ) (LexFault × ℕ)) → at < length text → past_space text at < length text → NoEnd s text k o c at → token_at text (past_space text at) ≡ r → TagPartIs s text k o c at (scanned (past_space text at) r)
unfolding TagPartIs
scanned_holds s text k o c at (Ok r) h w n t = record { space = refl; within = w; no_end = n; some = (token_is text (past_space text at) r.1 r.0 t).some; token = t }
scanned_holds s text k o c at (Err r) h w n t = (h, record { space = refl; within = w; no_end = n; token = t })

token_holds : (s : Syntax) (text : Text) (k : Tag) (o c at : ℕ) → at < length text → NoEnd s text k o c at → TagPartIs s text k o c at (token_part text k (past_space text at))
unfolding TagPartIs
token_holds s text k o c at h n =
    let p : ℕ = past_space text at in
    ⊎_elim
    (λ (l : p < length text).
    subst (TagPartIs s text k o c at) (ap (λ b. cond b (scanned p (token_at text p)) (End (close_over (length text) p k))) (sym (lt-ltb p (length text) l)))
    (scanned_holds s text k o c at (token_at text p) h l n refl))
    (λ (l : length text ≤ p).
    subst (TagPartIs s text k o c at) (ap (λ b. cond b (scanned p (token_at text p)) (End (close_over (length text) p k))) (sym (le-ltb p (length text) l)))
    (over_closes s text k o c at l (λ _. n)))
    (cases_lt p (length text))

delimiter_holds : (s : Syntax) (text : Text) (m : StartMarker) (at p : ℕ) (e : Option (Control × ℕ)) (close : Close) → p ≡ past_space text at → end_at (end_of s m) text p ≡ e → delimited_close s text m p e ≡ Some close →
    (start : ℕ) × (stop : ℕ) × (after : ℕ) × (close ≡ Closed start stop after) × IsDelimiterClose s text m at start stop after
delimiter_holds s text m at p None close q h e = cc
delimiter_holds s text m at p (Some r) close q h e =
    let after : ℕ = r.1 + tail_len s m r.0 (drop r.1 text) in
    let f : close ≡ Closed p r.1 after = cc in
    (p, r.1, after, f, record { space = q; control = r.0; end = h; tail = refl })

line_holds : (text : Text) (at : ℕ) (close : Close) → line_close text at ≡ Some close → (start : ℕ) × (stop : ℕ) × (after : ℕ) × (close ≡ Closed start stop after) × IsLineClose text at start stop after
line_holds text at close e =
    let p : ℕ = past_line_space text at in
    let q : ℕ = p + line_end_len (drop p text) in
    either (p == length text) (nat_lt p q) refl refl e
  where
    either : (t u : Bool) → (past_line_space text at == length text) ≡ t → nat_lt (past_line_space text at) (past_line_space text at + line_end_len (drop (past_line_space text at) text)) ≡ u
        → cond (t || u) (Some (Closed at (past_line_space text at + line_end_len (drop (past_line_space text at) text)) (past_line_space text at + line_end_len (drop (past_line_space text at) text)))) None ≡ Some close
        → (start : ℕ) × (stop : ℕ) × (after : ℕ) × (close ≡ Closed start stop after) × IsLineClose text at start stop after
    either true u f g e =
        let q : ℕ = past_line_space text at + line_end_len (drop (past_line_space text at) text) in
        let h : close ≡ Closed at q q = cc in
        (at, q, q, h, record { start_is = refl; stop_is = refl; after_is = refl; line_end = inl (eqb-true (past_line_space text at) (length text) f) })
    either false true f g e =
        let q : ℕ = past_line_space text at + line_end_len (drop (past_line_space text at) text) in
        let h : close ≡ Closed at q q = cc in
        (at, q, q, h, record { start_is = refl; stop_is = refl; after_is = refl; line_end = inr (ltb-true (past_line_space text at) q g) })
    either false false f g e = cc

close_holds : (s : Syntax) (text : Text) (k : Tag) (at : ℕ) (close : Close) → close_at s text k at ≡ Some close → (start : ℕ) × (stop : ℕ) × (after : ℕ) × (close ≡ Closed start stop after) × IsClosedAt s text k at start stop after
unfolding close_at
close_holds s text Variable at close e = delimiter_holds s text markers.Variable at (past_space text at) _ close refl refl e
close_holds s text Block at close e = delimiter_holds s text markers.Block at (past_space text at) _ close refl refl e
close_holds s text Line at close e = line_holds text at close e

balanced_holds : (s : Syntax) (text : Text) (k : Tag) (o c at : ℕ) (x : Option Close) → at < length text → o ≡ c → close_at s text k at ≡ x → TagPartIs s text k o c at (tag_part_from text k at x)
unfolding TagPartIs
balanced_holds s text k o c at None h e f = token_holds s text k o c at h (λ _. f)
balanced_holds s text k o c at (Some close) h e f =
    let r = close_holds s text k at close f in
    subst (IsClose s text k o c at) (sym r.3) (inl (h, e, r.4))

tag_part_holds : (s : Syntax) (text : Text) (k : Tag) (o c at : ℕ) → at < length text → TagPartIs s text k o c at (tag_part_at s text k o c at)
unfolding tag_part_at
tag_part_holds s text k o c at h = either (o == c) refl
  where
    either : (t : Bool) → (o == c) ≡ t → TagPartIs s text k o c at (tag_part_from text k at (cond t (close_at s text k at) None))
    either true e = balanced_holds s text k o c at (close_at s text k at) h (eqb-true o c e) refl
    either false e = token_holds s text k o c at h (λ f. let g : true ≡ false = sym (eq-eqb o c f) ∙ e in cc)

InnerIs : Syntax → Text → Tag → (opened shut at : ℕ) → Inner → Type 0
InnerIs s text k o c at i = IsInner s text k o c at i.lexemes i.close

inner_by : (s : Syntax) (text : Text) (k : Tag) (o c at : ℕ) (t : TagPart) → at < length text → tag_part_at s text k o c at ≡ t → TagPartIs s text k o c at t
    → ((l : Lexeme) → at < l.stop → InnerIs s text k (o + opened_by l.sort) (c + shut_by l.sort) l.stop (inner_at s text k (o + opened_by l.sort) (c + shut_by l.sort) l.stop)) → InnerIs s text k o c at (inner_at s text k o c at)
unfolding TagPartIs InnerIs
inner_by s text k o c at (Token l) h e is next =
    let m : at < l.stop = let a = is.space in let b = is.some in omega arith in
    subst (InnerIs s text k o c at) (sym (inner_at-token s text k o c at l h m e)) (is, next l m)
inner_by s text k o c at (End close) h e is next = subst (InnerIs s text k o c at) (sym (inner_at-end s text k o c at close h e)) is

over_holds : (s : Syntax) (text : Text) (k : Tag) (o c at : ℕ) → length text ≤ at → InnerIs s text k o c at (inner_at s text k o c at)
unfolding InnerIs
over_holds s text k o c at h = subst (InnerIs s text k o c at) (sym (inner_over s text k o c at h ∙ ap (λ n. let i : Inner = record { lexemes = []; close = close_over (length text) n k } in i) (sym (past_over text at h)))) (over_closes s text k o c at (let e = past_over text at h in omega (arith, h, e)) (λ l. absurd (omega (arith, l, h))))

inner_from_holds : (n : ℕ) (s : Syntax) (text : Text) (k : Tag) (o c at : ℕ) → length text ≤ at + n → InnerIs s text k o c at (inner_at s text k o c at)
inner_from_holds zero s text k o c at le = over_holds s text k o c at (omega arith)
inner_from_holds (suc n) s text k o c at le = ⊎_elim
    (λ (h : at < length text). inner_by s text k o c at _ h refl (tag_part_holds s text k o c at h) (λ l m. inner_from_holds n s text k (o + opened_by l.sort) (c + shut_by l.sort) l.stop (omega (arith, le, m))))
    (λ (h : length text ≤ at). over_holds s text k o c at h)
    (cases_lt at (length text))

pub inner_holds : (s : Syntax) (text : Text) (k : Tag) (o c at : ℕ) → IsInner s text k o c at (inner_at s text k o c at).lexemes (inner_at s text k o c at).close
unfolding InnerIs
inner_holds s text k o c at = inner_from_holds (length text) s text k o c at (omega arith)

-- ---- where segments end

close_within : (s : Syntax) (text : Text) (k : Tag) (at start stop after : ℕ) → IsBuildable s → at ≤ length text → IsClosedAt s text k at start stop after → after ≤ length text
close_within s text Variable at start stop after built h is = delimited_within s text markers.Variable at start stop after (built.delimiters markers.Variable tt).1 is
close_within s text Block at start stop after built h is = delimited_within s text markers.Block at start stop after (built.delimiters markers.Block tt).1 is
close_within s text Line at start stop after built h is =
    let w = past_line_space_within text at h in
    let l = line_end_within (drop (past_line_space text at) text) in
    let d = length-drop (past_line_space text at) text in
    let e = is.stop_is in
    let f = is.after_is in
    omega (arith, w, l, d, e, f)

inner_within : (s : Syntax) (text : Text) (k : Tag) (o c at : ℕ) (ls : List Lexeme) (close : Close) → IsBuildable s → IsInner s text k o c at ls close → close_stop (length text) close ≤ length text
inner_within s text k o c at [] (Closed start stop after) built is = ⊎_elim
    (λ (x : (at < length text) × (o ≡ c) × IsClosedAt s text k at start stop after). close_within s text k at start stop after built (let h = x.0 in omega (arith, h)) x.2)
    (λ (x : IsOver text k at start stop after × (at < length text → NoEnd s text k o c at)). let e = x.0.after_is in omega (arith, e))
    is
inner_within s text k o c at [] Broken built is = omega arith
inner_within s text k o c at [] (Refused f start place) built is = omega arith
inner_within s text k o c at (l ∷ ls) close built is = inner_within s text k (o + opened_by l.sort) (c + shut_by l.sort) l.stop ls close built is.1

raw_within : (s : Syntax) (text : Text) (start : ℕ) (block : RawBlock) → IsBuildable s → IsRaw s text start block → block.after ≤ length text
raw_within s text start block built is =
    let w = word_within s text (codes "endraw") _ is.tag_end built is.endraw_tag in
    let t = tail_within s markers.Block is.tag_end.0 (drop is.tag_end.1 text) in
    let d = length-drop is.tag_end.1 text in
    let e = ap (λ (x : RawBlock). x.after) is.block_is in
    omega (arith, w, t, d, e)

segment_within : (s : Syntax) (text : Text) (at : ℕ) (g : Segment) → IsBuildable s → IsSegment s text at g → stop_of (length text) g ≤ length text
segment_within s text at (plain start stop) built is = is.1.within
segment_within s text at (comment start stop) built is =
    let behind : ℕ = is.1.end + length (end_of s markers.Comment) in
    let w = stands_within (end_of s markers.Comment) text is.1.end (built.delimiters markers.Comment tt).1 is.1.delimiter.there in
    let t = tail_within s markers.Comment (tail_control text (body_of s text markers.Comment start) is.1.end) (drop behind text) in
    let d = length-drop behind text in
    let e = is.1.tail in
    omega (arith, w, t, d, e)
segment_within s text at (line_comment start stop) built is =
    let w = is.1.within in
    let l = line_end_within (drop is.1.end text) in
    let d = length-drop is.1.end text in
    let e = is.1.stop_is in
    omega (arith, w, l, d, e)
segment_within s text at (raw start block) built is = raw_within s text start block built is.1
segment_within s text at (unclosed_comment start) built is = omega arith
segment_within s text at (unclosed_raw start) built is = omega arith
segment_within s text at (tag k start body inner) built is = inner_within s text k 0 0 body inner.lexemes inner.close built is.1.inside

-- ---- segments

plain_holds : (s : Syntax) (text : Text) (at : ℕ) → at < length text → marker_at s text at ≡ None → IsPlain s text at (next_marker s text at)
plain_holds s text at h e =
    let on = next_marker-on s text at h (ap is_some e) in
    let w = next_marker-within s text (at + 1) (omega (arith, h)) in
    record {
      some = omega (arith, on, w.0);
      within = omega (arith, on, w.1);
      no_marker = none_between s text at;
      maximal = ⊎_elim
          (λ q. inl q)
          (λ q. let p : ℕ = next_marker s text at in inr (some_from s text p (marker_at s text p) (marker_holds s text p) q))
          (next_marker-stops s text at (omega (arith, h)));
    }

-- a delimiter that is found is the first
first_holds : (d text : Text) (at : ℕ) → at ≤ length text → next_delimiter d text at < length text → IsFirst d text at (next_delimiter d text at)
first_holds d text at h l = record {
  onwards = (delimiter-within d text at h).0;
  there = ⊎_elim (λ e. absurd (omega (arith, e, l))) (λ t. t) (delimiter-stops d text at h);
  first = delimiter-before d text at;
}

comment_holds : (s : Syntax) (text : Text) (at : ℕ) → IsMarkerAt s text at markers.Comment → IsSegment s text at (comment_at s text at (body_of s text markers.Comment at))
comment_holds s text at m =
    let body : ℕ = body_of s text markers.Comment at in
    let d : Text = end_of s markers.Comment in
    let n : ℕ = next_delimiter d text body in
    let whole : ℕ = n + length d + tail_len s markers.Comment (tail_control text body n) (drop (n + length d) text) in
    let w = (body_within s text markers.Comment at m).1 in
    ⊎_elim
    (λ (l : n < length text).
    let is : IsComment s text at whole = record { marker = m; end = n; delimiter = first_holds d text body w l; tail = refl } in
    subst (λ b. IsSegment s text at (cond b (comment at whole) (unclosed_comment at))) (sym (lt-ltb n (length text) l)) (refl, is))
    (λ (l : length text ≤ n).
    let is : IsUnclosedComment s text at = record { marker = m; none = λ p h k. delimiter-before d text body p h (omega (arith, k, l)) } in
    subst (λ b. IsSegment s text at (cond b (comment at whole) (unclosed_comment at))) (sym (le-ltb n (length text) l)) (refl, is))
    (cases_lt n (length text))

line_comment_holds : (s : Syntax) (text : Text) (at : ℕ) → IsMarkerAt s text at markers.LineComment → IsSegment s text at (line_comment_at text at (body_of s text markers.LineComment at))
line_comment_holds s text at m =
    let body : ℕ = body_of s text markers.LineComment at in
    let b = (body_within s text markers.LineComment at m).1 in
    let w = line_end-within text body b in
    (refl, record { marker = m; end = next_line_end text body; onwards = w.0; within = w.1; one_line = line_end-before text body; line_end = line_end-stops text body b; stop_is = refl })

RawFound : Syntax → Text → ℕ → Option (ℕ × Control × ℕ) → Type 0
RawFound s text from None = (ps : List ℕ) × (last : ℕ) × PassesOver s text from ps last × IsAbsent s.block_start text last (length text)
RawFound s text from (Some r) = (ps : List ℕ) × (last : ℕ) × PassesOver s text from ps last × IsFirst s.block_start text last r.0 × (endraw_at s text (r.0 + length s.block_start) ≡ Some (r.1, r.2))

more_passed : (s : Syntax) (text : Text) (from p : ℕ) (x : Option (ℕ × Control × ℕ)) → IsFirst s.block_start text from p → endraw_at s text (p + length s.block_start) ≡ None → RawFound s text (p + length s.block_start) x → RawFound s text from x
unfolding RawFound
more_passed s text from p None f e r = (p ∷ r.0, r.1, (f, e, r.2), r.3)
more_passed s text from p (Some x) f e r = (p ∷ r.0, r.1, (f, e, r.2), r.3, r.4)

raw_here : (s : Syntax) (text : Text) (from p : ℕ) (y : Option (Control × ℕ)) → IsFirst s.block_start text from p → endraw_at s text (p + length s.block_start) ≡ y
    → RawFound s text (p + length s.block_start) (next_endraw s text (p + length s.block_start)) → RawFound s text from (or_later p y (next_endraw s text (p + length s.block_start)))
unfolding RawFound
raw_here s text from p None f e later = more_passed s text from p _ f e later
raw_here s text from p (Some y) f e later = ([], from, refl, f, e)

raw_search : (n : ℕ) (s : Syntax) (text : Text) (from : ℕ) → IsBuildable s → from ≤ length text → length text ≤ from + n → RawFound s text from (next_endraw s text from)
unfolding RawFound
raw_search zero s text from built h le = subst (RawFound s text from) (sym (endraw-over s text from (omega (arith, le)))) ([], from, refl, λ p l m. absurd (omega (arith, l, m, le)))
raw_search (suc n) s text from built h le =
    let p : ℕ = next_delimiter s.block_start text from in
    let d : ℕ = length s.block_start in
    let some = (built.delimiters markers.Block tt).0 in
    let w = delimiter-within s.block_start text from h in
    ⊎_elim
    (λ (l : p < length text).
    let f = first_holds s.block_start text from h l in
    let v = stands_within s.block_start text p some f.there in
    subst (RawFound s text from) (sym (endraw-found s text from p (endraw_at s text (p + d)) some h refl l refl))
    (raw_here s text from p (endraw_at s text (p + d)) f refl (raw_search n s text (p + d) built v (omega (arith, le, w.0, some)))))
    (λ (l : length text ≤ p).
    let e : p ≡ length text = omega (arith, l, w.1) in
    subst (RawFound s text from) (sym (endraw-none s text from p h refl e)) ([], from, refl, λ q k m. delimiter-before s.block_start text from q k (omega (arith, m, l))))
    (cases_lt p (length text))

raw_holds : (s : Syntax) (text : Text) (at : ℕ) (r : Control × ℕ) (x : Option (ℕ × Control × ℕ)) → IsMarkerAt s text at markers.Block → raw_at s text (body_of s text markers.Block at) ≡ Some r → RawFound s text r.1 x → IsSegment s text at (raw_to s text at r.1 r.0 x)
unfolding RawFound
raw_holds s text at r None m e f = (refl, record { marker = m; control = r.0; begin = r.1; raw_tag = e; passed = f.0; last = f.1; passes = f.2; none = f.3 })
raw_holds s text at r (Some x) m e f = (refl, record { marker = m; control = r.0; begin = r.1; raw_tag = e; passed = f.0; last = f.1; passes = f.2; close = x.0; delimiter = f.3; tag_end = (x.1, x.2); endraw_tag = f.4; block_is = refl })

block_holds : (s : Syntax) (text : Text) (at : ℕ) (x : Option (Control × ℕ)) → IsBuildable s → IsMarkerAt s text at markers.Block → raw_at s text (body_of s text markers.Block at) ≡ x → IsSegment s text at (block_to s text at (body_of s text markers.Block at) x)
block_holds s text at None built m e = let body : ℕ = body_of s text markers.Block at in (refl, record { marker = m; body_is = refl; no_raw = e; inside = inner_holds s text Block 0 0 body })
block_holds s text at (Some r) built m e =
    let w = word_within s text (codes "raw") (body_of s text markers.Block at) r built e in
    raw_holds s text at r (next_endraw s text r.1) m e (raw_search (length text) s text r.1 built w (omega arith))

tag_holds : (s : Syntax) (text : Text) (at : ℕ) (k : Tag) → IsMarkerAt s text at (marker_of k) → IsNoRaw s text k (body_of s text (marker_of k) at) → IsSegment s text at (tag_at s text k at (body_of s text (marker_of k) at))
tag_holds s text at k m n = let body : ℕ = body_of s text (marker_of k) at in (refl, record { marker = m; body_is = refl; no_raw = n; inside = inner_holds s text k 0 0 body })

segment_by : (s : Syntax) (text : Text) (at : ℕ) (m : Option StartMarker) → IsBuildable s → at < length text → marker_at s text at ≡ m → AtMarker s text at m → IsSegment s text at (segment_of s text at m)
unfolding AtMarker
segment_by s text at None built h e a = (refl, plain_holds s text at h e)
segment_by s text at (Some markers.Variable) built h e a = tag_holds s text at Variable a tt
segment_by s text at (Some markers.Block) built h e a = block_holds s text at _ built a refl
segment_by s text at (Some markers.Comment) built h e a = comment_holds s text at a
segment_by s text at (Some markers.LineStatement) built h e a = tag_holds s text at Line a tt
segment_by s text at (Some markers.LineComment) built h e a = line_comment_holds s text at a

segment_holds : (s : Syntax) (text : Text) (at : ℕ) → IsBuildable s → at < length text → IsSegment s text at (segment_at s text at)
unfolding segment_at
segment_holds s text at built h = segment_by s text at (marker_at s text at) built h refl (marker_holds s text at)

pub cut_holds : (n : ℕ) (s : Syntax) (text : Text) (at : ℕ) → IsBuildable s → length text ≤ at + n → at ≤ length text → IsCut s text at (cut_at s text at)
cut_holds zero s text at built le w = subst (IsCut s text at) (sym (cut_over s text at (omega arith))) (omega arith)
cut_holds (suc n) s text at built le w = ⊎_elim
    (λ (h : at < length text).
    let g = segment_at s text at in
    let is = segment_holds s text at built h in
    let m = segment_moves s text at g built h is in
    subst (IsCut s text at) (sym (cut_step s text at g h refl m)) (h, is, cut_holds n s text (stop_of (length text) g) built (omega (arith, le, m)) (segment_within s text at g built is)))
    (λ (h : length text ≤ at). subst (IsCut s text at) (sym (cut_over s text at h)) (omega (arith, h, w)))
    (cases_lt at (length text))

-- A TEXT HAS A CUT, and it is the one of the function
pub some_cut : (s : Syntax) (text : Text) → IsBuildable s → IsCut s text 0 (cut_at s text 0)
some_cut s text built = cut_holds (length text) s text 0 built (omega arith) (omega arith)
