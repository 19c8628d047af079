-- Spans are in order.
use Rattle.std.proofs.Common.{◌≡◌, ℕ, ◌+◌, ◌-◌, ◌<◌, ◌≤◌, Bool, true, false, cond, List, [], ◌∷◌, ◌++◌, length, take, drop, refl, ap, sym, arith, subst, map, length-drop, ⊎_elim, Option, Some, None, ◌==◌}
use Rattle.std.specs.Prelude.{codes}
use Rattle.std.specs.List.{flat_map}
use Rattle.std.proofs.lemmas.List.{length-take-le}
use Rattle.minijinja_syntax.specs.Texts.{Text}
use Rattle.minijinja_syntax.specs.Syntax.{Syntax, start_of, end_of, IsBuildable}
use Rattle.minijinja_syntax.specs.Positions.{slice, span_at}
use Rattle.minijinja_syntax.specs.Tokens.{template_data}
use Rattle.minijinja_syntax.specs.Markers.{marker_at}
use Rattle.minijinja_syntax.specs.declared.syntax.StartMarker.{StartMarker}
use Rattle.minijinja_syntax.specs.declared.syntax.StartMarker.TheVariants as markers
use Rattle.minijinja_syntax.specs.Streams.{SpannedTok}
use Rattle.minijinja_lexer.specs.Brackets.{opened_by, shut_by}
use Rattle.minijinja_lexer.specs.Whitespace.{control_behind, kept_stop, kept_before, kept_len, is_line_cut, line_kept_len, body_of}
use Rattle.minijinja_lexer.specs.Cut.{Segment, plain, comment, line_comment, raw, tag, unclosed_comment, unclosed_raw, marker_of, stop_of, close_stop, cut_at, inner_at}
use Rattle.minijinja_lexer.specs.TextTokens.{text_of, lexeme_token, close_tokens, close_stream, segment_tokens, data_tokens, stream_at, stream_in, behind_expression, tokens_of_template, tokens_of_expression, tokens_of_expression_at}
use Rattle.minijinja_lexer.specs.Relation.{NoEnd, IsDelimiterClose, IsClosedAt, IsOver, IsClose, IsInner, IsRaw, IsSegment, IsCut}
use Rattle.minijinja_lexer.specs.Slices.{AreInOrder}
use Rattle.minijinja_lexer.specs.Controls.{Control, Absent, Remove, Preserve}
use Rattle.minijinja_lexer.specs.RawBlocks.{RawBlock}
use Rattle.minijinja_lexer.specs.Tags.{Tag, Variable, Block, Line}
use Rattle.minijinja_lexer.specs.TagParts.{Lexeme, Close, Closed, Broken, Refused}
use Rattle.minijinja_lexer.proofs.Stops.{end_forward}
use Rattle.minijinja_lexer.proofs.Within.{word_on}
use Rattle.minijinja_lexer.proofs.OneCut.{body_within, passes_on}
use Rattle.minijinja_lexer.proofs.SomeCut.{inner_holds, some_cut}
use Rattle.minijinja_lexer.proofs.Kept.{line_kept_within}
use Rattle.minijinja_lexer.proofs.Slices.{none_behind}

-- ---- kept data

kept_within : (s : Syntax) (m : StartMarker) (control : Control) (before text : Text) → kept_len s m control before text ≤ length text
unfolding kept_len
kept_within s m Remove before text = omega arith
kept_within s m Preserve before text = omega arith
kept_within s m Absent before text = either (is_line_cut s m before)
  where
    either : (t : Bool) → cond t (line_kept_len text) (length text) ≤ length text
    either true = line_kept_within text
    either false = omega arith

pub length-slice : (text : Text) (start stop : ℕ) → start ≤ stop → stop ≤ length text → length (slice text start stop) ≡ stop - start
length-slice text start stop h w = let d = length-drop start text in length-take-le (stop - start) (drop start text) (omega (arith, d, h, w))

kept_places : (s : Syntax) (text : Text) (start stop : ℕ) → start ≤ stop → stop ≤ length text → (start ≤ kept_stop s text start stop) × (kept_stop s text start stop ≤ stop)
unfolding kept_stop
kept_places s text start stop h w = by_marker (marker_at s text stop)
  where
    by_marker : (m : Option StartMarker) → (start ≤ kept_before s text start stop m) × (kept_before s text start stop m ≤ stop)
    by_marker None = (h, omega arith)
    by_marker (Some m) =
        let k = kept_within s m (control_behind text (stop + length (start_of s m)) m) (take stop text) (slice text start stop) in
        let l = length-slice text start stop h w in
        (omega arith, omega (arith, k, l, h))

-- ---- tags

-- what comes after the end of a tag is in order from there, and after a tag with no end comes
-- nothing
Behind : Close → List SpannedTok → Type 0
Behind (Closed start stop after) later = AreInOrder stop later
Behind Broken later = later ≡ []
Behind (Refused f start place) later = later ≡ []

none_in_order : (place : ℕ) (later : List SpannedTok) → later ≡ [] → AreInOrder place later
none_in_order place later e = subst (AreInOrder place) (sym e) tt

earlier : (from to : ℕ) (ts : List SpannedTok) → from ≤ to → AreInOrder to ts → AreInOrder from ts
earlier from to [] h is = tt
earlier from to (t ∷ ts) h is = let a = is.0 in (omega (arith, h, a), is.1, is.2)

record Ordered (at start stop after : ℕ) : Type 0 where
  pub onwards : at ≤ start
  pub ordered : start ≤ stop

delimiter_ordered : (s : Syntax) (text : Text) (m : StartMarker) (at start stop after : ℕ) → IsDelimiterClose s text m at start stop after → Ordered at start stop after
delimiter_ordered s text m at start stop after is =
    let p = is.space in
    record { onwards = omega (arith, p); ordered = end_forward (end_of s m) text start is.control stop is.end }

closed_ordered : (s : Syntax) (text : Text) (k : Tag) (at start stop after : ℕ) → IsClosedAt s text k at start stop after → Ordered at start stop after
closed_ordered s text Variable at start stop after is = delimiter_ordered s text markers.Variable at start stop after is
closed_ordered s text Block at start stop after is = delimiter_ordered s text markers.Block at start stop after is
closed_ordered s text Line at start stop after is = let a = is.start_is in let b = is.stop_is in record { onwards = omega (arith, a); ordered = omega (arith, a, b) }

any_ordered : (s : Syntax) (text : Text) (k : Tag) (o c at start stop after : ℕ) → IsClose s text k o c at (Closed start stop after) → Ordered at start stop after
any_ordered s text k o c at start stop after is = ⊎_elim
    (λ (x : (at < length text) × (o ≡ c) × IsClosedAt s text k at start stop after). closed_ordered s text k at start stop after x.2)
    (λ (x : IsOver text k at start stop after × (at < length text → NoEnd s text k o c at)). let a = x.0.start_is in let b = x.0.stop_is in record { onwards = omega (arith, a); ordered = omega (arith, b) })
    is

close_in_order : (s : Syntax) (text : Text) (k : Tag) (o c at : ℕ) (close : Close) (later : List SpannedTok) → IsClose s text k o c at close → Behind close later → AreInOrder at (close_tokens text k close ++ later)
unfolding Behind
close_in_order s text k o c at (Closed start stop after) later is b = let r = any_ordered s text k o c at start stop after is in (r.onwards, r.ordered, b)
close_in_order s text k o c at Broken later is b = none_in_order at later b
close_in_order s text k o c at (Refused f start place) later is b = none_in_order at later b

inner_in_order : (s : Syntax) (text : Text) (k : Tag) (o c at : ℕ) (ls : List Lexeme) (close : Close) (later : List SpannedTok) → IsInner s text k o c at ls close → Behind close later → AreInOrder at (map (lexeme_token text) ls ++ close_tokens text k close ++ later)
inner_in_order s text k o c at [] close later is b = close_in_order s text k o c at close later is b
inner_in_order s text k o c at (l ∷ ls) close later is b =
    let p = is.0.space in
    let m = is.0.some in
    (omega (arith, p), omega (arith, m), inner_in_order s text k (o + opened_by l.sort) (c + shut_by l.sort) l.stop ls close later is.1 b)

-- ---- segments

-- after the end of the text comes no segment
cut_past : (s : Syntax) (text : Text) (gs : List Segment) → IsCut s text (length text) gs → flat_map (segment_tokens s text) gs ≡ []
cut_past s text [] is = refl
cut_past s text (g ∷ gs) is = let h = is.0 in absurd (omega (arith, h))

InOrderFrom : Syntax → Text → List Segment → Type 0
InOrderFrom s text gs = (at : ℕ) → IsCut s text at gs → AreInOrder at (flat_map (segment_tokens s text) gs)

delimiter_on : (s : Syntax) (text : Text) (m : StartMarker) (at start stop after : ℕ) → IsDelimiterClose s text m at start stop after → stop ≤ after
delimiter_on s text m at start stop after is = let t = is.tail in omega (arith, t)

closed_on : (s : Syntax) (text : Text) (k : Tag) (at start stop after : ℕ) → IsClosedAt s text k at start stop after → stop ≤ after
closed_on s text Variable at start stop after is = delimiter_on s text markers.Variable at start stop after is
closed_on s text Block at start stop after is = delimiter_on s text markers.Block at start stop after is
closed_on s text Line at start stop after is = let a = is.after_is in omega (arith, a)

-- the tokens after a tag's end
close_behind : (s : Syntax) (text : Text) (k : Tag) (o c at : ℕ) (close : Close) (gs : List Segment) → IsClose s text k o c at close → IsCut s text (close_stop (length text) close) gs → InOrderFrom s text gs → Behind close (flat_map (segment_tokens s text) gs)
unfolding Behind InOrderFrom
close_behind s text k o c at (Closed start stop after) gs is cut h = ⊎_elim
    (λ (x : (at < length text) × (o ≡ c) × IsClosedAt s text k at start stop after). earlier stop after _ (closed_on s text k at start stop after x.2) (h after cut))
    (λ (x : IsOver text k at start stop after × (at < length text → NoEnd s text k o c at)). none_in_order stop _ (cut_past s text gs (subst (λ n. IsCut s text n gs) x.0.after_is cut)))
    is
close_behind s text k o c at Broken gs is cut h = cut_past s text gs cut
close_behind s text k o c at (Refused f start place) gs is cut h = cut_past s text gs cut

inner_behind : (s : Syntax) (text : Text) (k : Tag) (o c at : ℕ) (ls : List Lexeme) (close : Close) (gs : List Segment) → IsInner s text k o c at ls close → IsCut s text (close_stop (length text) close) gs → InOrderFrom s text gs → Behind close (flat_map (segment_tokens s text) gs)
inner_behind s text k o c at [] close gs is cut h = close_behind s text k o c at close gs is cut h
inner_behind s text k o c at (l ∷ ls) close gs is cut h = inner_behind s text k (o + opened_by l.sort) (c + shut_by l.sort) l.stop ls close gs is.1 cut h

plain_in_order : (text : Text) (at start kept stop : ℕ) (later : List SpannedTok) → at ≤ start → start ≤ kept → kept ≤ stop → AreInOrder stop later → AreInOrder at (data_tokens text start kept ++ later)
plain_in_order text at start kept stop later h k l is = either (kept == start)
  where
    either : (t : Bool) → AreInOrder at (cond t [] ((template_data (slice text start kept), span_at text start kept) ∷ []) ++ later)
    either true = earlier at stop later (omega (arith, h, k, l)) is
    either false = (h, k, earlier kept stop later l is)

raw_places : (s : Syntax) (text : Text) (start : ℕ) (block : RawBlock) → IsRaw s text start block → (start ≤ block.begin) × (block.begin ≤ block.end) × (block.end ≤ block.after)
raw_places s text start block is =
    let w = body_within s text markers.Block start is.marker in
    let a = word_on s text (codes "raw") (body_of s text markers.Block start) (is.control, is.begin) is.raw_tag in
    let b = passes_on s text is.begin is.passed is.last is.passes in
    let o = is.delimiter.onwards in
    let d = word_on s text (codes "endraw") _ is.tag_end is.endraw_tag in
    let e = ap (λ (x : RawBlock). x.after) is.block_is in
    let f = ap (λ (x : RawBlock). x.begin) is.block_is in
    let g = ap (λ (x : RawBlock). x.end) is.block_is in
    (omega (arith, w.0, a, f), omega (arith, b, o, f, g), omega (arith, d, e, g))

segment_in_order : (s : Syntax) (text : Text) (at : ℕ) (g : Segment) (gs : List Segment) → IsSegment s text at g → IsCut s text (stop_of (length text) g) gs → InOrderFrom s text gs → AreInOrder at (segment_tokens s text g ++ flat_map (segment_tokens s text) gs)
unfolding InOrderFrom
segment_in_order s text at (plain start stop) gs is cut h =
    let e = is.0 in
    let m = is.1.some in
    let k = kept_places s text start stop (omega (arith, m)) is.1.within in
    plain_in_order text at start (kept_stop s text start stop) stop _ (omega (arith, e)) k.0 k.1 (h stop cut)
segment_in_order s text at (comment start stop) gs is cut h =
    let e = is.0 in let w = body_within s text markers.Comment start is.1.marker in let o = is.1.delimiter.onwards in let t = is.1.tail in
    earlier at stop _ (omega (arith, e, w.0, o, t)) (h stop cut)
segment_in_order s text at (line_comment start stop) gs is cut h =
    let e = is.0 in let w = body_within s text markers.LineComment start is.1.marker in let o = is.1.onwards in let t = is.1.stop_is in
    earlier at stop _ (omega (arith, e, w.0, o, t)) (h stop cut)
segment_in_order s text at (raw start block) gs is cut h =
    let e = is.0 in
    let p = raw_places s text start block is.1 in
    let a = p.0 in
    (omega (arith, e, a), p.1, earlier block.end block.after _ p.2 (h block.after cut))
segment_in_order s text at (unclosed_comment start) gs is cut h = none_in_order at _ (cut_past s text gs cut)
segment_in_order s text at (unclosed_raw start) gs is cut h = none_in_order at _ (cut_past s text gs cut)
segment_in_order s text at (tag k start body inner) gs is cut h =
    let e = is.0 in
    let b = body_within s text (marker_of k) start is.1.marker in
    let f = is.1.body_is in
    let later : List SpannedTok = flat_map (segment_tokens s text) gs in
    let i = inner_in_order s text k 0 0 body inner.lexemes inner.close later is.1.inside (inner_behind s text k 0 0 body inner.lexemes inner.close gs is.1.inside cut h) in (
      omega (arith, e),
      omega (arith, b.0, f),
      i,
    )

cut_in_order : (s : Syntax) (text : Text) (gs : List Segment) → InOrderFrom s text gs
unfolding InOrderFrom
cut_in_order s text [] at is = tt
cut_in_order s text (g ∷ gs) at is = segment_in_order s text at g gs is.1 is.2 (cut_in_order s text gs)

pub template_in_order : (s : Syntax) (source : Text) → IsBuildable s → AreInOrder 0 (tokens_of_template s source).tokens
unfolding tokens_of_template stream_at InOrderFrom
template_in_order s source built = cut_in_order s (text_of s source) (cut_at s (text_of s source) 0) 0 (some_cut s (text_of s source) built)

close_stream_in_order : (s : Syntax) (text : Text) (k : Tag) (o c at : ℕ) (close : Close) → IsClose s text k o c at close → AreInOrder at (close_stream text k (behind_expression text) close).tokens
close_stream_in_order s text k o c at (Closed start stop after) is = let r = any_ordered s text k o c at start stop after is in (r.onwards, r.ordered, none_in_order stop _ (none_behind text stop after))
close_stream_in_order s text k o c at Broken is = tt
close_stream_in_order s text k o c at (Refused f start place) is = tt

expression_from : (s : Syntax) (text : Text) (k : Tag) (o c at : ℕ) (ls : List Lexeme) (close : Close) → IsInner s text k o c at ls close → AreInOrder at (map (lexeme_token text) ls ++ (close_stream text k (behind_expression text) close).tokens)
expression_from s text k o c at [] close is = close_stream_in_order s text k o c at close is
expression_from s text k o c at (l ∷ ls) close is =
    let p = is.0.space in let m = is.0.some in (omega (arith, p), omega (arith, m), expression_from s text k (o + opened_by l.sort) (c + shut_by l.sort) l.stop ls close is.1)

pub in_order_at : (s : Syntax) (text : Text) (at : ℕ) → AreInOrder at (tokens_of_expression_at s text at).tokens
unfolding tokens_of_expression_at stream_in
in_order_at s text at =
    let i = inner_at s text Variable 0 0 at in
    expression_from s text Variable 0 0 at i.lexemes i.close (inner_holds s text Variable 0 0 at)

pub expression_in_order : (s : Syntax) (source : Text) → AreInOrder 0 (tokens_of_expression s source).tokens
unfolding tokens_of_expression
expression_in_order s source = in_order_at s (text_of s source) 0
