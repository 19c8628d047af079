-- In a UTF-8 text no identifier among the tokens has a dot.
use Rattle.std.proofs.Common.{◌≡◌, ℕ, zero, suc, ◌+◌, ◌-◌, ◌<◌, ◌≤◌, Bool, true, false, cond, List, [], ◌∷◌, ◌++◌, length, drop, refl, ap, sym, ◌∙◌, arith, subst, map, Option, Some, None, ⊎_elim, ◌==◌, eqb-true, lit<, take}
use Rattle.std.specs.Prelude.{◌&&◌, Contains, codes, is_some, nat_lt, slice_index}
use Rattle.std.specs.Io.BufRead.{strip_last}
use Rattle.std.specs.List.{flat_map}
use Rattle.std.specs.Str.{IsUtf8}
use Rattle.std.proofs.lemmas.Bool.{cases_lt, ltb-true}
use Rattle.std.proofs.lemmas.Bool.Decides.{nat_tests}
use Rattle.std.proofs.lemmas.Str.{IsCharBoundary-before_ascii, IsUtf8-drop, IsUtf8-take}
use lib.Utf8.{encode}
use Rattle.minijinja_syntax.specs.Markers.{IsMarkerAt, is_line_end, marker_at, next_marker, stands}
use Rattle.minijinja_syntax.specs.Positions.{slice, span_at}
use Rattle.minijinja_syntax.specs.Streams.{SpannedTok}
use Rattle.minijinja_syntax.specs.Syntax.{Syntax, end_of, start_of}
use Rattle.minijinja_syntax.specs.Texts.{Text}
use Rattle.minijinja_syntax.specs.Tokens.{Tok, ident, template_data}
use Rattle.minijinja_syntax.specs.declared.syntax.StartMarker.{StartMarker}
use Rattle.minijinja_syntax.specs.declared.syntax.StartMarker.TheVariants as markers
use Rattle.minijinja_syntax.specs.declared.tokens.Span.{Span}
use Rattle.minijinja_syntax.proofs.Markers.{AtMarker, eligible_some, eligible_stands, marker_holds, some_from}
use Rattle.minijinja_syntax.proofs.Walking.{next_marker-on, next_marker-stops, next_marker-within, next_place-here}
use Rattle.minijinja_lexer.specs.Brackets.{opened_by, shut_by}
use Rattle.minijinja_lexer.specs.Controls.{Control}
use Rattle.minijinja_lexer.specs.Cut.{Segment, plain, comment, unclosed_comment, block_to, close_stop, comment_at, cut_at, cut_from, inner_at, line_comment_at, next_delimiter, next_line_end, raw_to, segment_at, segment_of, stop_of, tag_at, tail_control}
use Rattle.minijinja_lexer.specs.Raw.{endraw_at, endraw_from, next_endraw, or_later, raw_at}
use Rattle.minijinja_lexer.specs.Relation.{IsClose, IsClosedAt, IsDelimiterClose, IsInner, IsOver, NoEnd}
use Rattle.minijinja_lexer.specs.Sorts.{Sort}
use Rattle.minijinja_lexer.specs.Sorts as sort
use Rattle.minijinja_lexer.specs.Symbols.{Symbol, symbol_tok}
use Rattle.minijinja_lexer.specs.Symbols as symbols
use Rattle.minijinja_lexer.specs.TagParts.{Lexeme, Close, Closed, Broken, Refused}
use Rattle.minijinja_lexer.specs.Tags.{Tag, Variable, Block, Line}
use Rattle.minijinja_lexer.specs.TextTokens.{close_tokens, data_tokens, end_tok, lexeme_tok, lexeme_token, segment_tokens, start_tok, stream_at, text_of, tokens_of_template}
use Rattle.minijinja_lexer.specs.Whitespace.{body_of, control_at, control_len, kept_stop, past_line_space, tail_len}
use Rattle.minijinja_lexer.proofs.OneCut.{body_within}
use Rattle.minijinja_lexer.proofs.Scanning.{get_some}
use Rattle.minijinja_lexer.proofs.Searching.{delimiter-stops, delimiter-within, endraw-over, line_end-stops, line_end-within}
use Rattle.minijinja_lexer.proofs.SomeCut.{inner_holds}
use Rattle.minijinja_lexer.proofs.Stops.{inner_stop}
use Rattle.minijinja_lexer.proofs.Within.{word_on}
use Rattle.minijinja_compiler.specs.Identifiers.{IsIdentifierOf}
use Rattle.minijinja_compiler.specs.Utf8Delimiters.{HasUtf8Delimiters}
use Rattle.minijinja_meta.specs.Segments.{HasNoDot}
use Rattle.minijinja_compiler.proofs.TokenEnds.{IsDotless, TokenEnds, token_ends}
use Rattle.minijinja_compiler.proofs.Utf8Places.{EndsUtf8, IsUtf8From, at_body, at_delimiter, behind_delimiter, behind_end, behind_line_end, behind_line_space, behind_space, behind_tail, past_control, utf8_past, word_utf8}

-- an identifier has no dot
abbrev IsDotlessTok : Tok → Type 0
IsDotlessTok (ident x) = HasNoDot x
IsDotlessTok _ = Unit {0}

-- none of the tokens is an identifier with a dot
AreDotless : List SpannedTok → Type 0
AreDotless [] = Unit {0}
AreDotless (t ∷ ts) = IsDotlessTok t.0 × AreDotless ts

dotless-append : (xs ys : List SpannedTok) → AreDotless xs → AreDotless ys → AreDotless (xs ++ ys)
unfolding AreDotless
dotless-append [] ys h g = g
dotless-append (x ∷ xs) ys h g = (h.0, dotless-append xs ys h.1 g)

dotless_among : (ts : List SpannedTok) (x : Text) (s : Span) → AreDotless ts → Contains ts (ident x, s) → HasNoDot x
unfolding AreDotless
dotless_among [] x s h c = let l = c.1 in absurd (omega (arith, l))
dotless_among (t ∷ ts) x s h (zero, l, e) = subst (λ (t : SpannedTok). IsDotlessTok t.0) e h.0
dotless_among (t ∷ ts) x s h (suc k, l, e) = dotless_among ts x s h.1 (k, omega (arith, l), e)

-- ---- tags

symbol_dotless : (x : Symbol) → IsDotlessTok (symbol_tok x)
symbol_dotless symbols.Plus = tt
symbol_dotless _ = tt

sort_dotless : (text : Text) (start stop : ℕ) (x : Sort) → IsDotless x (slice text start stop) → IsDotlessTok (lexeme_tok text (record { start = start; stop = stop; sort = x }))
sort_dotless text start stop sort.Ident h = h
sort_dotless text start stop sort.Str h = tt
sort_dotless text start stop sort.String h = tt
sort_dotless text start stop (sort.Int n) h = tt
sort_dotless text start stop (sort.Int128 n) h = tt
sort_dotless text start stop (sort.Symbol x) h = symbol_dotless x

start_dotless : (k : Tag) → IsDotlessTok (start_tok k)
start_dotless Variable = tt
start_dotless Block = tt
start_dotless Line = tt

end_dotless : (k : Tag) → IsDotlessTok (end_tok k)
end_dotless Variable = tt
end_dotless Block = tt
end_dotless Line = tt

close_dotless : (text : Text) (k : Tag) (close : Close) → AreDotless (close_tokens text k close)
unfolding AreDotless
close_dotless text k (Closed start stop after) = (end_dotless k, tt)
close_dotless text k Broken = tt
close_dotless text k (Refused f start place) = tt

endraw_utf8 : IsUtf8 (codes "endraw")
unfolding encode
endraw_utf8 = (codes "endraw", (refl, refl))

-- an empty delimiter stands everywhere
empty_here : (text : Text) (at : ℕ) → next_delimiter [] text at ≡ at
unfolding next_delimiter
empty_here text at = next_place-here (stands [] text) at (length text - at) refl

-- a line end is ASCII
line_end_low : (b : ℕ) → is_line_end b ≡ true → (0 < b) × (b < 128)
line_end_low b h = (grind (arith, nat_tests), grind (arith, nat_tests))

module _ (s : Syntax) (text : Text) (delimiters : HasUtf8Delimiters s) (whole : IsUtf8 text) where
  -- behind the end of a tag
  delimiter_utf8 : (m : StartMarker) (at start stop after : ℕ) → IsUtf8From text at → IsDelimiterClose s text m at start stop after → IsUtf8From text after
  delimiter_utf8 m at start stop after u is =
      let begin : IsUtf8From text start = subst (IsUtf8From text) (sym is.space) (behind_space text at u) in
      let end : IsUtf8From text stop = behind_end (end_of s m) text start is.control stop (delimiters m).1 whole begin is.end in
      subst (IsUtf8From text) (sym is.tail) (behind_tail s text m is.control stop end)

  closed_utf8 : (k : Tag) (at start stop after : ℕ) → IsUtf8From text at → IsClosedAt s text k at start stop after → IsUtf8From text after
  closed_utf8 Variable at start stop after u is = delimiter_utf8 markers.Variable at start stop after u is
  closed_utf8 Block at start stop after u is = delimiter_utf8 markers.Block at start stop after u is
  closed_utf8 Line at start stop after u is =
      subst (IsUtf8From text) (sym (is.after_is ∙ is.stop_is)) (behind_line_end text (past_line_space text at) (behind_line_space text at u))

  close_utf8 : (k : Tag) (o c at : ℕ) (close : Close) → IsUtf8From text at → IsClose s text k o c at close → IsUtf8From text (close_stop (length text) close)
  close_utf8 k o c at (Closed start stop after) u is = ⊎_elim
      (λ (x : (at < length text) × (o ≡ c) × IsClosedAt s text k at start stop after). closed_utf8 k at start stop after u x.2)
      (λ (x : IsOver text k at start stop after × (at < length text → NoEnd s text k o c at)). let e = x.0.after_is in utf8_past text after (omega (arith, e)))
      is
  close_utf8 k o c at Broken u is = utf8_past text (length text) (omega arith)
  close_utf8 k o c at (Refused f start place) u is = utf8_past text (length text) (omega arith)

  -- what is in a tag, and where it ends
  inner_dotless : (k : Tag) (o c at : ℕ) (ls : List Lexeme) (close : Close) → IsUtf8From text at → IsInner s text k o c at ls close → AreDotless (map (lexeme_token text) ls) × IsUtf8From text (close_stop (length text) close)
  unfolding AreDotless
  inner_dotless k o c at [] close u is = (tt, close_utf8 k o c at close u is)
  inner_dotless k o c at (l ∷ ls) close u is =
      let begin : IsUtf8From text l.start = subst (IsUtf8From text) (sym is.0.space) (behind_space text at u) in
      let t : TokenEnds text l.start l.stop l.sort = token_ends text l.start l.stop l.sort begin is.0.token in
      let r = inner_dotless k (o + opened_by l.sort) (c + shut_by l.sort) l.stop ls close t.utf8 is.1 in
      ((sort_dotless text l.start l.stop l.sort t.dotless, r.0), r.1)

  -- ---- segments

  -- the segment goes on, to a place from which on the text is UTF-8
  record Passes (at : ℕ) (g : Segment) : Type 0 where
    pub tokens : AreDotless (segment_tokens s text g)
    pub forward : at < stop_of (length text) g
    pub utf8 : IsUtf8From text (stop_of (length text) g)

  -- it goes on to the end of the text
  end_utf8 : IsUtf8From text (length text)
  end_utf8 = utf8_past text (length text) (omega arith)

  tag_passes : (k : Tag) (at body : ℕ) → at < body → body ≤ length text → IsUtf8From text body → Passes at (tag_at s text k at body)
  unfolding AreDotless
  tag_passes k at body l w u =
      let i = inner_at s text k 0 0 body in
      let r = inner_dotless k 0 0 body i.lexemes i.close u (inner_holds s text k 0 0 body) in
      let m = inner_stop s text k 0 0 body w in
      record {
        tokens = (start_dotless k, dotless-append (map (lexeme_token text) i.lexemes) (close_tokens text k i.close) r.0 (close_dotless text k i.close));
        forward = omega (arith, l, m);
        utf8 = r.1;
      }

  data_dotless : (start kept : ℕ) → AreDotless (data_tokens text start kept)
  unfolding AreDotless
  data_dotless start kept = either (kept == start)
    where
      either : (t : Bool) → AreDotless (cond t [] ((template_data (slice text start kept), span_at text start kept) ∷ []))
      either true = tt
      either false = (tt, tt)

  marker_utf8 : (m : StartMarker) (at : ℕ) → at ≤ length text → IsMarkerAt s text at m → IsUtf8From text at
  marker_utf8 m at h is = at_delimiter (start_of s m) text at (delimiters m).0 whole (eligible_some s text at m is.eligible) h (eligible_stands s text at m is.eligible)

  plain_passes : (at : ℕ) → at < length text → marker_at s text at ≡ None → Passes at (plain at (next_marker s text at))
  plain_passes at h e =
      let on = next_marker-on s text at h (ap is_some e) in
      let w = next_marker-within s text (at + 1) (omega (arith, h)) in
      let p : ℕ = next_marker s text at in
      record {
        tokens = data_dotless at (kept_stop s text at p);
        forward = omega (arith, on, w.0);
        utf8 = ⊎_elim
            (λ q. utf8_past text p (omega (arith, q)))
            (λ q. let m = some_from s text p (marker_at s text p) (marker_holds s text p) q in marker_utf8 m.0 p (omega (arith, on, w.1)) m.1)
            (next_marker-stops s text at (omega (arith, h)));
      }

  -- where a marker stands its body does
  body_utf8 : (m : StartMarker) (at : ℕ) → IsUtf8From text at → IsMarkerAt s text at m → IsUtf8From text (body_of s text m at)
  body_utf8 m at u is = at_body s text m at whole (delimiters m).0 u (eligible_stands s text at m is.eligible)

  -- ---- raw blocks

  -- the endraw tag ends at the place or behind it
  RawEnds : (at : ℕ) → Option (ℕ × Control × ℕ) → Type 0
  RawEnds at None = Unit {0}
  RawEnds at (Some r) = (at ≤ r.2) × IsUtf8From text r.2

  later_ends : (at : ℕ) (x : Option (ℕ × Control × ℕ)) → RawEnds (at + 1) x → RawEnds at x
  unfolding RawEnds
  later_ends at None h = tt
  later_ends at (Some r) h = let a = h.0 in (omega (arith, a), h.1)

  either_ends : (at behind : ℕ) (y : Option (Control × ℕ)) (x : Option (ℕ × Control × ℕ)) → at ≤ behind → endraw_at s text behind ≡ y → IsUtf8From text behind → RawEnds (at + 1) x → RawEnds at (or_later at y x)
  unfolding RawEnds
  either_ends at behind None x h e u later = later_ends at x later
  either_ends at behind (Some r) x h e u later =
      let from : IsUtf8From text (behind + control_len (control_at text behind)) = past_control text behind whole u in
      let w = word_on s text (codes "endraw") (behind + control_len (control_at text behind)) r e in
      let ends = word_utf8 s text (codes "endraw") (behind + control_len (control_at text behind)) (delimiters markers.Block).1 endraw_utf8 whole from in
      (omega (arith, h, w), subst (EndsUtf8 text) e ends)

  from_ends : (at skip left : ℕ) → 0 < length s.block_start → at + left ≡ length text → RawEnds at (endraw_from s text at skip left)
  unfolding RawEnds
  from_ends at skip zero some e = tt
  from_ends at (suc skip) (suc left) some e = later_ends at _ (from_ends (at + 1) skip left some (omega (arith, e)))
  from_ends at zero (suc left) some e = either (stands s.block_start text at) refl (from_ends (at + 1) (length s.block_start - 1) left some (omega (arith, e))) (from_ends (at + 1) 0 left some (omega (arith, e)))
    where
      either : (t : Bool) → stands s.block_start text at ≡ t → RawEnds (at + 1) (endraw_from s text (at + 1) (length s.block_start - 1) left) → RawEnds (at + 1) (endraw_from s text (at + 1) 0 left)
          → RawEnds at (cond t (or_later at (endraw_at s text (at + length s.block_start)) (endraw_from s text (at + 1) (length s.block_start - 1) left)) (endraw_from s text (at + 1) 0 left))
      either true f h g =
          let here : IsUtf8From text at = at_delimiter s.block_start text at (delimiters markers.Block).0 whole some (omega (arith, e)) f in
          let behind = behind_delimiter s.block_start text at (delimiters markers.Block).0 here f in
          either_ends at (at + length s.block_start) (endraw_at s text (at + length s.block_start)) _ (omega arith) refl behind h
      either false f h g = later_ends at _ g

  raw_ends : (at : ℕ) → 0 < length s.block_start → RawEnds at (next_endraw s text at)
  unfolding RawEnds next_endraw
  raw_ends at some = ⊎_elim
      (λ (h : at < length text). from_ends at 0 (length text - at) some (omega (arith, h)))
      (λ (h : length text ≤ at). subst (RawEnds at) (sym (endraw-over s text at h)) tt)
      (cases_lt at (length text))

  raw_passes : (at begin : ℕ) (control : Control) (x : Option (ℕ × Control × ℕ)) → at < length text → at < begin → RawEnds begin x → Passes at (raw_to s text at begin control x)
  unfolding AreDotless RawEnds
  raw_passes at begin control None h l ends = record { tokens = tt; forward = h; utf8 = end_utf8 }
  raw_passes at begin control (Some r) h l ends =
      let a = ends.0 in
      record { tokens = (tt, tt); forward = omega (arith, l, a); utf8 = behind_tail s text markers.Block r.1 r.2 ends.1 }

  block_passes : (at body : ℕ) (x : Option (Control × ℕ)) → at < body → body ≤ length text → IsUtf8From text body → 0 < length s.block_start → raw_at s text body ≡ x → Passes at (block_to s text at body x)
  block_passes at body None l w u some e = tag_passes Block at body l w u
  block_passes at body (Some r) l w u some e =
      let on = word_on s text (codes "raw") body r e in
      raw_passes at r.1 r.0 (next_endraw s text r.1) (omega (arith, l, w)) (omega (arith, l, on)) (raw_ends r.1 some)

  -- ---- comments

  -- behind the next end delimiter, which may be empty
  found_utf8 : (d : Text) (at : ℕ) → IsUtf8 d → at ≤ length text → IsUtf8From text at → next_delimiter d text at < length text → IsUtf8From text (next_delimiter d text at + length d)
  found_utf8 [] at ud h u l =
      let n = empty_here text at in
      let e : at ≡ next_delimiter [] text at + 0 = omega (arith, n) in
      subst (IsUtf8From text) e u
  found_utf8 (b ∷ bs) at ud h u l =
      let p : ℕ = next_delimiter (b ∷ bs) text at in
      let w = (delimiter-within (b ∷ bs) text at h).1 in
      ⊎_elim
      (λ e. absurd (omega (arith, e, l)))
      (λ t. behind_delimiter (b ∷ bs) text p ud (at_delimiter (b ∷ bs) text p ud whole (omega arith) w t) t)
      (delimiter-stops (b ∷ bs) text at h)

  comment_passes : (at body : ℕ) → at < body → body ≤ length text → IsUtf8From text body → Passes at (comment_at s text at body)
  unfolding AreDotless
  comment_passes at body l w u =
      let d : Text = end_of s markers.Comment in
      let n : ℕ = next_delimiter d text body in
      let o = (delimiter-within d text body w).0 in
      either n (nat_lt n (length text)) (omega (arith, l, o)) (λ e. found_utf8 d body (delimiters markers.Comment).1 w u (ltb-true n (length text) e))
    where
      either : (n : ℕ) (t : Bool) → at < n → (t ≡ true → IsUtf8From text (n + length (end_of s markers.Comment)))
          → Passes at (cond t (comment at (n + length (end_of s markers.Comment) + tail_len s markers.Comment (tail_control text body n) (drop (n + length (end_of s markers.Comment)) text))) (unclosed_comment at))
      either n true m found = record { tokens = tt; forward = omega (arith, m); utf8 = behind_tail s text markers.Comment (tail_control text body n) (n + length (end_of s markers.Comment)) (found refl) }
      either n false m found = record { tokens = tt; forward = omega (arith, l, w); utf8 = end_utf8 }

  line_comment_passes : (at body : ℕ) → at < body → body ≤ length text → Passes at (line_comment_at text at body)
  unfolding AreDotless
  line_comment_passes at body l w =
      let p : ℕ = next_line_end text body in
      let o = (line_end-within text body w).0 in
      let begin : IsUtf8From text p = ⊎_elim
      (λ e. utf8_past text p (omega (arith, e)))
      (λ t. let low = line_end_low (slice_index text p) t in IsUtf8-drop text p whole (IsCharBoundary-before_ascii text p (get_some text p low.0) low.1))
      (line_end-stops text body w) in
      record { tokens = tt; forward = omega (arith, l, o); utf8 = behind_line_end text p begin }

  -- ---- the cut

  marked_passes : (at : ℕ) (m : Option StartMarker) → at < length text → IsUtf8From text at → marker_at s text at ≡ m → AtMarker s text at m → Passes at (segment_of s text at m)
  unfolding AtMarker
  marked_passes at None h u e is = plain_passes at h e
  marked_passes at (Some markers.Variable) h u e is = let w = body_within s text markers.Variable at is in tag_passes Variable at _ w.0 w.1 (body_utf8 markers.Variable at u is)
  marked_passes at (Some markers.Block) h u e is =
      let w = body_within s text markers.Block at is in
      block_passes at _ (raw_at s text (body_of s text markers.Block at)) w.0 w.1 (body_utf8 markers.Block at u is) (eligible_some s text at markers.Block is.eligible) refl
  marked_passes at (Some markers.Comment) h u e is = let w = body_within s text markers.Comment at is in comment_passes at _ w.0 w.1 (body_utf8 markers.Comment at u is)
  marked_passes at (Some markers.LineStatement) h u e is = let w = body_within s text markers.LineStatement at is in tag_passes Line at _ w.0 w.1 (body_utf8 markers.LineStatement at u is)
  marked_passes at (Some markers.LineComment) h u e is = let w = body_within s text markers.LineComment at is in line_comment_passes at _ w.0 w.1

  segment_passes : (at : ℕ) → at < length text → IsUtf8From text at → Passes at (segment_at s text at)
  unfolding segment_at
  segment_passes at h u = marked_passes at (marker_at s text at) h u refl (marker_holds s text at)

  from_dotless : (at skip : ℕ) (bs : Text) → at + length bs ≡ length text → IsUtf8From text (at + skip) → AreDotless (flat_map (segment_tokens s text) (cut_from s text at skip bs))
  unfolding AreDotless
  from_dotless at skip [] e u = tt
  from_dotless at (suc skip) (b ∷ bs) e u = let f : at + suc skip ≡ at + 1 + skip = omega arith in from_dotless (at + 1) skip bs (omega (arith, e)) (subst (IsUtf8From text) f u)
  from_dotless at zero (b ∷ bs) e u =
      let z : at + 0 ≡ at = omega arith in
      let g : Segment = segment_at s text at in
      let p = segment_passes at (omega (arith, e)) (subst (IsUtf8From text) z u) in
      let l = p.forward in
      let f : stop_of (length text) g ≡ at + 1 + (stop_of (length text) g - (at + 1)) = omega (arith, l) in
      dotless-append (segment_tokens s text g) _ p.tokens (from_dotless (at + 1) (stop_of (length text) g - (at + 1)) bs (omega (arith, e)) (subst (IsUtf8From text) f p.utf8))

  stream_dotless : AreDotless (stream_at s text 0).tokens
  unfolding stream_at cut_at
  stream_dotless = from_dotless 0 0 (drop 0 text) (omega arith) whole

-- ---- a source

stripped_utf8 : (byte : ℕ) (xs : Text) → byte < 128 → IsUtf8 xs → IsUtf8 (strip_last byte xs)
stripped_utf8 byte xs low u = either (nat_lt 0 (length xs)) (slice_index xs (length xs - 1) == byte) refl refl
  where
    either : (t v : Bool) → nat_lt 0 (length xs) ≡ t → (slice_index xs (length xs - 1) == byte) ≡ v → IsUtf8 (cond (t && v) (take (length xs - 1) xs) xs)
    either true true e f =
        let some = ltb-true 0 (length xs) e in
        let last = eqb-true (slice_index xs (length xs - 1)) byte f in
        IsUtf8-take xs (length xs - 1) u (IsCharBoundary-before_ascii xs (length xs - 1) (omega (arith, some)) (omega (arith, last, low)))
    either true false e f = u
    either false v e f = u

text_utf8 : (s : Syntax) (source : Text) → IsUtf8 source → IsUtf8 (text_of s source)
unfolding text_of
text_utf8 s source u = either s.keep_trailing_newline
  where
    either : (t : Bool) → IsUtf8 (cond t source (strip_last 13 (strip_last 10 source)))
    either true = u
    either false = stripped_utf8 13 (strip_last 10 source) (lit< tt) (stripped_utf8 10 source (lit< tt) u)

-- no identifier of a template has a dot
pub identifiers_dotless : (s : Syntax) (source x : Text) → HasUtf8Delimiters s → IsUtf8 source → IsIdentifierOf (tokens_of_template s source).tokens x → HasNoDot x
unfolding tokens_of_template
identifiers_dotless s source x delimiters u is = dotless_among _ x is.0 (stream_dotless s (text_of s source) delimiters (text_utf8 s source u)) is.1
