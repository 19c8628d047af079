-- What ties tokens to the text: the slices at their spans, in order, between characters.
use Rattle.std.specs.Str.{IsCharBoundary}
use Rattle.std.specs.Prelude.{◌≡◌, ◌⊎◌, ℕ, ◌+◌, ◌-◌, ◌≤◌, List, [], ◌∷◌, ◌++◌, length, Some, IsSome}
use Rattle.minijinja_syntax.specs.Texts.{Text}
use Rattle.minijinja_syntax.specs.Syntax.{Syntax}
use Rattle.minijinja_syntax.specs.Positions.{slice, span_at}
use Rattle.minijinja_syntax.specs.Tokens.{Tok, template_data, ident, str, string}
use Rattle.minijinja_syntax.specs.declared.tokens.Span.{Span}
use Rattle.minijinja_lexer.specs.Escapes.{unescaped}
use Rattle.minijinja_lexer.specs.Controls.{Control}
use Rattle.minijinja_lexer.specs.Raw.{raw_at, endraw_at}
use Rattle.minijinja_lexer.specs.Cut.{Segment, raw}
use Rattle.minijinja_syntax.specs.Streams.{SpannedTok}

-- data and an identifier are the slice at the span, a string is it without the quotes, a decoded
-- one what that means
abbrev pub IsSliceAt : Text → Span → Tok → Type 0
IsSliceAt text span (template_data t) = t ≡ slice text span.start_offset span.end_offset
IsSliceAt text span (ident t) = t ≡ slice text span.start_offset span.end_offset
IsSliceAt text span (str t) = t ≡ slice text (span.start_offset + 1) (span.end_offset - 1)
IsSliceAt text span (string t) = Some t ≡ unescaped (slice text (span.start_offset + 1) (span.end_offset - 1))
IsSliceAt text span _ = Unit {0}

-- each token is such a slice, and its span's lines and columns are those of its offsets
abbrev pub AreSlices : Text → List SpannedTok → Type 0
AreSlices text [] = Unit {0}
AreSlices text (t ∷ ts) = IsSliceAt text t.1 t.0 × (t.1 ≡ span_at text t.1.start_offset t.1.end_offset) × AreSlices text ts

-- the text is a part of what stands from `begin` to `end`; a raw tag ends at the one, and after the
-- other stands an endraw tag
pub record IsRawText (s : Syntax) (text : Text) (begin end : ℕ) (t : Text) : Type 0 where
  pub body : ℕ
  pub control : Control
  pub raw_tag : raw_at s text body ≡ Some (control, begin)
  pub endraw_tag : IsSome (endraw_at s text (end + length s.block_start))
  pub from : ℕ
  pub to : ℕ
  pub start : begin ≤ from
  pub ordered : from ≤ to
  pub stop : to ≤ end
  pub part : t ≡ slice text from to

-- The text of a token with its span: a raw block's data is a part of what stands between its tags,
-- and that of any other token is the slice.
abbrev pub IsTokenText : Syntax → Text → Tok → Span → Type 0
IsTokenText s text tok span = IsSliceAt text span tok ⊎ ((t : Text) × (tok ≡ template_data t) × IsRawText s text span.start_offset span.end_offset t)

-- A raw block has one token, such a text with the span of what stands between the tags. The tokens
-- of any other segment are the slices at their spans.
abbrev pub AreSegmentSlices : Syntax → Text → Segment → List SpannedTok → Type 0
AreSegmentSlices s text (raw start block) ts = (t : Text) × (ts ≡ (template_data t, span_at text block.begin block.end) ∷ []) × IsRawText s text block.begin block.end t
AreSegmentSlices s text _ ts = AreSlices text ts

-- the tokens are those of the segments, one segment after another
abbrev pub AreCutSlices : Syntax → Text → List Segment → List SpannedTok → Type 0
AreCutSlices s text [] ts = ts ≡ []
AreCutSlices s text (g ∷ gs) ts = (first : List SpannedTok) × (later : List SpannedTok) × (ts ≡ first ++ later) × AreSegmentSlices s text g first × AreCutSlices s text gs later

-- each span begins where the one before it ends, or later, and may be empty
abbrev pub AreInOrder : ℕ → List SpannedTok → Type 0
AreInOrder place [] = Unit {0}
AreInOrder place (t ∷ ts) = (place ≤ t.1.start_offset) × (t.1.start_offset ≤ t.1.end_offset) × AreInOrder t.1.end_offset ts

-- the text may be cut where the span begins and where it ends
pub record IsBetweenChars (text : Text) (span : Span) : Type 0 where
  pub start : IsCharBoundary text span.start_offset
  pub end : IsCharBoundary text span.end_offset
