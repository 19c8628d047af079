-- Spans from the start of a token to the end of one.
use Rattle.std.specs.Prelude.{◌≡◌, List, [], ◌∷◌, Contains}
use Rattle.minijinja_syntax.specs.declared.tokens.Span.{Span}
use Rattle.minijinja_syntax.specs.Streams.{SpannedTok}

-- where the first of the tokens stands, or the token before them where there is none
abbrev pub first_span : (before : Span) → List SpannedTok → Span
first_span before [] = before
first_span before (t ∷ ts) = t.1

-- the span begins where the other does
pub record SameStart (s t : Span) : Type 0 where
  pub line : s.start_line ≡ t.start_line
  pub col : s.start_col ≡ t.start_col
  pub offset : s.start_offset ≡ t.start_offset

-- the span ends where the other does
pub record SameEnd (s t : Span) : Type 0 where
  pub line : s.end_line ≡ t.end_line
  pub col : s.end_col ≡ t.end_col
  pub offset : s.end_offset ≡ t.end_offset

-- the span begins where one of the tokens does, or where the token taken before them does
pub data StartsAtToken (ts : List SpannedTok) (before : Span) (s : Span) : Type 0 where
  token_start : {t : SpannedTok} → Contains ts t → SameStart s t.1 → StartsAtToken ts before s
  start_before : SameStart s before → StartsAtToken ts before s

-- the span ends where one of the tokens does, or where the token taken before them does
pub data EndsAtToken (ts : List SpannedTok) (before : Span) (s : Span) : Type 0 where
  token_end : {t : SpannedTok} → Contains ts t → SameEnd s t.1 → EndsAtToken ts before s
  end_before : SameEnd s before → EndsAtToken ts before s

-- the span goes from the start of a token to the end of one
pub record IsOfTokens (ts : List SpannedTok) (before : Span) (s : Span) : Type 0 where
  pub start : StartsAtToken ts before s
  pub end : EndsAtToken ts before s
