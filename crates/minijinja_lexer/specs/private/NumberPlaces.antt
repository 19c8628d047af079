-- The places of a number are between characters.
use Rattle.std.specs.Prelude.{ℕ, ◌<◌, Result, Ok, Err}
use Rattle.std.specs.Str.{IsCharBoundary}
use Rattle.minijinja_syntax.specs.Texts.{Text}
use Rattle.minijinja_lexer.specs.Faults.{LexFault}

-- the length is no zero and may be cut off
pub record IsCut (text : Text) (len : ℕ) : Type 0 where
  pub some : 0 < len
  pub boundary : IsCharBoundary text len

-- the length of a number, or up to where it is refused
abbrev pub NumberPlaces : Text → Result (ℕ × ℕ) (LexFault × ℕ) → Type 0
NumberPlaces text (Ok r) = IsCut text r.1
NumberPlaces text (Err r) = IsCut text r.1
