-- The places of a token are between characters, and in order.
use Rattle.std.specs.Prelude.{ℕ, ◌+◌, ◌-◌, ◌<◌, ◌≤◌, IsSome, Result, Ok, Err}
use Rattle.std.specs.Str.{IsCharBoundary}
use Rattle.minijinja_syntax.specs.Texts.{Text}
use Rattle.minijinja_syntax.specs.Positions.{slice}
use Rattle.minijinja_lexer.specs.Escapes.{unescaped}
use Rattle.minijinja_lexer.specs.Sorts.{Sort}
use Rattle.minijinja_lexer.specs.Sorts as sort
use Rattle.minijinja_lexer.specs.Faults.{LexFault}

-- what stands between the quotes may be cut out
pub record InsidePlaces (text : Text) (start stop : ℕ) : Type 0 where
  pub ordered : start + 1 ≤ stop - 1
  pub start_boundary : IsCharBoundary text (start + 1)
  pub stop_boundary : IsCharBoundary text (stop - 1)

-- a string's inside may be cut out, and one with escapes has a meaning
abbrev pub SortPlaces : Text → ℕ → ℕ → Sort → Type 0
SortPlaces text start stop sort.Str = InsidePlaces text start stop
SortPlaces text start stop sort.String = InsidePlaces text start stop × IsSome (unescaped (slice text (start + 1) (stop - 1)))
SortPlaces text start stop _ = Unit {0}

-- a token at the place
pub record TokenPlaces (text : Text) (at stop : ℕ) (sort : Sort) : Type 0 where
  pub some : at < stop
  pub boundary : IsCharBoundary text stop
  pub inside : SortPlaces text at stop sort

-- a refusal at the place or after it
pub record RefusalPlace (text : Text) (at place : ℕ) : Type 0 where
  pub onwards : at ≤ place
  pub boundary : IsCharBoundary text place

-- a token at the place, or a refusal
abbrev pub ScanPlaces : Text → ℕ → Result (Sort × ℕ) (LexFault × ℕ) → Type 0
ScanPlaces text at (Ok r) = TokenPlaces text at r.1 r.0
ScanPlaces text at (Err r) = RefusalPlace text at r.1
