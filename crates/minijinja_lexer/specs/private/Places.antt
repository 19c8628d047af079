-- The places of what stands in a tag are between characters, and in order.
use Rattle.std.specs.Prelude.{◌≡◌, ℕ, ◌<◌, ◌≤◌, Ok}
use Rattle.std.specs.Str.{IsCharBoundary}
use Rattle.minijinja_syntax.specs.Texts.{Text}
use Rattle.minijinja_lexer.specs.TokenAt.{token_at}
use Rattle.minijinja_lexer.specs.private.TokenPlaces.{SortPlaces}
use Rattle.minijinja_lexer.specs.TagParts.{Lexeme, Close, Closed, Broken, Refused, TagPart, Token, End}

-- a token from the place on
pub record LexemePlaces (text : Text) (at : ℕ) (l : Lexeme) : Type 0 where
  pub onwards : at ≤ l.start
  pub some : l.start < l.stop
  pub start : IsCharBoundary text l.start
  pub stop : IsCharBoundary text l.stop
  pub inside : SortPlaces text l.start l.stop l.sort
  pub scanned : token_at text l.start ≡ Ok (l.sort, l.stop)

-- an end from the place on
pub record ClosedPlaces (text : Text) (at start stop after : ℕ) : Type 0 where
  pub onwards : at ≤ start
  pub ordered : start ≤ stop
  pub skipped : stop ≤ after
  pub start_boundary : IsCharBoundary text start
  pub stop_boundary : IsCharBoundary text stop
  pub after_boundary : IsCharBoundary text after

-- a refusal from the place on
pub record RefusedPlaces (text : Text) (at start place : ℕ) : Type 0 where
  pub onwards : at ≤ start
  pub ordered : start ≤ place
  pub start_boundary : IsCharBoundary text start
  pub place_boundary : IsCharBoundary text place

-- how a tag ends from the place on
abbrev pub ClosePlaces : Text → ℕ → Close → Type 0
ClosePlaces text at (Closed start stop after) = ClosedPlaces text at start stop after
ClosePlaces text at Broken = Unit {0}
ClosePlaces text at (Refused f start place) = RefusedPlaces text at start place

-- a token or an end from the place on
abbrev pub TagPartPlaces : Text → ℕ → TagPart → Type 0
TagPartPlaces text at (Token l) = LexemePlaces text at l
TagPartPlaces text at (End close) = ClosePlaces text at close
