-- The parts of a tag: its tokens, and its end.
use Rattle.std.specs.Prelude.{ℕ}
use Rattle.minijinja_lexer.specs.Faults.{LexFault}
use Rattle.minijinja_lexer.specs.Sorts.{Sort}

-- a token, by where it begins and ends
pub record Lexeme : Type 0 where
  pub start : ℕ
  pub stop : ℕ
  pub sort : Sort

-- How a tag ends: with its end from `start` to `stop` and what is skipped up to `after`; by the end
-- of the text; or where a token that begins at `start` is refused at `place`.
pub data Close : Type 0 where
  Closed : (start stop after : ℕ) → Close
  Broken : Close
  Refused : LexFault → (start place : ℕ) → Close

-- a part of a tag, after whitespace: a token, or how the tag ends
pub data TagPart : Type 0 where
  Token : Lexeme → TagPart
  End : Close → TagPart
