-- A raw block by its places.
use Rattle.std.specs.Prelude.{ℕ}

-- The text between its tags runs from `begin` to `end`, what is kept of it from `start` to `stop`,
-- and `after` is past the block and what is skipped there.
pub record RawBlock : Type 0 where
  pub begin : ℕ
  pub start : ℕ
  pub stop : ℕ
  pub end : ℕ
  pub after : ℕ
