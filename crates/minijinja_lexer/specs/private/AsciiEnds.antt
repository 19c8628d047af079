-- What ends in an ASCII byte ends between characters.
use Rattle.std.specs.Prelude.{ℕ, ◌-◌, ◌<◌, ◌≤◌, length, slice_index}
use Rattle.minijinja_syntax.specs.Texts.{Text}

-- the text has a first part of this length, and the last byte of that is ASCII
pub record EndsInAscii (text : Text) (len : ℕ) : Type 0 where
  pub some : 0 < len
  pub within : len ≤ length text
  pub last : slice_index text (len - 1) < 128
