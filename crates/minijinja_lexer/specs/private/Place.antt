-- A place in a text, and how lines and columns go on.
use Rattle.std.specs.Prelude.{ℕ, ◌+◌, min, if◌then◌else◌}
use Rattle.minijinja_syntax.specs.Texts.{Text}
use Rattle.minijinja_syntax.specs.Positions.{is_newline, is_lead}

-- a text and a place in it
pub record Place : Type 0 where
  pub text : Text
  pub at : ℕ

-- what one more byte makes of a line
abbrev pub next_line : ℕ → ℕ → ℕ
next_line line b = if is_newline b then min 65535 (line + 1) else line

-- what one more byte makes of a column
abbrev pub next_column : ℕ → ℕ → ℕ
next_column column b = if is_newline b then 0 else if is_lead b then min 65535 (column + 1) else column
