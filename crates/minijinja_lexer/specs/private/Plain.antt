-- Plain text, in which only the column moves.
use Rattle.std.specs.Prelude.{◌≡◌, ℕ, ◌<◌, ◌≤◌, false, slice_index}
use Rattle.minijinja_syntax.specs.Texts.{Text}
use Rattle.minijinja_syntax.specs.Positions.{is_newline}

-- from a place to another stand only ASCII bytes other than newlines
abbrev pub IsPlain : Text → (from to : ℕ) → Type 0
IsPlain text from to = (at : ℕ) → from ≤ at → at < to → (slice_index text at < 128) × (is_newline (slice_index text at) ≡ false)
