-- Texts, as definitions see them.
use Rattle.std.specs.Prelude.{ℕ, ◌-◌, List, drop, take}

-- the bytes of a text
abbrev pub Text : Type 0
Text = List ℕ

-- the text from start to stop
abbrev pub slice : Text → (start stop : ℕ) → Text
slice text start stop = take (stop - start) (drop start text)
