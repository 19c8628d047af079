-- Readers whose contents are known not to be text.
use Rattle.std.specs.Prelude.{List, ℕ, Option, None, Some}
use Rattle.std.specs.Str.{IsUtf8}

-- the bytes are known, and are not UTF-8
abbrev pub IsNoText : Option (List ℕ) → Type 0
IsNoText (Some bytes) = ¬ IsUtf8 bytes
IsNoText None = ⊥
