-- The two forms of a text.
use Rattle.std.specs.Prelude.{ℕ, List, length, ◌<◌}
use Rattle.std.specs.String.{string_bytes}
use Rattle.minijinja_value.specs.declared.value.text.Form.{Form}
use Rattle.minijinja_value.specs.declared.value.text.Form.TheVariants.{Short, Long}
use Rattle.minijinja_value.specs.declared.value.text.TheConstants.{MOST_SHORT_BYTES}

abbrev pub form_bytes : Form → List ℕ
form_bytes (Short s) = s.bytes
form_bytes (Long s) = string_bytes s

-- a text has the long form only where the short one is too small for it
abbrev pub IsFitting : Form → Type 0
IsFitting (Short s) = Unit {0}
IsFitting (Long s) = MOST_SHORT_BYTES < length (string_bytes s)
