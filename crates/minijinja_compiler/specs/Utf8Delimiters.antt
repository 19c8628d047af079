-- A syntax whose delimiters are UTF-8, as every `str` is.
use Rattle.std.specs.Str.{IsUtf8}
use Rattle.minijinja_syntax.specs.Syntax.{Syntax, end_of, start_of}
use Rattle.minijinja_syntax.specs.declared.syntax.StartMarker.{StartMarker}

-- each delimiter and each prefix
abbrev pub HasUtf8Delimiters : Syntax → Type 0
HasUtf8Delimiters s = (m : StartMarker) → IsUtf8 (start_of s m) × IsUtf8 (end_of s m)
