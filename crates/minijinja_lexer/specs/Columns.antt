-- What a column counts: characters since the last newline.
use Rattle.std.specs.Prelude.{ℕ, not}
use Rattle.std.specs.List.{suffix_len}
use Rattle.std.specs.Str.{chars}
use Rattle.minijinja_syntax.specs.Texts.{Text}
use Rattle.minijinja_syntax.specs.Positions.{is_newline}

-- how many characters stand after the last newline of a text, or in all of it where there is none
abbrev pub chars_since_newline : Text → ℕ
chars_since_newline text = suffix_len (λ c. not (is_newline c)) (chars text)
