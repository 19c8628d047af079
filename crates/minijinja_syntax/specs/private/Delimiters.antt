-- The texts of delimiters.
use Rattle.std.specs.Prelude.{[], codes}
use Rattle.std.specs.String.{string_bytes}
use Rattle.minijinja_syntax.specs.Texts.{Text}
use Rattle.minijinja_syntax.specs.declared.delimiter.Standard.{Standard}
use Rattle.minijinja_syntax.specs.declared.delimiter.Standard.TheVariants as standard
use Rattle.minijinja_syntax.specs.declared.delimiter.Delimiter.{Delimiter}
use Rattle.minijinja_syntax.specs.declared.delimiter.Delimiter.TheVariants as delimiter

-- what each is in Jinja2; a prefix that is off is empty
abbrev pub standard_text : Standard → Text
standard_text standard.BlockStart = codes "{%"
standard_text standard.BlockEnd = codes "%}"
standard_text standard.VariableStart = codes "{{"
standard_text standard.VariableEnd = codes "}}"
standard_text standard.CommentStart = codes "{#"
standard_text standard.CommentEnd = codes "#}"
standard_text standard.Off = []

unfoldable pub delimiter_text : Delimiter → Text
delimiter_text (delimiter.Standard s) = standard_text s
delimiter_text (delimiter.Owned t) = string_bytes t
