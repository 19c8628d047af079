-- Neighbouring strings.
use Rattle.std.specs.Prelude.{◌≡◌, ◌++◌, Option, Some, None}
use Rattle.minijinja_syntax.specs.Texts.{Text}
use Rattle.minijinja_syntax.specs.Tokens.{Tok}
use Rattle.minijinja_grammar.specs.Words.{text_of}

abbrev pub added : Text → Option Text → Text
added t None = t
added t (Some u) = t ++ u

-- the text of the string follows, if it is one
abbrev pub Joins : Tok → Text → Text → Type 0
Joins token old new = new ≡ added old (text_of token)
