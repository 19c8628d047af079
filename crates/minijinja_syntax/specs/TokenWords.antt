-- The words for a token in a message.
use Rattle.std.specs.Prelude.{codes}
use Rattle.minijinja_syntax.specs.Texts.{Text}
use Rattle.minijinja_syntax.specs.declared.tokens.Token.{Token}
use Rattle.minijinja_syntax.specs.declared.tokens.Token.TheVariants.{TemplateData, VariableStart, VariableEnd, BlockStart, BlockEnd, Ident, Str, String, Int, Int128, Plus, Minus, Mul, Div, FloorDiv, Pow, Mod, Dot, Comma, Colon, Tilde, Assign, Pipe, Eq, Ne, Gt, Gte, Lt, Lte, BracketOpen, BracketClose, ParenOpen, ParenClose, BraceOpen, BraceClose}

-- what a message calls a token: its kind in words, or its mark between backticks
abbrev pub token_words : Token → Text
token_words (TemplateData t) = codes "template-data"
token_words VariableStart = codes "start of variable block"
token_words VariableEnd = codes "end of variable block"
token_words BlockStart = codes "start of block"
token_words BlockEnd = codes "end of block"
token_words (Ident t) = codes "identifier"
token_words (Str t) = codes "string"
token_words (String t) = codes "string"
token_words (Int n) = codes "integer"
token_words (Int128 n) = codes "integer"
token_words Plus = codes "`+`"
token_words Minus = codes "`-`"
token_words Mul = codes "`*`"
token_words Div = codes "`/`"
token_words FloorDiv = codes "`//`"
token_words Pow = codes "`**`"
token_words Mod = codes "`%`"
token_words Dot = codes "`.`"
token_words Comma = codes "`,`"
token_words Colon = codes "`:`"
token_words Tilde = codes "`~`"
token_words Assign = codes "`=`"
token_words Pipe = codes "`|`"
token_words Eq = codes "`==`"
token_words Ne = codes "`!=`"
token_words Gt = codes "`>`"
token_words Gte = codes "`>=`"
token_words Lt = codes "`<`"
token_words Lte = codes "`<=`"
token_words BracketOpen = codes "`[`"
token_words BracketClose = codes "`]`"
token_words ParenOpen = codes "`(`"
token_words ParenClose = codes "`)`"
token_words BraceOpen = codes "`{`"
token_words BraceClose = codes "`}`"
