-- The words of refusals.
use Rattle.std.specs.Prelude.{codes, ◌++◌}
use Rattle.std.specs.Fmt.{decimal}
use Rattle.minijinja_syntax.specs.Texts.{Text}
use Rattle.minijinja_syntax.specs.TokenWords.{token_words}
use Rattle.minijinja_syntax.specs.declared.tokens.Token.TheVariants as token
use Rattle.minijinja_syntax.specs.declared.error.BodyStatement.{BodyStatement}
use Rattle.minijinja_syntax.specs.declared.error.BodyStatement.TheVariants as body
use Rattle.minijinja_syntax.specs.declared.error.OpenStatement.{OpenStatement}
use Rattle.minijinja_syntax.specs.declared.error.Expected.{Expected}
use Rattle.minijinja_syntax.specs.declared.error.Expected.TheVariants as expected
use Rattle.minijinja_syntax.specs.declared.error.Found.{Found}
use Rattle.minijinja_syntax.specs.declared.error.Found.TheVariants as found
use Rattle.minijinja_syntax.specs.declared.error.Detail.{Detail}
use Rattle.minijinja_syntax.specs.declared.error.Detail.TheVariants as detail

-- the word that a statement with a body begins with
abbrev pub body_words : BodyStatement → Text
body_words body.For = codes "for"
body_words body.If = codes "if"
body_words body.With = codes "with"
body_words body.Set = codes "set"
body_words body.AutoEscape = codes "autoescape"
body_words body.Filter = codes "filter"
body_words body.Block = codes "block"
body_words body.Macro = codes "macro"
body_words body.Call = codes "call"

-- as `endif for the if of line 3`
abbrev pub open_words : OpenStatement → Text
open_words o = codes "end" ++ body_words o.statement ++ codes " for the " ++ body_words o.statement ++ codes " of line " ++ decimal o.line

-- what a text should have gone on with
abbrev pub expected_words : Expected → Text
expected_words expected.Expression = codes "expression"
expected_words expected.Identifier = codes "identifier"
expected_words expected.String = codes "string"
expected_words expected.BlockKeyword = codes "block keyword"
expected_words expected.Part = codes "template data or the start of a tag"
expected_words expected.End = codes "end of input"
expected_words expected.CommentEnd = codes "end of comment"
expected_words expected.RawBlockEnd = codes "end of raw block"
expected_words expected.EndFor = codes "`endfor`"
expected_words expected.EndIf = codes "`endif`"
expected_words expected.EndWith = codes "`endwith`"
expected_words expected.EndSet = codes "`endset`"
expected_words expected.EndAutoEscape = codes "`endautoescape`"
expected_words expected.EndFilter = codes "`endfilter`"
expected_words expected.EndBlock = codes "`endblock`"
expected_words expected.EndMacro = codes "`endmacro`"
expected_words expected.EndCall = codes "`endcall`"
expected_words expected.If = codes "`if`"
expected_words expected.Elif = codes "`elif`"
expected_words expected.Else = codes "`else`"
expected_words expected.Recursive = codes "`recursive`"
expected_words expected.As = codes "`as`"
expected_words expected.Import = codes "`import`"
expected_words expected.Scoped = codes "`scoped`"
expected_words expected.Required = codes "`required`"
expected_words expected.Ignore = codes "`ignore`"
expected_words expected.Missing = codes "`missing`"
expected_words expected.Context = codes "`context`"
expected_words expected.Not = codes "`not`"
expected_words expected.In = codes "`in`"
expected_words expected.Is = codes "`is`"
expected_words expected.Dot = token_words token.Dot
expected_words expected.Comma = token_words token.Comma
expected_words expected.Colon = token_words token.Colon
expected_words expected.Assign = token_words token.Assign
expected_words expected.Pipe = token_words token.Pipe
expected_words expected.Minus = token_words token.Minus
expected_words expected.Mul = token_words token.Mul
expected_words expected.Pow = token_words token.Pow
expected_words expected.ParenOpen = token_words token.ParenOpen
expected_words expected.ParenClose = token_words token.ParenClose
expected_words expected.BracketOpen = token_words token.BracketOpen
expected_words expected.BracketClose = token_words token.BracketClose
expected_words expected.BraceOpen = token_words token.BraceOpen
expected_words expected.BraceClose = token_words token.BraceClose
expected_words expected.VariableEnd = token_words token.VariableEnd
expected_words expected.BlockEnd = token_words token.BlockEnd

-- what stands there in its place
abbrev pub found_words : Found → Text
found_words found.String = codes "string"
found_words found.TemplateData = codes "template data"
found_words found.VariableStart = token_words token.VariableStart
found_words found.VariableEnd = token_words token.VariableEnd
found_words found.BlockStart = token_words token.BlockStart
found_words found.BlockEnd = token_words token.BlockEnd

-- what exactly is wrong
abbrev pub detail_words : Detail → Text
detail_words detail.InvalidDelimiter = codes "invalid delimiter"
detail_words detail.UnexpectedCharacter = codes "unexpected character"
detail_words detail.UnterminatedString = codes "unexpected end of string"
detail_words detail.BadEscape = codes "invalid string escape"
detail_words detail.MissingDigits = codes "a number has no digits"
detail_words detail.DigitOutOfRange = codes "a digit is out of the number's radix"
detail_words detail.TrailingUnderscore = codes "'_' may not occur at end of number"
detail_words detail.IntegerTooLarge = codes "integer too large"
detail_words detail.FloatLiteral = codes "float literals are not supported"
detail_words (detail.UnexpectedEnd wanted) = codes "unexpected end of input, expected " ++ expected_words wanted
detail_words (detail.UnexpectedToken wanted text) = codes "unexpected `" ++ text.now ++ codes "`, expected " ++ expected_words wanted
detail_words (detail.Unexpected kind wanted) = codes "unexpected " ++ found_words kind ++ codes ", expected " ++ expected_words wanted
detail_words (detail.Unclosed o) = codes "unexpected end of input, expected " ++ open_words o
detail_words (detail.WrongEnd o word) = codes "expected " ++ open_words o ++ codes ", found " ++ word.now
detail_words (detail.StrayEnd word) = codes "unexpected " ++ word.now ++ codes ", no statement is open"
detail_words (detail.UnknownStatement word) = codes "unknown statement " ++ word.now
detail_words (detail.ReservedName name) = codes "cannot assign to reserved name " ++ name.now
detail_words detail.NotATarget = codes "cannot assign to this expression"
detail_words detail.TooDeep = codes "template exceeds maximum recursion limits"
detail_words detail.TooManyArguments = codes "too many arguments in function call"
detail_words detail.PlainAfterKeyword = codes "non-keyword arg after keyword arg"
detail_words (detail.OutsideLoop word) = codes "'" ++ word.now ++ codes "' must be placed inside a loop"
detail_words detail.NotACall = codes "expected call expression"
detail_words (detail.DuplicateBlock name) = codes "block " ++ name.now ++ codes " is defined twice"
detail_words detail.BlockInMacro = codes "a block cannot stand in a macro"
detail_words detail.FilledRequiredBlock = codes "a required block has to be blank"
detail_words (detail.OtherBlockName name) = codes "endblock names another block, " ++ name.now
detail_words (detail.PrivateName name) = codes "cannot import private name " ++ name.now
detail_words detail.OutOfMemory = codes "out of memory"
detail_words detail.SourceTooLong = codes "source too long"
detail_words detail.TooManyInstructions = codes "too many instructions"
