-- The line that tells why a run fails.
use Rattle.std.specs.Prelude.{◌++◌, codes}
use Rattle.std.specs.Fmt.{decimal}
use Rattle.minijinja_syntax.specs.Texts.{Text}
use Rattle.minijinja_syntax.specs.declared.error.ErrorKind.{ErrorKind}
use Rattle.minijinja_syntax.specs.declared.error.ErrorKind.TheVariants.{InvalidDelimiter, SyntaxError, BadEscape, OutOfMemory, SourceTooLong, TooManyInstructions}
use Rattle.mjc_commands.specs.declared.failure.Failure.{Failure}
use Rattle.mjc_commands.specs.declared.failure.Failure.TheVariants.{Usage, CannotRead, Refused, BadAnswer, CannotWrite}

-- the name of a kind
abbrev pub kind_word : ErrorKind → Text
kind_word InvalidDelimiter = codes "InvalidDelimiter"
kind_word SyntaxError = codes "SyntaxError"
kind_word BadEscape = codes "BadEscape"
kind_word OutOfMemory = codes "OutOfMemory"
kind_word SourceTooLong = codes "SourceTooLong"
kind_word TooManyInstructions = codes "TooManyInstructions"

-- a refusal has its line, counted from 1, and its column, counted from 0
abbrev pub failure_words : Failure → Text
failure_words Usage = codes "usage: mjc tokens|code|names|lint|replay [OPTION..] FILE [ANSWERS], mjc expr TEXT"
failure_words (CannotRead path) = codes "mjc: cannot read " ++ path.now
failure_words (Refused kind line column) = codes "mjc: " ++ kind_word kind ++ codes " at " ++ decimal line ++ codes ":" ++ decimal column
failure_words (BadAnswer line) = codes "mjc: bad answer on line " ++ decimal line
failure_words CannotWrite = codes "mjc: cannot write"
