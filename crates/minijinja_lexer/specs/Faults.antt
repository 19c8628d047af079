-- Why a text is refused, and of which kind the refusal is.
use Rattle.minijinja_syntax.specs.declared.error.ErrorKind.{ErrorKind}
use Rattle.minijinja_syntax.specs.declared.error.ErrorKind.TheVariants as kind

pub data LexFault : Type 0 where
  UnexpectedCharacter : LexFault
  UnterminatedString : LexFault
  -- a string has an escape that means nothing
  BadEscape : LexFault
  -- a number has no digits
  MissingDigits : LexFault
  -- a number has a digit that its radix does not have
  DigitOutOfRange : LexFault
  -- a number ends in an underscore
  TrailingUnderscore : LexFault
  IntegerTooLarge : LexFault
  FloatLiteral : LexFault
  UnclosedComment : LexFault
  UnclosedRaw : LexFault
  -- text stands after the end of an expression
  TextGoesOn : LexFault

-- a bad escape has a kind of its own
abbrev pub fault_kind : LexFault → ErrorKind
fault_kind BadEscape = kind.BadEscape
fault_kind _ = kind.SyntaxError
