-- The code's own types, as definitions see them.
use Rattle.std.specs.Prelude.{ℕ, Option, Result, Ok, Err}
use Rattle.std.specs.Option.{option_map}
use Rattle.minijinja_lexer.specs.Controls as control
use Rattle.minijinja_lexer.specs.Faults as fault
use Rattle.minijinja_lexer.specs.Symbols as symbol
use Rattle.minijinja_lexer.specs.Sorts as sort
use Rattle.minijinja_lexer.specs.Tags as tag
use Rattle.minijinja_lexer.specs.TagParts as part
use Rattle.minijinja_lexer.specs.RawBlocks as block
use Rattle.minijinja_lexer.specs.declared.fault.LexFault.{LexFault}
use Rattle.minijinja_lexer.specs.declared.fault.LexFault.TheVariants.{UnexpectedCharacter, UnterminatedString, BadEscape, MissingDigits, DigitOutOfRange, TrailingUnderscore, IntegerTooLarge, FloatLiteral, UnclosedComment, UnclosedRaw, TextGoesOn}
use Rattle.minijinja_lexer.specs.declared.raw.RawBlock.{RawBlock}
use Rattle.minijinja_lexer.specs.declared.scan.Sort.{Sort}
use Rattle.minijinja_lexer.specs.declared.scan.Sort.TheVariants.{Ident, Str, String, Int, Int128, Symbol}
use Rattle.minijinja_lexer.specs.declared.symbol.Symbol as symbols
use Rattle.minijinja_lexer.specs.declared.symbol.Symbol.TheVariants.{Plus, Minus, Mul, Div, FloorDiv, Pow, Mod, Dot, Comma, Colon, Tilde, Assign, Pipe, Eq, Ne, Gt, Gte, Lt, Lte, BracketOpen, BracketClose, ParenOpen, ParenClose, BraceOpen, BraceClose}
use Rattle.minijinja_lexer.specs.declared.tag_part.Close.{Close}
use Rattle.minijinja_lexer.specs.declared.tag_part.Close.TheVariants.{Closed, Broken, Refused}
use Rattle.minijinja_lexer.specs.declared.tag_part.Lexeme.{Lexeme}
use Rattle.minijinja_lexer.specs.declared.tag_part.Tag.{Tag}
use Rattle.minijinja_lexer.specs.declared.tag_part.Tag.TheVariants.{Variable, Block, Line}
use Rattle.minijinja_lexer.specs.declared.tag_part.TagPart.{TagPart}
use Rattle.minijinja_lexer.specs.declared.tag_part.TagPart.TheVariants.{Token, End}
use Rattle.minijinja_lexer.specs.declared.whitespace.Control.{Control}
use Rattle.minijinja_lexer.specs.declared.whitespace.Control.TheVariants.{Absent, Remove, Preserve}

abbrev pub control_view : Control → control.Control
control_view Absent = control.Absent
control_view Remove = control.Remove
control_view Preserve = control.Preserve

-- the control of a tag's end, and where that ends
abbrev pub end_view : Option (Control × ℕ) → Option (control.Control × ℕ)
end_view end = option_map (λ (e : Control × ℕ). (control_view e.0, e.1)) end

-- where an endraw tag begins, the control at its end, and where it ends
abbrev pub endraw_view : Option (ℕ × Control × ℕ) → Option (ℕ × control.Control × ℕ)
endraw_view end = option_map (λ (e : ℕ × Control × ℕ). (e.0, control_view e.1, e.2)) end

abbrev pub fault_view : LexFault → fault.LexFault
fault_view UnexpectedCharacter = fault.UnexpectedCharacter
fault_view UnterminatedString = fault.UnterminatedString
fault_view BadEscape = fault.BadEscape
fault_view MissingDigits = fault.MissingDigits
fault_view DigitOutOfRange = fault.DigitOutOfRange
fault_view TrailingUnderscore = fault.TrailingUnderscore
fault_view IntegerTooLarge = fault.IntegerTooLarge
fault_view FloatLiteral = fault.FloatLiteral
fault_view UnclosedComment = fault.UnclosedComment
fault_view UnclosedRaw = fault.UnclosedRaw
fault_view TextGoesOn = fault.TextGoesOn

abbrev pub symbol_view : symbols.Symbol → symbol.Symbol
symbol_view Plus = symbol.Plus
symbol_view Minus = symbol.Minus
symbol_view Mul = symbol.Mul
symbol_view Div = symbol.Div
symbol_view FloorDiv = symbol.FloorDiv
symbol_view Pow = symbol.Pow
symbol_view Mod = symbol.Mod
symbol_view Dot = symbol.Dot
symbol_view Comma = symbol.Comma
symbol_view Colon = symbol.Colon
symbol_view Tilde = symbol.Tilde
symbol_view Assign = symbol.Assign
symbol_view Pipe = symbol.Pipe
symbol_view Eq = symbol.Eq
symbol_view Ne = symbol.Ne
symbol_view Gt = symbol.Gt
symbol_view Gte = symbol.Gte
symbol_view Lt = symbol.Lt
symbol_view Lte = symbol.Lte
symbol_view BracketOpen = symbol.BracketOpen
symbol_view BracketClose = symbol.BracketClose
symbol_view ParenOpen = symbol.ParenOpen
symbol_view ParenClose = symbol.ParenClose
symbol_view BraceOpen = symbol.BraceOpen
symbol_view BraceClose = symbol.BraceClose

abbrev pub sort_view : Sort → sort.Sort
sort_view Ident = sort.Ident
sort_view Str = sort.Str
sort_view String = sort.String
sort_view (Int n) = sort.Int n
sort_view (Int128 n) = sort.Int128 n
sort_view (Symbol s) = sort.Symbol (symbol_view s)

abbrev pub tag_view : Tag → tag.Tag
tag_view Variable = tag.Variable
tag_view Block = tag.Block
tag_view Line = tag.Line

abbrev pub lexeme_view : Lexeme → part.Lexeme
lexeme_view l = record { start = l.start; stop = l.stop; sort = sort_view l.sort }

abbrev pub close_view : Close → part.Close
close_view (Closed start stop after) = part.Closed start stop after
close_view Broken = part.Broken
close_view (Refused f start place) = part.Refused (fault_view f) start place

abbrev pub tag_part_view : TagPart → part.TagPart
tag_part_view (Token l) = part.Token (lexeme_view l)
tag_part_view (End close) = part.End (close_view close)

abbrev pub raw_block_view : RawBlock → block.RawBlock
raw_block_view b = record { begin = b.begin; start = b.start; stop = b.stop; end = b.end; after = b.after }

-- a value, or why it is refused
abbrev pub value_view : Result ℕ LexFault → Result ℕ fault.LexFault
value_view (Ok n) = Ok n
value_view (Err f) = Err (fault_view f)

-- a number and its length, or why and where it is refused
abbrev pub number_view : Result (ℕ × ℕ) (LexFault × ℕ) → Result (ℕ × ℕ) (fault.LexFault × ℕ)
number_view (Ok n) = Ok n
number_view (Err f) = Err (fault_view f.0, f.1)

-- a token and where it stops, or why and where it is refused
abbrev pub scan_view : Result (Sort × ℕ) (LexFault × ℕ) → Result (sort.Sort × ℕ) (fault.LexFault × ℕ)
scan_view (Ok t) = Ok (sort_view t.0, t.1)
scan_view (Err f) = Err (fault_view f.0, f.1)
