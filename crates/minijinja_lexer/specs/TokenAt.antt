-- One token inside a tag: its sort and where it stops, or why and where it is refused.
use Rattle.std.specs.Prelude.{ℕ, ◌+◌, ◌-◌, ◌^◌, Bool, ◌&&◌, nat_lt, ◌==◌, if◌then◌else◌, drop, slice_index, Option, Some, None, Result, Ok, Err}
use Rattle.std.specs.Char.{is_ascii_digit}
use Rattle.std.specs.Str.{chars}
use Rattle.minijinja_syntax.specs.Texts.{Text}
use Rattle.minijinja_lexer.specs.Bytes.{period}
use Rattle.minijinja_lexer.specs.Symbols.{symbol_front}
use Rattle.minijinja_lexer.specs.Names.{begins_name, name_len}
use Rattle.minijinja_lexer.specs.Numbers.{number}
use Rattle.minijinja_lexer.specs.Quoted.{is_quote, quoted}
use Rattle.minijinja_lexer.specs.Symbols as symbol
use Rattle.minijinja_lexer.specs.Sorts.{Sort, Ident, Int, Int128, Symbol}
use Rattle.minijinja_lexer.specs.Faults.{LexFault, UnexpectedCharacter}

-- an identifier at the front; what begins none is refused where it stands
abbrev pub name : Text → Result (Sort × ℕ) (LexFault × ℕ)
name text = if begins_name (chars text) then Ok (Ident, name_len (chars text)) else Err (UnexpectedCharacter, 0)

-- an integer under 2 ^ 64, and one from there on
abbrev pub int_sort : ℕ → Sort
int_sort value = if nat_lt value (2 ^ 64) then Int value else Int128 value

-- an integer and its length, or its refusal
abbrev pub integer : Result (ℕ × ℕ) (LexFault × ℕ) → Result (Sort × ℕ) (LexFault × ℕ)
integer (Ok n) = Ok (int_sort n.0, n.1)
integer (Err f) = Err f

-- a string, a number or an identifier at the front
abbrev pub word_front : Bool → Text → Result (Sort × ℕ) (LexFault × ℕ)
word_front behind_dot text =
    if is_quote (slice_index text 0) then quoted text
    else if is_ascii_digit (slice_index text 0) then integer (number behind_dot text)
    else name text

-- the symbol, or what stands there where it is none
abbrev pub symbol_or : Option (symbol.Symbol × ℕ) → Result (Sort × ℕ) (LexFault × ℕ) → Result (Sort × ℕ) (LexFault × ℕ)
symbol_or (Some s) other = Ok (Symbol s.0, s.1)
symbol_or None other = other

-- The token at the front and its length, or why it is refused and after how many bytes.
-- `behind_dot` says whether a dot stands right before it.
unfoldable pub token_front : Bool → Text → Result (Sort × ℕ) (LexFault × ℕ)
token_front behind_dot text = symbol_or (symbol_front text) (word_front behind_dot text)

-- a dot stands right before the place
abbrev pub is_behind_dot : Text → ℕ → Bool
is_behind_dot text at = nat_lt 0 at && slice_index text (at - 1) == period

-- lengths from a place on are places
abbrev pub placed : ℕ → Result (Sort × ℕ) (LexFault × ℕ) → Result (Sort × ℕ) (LexFault × ℕ)
placed at (Ok t) = Ok (t.0, at + t.1)
placed at (Err f) = Err (f.0, at + f.1)

-- the token at a place and where it stops, or why and where it is refused
unfoldable pub token_at : Text → ℕ → Result (Sort × ℕ) (LexFault × ℕ)
token_at text at = placed at (token_front (is_behind_dot text at) (drop at text))
