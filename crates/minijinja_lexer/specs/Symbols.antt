-- The symbols inside a tag: which is at the front of a text, its token, and which are brackets.
use Rattle.std.specs.Prelude.{ℕ, ◌==◌, ◌&&◌, if◌then◌else◌, slice_index, Option, Some, None}
use Rattle.minijinja_syntax.specs.Texts.{Text}
use Rattle.minijinja_syntax.specs.Tokens.{Tok, plus, minus, mul, div, floor_div, pow, rem, dot, comma, colon, tilde, assign, pipe, eq, ne, gt, gte, lt, lte, bracket_open, bracket_close, paren_open, paren_close, brace_open, brace_close}

-- a token that is always written with the same bytes
pub data Symbol : Type 0 where
  -- + - * / // ** %
  Plus Minus Mul Div FloorDiv Pow Mod : Symbol
  -- . , : ~ = |
  Dot Comma Colon Tilde Assign Pipe : Symbol
  -- == != > >= < <=
  Eq Ne Gt Gte Lt Lte : Symbol
  -- [ ] ( ) { }
  BracketOpen BracketClose ParenOpen ParenClose BraceOpen BraceClose : Symbol

-- the symbol that two bytes write: // ** == != >= <=
abbrev pub long_symbol : ℕ → ℕ → Option Symbol
long_symbol b c =
    if b == 47 && c == 47 then Some FloorDiv  -- //
    else if b == 42 && c == 42 then Some Pow  -- **
    else if b == 61 && c == 61 then Some Eq  -- ==
    else if b == 33 && c == 61 then Some Ne  -- !=
    else if b == 62 && c == 61 then Some Gte  -- >=
    else if b == 60 && c == 61 then Some Lte  -- <=
    else None

-- the symbol that one byte writes: + - * / % . , : ~ | = > < ( ) [ ] { }
abbrev pub short_symbol : ℕ → Option Symbol
short_symbol b =
    if b == 43 then Some Plus  -- +
    else if b == 45 then Some Minus  -- -
    else if b == 42 then Some Mul  -- *
    else if b == 47 then Some Div  -- /
    else if b == 37 then Some Mod  -- %
    else if b == 46 then Some Dot  -- .
    else if b == 44 then Some Comma  -- ,
    else if b == 58 then Some Colon  -- :
    else if b == 126 then Some Tilde  -- ~
    else if b == 124 then Some Pipe  -- |
    else if b == 61 then Some Assign  -- =
    else if b == 62 then Some Gt  -- >
    else if b == 60 then Some Lt  -- <
    else if b == 40 then Some ParenOpen  -- (
    else if b == 41 then Some ParenClose  -- )
    else if b == 91 then Some BracketOpen  -- [
    else if b == 93 then Some BracketClose  -- ]
    else if b == 123 then Some BraceOpen  -- {
    else if b == 125 then Some BraceClose  -- }
    else None

-- the longer symbol, otherwise the shorter, with its length
abbrev pub longer_symbol : Option Symbol → Option Symbol → Option (Symbol × ℕ)
longer_symbol (Some s) shorter = Some (s, 2)
longer_symbol None (Some s) = Some (s, 1)
longer_symbol None None = None

-- the longest symbol at the front of a text, with its length
unfoldable pub symbol_front : Text → Option (Symbol × ℕ)
symbol_front text = longer_symbol (long_symbol (slice_index text 0) (slice_index text 1)) (short_symbol (slice_index text 0))

-- the token of a symbol
abbrev pub symbol_tok : Symbol → Tok
symbol_tok Plus = plus
symbol_tok Minus = minus
symbol_tok Mul = mul
symbol_tok Div = div
symbol_tok FloorDiv = floor_div
symbol_tok Pow = pow
symbol_tok Mod = rem
symbol_tok Dot = dot
symbol_tok Comma = comma
symbol_tok Colon = colon
symbol_tok Tilde = tilde
symbol_tok Assign = assign
symbol_tok Pipe = pipe
symbol_tok Eq = eq
symbol_tok Ne = ne
symbol_tok Gt = gt
symbol_tok Gte = gte
symbol_tok Lt = lt
symbol_tok Lte = lte
symbol_tok BracketOpen = bracket_open
symbol_tok BracketClose = bracket_close
symbol_tok ParenOpen = paren_open
symbol_tok ParenClose = paren_close
symbol_tok BraceOpen = brace_open
symbol_tok BraceClose = brace_close

-- 1 for a bracket of any kind that opens, otherwise 0
abbrev pub opens : Symbol → ℕ
opens BracketOpen = 1
opens ParenOpen = 1
opens BraceOpen = 1
opens _ = 0

-- 1 for a bracket of any kind that closes, otherwise 0
abbrev pub closes : Symbol → ℕ
closes BracketClose = 1
closes ParenClose = 1
closes BraceClose = 1
closes _ = 0
