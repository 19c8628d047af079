-- Tokens without where their texts lie in memory.
use Rattle.std.specs.Prelude.{ℕ}
use Rattle.std.specs.String.{string_bytes}
use Rattle.minijinja_syntax.specs.Texts.{Text}
use Rattle.minijinja_syntax.specs.declared.tokens.Token.{Token}
use Rattle.minijinja_syntax.specs.declared.tokens.Token.TheVariants.{TemplateData, VariableStart, VariableEnd, BlockStart, BlockEnd, Ident, Str, String, Int, Int128, Plus, Minus, Mul, Div, FloorDiv, Pow, Mod, Dot, Comma, Colon, Tilde, Assign, Pipe, Eq, Ne, Gt, Gte, Lt, Lte, BracketOpen, BracketClose, ParenOpen, ParenClose, BraceOpen, BraceClose}

-- a token with its text, as bytes, or its number
pub data Tok : Type 0 where
  template_data : Text → Tok
  variable_start variable_end block_start block_end : Tok
  ident : Text → Tok
  -- a string without escapes, and a decoded one
  str : Text → Tok
  string : Text → Tok
  -- an integer under 2 ^ 64, and one from there on
  int : ℕ → Tok
  int128 : ℕ → Tok
  plus minus mul div floor_div pow rem dot comma colon tilde assign pipe eq ne gt gte lt lte bracket_open bracket_close paren_open paren_close brace_open brace_close : Tok

-- the token that a `Token` is
abbrev pub tok_of : Token → Tok
tok_of (TemplateData t) = template_data t.now
tok_of VariableStart = variable_start
tok_of VariableEnd = variable_end
tok_of BlockStart = block_start
tok_of BlockEnd = block_end
tok_of (Ident t) = ident t.now
tok_of (Str t) = str t.now
tok_of (String t) = string (string_bytes t)
tok_of (Int n) = int n
tok_of (Int128 n) = int128 n.value
tok_of Plus = plus
tok_of Minus = minus
tok_of Mul = mul
tok_of Div = div
tok_of FloorDiv = floor_div
tok_of Pow = pow
tok_of Mod = rem
tok_of Dot = dot
tok_of Comma = comma
tok_of Colon = colon
tok_of Tilde = tilde
tok_of Assign = assign
tok_of Pipe = pipe
tok_of Eq = eq
tok_of Ne = ne
tok_of Gt = gt
tok_of Gte = gte
tok_of Lt = lt
tok_of Lte = lte
tok_of BracketOpen = bracket_open
tok_of BracketClose = bracket_close
tok_of ParenOpen = paren_open
tok_of ParenClose = paren_close
tok_of BraceOpen = brace_open
tok_of BraceClose = brace_close
