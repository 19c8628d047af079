-- What sort of token stands in a tag.
use Rattle.std.specs.Prelude.{ℕ}
use Rattle.minijinja_lexer.specs.Symbols as symbol

pub data Sort : Type 0 where
  -- an identifier
  Ident : Sort
  -- a string without escapes
  Str : Sort
  -- a string with escapes
  String : Sort
  -- an integer under 2 ^ 64, and one from there on
  Int : ℕ → Sort
  Int128 : ℕ → Sort
  Symbol : symbol.Symbol → Sort
