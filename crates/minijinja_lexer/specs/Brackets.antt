-- How many brackets a token opens and shuts.
use Rattle.std.specs.Prelude.{ℕ}
use Rattle.minijinja_lexer.specs.Symbols.{opens, closes}
use Rattle.minijinja_lexer.specs.Sorts.{Sort, Symbol}

-- 1 for a bracket that opens, otherwise 0
abbrev pub opened_by : Sort → ℕ
opened_by (Symbol x) = opens x
opened_by _ = 0

-- 1 for a bracket that closes, otherwise 0
abbrev pub shut_by : Sort → ℕ
shut_by (Symbol x) = closes x
shut_by _ = 0
