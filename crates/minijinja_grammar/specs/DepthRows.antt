-- Rows of parts that count, and how long they may be.
use Rattle.std.specs.Prelude.{ℕ, zero, suc, List, [], ◌∷◌, ◌++◌, codes}
use Rattle.minijinja_syntax.specs.Texts.{Text}
use Rattle.minijinja_syntax.specs.Tokens.{Tok, ident, minus, pow, assign, block_start, block_end, bracket_open, bracket_close, paren_open, paren_close}
use Rattle.minijinja_syntax.specs.declared.tokens.Span.{Span}
use Rattle.minijinja_value.specs.Values.{Functions}
use Rattle.minijinja_tree.specs.Tree.{Expr, Stmt}
use Rattle.minijinja_grammar.specs.Words.{if_word, else_word, elif_word, endif_word, not_word}
use Rattle.minijinja_grammar.specs.Derived.{IsExprTree, IsTemplateTree}
use Rattle.minijinja_grammar.specs.Examples.{text_place, x_word, HasNoExpr, HasNoStmts}

-- the first tokens, repeated, before the second ones
abbrev pub times : ℕ → List Tok → List Tok → List Tok
times zero ts us = us
times (suc n) ts us = ts ++ times n ts us

-- `x` in parentheses
abbrev pub parentheses : ℕ → List Tok
parentheses n = times n (paren_open ∷ []) (x_word ∷ times n (paren_close ∷ []) [])

-- `x[x[..x..]]`
abbrev pub subscripts : ℕ → List Tok
subscripts n = times n (x_word ∷ bracket_open ∷ []) (x_word ∷ times n (bracket_close ∷ []) [])

-- `not not .. x`
abbrev pub nots : ℕ → List Tok
nots n = times n (not_word ∷ []) (x_word ∷ [])

-- `- - .. x`
abbrev pub minuses : ℕ → List Tok
minuses n = times n (minus ∷ []) (x_word ∷ [])

-- `x ** x ** .. x`
abbrev pub powers : ℕ → List Tok
powers n = times n (x_word ∷ pow ∷ []) (x_word ∷ [])

-- `x if x else x if x else .. x`
abbrev pub elses : ℕ → List Tok
elses n = times n (x_word ∷ if_word ∷ x_word ∷ else_word ∷ []) (x_word ∷ [])

-- `{% if x %}{% if x %}..{% endif %}{% endif %}`
abbrev pub ifs : ℕ → List Tok
ifs n = times n (block_start ∷ if_word ∷ x_word ∷ block_end ∷ []) (times n (block_start ∷ endif_word ∷ block_end ∷ []) [])

-- `{% if x %}{% elif x %}..{% endif %}`
abbrev pub elifs : ℕ → List Tok
elifs n = block_start ∷ if_word ∷ x_word ∷ block_end ∷
    times n (block_start ∷ elif_word ∷ x_word ∷ block_end ∷ []) (block_start ∷ endif_word ∷ block_end ∷ [])

-- `{% set x = x %}`, the first `x` in parentheses
abbrev pub targets : ℕ → List Tok
targets n = block_start ∷ ident (codes "set") ∷
    times n (paren_open ∷ []) (x_word ∷ times n (paren_close ∷ []) (assign ∷ x_word ∷ block_end ∷ []))

module _ {C F : Type 0} (f : Functions C F) where
  -- so long the row has a tree, and not with one more
  abbrev pub IsLongestExpr : (ℕ → List Tok) → ℕ → Type 0
  IsLongestExpr row n = ((source : Text) (s : Span) → (e : Expr C) × IsExprTree f (text_place source s (row n)) e) × HasNoExpr f (row (suc n))

  -- likewise of templates
  abbrev pub IsLongestStmt : (ℕ → List Tok) → ℕ → Type 0
  IsLongestStmt row n =
      ((source : Text) (s : Span) → (t : Stmt C (Unit {0})) × IsTemplateTree f (text_place source s (row n)) t) × HasNoStmts f (row (suc n))

  pub record ExprRows : Type 0 where
    -- each counts 2: an Expr and a Primary
    pub in_parentheses : IsLongestExpr parentheses 149
    pub in_subscripts : IsLongestExpr subscripts 298
    pub after_not : IsLongestExpr nots 298
    pub after_minus : IsLongestExpr minuses 298
    pub after_power : IsLongestExpr powers 298
    pub after_else : IsLongestExpr elses 298

  pub record StmtRows : Type 0 where
    pub in_if : IsLongestStmt ifs 299
    pub after_elif : IsLongestStmt elifs 298
    pub in_targets : IsLongestStmt targets 299
