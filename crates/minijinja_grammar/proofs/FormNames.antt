-- Names for parts of forms of statements.
use Rattle.std.specs.Prelude.{Bool, true, false, List, [], ◌∷◌, ◌++◌, Option, Some}
use Rattle.minijinja_syntax.specs.declared.tokens.Span.{Span}
use Rattle.minijinja_syntax.specs.Tokens.{Tok, paren_open}
use Rattle.minijinja_tree.specs.SpannedTrees.{Expr}
use Rattle.minijinja_grammar.specs.Words.{is_identifier}
use Rattle.minijinja_grammar.specs.internal.Forms.{Form, Turn, go_on, pure, ◌>>=◌}
use Rattle.minijinja_grammar.specs.internal.ExprForms.{behind, items}
use Rattle.minijinja_grammar.specs.internal.StmtForms.{binding, chained, param, params}

-- a word that may be there, and whether it is
abbrev pub word_if_any : Tok → Form Bool
word_if_any word = behind word (pure true) (pure false)

module _ {C : Type 0} (expr : Form (Expr C)) where
  -- | Name [Args], after its |
  abbrev pub chain_turn : Expr C → Span → Form (Turn (Expr C))
  chain_turn e at = chained expr (Some e) >>= (λ x. pure (go_on x))

  -- , With, after its comma
  abbrev pub binding_turn : Form (Expr C) → List (Expr C × Expr C) → Span → Form (Turn (List (Expr C × Expr C)))
  binding_turn bound bs at = binding bound expr >>= (λ b. pure (go_on (bs ++ b ∷ [])))

  -- [ Param { , Param } [,] ], after those so far
  abbrev pub param_items : List (Expr C × Option (Expr C)) → Form (List (Expr C × Option (Expr C)))
  param_items = items is_identifier (param expr)

  -- [ ( Params ) ]
  abbrev pub params_if_any : Form (List (Expr C × Option (Expr C)))
  params_if_any = behind paren_open (params expr) (pure [])
