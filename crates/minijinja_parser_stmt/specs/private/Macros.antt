-- Arguments of macros, one by one.
use Rattle.std.specs.Prelude.{Bool, List, [], Option}
use Rattle.minijinja_syntax.specs.Tokens.{paren_open}
use Rattle.minijinja_tree.specs.SpannedTrees.{Expr}
use Rattle.minijinja_grammar.specs.Words.{is_identifier}
use Rattle.minijinja_grammar.specs.internal.Forms.{Form, pure, ◌>>=◌}
use Rattle.minijinja_grammar.specs.internal.ExprForms.{behind, items}
use Rattle.minijinja_grammar.specs.internal.StmtForms.{default_of, param, params}
use Rattle.minijinja_grammar.specs.internal.TargetForms.{stored_name}

-- an argument and its default, which it may have to have
abbrev pub param_at : {C : Type 0} → Form (Expr C) → Bool → Form (Expr C × Option (Expr C))
param_at expr has_to_have = stored_name >>= (λ e. default_of expr has_to_have >>= (λ d. pure (e, d)))

-- [ Param { , Param } [,] ], after those so far
abbrev pub param_items : {C : Type 0} → Form (Expr C) → List (Expr C × Option (Expr C)) → Form (List (Expr C × Option (Expr C)))
param_items expr = items is_identifier (param expr)

-- [ ( Params ) ]
abbrev pub params_if_any : {C : Type 0} → Form (Expr C) → Form (List (Expr C × Option (Expr C)))
params_if_any expr = behind paren_open (params expr) (pure [])
