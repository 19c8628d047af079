-- The form of templates.
use Rattle.std.specs.Prelude.{ℕ}
use Rattle.minijinja_value.specs.Values.{Functions}
use Rattle.minijinja_tree.specs.SpannedTrees.{Stmt, template, stmts_of}
use Rattle.minijinja_grammar.specs.internal.Forms.{Form, last, ◌>>=◌}
use Rattle.minijinja_grammar.specs.internal.ExprForms.{spanned, expr_at}
use Rattle.minijinja_grammar.specs.internal.StmtForms.{body, stmt_at}
use Rattle.minijinja_grammar.specs.Statements.{outside, at_end_of_text}

-- Template = { Data | {{ Expr }} | {% Stmt %} }
unfoldable pub template_at : {C F : Type 0} → Functions C F → ℕ → Form (Stmt C)
template_at f d = do
  from ← last
  ss ← body (expr_at f d) (stmt_at f outside d) at_end_of_text
  spanned from (template (stmts_of ss))
