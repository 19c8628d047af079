use Rattle.minijinja_grammar.proofs.DepthRows.{expr_rows, stmt_rows}
use Rattle.minijinja_grammar.proofs.laws.rows_are_bounded.Goals as goal

pub returns-clause-expressions : goal.returns-clause-expressions
returns-clause-expressions g c = expr_rows g.V.TemplateValue.functions

pub returns-clause-statements : goal.returns-clause-statements
returns-clause-statements g c = stmt_rows g.V.TemplateValue.functions
