use Rattle.minijinja_grammar.proofs.ExprRefusals.{exprs_refused}
use Rattle.minijinja_grammar.proofs.StmtRefusals.{stmts_refused}
use Rattle.minijinja_grammar.proofs.laws.refuses.Goals as goal

pub returns-clause-expressions : goal.returns-clause-expressions
returns-clause-expressions g c = exprs_refused g.V.TemplateValue.functions

pub returns-clause-statements : goal.returns-clause-statements
returns-clause-statements g c = stmts_refused g.V.TemplateValue.functions
