use Rattle.minijinja_grammar.proofs.ExprExamples.{exprs_derived}
use Rattle.minijinja_grammar.proofs.StmtExamples.{stmts_derived}
use Rattle.minijinja_grammar.proofs.laws.derives.Goals as goal

pub returns-clause-expressions : goal.returns-clause-expressions
returns-clause-expressions g c = exprs_derived g.V.TemplateValue.functions

pub returns-clause-statements : goal.returns-clause-statements
returns-clause-statements g c = stmts_derived g.V.TemplateValue.functions
