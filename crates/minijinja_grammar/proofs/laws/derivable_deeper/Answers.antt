use Rattle.minijinja_grammar.proofs.Deeper.{deeper_IsExpr}
use Rattle.minijinja_grammar.proofs.StmtDeeper.{deeper_AreTargets, deeper_IsBody, deeper_IsStmt}
use Rattle.minijinja_grammar.proofs.laws.derivable_deeper.Goals as goal

pub returns-clause-expression : goal.returns-clause-expression
returns-clause-expression g c = λ source e d ts rest a. deeper_IsExpr g.V.TemplateValue.functions source a

pub returns-clause-targets : goal.returns-clause-targets
returns-clause-targets g c = λ dotted e d ts rest a. deeper_AreTargets a

pub returns-clause-statement : goal.returns-clause-statement
returns-clause-statement g c = λ source x y d ts rest a. deeper_IsStmt g.V.TemplateValue.functions source a

pub returns-clause-body : goal.returns-clause-body
returns-clause-body g c = λ source x w y d ts rest a. deeper_IsBody g.V.TemplateValue.functions source a
