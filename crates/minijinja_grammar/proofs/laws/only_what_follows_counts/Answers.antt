use Rattle.minijinja_grammar.specs.Expressions.{IsExpr}
use Rattle.minijinja_grammar.specs.Statements.{IsBody, IsStmt}
use Rattle.minijinja_grammar.specs.Targets.{AreTargets}
use Rattle.minijinja_grammar.proofs.Stretches.{moved_IsExpr, only_next}
use Rattle.minijinja_grammar.proofs.StmtStretches.{moved_AreTargets, moved_IsBody, moved_IsStmt}
use Rattle.minijinja_grammar.proofs.laws.only_what_follows_counts.Goals as goal

pub returns-clause-expression : goal.returns-clause-expression
returns-clause-expression g c = λ source d e. only_next (λ ts rest. IsExpr g.V.TemplateValue.functions source d ts rest e)
    (λ ts rest others a h. moved_IsExpr g.V.TemplateValue.functions source a others h)

pub returns-clause-targets : goal.returns-clause-targets
returns-clause-targets g c = λ dotted d e. only_next (λ ts rest. AreTargets dotted d ts rest e)
    (λ ts rest others a h. moved_AreTargets a others h)

pub returns-clause-statement : goal.returns-clause-statement
returns-clause-statement g c = λ source x d y. only_next (λ ts rest. IsStmt g.V.TemplateValue.functions source x d ts rest y)
    (λ ts rest others a h. moved_IsStmt g.V.TemplateValue.functions source a others h)

pub returns-clause-body : goal.returns-clause-body
returns-clause-body g c = λ source x w d y. only_next (λ ts rest. IsBody g.V.TemplateValue.functions source x w d ts rest y)
    (λ ts rest others a h. moved_IsBody g.V.TemplateValue.functions source a others h)
