use Rattle.std.proofs.Common.{sym}
use Rattle.minijinja_well_formed.proofs.WellFormedCounts.{other-variable}
use Rattle.minijinja_well_formed.proofs.expressions.is_variable.Goals as goal

pub returns-in_default : goal.returns-in_default
returns-in_default g c = sym (other-variable {F = g.row.V-Fault.Denot} g.V.TemplateValue.contents c.args.expr.now c.in_default.not-Var)
