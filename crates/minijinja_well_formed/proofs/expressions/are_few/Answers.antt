use Rattle.std.proofs.Common.{sym, ap}
use Rattle.std.specs.Prelude.{nat_le}
use Rattle.minijinja_tree_expr.specs.WellFormed.{most_arguments}
use Rattle.minijinja_well_formed.proofs.WellFormedCounts.{args-counted}
use Rattle.minijinja_well_formed.proofs.expressions.are_few.Goals as goal

pub returns : goal.returns
returns g c = ap (λ n. nat_le n most_arguments) (sym (args-counted {F = g.row.V-Fault.Denot} g.V.TemplateValue.contents c.args.args.now))
