use Rattle.minijinja_well_formed.proofs.WellFormedCounts.{chain-counted}
use Rattle.minijinja_well_formed.proofs.expressions.has_two.Goals as goal

pub returns : goal.returns
returns g c = chain-counted {F = g.row.V-Fault.Denot} g.V.TemplateValue.contents c.args.comparisons.now
