use Rattle.std.proofs.Common.{sym, ap₂}
use Rattle.std.specs.Prelude.{◌==◌}
use Rattle.minijinja_well_formed.proofs.WellFormedCounts.{exprs-counted}
use Rattle.minijinja_well_formed.proofs.expressions.are_as_many.Goals as goal

pub returns : goal.returns
returns g c = ap₂ ◌==◌
    (sym (exprs-counted {F = g.row.V-Fault.Denot} g.V.TemplateValue.contents c.args.keys.now))
    (sym (exprs-counted {F = g.row.V-Fault.Denot} g.V.TemplateValue.contents c.args.values.now))
