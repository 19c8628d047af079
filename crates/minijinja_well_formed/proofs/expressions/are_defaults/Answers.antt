use Rattle.std.proofs.Common.{◌∙◌}
use Rattle.minijinja_well_formed.proofs.WellFormedCounts.{all_whole_is}
use Rattle.minijinja_well_formed.proofs.expressions.are_defaults.Goals as goal

pub returns : goal.returns
returns g c = c.are_whole.ensures ∙ all_whole_is g.V.TemplateValue.contents c.args.exprs.now
