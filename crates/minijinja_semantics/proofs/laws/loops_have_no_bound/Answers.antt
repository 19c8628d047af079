-- The turns of a loop, and of the filter before it.
use Rattle.minijinja_semantics.proofs.Unbounded.{body_has_no_bound, filter_has_no_bound}
use Rattle.minijinja_semantics.proofs.laws.loops_have_no_bound.Goals as goal

pub returns : goal.returns
returns g c = record { body = body_has_no_bound _ g.V.TemplateValue.functions; filter = filter_has_no_bound _ g.V.TemplateValue.functions }
