use Rattle.std.proofs.Common.{◌-◌, arith}
use Rattle.minijinja_code_expr.specs.private.Comparing.{places_of}
use Rattle.minijinja_code_expr.proofs.ChainTurns.{leads_before, two_followed}
use Rattle.minijinja_code_expr.proofs.chain.add_comparison_before.Goals as goal

pub returns-clause-leads : goal.returns-clause-leads
returns-clause-leads g c = leads_before g.V.TemplateValue.functions g.V.TemplateValue.contents c.args.ops.now c.args.i (c.args.i - 1) c.index-ops-i.result (places_of c.args.jumps.now) (places_of c.add_comparison.new.jumps) (omega arith) (omega arith) c.in_ok-add_comparison.ensures.added c.in_ok-add_comparison.ensures.places

pub returns-clause-followed : goal.returns-clause-followed
returns-clause-followed g c = two_followed c.in_ok-add_comparison.ensures.added
