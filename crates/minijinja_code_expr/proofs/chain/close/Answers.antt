use Rattle.std.proofs.Common.{length}
use Rattle.minijinja_code_expr.specs.private.Comparing.{ahead, places_of}
use Rattle.minijinja_code_expr.proofs.ChainCode.{closes}
use Rattle.minijinja_code_expr.proofs.chain.close.Goals as goal

pub returns-clause-closed : goal.returns-clause-closed
returns-clause-closed g c = closes (places_of c.args.jumps.now) (ahead g.V.TemplateValue.functions g.V.TemplateValue.contents c.args.ops.now (length c.args.ops.now)) c.in_ok-add_last.ensures.added c.in_ok-failed.ensures.added c.in_ok-failed.ensures.failed c.lead_out.ensures.led
