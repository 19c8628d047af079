use Rattle.std.proofs.Common.{sym, ap}
use Rattle.minijinja_semantics.specs.Code.{Jump}
use Rattle.minijinja_emitter.proofs.Adding.{adds_then, adds_skipping}
use Rattle.minijinja_code_expr.proofs.chain.leave.Goals as goal

pub returns-clause-added : goal.returns-clause-added
returns-clause-added g c = adds_skipping Jump (Jump c.here-end.result) c.in_ok-jump.jump c.in_ok-jump.ensures.added (adds_then c.in_ok-add.ensures.added c.in_ok-add-2.ensures.added) c.in_ok-jump.ensures.place (ap Jump (sym c.here-end.ensures)) c.fill.ensures.filled
