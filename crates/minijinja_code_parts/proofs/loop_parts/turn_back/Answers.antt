use Rattle.std.proofs.Common.{◌∙◌}
use Rattle.minijinja_code_parts.proofs.LoopParts.{turned_is}
use Rattle.minijinja_code_parts.proofs.loop_parts.turn_back.Goals as goal

pub returns-clause-turned : goal.returns-clause-turned
returns-clause-turned g c = turned_is c.args.iterate c.args.breaks.now c.in_ok-jump_to.ensures.added c.lead_on.ensures.led c.here.ensures c.fill.ensures.filled

pub returns-clause-marked : goal.returns-clause-marked
returns-clause-marked g c = c.fill.ensures.marked ∙ c.lead_on.ensures.marked ∙ c.in_ok-jump_to.ensures.marked
