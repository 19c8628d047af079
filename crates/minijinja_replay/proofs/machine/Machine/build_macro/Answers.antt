-- The two operands go off together, and the event is answered by the macro.
use Rattle.std.proofs.Common.{◌∙◌}
use Rattle.minijinja_replay.specs.private.AtMachine.{stack}
use Rattle.minijinja_replay.proofs.Stacks.{two_none}
use Rattle.minijinja_replay.proofs.Steps.{if_ok_then, makes_macro}
use Rattle.minijinja_replay.proofs.machine.Machine.build_macro.Goals as goal

pub returns-in-Some-clause-step : goal.returns-in-Some-clause-step
returns-in-Some-clause-step g c =
    let t = g.V.TemplateValue in
    let off = rw c.in-Some.is at c.in_ok-operands.ensures.popped in
    let now = c.in_ok-operands.ensures in
    if_ok_then c.ask_of.result
    (λ step did x body flags at. makes_macro t.functions t.contents c.args.self.now c.pop_many.new.self c.in-Some.operands.items x body flags at off now.place now.same now.loops now.world ∙ did)
    c.ask_of.ensures.step

pub returns-in-None-clause-step : goal.returns-in-None-clause-step
returns-in-None-clause-step g c x body flags at =
    let t = g.V.TemplateValue in
    two_none _ (stack t.contents c.args.self.now) (rw c.in-None.is at c.in_ok-operands.ensures.popped)
