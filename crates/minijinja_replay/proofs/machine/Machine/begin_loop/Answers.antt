-- The value goes off the operands, and the loop is open.
use Rattle.std.proofs.Common.{◌≡◌, ◌+◌, ◌∷◌, refl, ap, ◌∙◌, sym, subst, IfOk}
use Rattle.std.specs.Prelude.{false}
use Rattle.minijinja_replay.specs.private.AtMachine.{came_to, loops, stack}
use Rattle.minijinja_replay.proofs.Stacks.{turned_last}
use Rattle.minijinja_replay.proofs.Steps.{at_same, begins}
use Rattle.minijinja_replay.proofs.machine.Machine.begin_loop.Goals as goal

pub returns-in-Stopped-clause-step : goal.returns-in-Stopped-clause-step
returns-in-Stopped-clause-step g c =
    let t = g.V.TemplateValue in
    let top = c.in-Some.ensures in
    begins t.functions t.contents t.fault_contents c.args.self.now c.pop.new.self c.take.new.self c.in_ok-one.field-0.items c.in_ok-stop.field-0 _ c.in-Stopped.is top.place top.same top.world
    c.args.flags c.in-Some.value (stack t.contents c.pop.new.self) c.requires.at top.operand c.in_ok-one.ensures c.in_ok-stop.ensures.answer

pub returns-clause-step : goal.returns-clause-step
returns-clause-step g c =
    let t = g.V.TemplateValue in
    let top = c.in-Some.ensures in
    let rest = c.in_ok-stop.ensures.rest in
    let did = begins t.functions t.contents t.fault_contents c.args.self.now c.pop.new.self c.take.new.self c.in_ok-one.field-0.items c.in_ok-stop.field-0 _ c.in_default-2.is top.place top.same top.world
    c.args.flags c.in-Some.value (stack t.contents c.pop.new.self) c.requires.at top.operand c.in_ok-one.ensures c.in_ok-stop.ensures.answer in
    let opened = turned_last c.push.new.self.items c.take.new.self.loops.items false c.in_ok-push.ensures.items
    ∙ ap (λ ls. false ∷ ls) (ap (loops t.contents) rest ∙ top.loops) in
    let there = at_same (ap (λ x. x.place + 1) rest ∙ ap (λ p. p + 1) top.place) (ap (stack t.contents) rest) opened refl in
    subst (λ s. IfOk c.go.result (λ step. s ≡ came_to t.contents t.fault_contents c.go.new.self step)) (there ∙ sym did) c.go.ensures.step
