-- The values go onto the operands, the first on top.
use Rattle.std.proofs.Common.{◌≡◌, ◌+◌, ◌++◌, map, refl, ap, ◌∙◌, sym, subst, IfOk}
use Rattle.minijinja_replay.specs.private.AtMachine.{came_to, loops, stack}
use Rattle.minijinja_replay.proofs.Stacks.{unpacked}
use Rattle.minijinja_replay.proofs.Steps.{at_same, unpacks}
use Rattle.minijinja_replay.proofs.machine.Machine.unpack.Goals as goal

pub returns-in-Stopped-clause-step : goal.returns-in-Stopped-clause-step
returns-in-Stopped-clause-step g c =
    let t = g.V.TemplateValue in
    let top = c.in-Some.ensures in
    unpacks t.functions t.contents t.fault_contents c.args.self.now c.pop.new.self c.take.new.self c.in_ok-one.field-0.items c.in_ok-values.field-0 _ c.in-Stopped.is top.place top.same top.world
    c.args.count c.in-Some.value (stack t.contents c.pop.new.self) c.requires.at top.operand c.in_ok-one.ensures c.in_ok-values.ensures.answer

pub returns-clause-step : goal.returns-clause-step
returns-clause-step g c =
    let t = g.V.TemplateValue in
    let top = c.in-Some.ensures in
    let rest = c.in_ok-values.ensures.rest in
    let did = unpacks t.functions t.contents t.fault_contents c.args.self.now c.pop.new.self c.take.new.self c.in_ok-one.field-0.items c.in_ok-values.field-0 _ c.in-Values.is top.place top.same top.world
    c.args.count c.in-Some.value (stack t.contents c.pop.new.self) c.requires.at top.operand c.in_ok-one.ensures c.in_ok-values.ensures.answer in
    let operands = unpacked t.contents c.take.new.self.operands.items c.in-Values.values.items c.reverse.new.self.items c.append.new.self.items c.reverse.ensures.items c.in_ok-append.ensures.items
    ∙ ap (λ x. map t.contents c.in-Values.values.items ++ stack t.contents x) rest in
    let there = at_same (ap (λ x. x.place + 1) rest ∙ ap (λ p. p + 1) top.place) operands (ap (loops t.contents) rest ∙ top.loops) refl in
    subst (λ s. IfOk c.go.result (λ step. s ≡ came_to t.contents t.fault_contents c.go.new.self step)) (there ∙ sym did) c.go.ensures.step
