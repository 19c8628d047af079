-- The value goes onto the operands, or the run stops at the fault.
use Rattle.std.proofs.Common.{List, ◌≡◌, ◌+◌, ◌∷◌, refl, ap, ◌∙◌, sym, subst, IfOk}
use Rattle.minijinja_tree.specs.Operators.{compute}
use Rattle.minijinja_semantics.specs.Events.{World, OperatorFault, operated}
use Rattle.minijinja_semantics.specs.Machine.{At, Halted, State, Asked, after}
use Rattle.minijinja_replay.specs.private.AtMachine.{came_to, loops, operator_of, stack, world}
use Rattle.minijinja_replay.proofs.Steps.{at_same, computes, faults}
use Rattle.minijinja_replay.proofs.machine.Machine.operate.Goals as goal

pub returns-in-Ok-clause-step : goal.returns-in-Ok-clause-step
returns-in-Ok-clause-step g c =
    let t = g.V.TemplateValue in
    let m = c.args.self.now in
    let top = c.in-Some.ensures in
    let on : List t.Contents → t.Contents → World (Asked t.Contents) t.Contents → State (Asked t.Contents) t.Contents t.FaultContents = λ below v w. At (m.place + 1) (v ∷ below) (loops t.contents m) w in
    let made = compute t.functions (operator_of c.args.operator) in
    let did = top.some (λ a b below. after (on below) (operated (made a b) (world t.contents m)))
    ∙ computes (on (stack t.contents c.pop_two.new.self)) (made (t.contents c.in-Some.left) (t.contents c.in-Some.right)) (t.contents c.in-Ok.value) (world t.contents m) c.in-Ok.ensures in
    let there = at_same (ap (λ p. p + 1) top.place) refl top.loops top.world in
    subst (λ s. IfOk c.push.result (λ step. s ≡ came_to t.contents t.fault_contents c.push.new.self step)) (there ∙ sym did) c.push.ensures.step

pub returns-in-Err-Fault-clause-step : goal.returns-in-Err-Fault-clause-step
returns-in-Err-Fault-clause-step g c =
    let t = g.V.TemplateValue in
    let m = c.args.self.now in
    let top = c.in-Some.ensures in
    let on : List t.Contents → t.Contents → World (Asked t.Contents) t.Contents → State (Asked t.Contents) t.Contents t.FaultContents = λ below v w. At (m.place + 1) (v ∷ below) (loops t.contents m) w in
    let made = compute t.functions (operator_of c.args.operator) in
    top.some (λ a b below. after (on below) (operated (made a b) (world t.contents m)))
    ∙ faults (on (stack t.contents c.pop_two.new.self)) (made (t.contents c.in-Some.left) (t.contents c.in-Some.right)) (t.fault_contents c.in-Err-Fault.fault) (world t.contents m) (rw c.in-Err-Fault.field-0-is at c.in-Err-Fault.ensures)
    ∙ ap (λ w. Halted w (OperatorFault (t.fault_contents c.in-Err-Fault.fault))) (sym top.world)
