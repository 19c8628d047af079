-- The second value stays, with whether the comparison holds on it, or the run stops at the fault.
use Rattle.std.proofs.Common.{Bool, List, ◌≡◌, ◌+◌, ◌∷◌, ap, ◌∙◌, sym, subst, IfOk}
use Rattle.minijinja_tree.specs.Comparisons.{compares}
use Rattle.minijinja_semantics.specs.Events.{World, OperatorFault, operated}
use Rattle.minijinja_semantics.specs.Machine.{At, Halted, State, Asked, after}
use Rattle.minijinja_instructions.specs.Instructions.{compared_by}
use Rattle.minijinja_replay.specs.private.AtMachine.{came_to, loops, stack, world}
use Rattle.minijinja_replay.proofs.Stacks.{put_last}
use Rattle.minijinja_replay.proofs.Steps.{at_same, computes, faults}
use Rattle.minijinja_replay.proofs.machine.Machine.compare.Goals as goal

pub returns-in-Ok-clause-step : goal.returns-in-Ok-clause-step
returns-in-Ok-clause-step g c =
    let t = g.V.TemplateValue in
    let m = c.args.self.now in
    let top = c.in-Some.ensures in
    let on : t.Contents → List t.Contents → Bool → World (Asked t.Contents) t.Contents → State (Asked t.Contents) t.Contents t.FaultContents = λ b below holds w. At (m.place + 1) (t.functions.of_bool holds ∷ b ∷ below) (loops t.contents m) w in
    let held = compares t.functions (compared_by c.args.operator) in
    let did = top.some (λ a b below. after (on b below) (operated (held a b) (world t.contents m)))
    ∙ computes (on (t.contents c.in-Some.right) (stack t.contents c.pop_two.new.self)) (held (t.contents c.in-Some.left) (t.contents c.in-Some.right)) c.in-Ok.holds (world t.contents m) c.in-Ok.ensures in
    let operands = put_last t.contents c.push.new.self.items c.pop_two.new.self.operands.items c.in-Some.right c.in_ok-push-in-Ok.ensures.items in
    let there = at_same (ap (λ p. p + 1) top.place) (ap (λ v. v ∷ stack t.contents (record c.pop_two.new.self { operands = c.push.new.self })) c.of_bool.ensures ∙ ap (λ l. t.functions.of_bool c.in-Ok.holds ∷ l) operands) top.loops top.world in
    subst (λ s. IfOk c.push-in-Ok.result (λ step. s ≡ came_to t.contents t.fault_contents c.push-in-Ok.new.self step)) (there ∙ sym did) c.push-in-Ok.ensures.step

pub returns-in-Err-Fault-clause-step : goal.returns-in-Err-Fault-clause-step
returns-in-Err-Fault-clause-step g c =
    let t = g.V.TemplateValue in
    let m = c.args.self.now in
    let top = c.in-Some.ensures in
    let on : t.Contents → List t.Contents → Bool → World (Asked t.Contents) t.Contents → State (Asked t.Contents) t.Contents t.FaultContents = λ b below holds w. At (m.place + 1) (t.functions.of_bool holds ∷ b ∷ below) (loops t.contents m) w in
    let held = compares t.functions (compared_by c.args.operator) in
    top.some (λ a b below. after (on b below) (operated (held a b) (world t.contents m)))
    ∙ faults (on (t.contents c.in-Some.right) (stack t.contents c.pop_two.new.self)) (held (t.contents c.in-Some.left) (t.contents c.in-Some.right)) (t.fault_contents c.in-Err-Fault.fault) (world t.contents m) (rw c.in-Err-Fault.field-0-is at c.in-Err-Fault.ensures)
    ∙ ap (λ w. Halted w (OperatorFault (t.fault_contents c.in-Err-Fault.fault))) (sym top.world)
