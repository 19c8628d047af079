-- The last operand of the `Vec` is on top, and is pushed again.
use Rattle.std.proofs.Common.{List, ◌≡◌, ◌+◌, ◌-◌, ◌∷◌, length, ap, ◌∙◌, sym, subst, IfOk}
use Rattle.std.specs.Prelude.{slice_get}
use Rattle.minijinja_semantics.specs.Machine.{At, State, Asked}
use Rattle.minijinja_replay.specs.private.AtMachine.{came_to, loops, stack, world}
use Rattle.minijinja_replay.proofs.Stacks.{last_on_top, with_top}
use Rattle.minijinja_replay.proofs.machine.Machine.duplicate.Goals as goal

pub returns-in_ok-copy-in-Some-clause-step : goal.returns-in_ok-copy-in-Some-clause-step
returns-in_ok-copy-in-Some-clause-step g c =
    let t = g.V.TemplateValue in
    let m = c.args.self.now in
    let on : t.Contents → List t.Contents → State (Asked t.Contents) t.Contents t.FaultContents = λ v ops. At (m.place + 1) (v ∷ ops) (loops t.contents m) (world t.contents m) in
    let top = last_on_top t.contents m.operands.items c.in-Some.value.now (c.in-Some.ensures.value ∙ ap (λ l. slice_get l (length l - 1)) c.deref.ensures.value) in
    let did = with_top on (stack t.contents m) (t.contents c.in-Some.value.now) top ∙ ap (λ v. on v (stack t.contents m)) (sym c.in_ok-copy-in-Some.ensures) in
    subst (λ s. IfOk c.push.result (λ step. s ≡ came_to t.contents t.fault_contents c.push.new.self step)) (sym did) c.push.ensures.step
