-- The answer, and what is put on the operands of it.
use Rattle.std.proofs.Common.{◌≡◌, ◌+◌, ◌∙◌, ap, sym, subst, IfOk}
use Rattle.std.specs.Prelude.{map}
use Rattle.minijinja_semantics.specs.Machine.{At}
use Rattle.minijinja_replay.specs.private.AtMachine.{came_to, loops, note, put_on, stack, stop_of, took, world}
use Rattle.minijinja_replay.proofs.Answering.{did_end, did_of}
use Rattle.minijinja_replay.proofs.machine.Machine.ask_of.Goals as goal

pub returns-in-Values-clause-step : goal.returns-in-Values-clause-step
returns-in-Values-clause-step g c =
    let t = g.V.TemplateValue in
    let m = c.args.self.now in
    let new = c.take.new.self in
    let values = map t.contents c.in-Values.values.items in
    let gave = c.in_ok-values.ensures.answer ∙ ap (λ x. took t.contents t.fault_contents x (world t.contents new)) c.in-Values.is in
    let did = did_of t.functions c.args.pushed c.fit.result (note t.contents m (map t.contents c.args.operands.items)) m.place (stack t.contents m) (loops t.contents m) (world t.contents m) (world t.contents new) values c.fit.ensures gave in
    let same = ap (λ x. At (x.place + 1) (put_on t.functions c.args.pushed values (stack t.contents x)) (loops t.contents x) (world t.contents new)) c.in_ok-values.ensures.rest in
    subst (λ s. IfOk c.put.result (λ step. s ≡ came_to t.contents t.fault_contents c.put.new.self step)) (same ∙ sym did) c.put.ensures.step

pub returns-in-Stopped-clause-step : goal.returns-in-Stopped-clause-step
returns-in-Stopped-clause-step g c =
    let t = g.V.TemplateValue in
    let m = c.args.self.now in
    let new = c.take.new.self in
    let ended = c.in_ok-values.ensures.answer ∙ ap (λ x. took t.contents t.fault_contents x (world t.contents new)) c.in-Stopped.is in
    did_end t.functions c.args.pushed c.fit.result (note t.contents m (map t.contents c.args.operands.items)) m.place (stack t.contents m) (loops t.contents m) (world t.contents m) (world t.contents new) (stop_of t.fault_contents c.in-Stopped.stop) c.fit.ensures ended
