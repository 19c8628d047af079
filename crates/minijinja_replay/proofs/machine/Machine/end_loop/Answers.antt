-- The innermost loop is closed.
use Rattle.std.proofs.Common.{◌≡◌, ◌+◌, refl, ap, ◌∙◌, sym, subst, IfOk}
use Rattle.std.specs.Prelude.{reverse}
use Rattle.minijinja_replay.specs.private.AtMachine.{came_to, loops, stack}
use Rattle.minijinja_replay.proofs.Stacks.{turned_last}
use Rattle.minijinja_replay.proofs.Steps.{at_same, ends}
use Rattle.minijinja_replay.proofs.machine.Machine.end_loop.Goals as goal

pub returns-in-Stopped-clause-step : goal.returns-in-Stopped-clause-step
returns-in-Stopped-clause-step g c =
    let t = g.V.TemplateValue in
    let m = c.args.self.now in
    ends t.functions t.contents t.fault_contents m (record m { loops = c.pop.new.self }) c.take.new.self c.new.result.items c.in_ok-stop.field-0 _ c.in-Stopped.is refl refl refl
    c.in-Some.field-0 (reverse c.pop.new.self.items) c.requires.at (turned_last m.loops.items c.pop.new.self.items c.in-Some.field-0 c.in-Some.ensures.items) c.new.ensures.items c.in_ok-stop.ensures.answer

pub returns-clause-step : goal.returns-clause-step
returns-clause-step g c =
    let t = g.V.TemplateValue in
    let m = c.args.self.now in
    let rest = c.in_ok-stop.ensures.rest in
    let did = ends t.functions t.contents t.fault_contents m (record m { loops = c.pop.new.self }) c.take.new.self c.new.result.items c.in_ok-stop.field-0 _ c.in_default-2.is refl refl refl
    c.in-Some.field-0 (reverse c.pop.new.self.items) c.requires.at (turned_last m.loops.items c.pop.new.self.items c.in-Some.field-0 c.in-Some.ensures.items) c.new.ensures.items c.in_ok-stop.ensures.answer in
    let there = at_same (ap (λ x. x.place + 1) rest) (ap (stack t.contents) rest) (ap (loops t.contents) rest) refl in
    subst (λ s. IfOk c.go.result (λ step. s ≡ came_to t.contents t.fault_contents c.go.new.self step)) (there ∙ sym did) c.go.ensures.step
