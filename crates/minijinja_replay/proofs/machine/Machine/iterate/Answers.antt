-- With an item the loop goes on, and without one it is left.
use Rattle.std.proofs.Common.{◌≡◌, ◌+◌, ◌∷◌, map, refl, ap, ◌∙◌, sym, subst, IfOk, arith}
use Rattle.std.specs.Prelude.{true, reverse}
use Rattle.std.proofs.lemmas.List.{nil_from_length}
use Rattle.minijinja_replay.specs.private.AtMachine.{came_to, loops, stack, world}
use Rattle.minijinja_replay.proofs.Stacks.{popped_last, turned_last}
use Rattle.minijinja_replay.proofs.Steps.{at_same, comes, iterates, past_last}
use Rattle.minijinja_replay.proofs.machine.Machine.iterate.Goals as goal

pub returns-in-Stopped-clause-step : goal.returns-in-Stopped-clause-step
returns-in-Stopped-clause-step g c =
    let t = g.V.TemplateValue in
    let m = c.args.self.now in
    iterates t.functions t.contents t.fault_contents m (record m { loops = c.pop.new.self }) c.take.new.self c.new.result.items c.in_ok-values.field-0 _ c.in-Stopped.is refl refl refl
    c.args.past c.in-Some.came (reverse c.pop.new.self.items) c.requires.at (turned_last m.loops.items c.pop.new.self.items c.in-Some.came c.in-Some.ensures.items) c.new.ensures.items c.in_ok-values.ensures.answer

pub returns-in-Some-pop-clause-step : goal.returns-in-Some-pop-clause-step
returns-in-Some-pop-clause-step g c =
    let t = g.V.TemplateValue in
    let m = c.args.self.now in
    let rest = c.in_ok-values.ensures.rest in
    let outer = reverse c.pop.new.self.items in
    let did = iterates t.functions t.contents t.fault_contents m (record m { loops = c.pop.new.self }) c.take.new.self c.new.result.items c.in_ok-values.field-0 _ c.in-Values.is refl refl refl
    c.args.past c.in-Some.came outer c.requires.at (turned_last m.loops.items c.pop.new.self.items c.in-Some.came c.in-Some.ensures.items) c.new.ensures.items c.in_ok-values.ensures.answer in
    let came = comes c.args.past m.place (stack t.contents m) c.in-Some.came outer (map t.contents c.in-Values.values.items) (reverse (map t.contents c.pop-2.new.self.items)) (t.contents c.in-Some-pop.value) (world t.contents c.take.new.self)
    (popped_last t.contents c.in-Values.values.items c.pop-2.new.self.items c.in-Some-pop.value c.in-Some-pop.ensures.items) in
    let opened = turned_last c.push.new.self.items c.take.new.self.loops.items true c.in_ok-push-in-Some-pop.ensures.items ∙ ap (λ ls. true ∷ ls) (ap (loops t.contents) rest) in
    let there = at_same (ap (λ x. x.place + 1) rest) (ap (λ x. t.contents c.in-Some-pop.value ∷ stack t.contents x) rest) opened refl in
    subst (λ s. IfOk c.push-in-Some-pop.result (λ step. s ≡ came_to t.contents t.fault_contents c.push-in-Some-pop.new.self step)) (there ∙ sym (did ∙ came)) c.push-in-Some-pop.ensures.step

pub returns-clause-step : goal.returns-clause-step
returns-clause-step g c =
    let t = g.V.TemplateValue in
    let m = c.args.self.now in
    let rest = c.in_ok-values.ensures.rest in
    let outer = reverse c.pop.new.self.items in
    let did = iterates t.functions t.contents t.fault_contents m (record m { loops = c.pop.new.self }) c.take.new.self c.new.result.items c.in_ok-values.field-0 _ c.in-Values.is refl refl refl
    c.args.past c.in-Some.came outer c.requires.at (turned_last m.loops.items c.pop.new.self.items c.in-Some.came c.in-Some.ensures.items) c.new.ensures.items c.in_ok-values.ensures.answer in
    let none = nil_from_length c.in-Values.values.items (omega (arith, c.in-Values.values.ok.0, c.in-None.ensures.cases.0)) in
    let left = past_last c.args.past m.place (stack t.contents m) c.in-Some.came outer (map t.contents c.in-Values.values.items) (world t.contents c.take.new.self) (ap (map t.contents) none) in
    let opened = turned_last c.push-in-None.new.self.items c.take.new.self.loops.items c.in-Some.came c.in_ok-push-in-None.ensures.items ∙ ap (λ ls. c.in-Some.came ∷ ls) (ap (loops t.contents) rest) in
    did ∙ left ∙ sym (at_same refl (ap (stack t.contents) rest) opened refl)
