-- Each step is one of the definition's, until the run is over.
use Rattle.std.proofs.Common.{◌≡◌, ◌+◌, map, refl, ap, ◌∙◌, sym, subst, arith}
use Rattle.std.specs.Prelude.{false, true, reverse, slice_get, Some, None, if◌then◌else◌}
use Rattle.std.proofs.lemmas.List.{reverse-reverse}
use Rattle.minijinja_semantics.specs.Machine.{is_over, run}
use Rattle.minijinja_instructions.specs.Instructions.{code_of}
use Rattle.minijinja_replay.specs.Replay.{Finished, answer_of, end_of, finish_of, noted}
use Rattle.minijinja_replay.specs.private.AtMachine.{Does, came_to}
use Rattle.minijinja_replay.proofs.Replaying.{goes, in_time, is_run, never, none_yet, recorded, world_same}
use Rattle.minijinja_replay.proofs.Stacks.{map_reverse}
use Rattle.minijinja_replay.proofs.Steps.{at_same}
use Rattle.minijinja_replay.proofs.replay.replay_within.Goals as goal

pub run-init : goal.run-init
unfolding run
run-init g c =
    let t = g.V.TemplateValue in
    let answers = ap (λ l. reverse (map (answer_of t.contents) l)) c.reverse.ensures.items
    ∙ ap reverse (map_reverse (answer_of t.contents) c.args.answers.items) ∙ reverse-reverse (map (answer_of t.contents) c.args.answers.items) in
    let events = ap (λ l. reverse (map (noted t.contents (code_of t.contents c.args.code.now)) l)) c.new-2.ensures.items in
    record {
      at = at_same (sym c.place.ensures) refl (sym (ap reverse c.new.ensures.items)) (sym (world_same events answers));
      first = λ n below. absurd (omega (arith, below));
      code = refl;
      most = omega arith;
    }

pub run-preserved : goal.run-preserved
run-preserved g c =
    let t = g.V.TemplateValue in
    let m = c.run.machine in
    let code = code_of t.contents c.args.code.now in
    let going : is_over (finish_of code c.args.entry) m.place ≡ false = subst (λ y. is_over y m.place ≡ false) c.finish_from-finish.ensures (sym c.is_at.ensures ∙ c.run-test.true) in
    let given = reverse (map t.contents c.args.operands.items) in
    let answers = map (answer_of t.contents) c.args.answers.items in
    record {
      at = goes t.functions t.contents t.fault_contents c.args.code.now c.args.entry given answers c.run.steps m c.run.invariant.at going c.run.invariant.code c.step.new.self c.in_ok-step.step c.in_ok-step.ensures.step
          ∙ ap (came_to t.contents t.fault_contents c.step.new.self) c.in-On.is;
      first = none_yet t.functions t.contents t.fault_contents c.args.code.now c.args.entry given answers c.run.steps m c.run.invariant.at going c.run.invariant.code c.run.invariant.first;
      code = ap (λ b. b.now) c.in_ok-step.ensures.same ∙ c.run.invariant.code;
      most = omega arith;
    }

pub returns-in-Returned-clause-run : goal.returns-in-Returned-clause-run
returns-in-Returned-clause-run g c =
    let t = g.V.TemplateValue in
    let m = c.run.machine in
    let code = code_of t.contents c.args.code.now in
    let going : is_over (finish_of code c.args.entry) m.place ≡ false = subst (λ y. is_over y m.place ≡ false) c.finish_from-finish.ensures (sym c.is_at.ensures ∙ c.run-test.true) in
    let given = reverse (map t.contents c.args.operands.items) in
    let answers = map (answer_of t.contents) c.args.answers.items in
    let came = goes t.functions t.contents t.fault_contents c.args.code.now c.args.entry given answers c.run.steps m c.run.invariant.at going c.run.invariant.code c.step.new.self c.in_ok-step.step c.in_ok-step.ensures.step
    ∙ ap (came_to t.contents t.fault_contents c.step.new.self) c.in-Returned.is in
    is_run t.functions t.contents t.fault_contents c.args.code.now c.args.entry given answers (c.run.steps + 1) _ c.finished.result came c.finished.ensures.steps
    (ap (λ e. Some (end_of t.fault_contents e)) (sym c.finished.ensures.ending))
    (none_yet t.functions t.contents t.fault_contents c.args.code.now c.args.entry given answers c.run.steps m c.run.invariant.at going c.run.invariant.code c.run.invariant.first)
    (recorded t.functions t.contents t.fault_contents c.args.code.now c.args.entry given answers c.step.new.self c.finished.result (ap (λ b. b.now) c.in_ok-step.ensures.same ∙ c.run.invariant.code) c.finished.ensures.events)
    (ap (λ v. reverse (map t.contents v.items)) (sym c.finished.ensures.operands))

pub returns-in-Returned-clause-over : goal.returns-in-Returned-clause-over
returns-in-Returned-clause-over g c =
    let t = g.V.TemplateValue in
    let m = c.run.machine in
    let code = code_of t.contents c.args.code.now in
    let going : is_over (finish_of code c.args.entry) m.place ≡ false = subst (λ y. is_over y m.place ≡ false) c.finish_from-finish.ensures (sym c.is_at.ensures ∙ c.run-test.true) in
    let given = reverse (map t.contents c.args.operands.items) in
    let answers = map (answer_of t.contents) c.args.answers.items in
    let came = goes t.functions t.contents t.fault_contents c.args.code.now c.args.entry given answers c.run.steps m c.run.invariant.at going c.run.invariant.code c.step.new.self c.in_ok-step.step c.in_ok-step.ensures.step
    ∙ ap (came_to t.contents t.fault_contents c.step.new.self) c.in-Returned.is in
    (λ _. in_time t.functions t.contents t.fault_contents c.args.code.now c.args.entry given answers (c.run.steps + 1) c.args.most _ _ came refl (omega arith), λ _. refl)

pub returns-in-Stopped-clause-run : goal.returns-in-Stopped-clause-run
returns-in-Stopped-clause-run g c =
    let t = g.V.TemplateValue in
    let m = c.run.machine in
    let code = code_of t.contents c.args.code.now in
    let going : is_over (finish_of code c.args.entry) m.place ≡ false = subst (λ y. is_over y m.place ≡ false) c.finish_from-finish.ensures (sym c.is_at.ensures ∙ c.run-test.true) in
    let given = reverse (map t.contents c.args.operands.items) in
    let answers = map (answer_of t.contents) c.args.answers.items in
    let came = goes t.functions t.contents t.fault_contents c.args.code.now c.args.entry given answers c.run.steps m c.run.invariant.at going c.run.invariant.code c.step.new.self c.in_ok-step.step c.in_ok-step.ensures.step
    ∙ ap (came_to t.contents t.fault_contents c.step.new.self) c.in-Stopped.is in
    is_run t.functions t.contents t.fault_contents c.args.code.now c.args.entry given answers (c.run.steps + 1) _ c.stopped.result came c.stopped.ensures.steps
    (ap (λ e. Some e) (sym c.stopped.ensures.ending))
    (none_yet t.functions t.contents t.fault_contents c.args.code.now c.args.entry given answers c.run.steps m c.run.invariant.at going c.run.invariant.code c.run.invariant.first)
    (recorded t.functions t.contents t.fault_contents c.args.code.now c.args.entry given answers c.step.new.self c.stopped.result (ap (λ b. b.now) c.in_ok-step.ensures.same ∙ c.run.invariant.code) c.stopped.ensures.events)
    (ap (λ l. reverse (map t.contents l)) (sym c.stopped.ensures.operands))

pub returns-in-Stopped-clause-over : goal.returns-in-Stopped-clause-over
returns-in-Stopped-clause-over g c =
    let t = g.V.TemplateValue in
    let m = c.run.machine in
    let code = code_of t.contents c.args.code.now in
    let going : is_over (finish_of code c.args.entry) m.place ≡ false = subst (λ y. is_over y m.place ≡ false) c.finish_from-finish.ensures (sym c.is_at.ensures ∙ c.run-test.true) in
    let given = reverse (map t.contents c.args.operands.items) in
    let answers = map (answer_of t.contents) c.args.answers.items in
    let came = goes t.functions t.contents t.fault_contents c.args.code.now c.args.entry given answers c.run.steps m c.run.invariant.at going c.run.invariant.code c.step.new.self c.in_ok-step.step c.in_ok-step.ensures.step
    ∙ ap (came_to t.contents t.fault_contents c.step.new.self) c.in-Stopped.is in
    (λ _. in_time t.functions t.contents t.fault_contents c.args.code.now c.args.entry given answers (c.run.steps + 1) c.args.most _ _ came refl (omega arith), λ _. refl)

pub returns-in-Jammed-clause-over : goal.returns-in-Jammed-clause-over
returns-in-Jammed-clause-over g c =
    let t = g.V.TemplateValue in
    let m = c.run.machine in
    let code = code_of t.contents c.args.code.now in
    let going : is_over (finish_of code c.args.entry) m.place ≡ false = subst (λ y. is_over y m.place ≡ false) c.finish_from-finish.ensures (sym c.is_at.ensures ∙ c.run-test.true) in
    let given = reverse (map t.contents c.args.operands.items) in
    let answers = map (answer_of t.contents) c.args.answers.items in
    let jams = subst (Does t.functions t.contents t.fault_contents m (slice_get (code_of t.contents m.code.now) m.place) c.step.new.self) c.in-Jammed.is c.in_ok-step.ensures.step in
    (λ h. cc, λ over. absurd (never t.functions t.contents t.fault_contents c.args.code.now c.args.entry given answers c.run.steps m c.run.invariant.at going c.run.invariant.code c.step.new.self jams c.args.most over))

pub returns-clause-over : goal.returns-clause-over
returns-clause-over g c =
    let t = g.V.TemplateValue in
    let m = c.run.machine in
    let code = code_of t.contents c.args.code.now in
    let ended : is_over (finish_of code c.args.entry) m.place ≡ true = subst (λ y. is_over y m.place ≡ true) c.finish_from-finish.ensures (sym c.is_at.ensures ∙ c.run-test.false) in
    let given = reverse (map t.contents c.args.operands.items) in
    let answers = map (answer_of t.contents) c.args.answers.items in
    (λ _. in_time t.functions t.contents t.fault_contents c.args.code.now c.args.entry given answers c.run.steps c.args.most _ Finished c.run.invariant.at (ap (λ b. if b then Some Finished else None) ended) c.run.invariant.most, λ _. refl)
