-- So many steps came to this state, and the run was not over before.
use Rattle.std.proofs.Common.{◌≡◌, ℕ, ◌-◌, ◌<◌, ◌≤◌, map, None}
use Rattle.std.specs.Prelude.{reverse}
use Rattle.minijinja_instructions.specs.Instructions.{code_of}
use Rattle.minijinja_replay.specs.Replay.{answer_of, ending_after, steps_of}
use Rattle.minijinja_replay.specs.private.AtMachine.{state}
use Rattle.minijinja_replay.proofs.replay.replay_within.Given as goal

abbrev pub invariant-run : goal.invariant-run
invariant-run g l =
    let t = g.V.TemplateValue in
    let code = code_of t.contents l.fn.code in
    let given = reverse (map t.contents l.fn.operands.items) in
    let answers = map (answer_of t.contents) l.fn.answers.items in
    record {
      at : steps_of t.functions code l.fn.entry given answers l.steps ≡ state t.contents l.machine;
      first : (n : ℕ) → n < l.steps → ending_after n t.functions code l.fn.entry given answers ≡ None;
      code : l.machine.code.now ≡ l.fn.code;
      most : l.steps ≤ l.most;
    }

abbrev pub decreases-run : goal.decreases-run
decreases-run g l = l.most - l.steps
