-- Answers that were read are those of the text, and the run on them is printed.
use Rattle.std.proofs.Common.{rules, ◌≡◌, map, refl, subst}
use Rattle.std.specs.Prelude.{IfOk, Ok}
use Rattle.minijinja_value.specs.ValueViews.{contents_of}
use Rattle.minijinja_replay.specs.Replay.{answer_of}
use Rattle.mjc_commands.specs.Printed.{run_words}
use Rattle.mjc_commands.specs.Output.{IsRunOf}
use Rattle.mjc_commands.specs.Showing.{IsMemory}
use Rattle.mjc_commands.specs.TemplateRuns.{RunsAsMeant}
use Rattle.mjc_commands.proofs.AnswerLines.{fails_for_memory}
use Rattle.mjc_commands.proofs.Commands.{passed_on}
use Rattle.mjc_commands.proofs.run.write_run.Goals as goal

pub returns-in_err-answers-clause-succeeds : goal.returns-in_err-answers-clause-succeeds
returns-in_err-answers-clause-succeeds g c = λ unwritten file.
    passed_on IsMemory c.from_residual.result c.in_err-answers.field-0.0 c.from_residual.ensures.1 (fails_for_memory c.args.text.now c.in_err-answers.field-0.0 c.in_err-answers.ensures.cause file)

pub returns-clause-printed : goal.returns-clause-printed
returns-clause-printed g c =
    let run = c.in_ok-run.run' in
    let answers = map (answer_of contents_of) c.in_ok-answers.answers.items in
    let ended : c.replay_template.result ≡ Ok run = search rules in
    let words = run_words c.args.code.now.instructions run in
    let of : IsRunOf c.args.code.now c.args.text.now words = record {
      answers = answers;
      said = c.in_ok-answers.ensures.said;
      run = run;
      ran = search rules;
      meant = subst (λ r. IfOk r (RunsAsMeant c.args.code.now answers)) ended c.replay_template.ensures.meant;
      words = refl;
    } in
    record { printed = words; is = of; written = search rules }
