-- A file is gone through as one command goes through it.
use Rattle.std.proofs.Common.{◌∙◌, IsSome, ap, refl, subst, sym}
use Rattle.mjc_commands.specs.Commands.{task_of}
use Rattle.mjc_commands.specs.Each.{HoldsFit}
use Rattle.mjc_commands.specs.Failure.{IsSuccess}
use Rattle.mjc_commands.specs.Watched.{error_of}
use Rattle.mjc_commands.proofs.Statuses.{ended, fits_each, stopped_fails, succeeds_in_memory}
use Rattle.mjc_commands.proofs.each.run_labelled.Goals as goal

pub returns-clause-through : goal.returns-clause-through
returns-clause-through g c = λ success.
    let runs = c.show-ending.ensures in
    ended c.show-ending.result c.status.result refl (ap g.R.Read.remaining c.new-file.ensures.stream) c.status.ensures.value runs.unreadable runs.shown runs.linted success

pub returns-clause-stops : goal.returns-clause-stops
returns-clause-stops g c = λ failed success.
    let runs = c.show-ending.ensures in
    stopped_fails c.show-ending.result (error_of c.show-ending.new.out) (runs.out_written.failure c.new-out.ensures.unfailed) (subst IsSome c.error-2.ensures failed) (subst IsSuccess c.status.ensures.value success)

pub returns-clause-accepts : goal.returns-clause-accepts
returns-clause-accepts g c = λ met each builds fit.
    let runs = c.show-ending.ensures in
    let held = ap g.R.Read.remaining c.new-file.ensures.stream in
    let only = fits_each (task_of c.args.command.now.action) c.show-ending.result runs c.new-answers.ensures.unfailed (sym c.error.ensures ∙ met.read) (sym c.error-2.ensures ∙ met.written) each builds (subst (HoldsFit (task_of c.args.command.now.action) c.args.syntax.now) (sym held) fit) in
    subst IsSuccess (sym c.status.ensures.value) (succeeds_in_memory c.show-ending.result c.is_out_of_memory.result c.is_out_of_memory.ensures.1 met.allocated only)
