-- The syntax that was built is the one that the options specify.
use Rattle.std.proofs.Common.{subst}
use Rattle.mjc_commands.specs.Runs.{RunsOn}
use Rattle.mjc_commands.specs.Commands.{task_of}
use Rattle.mjc_commands.proofs.run.run_on_file.Goals as goal

pub returns-clause-on_file : goal.returns-clause-on_file
returns-clause-on_file g c =
    subst (λ syntax. RunsOn g.R.Read.remaining g.Q.Read.remaining g.W.Write.contents (task_of c.args.command.now.action) syntax c.args.file.now c.show.new.file c.args.answers.now c.show.new.answers c.args.out.now c.show.new.out c.show.result) c.in_ok-syntax.ensures.value c.show.ensures
