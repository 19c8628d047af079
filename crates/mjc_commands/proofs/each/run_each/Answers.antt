-- The words name the files that are gone through.
use Rattle.std.proofs.Common.{◌∙◌, refl, subst, sym}
use Rattle.std.specs.Borrow.{Bor}
use Rattle.std.specs.List.{All}
use Rattle.std.proofs.lemmas.List.Elements.{All-map}
use Rattle.minijinja_syntax.specs.Syntax.{IsBuildable}
use Rattle.minijinja_syntax.specs.Texts.{Text}
use Rattle.mjc_commands.specs.Commands.{task_of}
use Rattle.mjc_commands.specs.Each.{AskForEach, HoldsFit, IsOnEach, MayEnd}
use Rattle.mjc_commands.specs.Settings.{texts}
use Rattle.mjc_commands.proofs.Requests.{each_text}
use Rattle.mjc_commands.proofs.Statuses.{ran_out}
use Rattle.mjc_commands.proofs.each.run_each.Goals as goal

pub returns-in-Ok-clause-through : goal.returns-in-Ok-clause-through
returns-in-Ok-clause-through g c = λ success.
    let task = task_of c.in_ok-command.command.action in
    let syntax = c.in-Ok.syntax in
    let paths = c.in_ok-command.paths.now in
    record {
      task = task;
      syntax = syntax;
      paths = texts paths;
      asked = subst (λ s. AskForEach c.args.args.now task s (texts paths)) (sym c.in-Ok.ensures.value) c.in_ok-command.ensures.found;
      ended = All-map (λ (path : Text). MayEnd task syntax (g.F.Files.held c.args.files.now path) c.run_on_each.result.status) (λ (path : Bor Text). path.now) paths (c.run_on_each.ensures.through success);
    }

pub returns-in_err-command-clause-accepts : goal.returns-in_err-command-clause-accepts
returns-in_err-command-clause-accepts g c = λ task syntax paths asks builds fits. absurd (c.in_err-command.ensures.asked task syntax paths asks)

pub returns-in-Ok-clause-accepts : goal.returns-in-Ok-clause-accepts
returns-in-Ok-clause-accepts g c = λ task syntax paths asks builds fits met.
    let held = g.F.Files.held c.args.files.now in
    let same = c.in_ok-command.ensures.asked task syntax paths asks in
    let specified = c.in-Ok.ensures.value ∙ same.1 in
    let of_texts = subst (All (λ path. HoldsFit task syntax (held path))) (sym same.2) fits in
    let of_syntax = subst (λ s. All (λ path. HoldsFit task s (held path)) (texts c.in_ok-command.paths.now)) (sym specified) of_texts in
    let of_task = subst (λ t. All (λ path. HoldsFit t c.in-Ok.syntax (held path)) (texts c.in_ok-command.paths.now)) (sym same.0) of_syntax in
    c.run_on_each.ensures.accepts met (subst IsOnEach (sym same.0) asks.asked.each) (subst IsBuildable (sym specified) builds)
    (each_text (λ path. HoldsFit (task_of c.in_ok-command.command.action) c.in-Ok.syntax (held path)) c.in_ok-command.paths.now of_task)

pub returns-in-Err-clause-accepts : goal.returns-in-Err-clause-accepts
returns-in-Err-clause-accepts g c = λ task syntax paths asks builds fits met.
    let same = c.in_ok-command.ensures.asked task syntax paths asks in
    let memory = c.in-Err.ensures.built (subst IsBuildable (sym same.1) builds) in
    absurd (ran_out c.is_out_of_memory.result (c.is_out_of_memory.ensures.1 memory) met.allocated)

pub returns-in-Ok-clause-one : goal.returns-in-Ok-clause-one
returns-in-Ok-clause-one g c = λ usage. absurd (c.in_ok-command.ensures.apart refl usage)

pub returns-in-Ok-clause-unwritten : goal.returns-in-Ok-clause-unwritten
returns-in-Ok-clause-unwritten g c = λ usage. absurd (c.in_ok-command.ensures.apart refl usage)
