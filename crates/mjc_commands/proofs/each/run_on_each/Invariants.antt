-- The worst status so far is a status. Where it is one of success, the files so far are gone through,
-- and it is one where all files are known to hold texts that can be shown.
use Rattle.std.proofs.Common.{◌≡◌, ◌≤◌, take}
use Rattle.std.specs.List.{All}
use Rattle.minijinja_syntax.specs.Syntax.{IsBuildable}
use Rattle.mjc_commands.specs.Commands.{task_of}
use Rattle.mjc_commands.specs.Each.{HasMetNothing, HoldsFit, IsOnEach, MayEnd}
use Rattle.mjc_commands.specs.Failure.{IsSuccess}
use Rattle.mjc_commands.proofs.each.run_on_each.Given as goal

abbrev pub invariant-loop-path : goal.invariant-loop-path
invariant-loop-path g l =
    let task = task_of l.initial.command.action in
    record {
      within : l.endings.status ≤ 3;
      same : task_of l.command.action ≡ task;
      gone : IsSuccess l.endings.status → All (λ path. MayEnd task l.syntax (g.F.Files.held l.files path.now) l.endings.status) (take l.path-index l.paths);
      fits : HasMetNothing l.endings → IsOnEach task → IsBuildable l.syntax → All (λ path. HoldsFit task l.syntax (g.F.Files.held l.files path.now)) l.paths → IsSuccess l.endings.status;
    }
