-- The events so far are written.
use Rattle.std.proofs.Common.{◌≡◌}
use Rattle.std.specs.List.{flat_map}
use Rattle.mjc_commands.specs.Printed.{event_line}
use Rattle.mjc_commands.specs.Watched.{IsWritten, error_of}
use Rattle.mjc_commands.proofs.print.print_run.Given as goal

abbrev pub invariant-loop-event : goal.invariant-loop-event
invariant-loop-event g l = record {
  unfailed : error_of l.out ≡ error_of l.initial.out;
  written : IsWritten g.W.Write.contents l.initial.out l.out (flat_map (event_line l.code) l.yielded);
}
