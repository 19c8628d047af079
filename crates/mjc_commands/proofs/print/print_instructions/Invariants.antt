-- The instructions so far are written.
use Rattle.std.proofs.Common.{◌≡◌, ◌+◌, ◌<◌, length, map}
use Prim.Native.Nat.{◌^◌}
use Rattle.mjc_commands.specs.Printed.{numbered_from}
use Rattle.mjc_commands.specs.Watched.{IsWritten, error_of}
use Rattle.mjc_commands.proofs.print.print_instructions.Given as goal

abbrev pub invariant-loop-index : goal.invariant-loop-index
invariant-loop-index g l = record {
  counts : l.index-counter + (goal.iterator-loop-index g).remaining l.instruction-iterator < 2 ^ 64;
  counted : l.index-counter ≡ length l.yielded;
  unfailed : error_of l.out ≡ error_of l.initial.out;
  written : IsWritten g.W.Write.contents l.initial.out l.out (numbered_from 0 (map (λ i. i.now) l.yielded));
}
