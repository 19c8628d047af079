-- The blocks so far are written.
use Rattle.std.proofs.Common.{◌≡◌}
use Rattle.std.specs.List.{flat_map}
use Rattle.mjc_commands.specs.Printed.{block_words}
use Rattle.mjc_commands.specs.Watched.{IsWritten, error_of}
use Rattle.mjc_commands.proofs.print.print_blocks.Given as goal

abbrev pub invariant-loop-name : goal.invariant-loop-name
invariant-loop-name g l = record {
  unfailed : error_of l.out ≡ error_of l.initial.out;
  written : IsWritten g.W.Write.contents l.initial.out l.out (flat_map (λ b. block_words (b.0.now, b.1.now)) l.yielded);
}
