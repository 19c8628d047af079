-- The findings so far are written.
use Rattle.std.proofs.Common.{◌≡◌, map, take}
use Rattle.minijinja_lint.specs.Findings.{remark_of}
use Rattle.mjc_commands.specs.Printed.{findings_words}
use Rattle.mjc_commands.specs.Watched.{IsWritten, error_of}
use Rattle.mjc_commands.proofs.print.print_findings.Given as goal

abbrev pub invariant-loop-finding : goal.invariant-loop-finding
invariant-loop-finding g l = record {
  unfailed : error_of l.out ≡ error_of l.initial.out;
  written : IsWritten g.W.Write.contents l.initial.out l.out (findings_words (map remark_of (take l.finding-index l.findings)));
}
