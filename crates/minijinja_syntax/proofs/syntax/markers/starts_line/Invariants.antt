use Rattle.std.proofs.Common.{◌≡◌, ◌≤◌}
use Rattle.minijinja_syntax.specs.Markers.{starts_line}
use Rattle.minijinja_syntax.proofs.syntax.markers.starts_line.Given as goal

abbrev pub invariant-loop-start : goal.invariant-loop-start
invariant-loop-start l = (starts_line l.text l.start ≡ starts_line l.text l.at) × (l.start ≤ l.at)

abbrev pub decreases-loop-start : goal.decreases-loop-start
decreases-loop-start l = l.start
