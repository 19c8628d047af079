use Rattle.std.proofs.Common.{◌≡◌, ◌≤◌, ◌-◌, length}
use Rattle.minijinja_syntax.specs.Syntax.{Syntax, IsBuildable}
use Rattle.minijinja_syntax.specs.Markers.{next_marker}
use Rattle.minijinja_syntax.specs.private.DefaultStarts.{HasDefaultStarts}
use Rattle.minijinja_syntax.proofs.syntax.markers.next_default_place.Given as goal

abbrev pub invariant-loop-ahead : goal.invariant-loop-ahead
invariant-loop-ahead l =
    ((s : Syntax) → IsBuildable s → HasDefaultStarts s → next_marker s l.text l.place ≡ next_marker s l.text l.offset)
    × (l.offset ≤ l.place)
    × (l.place ≤ length l.text)

abbrev pub decreases-loop-ahead : goal.decreases-loop-ahead
decreases-loop-ahead l = length l.text - l.place
