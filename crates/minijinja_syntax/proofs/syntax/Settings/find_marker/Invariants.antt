use Rattle.std.proofs.Common.{◌≡◌, ◌<◌, ◌≤◌, ◌-◌, length}
use Rattle.minijinja_syntax.specs.Markers.{next_marker, starts_line}
use Rattle.minijinja_syntax.specs.private.SyntaxFields.{syntax_of}
use Rattle.minijinja_syntax.proofs.syntax.Settings.find_marker.Given as goal

abbrev pub invariant-loop-place : goal.invariant-loop-place
invariant-loop-place l =
    (next_marker (syntax_of l.self) l.source l.place ≡ next_marker (syntax_of l.self) l.source l.offset)
    × (0 < length (syntax_of l.self).line_statement → l.line_start ≡ starts_line l.source l.place)
    × (l.offset ≤ l.place)
    × (l.place ≤ length l.source)

abbrev pub decreases-loop-place : goal.decreases-loop-place
decreases-loop-place l = length l.source - l.place
