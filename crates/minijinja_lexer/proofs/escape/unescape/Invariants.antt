use Rattle.std.proofs.Common.{length, ◌-◌}
use Rattle.std.specs.String.{string_bytes}
use Rattle.minijinja_lexer.proofs.Escaping.{Decoded}
use Rattle.minijinja_lexer.proofs.escape.unescape.Given as goal

abbrev pub invariant-loop-at : goal.invariant-loop-at
invariant-loop-at l = Decoded l.inside (string_bytes l.decoded) l.at

abbrev pub decreases-loop-at : goal.decreases-loop-at
decreases-loop-at l = length l.inside - l.at
