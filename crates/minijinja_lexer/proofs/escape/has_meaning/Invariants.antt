use Rattle.std.proofs.Common.{◌-◌, length}
use Rattle.minijinja_lexer.proofs.Escaping.{SameMeaning}
use Rattle.minijinja_lexer.proofs.escape.has_meaning.Given as goal

abbrev pub invariant-loop-at : goal.invariant-loop-at
invariant-loop-at l = SameMeaning l.inside l.at

abbrev pub decreases-loop-at : goal.decreases-loop-at
decreases-loop-at l = length l.inside - l.at
