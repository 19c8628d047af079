use Rattle.std.proofs.Common.{◌≡◌, ◌≤◌, ◌-◌, length}
use Rattle.std.specs.Str.{IsCharBoundary}
use Rattle.minijinja_lexer.specs.Raw.{next_endraw}
use Rattle.minijinja_lexer.proofs.raw.next_endraw.Given as goal

abbrev pub invariant-loop-from : goal.invariant-loop-from
invariant-loop-from l = (next_endraw l.syntax l.text l.from ≡ next_endraw l.syntax l.text l.at) × IsCharBoundary l.text l.from × (l.at ≤ l.from)

abbrev pub decreases-loop-from : goal.decreases-loop-from
decreases-loop-from l = length l.text - l.from
