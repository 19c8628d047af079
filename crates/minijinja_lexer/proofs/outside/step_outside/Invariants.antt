use Rattle.std.proofs.Common.{◌≡◌, ◌-◌, length}
use Rattle.minijinja_lexer.specs.TextTokens.{stream_at}
use Rattle.minijinja_lexer.specs.declared.step.State.TheVariants.{Outside}
use Rattle.minijinja_lexer.proofs.outside.step_outside.Given as goal

abbrev pub invariant-loop-text : goal.invariant-loop-text
invariant-loop-text l =
    (l.cursor.text ≡ l.fn.cursor.text)
    × (stream_at l.syntax l.fn.cursor.text l.cursor.at ≡ stream_at l.syntax l.fn.cursor.text l.fn.cursor.at)
    × (l.state ≡ Outside)

abbrev pub decreases-loop-text : goal.decreases-loop-text
decreases-loop-text l = length l.fn.cursor.text - l.cursor.at
