use Rattle.std.proofs.Common.{◌≡◌, ◌+◌, ◌≤◌, min, take}
use Rattle.minijinja_syntax.specs.Positions.{line_after, column_after}
use Rattle.minijinja_lexer.proofs.count.after.Given as goal

abbrev pub invariant-loop-i : goal.invariant-loop-i
invariant-loop-i l = (min 65535 l.line ≡ line_after (take l.i l.text)) × (min 65535 l.column ≡ column_after (take l.i l.text)) × (l.line ≤ 65535 + l.i) × (l.column ≤ 65535 + l.i)
