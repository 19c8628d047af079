use Rattle.std.proofs.Common.{sym, ap}
use Rattle.minijinja_semantics.specs.Meaning.{loop_flags}
use Rattle.minijinja_code_parts.proofs.loop_parts.flags.Goals as goal

pub returns-then-recursive : goal.returns-then-recursive
returns-then-recursive c = ap loop_flags (sym c.if-recursive.true)

pub returns-else-recursive : goal.returns-else-recursive
returns-else-recursive c = ap loop_flags (sym c.if-recursive.false)
