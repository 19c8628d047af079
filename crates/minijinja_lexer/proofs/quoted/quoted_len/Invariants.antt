use Rattle.std.proofs.Common.{◌-◌, length}
use Rattle.minijinja_lexer.proofs.Quoting.{Before}
use Rattle.minijinja_lexer.proofs.quoted.quoted_len.Given as goal

abbrev pub invariant-loop-len : goal.invariant-loop-len
invariant-loop-len l = Before l.quote l.text l.len

abbrev pub decreases-loop-len : goal.decreases-loop-len
decreases-loop-len l = length l.text - l.len
