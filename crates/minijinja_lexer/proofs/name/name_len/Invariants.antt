use Rattle.std.proofs.Common.{◌-◌, length, drop}
use Rattle.minijinja_lexer.proofs.Scanning.{NameRun}
use Rattle.minijinja_lexer.proofs.name.name_len.Given as goal

abbrev pub invariant-loop-len : goal.invariant-loop-len
invariant-loop-len l = NameRun l.text l.len (drop l.len l.text)

abbrev pub decreases-loop-len : goal.decreases-loop-len
decreases-loop-len l = length l.text - l.len
