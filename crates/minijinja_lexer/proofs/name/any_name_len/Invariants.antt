use Rattle.minijinja_lexer.proofs.Scanning.{NameRun}
use Rattle.minijinja_lexer.proofs.name.any_name_len.Given as goal

abbrev pub invariant-loop-c : goal.invariant-loop-c
invariant-loop-c l = NameRun l.text l.len l.c-iterator.rest.now
