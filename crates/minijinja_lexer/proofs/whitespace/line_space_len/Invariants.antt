use Rattle.minijinja_lexer.proofs.Runs.{SpaceRun}
use Rattle.minijinja_lexer.proofs.whitespace.line_space_len.Given as goal

abbrev pub invariant-loop-c : goal.invariant-loop-c
invariant-loop-c l = SpaceRun l.text l.len l.c-iterator.rest.now
