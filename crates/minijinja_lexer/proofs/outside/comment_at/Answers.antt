use Rattle.std.proofs.Common.{ap, length, arith}
use Rattle.minijinja_syntax.specs.declared.syntax.StartMarker.TheVariants.{Comment}
use Rattle.minijinja_lexer.proofs.outside.comment_at.Goals as goal

pub next_delimiter-end-requires-clause-some : goal.next_delimiter-end-requires-clause-some
next_delimiter-end-requires-clause-some c = let l = ap length c.comment_delimiters.ensures.end in let some = c.comment_delimiters.ensures.built.delimiters Comment tt in omega (arith, l, some.1)
