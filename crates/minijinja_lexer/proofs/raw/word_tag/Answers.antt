use Rattle.std.proofs.Common.{ap, length, arith}
use Rattle.minijinja_syntax.specs.declared.syntax.StartMarker.TheVariants.{Block}
use Rattle.minijinja_lexer.proofs.raw.word_tag.Goals as goal

pub stands_at-requires-2-clause-some : goal.stands_at-requires-2-clause-some
stands_at-requires-2-clause-some c = let l = ap length c.block_delimiters.ensures.end in let some = c.block_delimiters.ensures.built.delimiters Block tt in omega (arith, l, some.1)
