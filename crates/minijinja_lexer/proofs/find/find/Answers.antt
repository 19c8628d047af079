use Rattle.std.proofs.Common.{subst}
use Rattle.memchr.specs.Find.{FindsNeedle}
use Rattle.minijinja_lexer.proofs.Pairs.{two_bytes}
use Rattle.minijinja_lexer.proofs.find.find.Goals as goal

pub returns-in-len2 : goal.returns-in-len2
returns-in-len2 c = subst (λ needle. FindsNeedle c.args.haystack.now needle 0 c.find_pair.result) (two_bytes c.args.needle.now c.in-len2.len_at_least c.in-len2.len_below) c.find_pair.ensures
