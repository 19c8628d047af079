use Rattle.minijinja_lexer.proofs.Plain.{plain_ahead}
use Rattle.minijinja_lexer.proofs.count.plain_end.Goals as goal

pub returns-clause-plain : goal.returns-clause-plain
returns-clause-plain c = plain_ahead c.args.text.now c.as_bytes.result.now c.args.at c.min.result c.plain_len.result c.as_bytes.ensures.value c.plain_len.ensures.within c.plain_len.ensures.plain
