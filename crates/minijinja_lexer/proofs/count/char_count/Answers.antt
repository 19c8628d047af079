use Rattle.minijinja_lexer.proofs.Stretches.{ascii_leads}
use Rattle.minijinja_lexer.proofs.count.char_count.Goals as goal

pub returns-then-is_ascii : goal.returns-then-is_ascii
returns-then-is_ascii c = ascii_leads c.args.bytes.now c.if-is_ascii.ensures.cases
