use Rattle.std.proofs.lemmas.Str.{IsCharBoundary-start}
use Rattle.minijinja_lexer.proofs.whitespace.tail_len.Goals as goal

pub returns-in-Preserve-clause-boundary : goal.returns-in-Preserve-clause-boundary
returns-in-Preserve-clause-boundary c = IsCharBoundary-start c.args.text.now c.utf8.text

pub returns-else-trim_blocks-clause-boundary : goal.returns-else-trim_blocks-clause-boundary
returns-else-trim_blocks-clause-boundary c = IsCharBoundary-start c.args.text.now c.utf8.text
