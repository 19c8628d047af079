use Rattle.minijinja_lexer.proofs.Boundaries.{trim_start_boundary}
use Rattle.minijinja_lexer.proofs.whitespace.leading_space.Goals as goal

pub returns-clause-boundary : goal.returns-clause-boundary
returns-clause-boundary c = trim_start_boundary c.args.text.now c.trim_start.result.now c.utf8.text c.trim_start.utf8 c.trim_start.ensures.value.0 c.trim_start.ensures.value.1
