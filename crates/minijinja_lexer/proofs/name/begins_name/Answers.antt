use Rattle.std.proofs.Common.{sym, ◌∙◌}
use Rattle.minijinja_lexer.proofs.Scanning.{begins_some, begins_continues}
use Rattle.minijinja_lexer.proofs.name.begins_name.Goals as goal

pub returns-in-Some-clause-continues : goal.returns-in-Some-clause-continues
returns-in-Some-clause-continues c = λ h.
    begins_some c.args.text.now c.next.new.self.rest.now c.in-Some.c c.utf8.text (sym c.chars.ensures.rest ∙ c.in-Some.ensures.steps.0) (begins_continues c.is_xid_start.result c.in-Some.c c.is_xid_start.ensures.continues h)
