use Rattle.std.proofs.Common.{◌+◌, sym, ap, ◌∙◌, subst}
use Rattle.std.specs.Str.{IsCharBoundary}
use Rattle.minijinja_lexer.specs.Whitespace.{control_len}
use Rattle.minijinja_lexer.proofs.Boundaries.{control_boundary}
use Rattle.minijinja_lexer.proofs.whitespace.past_control.Goals as goal

pub returns-clause-boundary : goal.returns-clause-boundary
returns-clause-boundary c =
    subst (λ n. IsCharBoundary c.args.text.now (c.args.at + n)) (sym (c.control_len.ensures ∙ ap control_len c.control_at.ensures)) (control_boundary c.args.text.now c.args.at c.utf8.text c.requires)
