use Rattle.std.proofs.Common.{◌+◌, sym, ap, ◌∙◌, subst}
use Rattle.std.specs.Str.{IsCharBoundary}
use Rattle.minijinja_lexer.specs.Whitespace.{control_len}
use Rattle.minijinja_lexer.proofs.Boundaries.{behind_boundary}
use Rattle.minijinja_lexer.proofs.outside.body_of.Goals as goal

pub returns-clause-boundary : goal.returns-clause-boundary
returns-clause-boundary c =
    let stop = c.args.at + c.args.len in
    subst (λ n. IsCharBoundary c.args.text.now (stop + n)) (sym (c.control_len.ensures ∙ ap control_len c.control_behind.ensures)) (behind_boundary c.args.text.now stop c.args.marker c.utf8.text c.requires)
