use Rattle.std.proofs.Common.{sym, ap, ◌∙◌, subst}
use Rattle.std.specs.Str.{IsCharBoundary}
use Rattle.minijinja_lexer.specs.Whitespace.{line_end_len}
use Rattle.minijinja_lexer.proofs.Boundaries.{line_end_boundary}
use Rattle.minijinja_lexer.proofs.whitespace.line_end_len.Goals as goal

pub returns-clause-boundary : goal.returns-clause-boundary
returns-clause-boundary c =
    subst (λ n. IsCharBoundary c.args.text.now n) (sym (c.newline_len.ensures ∙ ap line_end_len c.as_bytes.ensures.value)) (line_end_boundary c.args.text.now c.utf8.text)
