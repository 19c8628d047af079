use Rattle.std.proofs.Common.{sym, ap, ◌∙◌, length, ◌-◌}
use Rattle.minijinja_lexer.specs.Whitespace.{begins_line}
use Rattle.minijinja_lexer.proofs.Boundaries.{line_boundary}
use Rattle.minijinja_lexer.proofs.data.line_kept_len.Goals as goal

pub returns-then-begins_line-clause-boundary : goal.returns-then-begins_line-clause-boundary
returns-then-begins_line-clause-boundary c =
    let n = length c.as_bytes-bytes.result.now - c.line_len.result in
    line_boundary c.args.text.now n c.utf8.text
    (ap (λ s. begins_line s n) (sym c.as_bytes-bytes.ensures.value) ∙ sym c.begins_line.ensures ∙ c.if-begins_line.true)
