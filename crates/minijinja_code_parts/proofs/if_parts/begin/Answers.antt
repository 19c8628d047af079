use Rattle.std.proofs.Common.{ap, ◌∙◌}
use Rattle.minijinja_tree.specs.SpannedErasure as node
use Rattle.minijinja_semantics.specs.Marks as marks
use Rattle.minijinja_emitter.specs.internal.AtEmitter.{margin_of}
use Rattle.minijinja_code_parts.proofs.Marking.{span_is, within_made}
use Rattle.minijinja_code_parts.proofs.if_parts.begin.Goals as goal

pub returns-clause-marked : goal.returns-clause-marked
returns-clause-marked g c =
    let v = g.V.TemplateValue.contents in
    let f = g.V.TemplateValue.functions in
    let n = node.expr_node v c.args.test.now in
    within_made (λ t. marks.here 1 (marks.expr f n t)) (margin_of c.args.code.now) (c.span.ensures ∙ span_is v c.args.test.now) c.open-outer.ensures.outer c.open-outer.ensures.marked
    (c.in_ok-place.ensures.marked ∙ ap (marks.here 1) c.in_ok-expression.ensures.marked) c.close.ensures.marked
