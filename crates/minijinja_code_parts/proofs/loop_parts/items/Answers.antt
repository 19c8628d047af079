use Rattle.std.proofs.Common.{sym, ap, ◌∙◌}
use Rattle.minijinja_tree.specs.SpannedErasure as node
use Rattle.minijinja_semantics.specs.Marks as marks
use Rattle.minijinja_emitter.specs.internal.AtEmitter.{margin_of}
use Rattle.minijinja_emitter.specs.internal.Margins.{opened}
use Rattle.minijinja_code_parts.specs.private.LoopMarks.{items_marks}
use Rattle.minijinja_code_parts.proofs.Marking.{span_is}
use Rattle.minijinja_code_parts.proofs.loop_parts.items.Goals as goal

pub returns-in_ok-expression-in-None-clause-marked : goal.returns-in_ok-expression-in-None-clause-marked
returns-in_ok-expression-in-None-clause-marked g c =
    let v = g.V.TemplateValue.contents in
    let f = g.V.TemplateValue.functions in
    let n = node.expr_node v c.args.iterable.now in
    let m = margin_of c.args.code.now in
    c.in_ok-expression-in-None.ensures.marked
    ∙ ap (marks.expr f n) (c.enter.ensures.marked ∙ ap (λ s. opened s m) (c.span.ensures ∙ span_is v c.args.iterable.now))
    ∙ ap (λ o. items_marks f (node.expr_node v c.args.target.now) n (node.optional_of v o) m) (sym c.in-None.is)
