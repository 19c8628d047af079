use Rattle.std.proofs.Common.{sym, ap, ◌∙◌}
use Rattle.minijinja_tree.specs.Callees.{callee}
use Rattle.minijinja_tree.specs.Erasure.{expr_tree}
use Rattle.minijinja_tree.specs.SpannedErasure.{expr_node}
use Rattle.minijinja_tree.specs.SpannedErasure as node
use Rattle.minijinja_tree_expr.proofs.Bare.{expr_is}
use Rattle.minijinja_semantics.specs.Marks as marks
use Rattle.minijinja_emitter.specs.internal.AtEmitter.{margin_of}
use Rattle.minijinja_emitter.specs.internal.Margins.{closed}
use Rattle.minijinja_code_expr.specs.internal.NodeMarks.{given_marks}
use Rattle.minijinja_code_expr.proofs.expr.call.Goals as goal

pub returns-clause-marked : goal.returns-clause-marked
returns-clause-marked g c =
    let v = g.V.TemplateValue.contents in
    let f = g.V.TemplateValue.functions in
    let called = c.args.call.now.expr in
    let old = margin_of c.args.code.now in
    let base = marks.base f (expr_node v called) in
    let value = marks.expr f (expr_node v called) in
    let given = given_marks f (node.args_of v c.args.call.now.args.items) in
    let parts = c.in_ok-parts_of_call.ensures.marked ∙ ap (λ t. marks.call_of (callee (expr_tree v called)) base value given t) c.open-outer.ensures.marked in
    c.close.ensures.marked
    ∙ ap (λ s. closed s (margin_of c.parts_of_call.new.code)) c.open-outer.ensures.outer
    ∙ ap (closed old.span) parts
    ∙ ap (λ e. marks.within c.args.span (marks.call_of (callee e) base value given) old) (sym (expr_is v called))
