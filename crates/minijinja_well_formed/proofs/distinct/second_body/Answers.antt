use Rattle.std.proofs.Common.{sym, ap, ◌∙◌}
use Rattle.minijinja_tree.specs.Tree.{for_loop, if_cond}
use Rattle.minijinja_tree.specs.Erasure.{expr_tree, optional_of, stmt_tree}
use Rattle.minijinja_well_formed.specs.private.BlockNames.{second_body}
use Rattle.minijinja_tree.proofs.Rows.{body_of, for_loop_is, if_cond_is}
use Rattle.minijinja_well_formed.proofs.distinct.second_body.Goals as goal

pub returns-in-ForLoop-clause-body : goal.returns-in-ForLoop-clause-body
returns-in-ForLoop-clause-body g c =
    let v = g.V.TemplateValue.contents in
    ap (body_of v) c.as_slice.ensures.value
    ∙ ap (λ n. second_body (for_loop tt (expr_tree v n.target) (expr_tree v n.iter) (optional_of v n.filter_expr) n.recursive (body_of v n.body.items) (body_of v n.else_body.items))) c.node.ensures
    ∙ ap second_body (sym (for_loop_is v c.in-ForLoop.repeated))
    ∙ ap (λ s. second_body (stmt_tree v s)) (sym c.in-ForLoop.is)

pub returns-in-IfCond-clause-body : goal.returns-in-IfCond-clause-body
returns-in-IfCond-clause-body g c =
    let v = g.V.TemplateValue.contents in
    ap (body_of v) c.as_slice-in-IfCond.ensures.value
    ∙ ap (λ n. second_body (if_cond (expr_tree v n.expr) (body_of v n.true_body.items) (body_of v n.false_body.items))) c.node-in-IfCond.ensures
    ∙ ap second_body (sym (if_cond_is v c.in-IfCond.condition))
    ∙ ap (λ s. second_body (stmt_tree v s)) (sym c.in-IfCond.is)
