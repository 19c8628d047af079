use Rattle.std.proofs.Common.{sym, ap, ◌∙◌}
use Rattle.minijinja_tree_expr.specs.Tree.{list}
use Rattle.minijinja_tree_expr.specs.Erasure.{expr_tree, exprs_of}
use Rattle.minijinja_well_formed.specs.private.ExpressionTests.{is_target, are_targets}
use Rattle.minijinja_tree_expr.proofs.SpannedNodes.{list_is}
use Rattle.minijinja_well_formed.proofs.Targets.{other-target}
use Rattle.minijinja_well_formed.proofs.expressions.+targets.Goals as goal

pub is_target-returns-in-List : goal.is_target-returns-in-List
is_target-returns-in-List g t c =
    let v = g.V.TemplateValue.contents in
    c.are_targets.ensures ∙ ap (λ xs. are_targets (exprs_of v xs)) c.deref.ensures.value
    ∙ ap (λ n. is_target (list (exprs_of v n.items.items))) c.node-in-List.ensures
    ∙ ap is_target (sym (list_is v c.in-List.list))
    ∙ ap (λ e. is_target (expr_tree v e)) (sym c.in-List.is)

pub is_target-returns-in_default : goal.is_target-returns-in_default
is_target-returns-in_default g t c =
    sym (other-target {F = g.row.V-Fault.Denot} g.V.TemplateValue.contents c.args.expr.now c.in_default.not-Var c.in_default.not-GetAttr c.in_default.not-List)
