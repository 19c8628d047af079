use Rattle.std.proofs.Common.{◌<◌, ◌≤◌, length, arith, refl, sym, ap, ◌∙◌}
use Rattle.minijinja_tree.specs.SpannedErasure.{expr_node, trees}
use Rattle.minijinja_tree.specs.SpannedTrees.{exprs_of}
use Rattle.minijinja_tree_expr.proofs.NodeRows.{list_is}
use Rattle.minijinja_meta.specs.Mentions.{to_target, to_targets}
use Rattle.minijinja_meta.proofs.TargetWays.{next-target, no-targets, other-way}
use Rattle.minijinja_meta.proofs.Walking.{walking-ends, walking-goes-on, walks-as}
use Rattle.minijinja_meta.proofs.targets.+targets.Goals as goal

pub target-returns-in-List : goal.target-returns-in-List
target-returns-in-List g t c =
    let v = g.V.TemplateValue.contents in
    walks-as v c.targets.result c.args.walker.now c.targets.new.walker _ _
    (ap (λ xs. to_targets (exprs_of (trees v xs))) c.deref.ensures.value
    ∙ ap to_target (sym (list_is v c.in-List.list c.node-in-List.result.now _ (sym c.node-in-List.ensures) refl)) ∙ ap (λ e. to_target (expr_node v e)) (sym c.in-List.is))
    c.targets.ensures

pub target-returns-in_default : goal.target-returns-in_default
target-returns-in_default g t c =
    let v = g.V.TemplateValue.contents in
    walks-as v c.expression-in_default.result c.args.walker.now c.expression-in_default.new.walker _ _ (other-way {F = g.row.V-Fault.Denot} v c.args.expr.now c.in_default.not-Var c.in_default.not-GetAttr c.in_default.not-List) c.expression-in_default.ensures

pub targets-loop-expr-preserved : goal.targets-loop-expr-preserved
targets-loop-expr-preserved g t c =
    let v = g.V.TemplateValue.contents in
    let xs = c.args.exprs.now in
    let i = c.loop-expr.expr-index in
    let within : i < length xs = omega arith in
    walking-goes-on v c.args.walker.now c.loop-expr.walker c.target.new.walker _ _ _ _ c.loop-expr.invariant c.in_ok-target.ensures (next-target v xs i c.expr-item.result within c.expr-item.is)

pub targets-returns : goal.targets-returns
targets-returns g t c =
    let v = g.V.TemplateValue.contents in
    let xs = c.args.exprs.now in
    let past : length xs ≤ c.loop-expr.expr-index = omega arith in
    walking-ends v c.args.walker.now c.loop-expr.walker _ _ c.loop-expr.invariant (no-targets v xs c.loop-expr.expr-index past)
