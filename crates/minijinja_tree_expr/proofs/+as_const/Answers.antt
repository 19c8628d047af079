use Rattle.std.proofs.Common.{◌≡◌, ◌+◌, ◌<◌, length, drop, arith, rules, sym, ap, subst, ◌∙◌}
use Rattle.std.specs.Prelude.{IfOk, Some, None}
use Rattle.std.specs.Option.{option_map}
use Rattle.minijinja_tree_expr.specs.Comparisons.{compares}
use Rattle.minijinja_tree_expr.specs.Erasure.{compare_op, expr_tree, exprs_of, compare_tree, comparisons_of}
use Rattle.minijinja_tree_expr.specs.Folding.{fold, fold_chain}
use Rattle.minijinja_tree_expr.specs.Tree.{list, tuple, map}
use Rattle.minijinja_tree_expr.specs.private.FoldingSteps.{fold_node}
use Rattle.minijinja_tree_expr.proofs.SpannedNodes.{list_is, tuple_is, map_is}
use Rattle.minijinja_tree_expr.proofs.Chains.{chain-holds, chain-fails, chain-faults, chain-unknown, chain-ends, next-comparison, compare-known, compare-unknown}
use Rattle.minijinja_tree_expr.proofs.FoldedOutcomes.{comparison_without_fault}
use Rattle.minijinja_tree_expr.proofs.FoldingSteps.{goes-down, goes-up, next-node}
use Rattle.minijinja_tree_expr.proofs.+as_const.Goals as goal

pub ast::Expr::as_const-loop-rest-preserved : goal.ast::Expr::as_const-loop-rest-preserved
ast::Expr::as_const-loop-rest-preserved g t c =
    goes-down g.V.TemplateValue.functions g.V.TemplateValue.contents c.args.self.now c.loop-rest.nodes.items c.push.new.self.items c.loop-rest.rest c.first_operand-rest.result c.in-Some.node
    c.in_ok-push.ensures.items c.in-Some.is c.first_operand-rest.ensures.first c.first_operand-rest.ensures.smaller c.loop-rest.invariant

pub ast::Expr::as_const-node_constant-requires : goal.ast::Expr::as_const-node_constant-requires
ast::Expr::as_const-node_constant-requires g t c κs within =
    let v = g.V.TemplateValue.contents in
    let deep = next-node g.V.TemplateValue.functions v c.args.self.now c.loop-node.nodes.items c.pop.new.self.items c.in-Some-pop.node (option_map v c.loop-node.constant) c.in-Some-pop.ensures.items c.loop-node.invariant in
    (omega (arith, deep, c.decreases), search rules)

pub ast::Expr::as_const-loop-node-preserved : goal.ast::Expr::as_const-loop-node-preserved
ast::Expr::as_const-loop-node-preserved g t c =
    let v = g.V.TemplateValue.contents in
    goes-up g.V.TemplateValue.functions v c.args.self.now c.loop-node.nodes.items c.pop.new.self.items c.in-Some-pop.node (option_map v c.loop-node.constant) (option_map v c.in_ok-constant.constant)
    c.in-Some-pop.ensures.items c.in_ok-constant.ensures.folds c.loop-node.invariant

pub constants::node_constant-returns-in-Some-first-2-clause-folds : goal.constants::node_constant-returns-in-Some-first-2-clause-folds
constants::node_constant-returns-in-Some-first-2-clause-folds g t c =
    let f = g.V.TemplateValue.functions in
    let v = g.V.TemplateValue.contents in
    let l = v c.in-Some-first-2.left in
    subst (λ o. IfOk c.comparisons_constant.result (λ r. option_map v r ≡ o))
    (
    ap (λ xs. fold_chain f l (comparisons_of v xs)) c.deref.ensures.value
    ∙ compare-known f v c.node-in-Some-first-2.result.now l
    ∙ ap (λ n. fold_node f (compare_tree v n) (Some l)) c.node-in-Some-first-2.ensures
    ∙ ap (λ e. fold_node f (expr_tree v e) (Some l)) (sym c.in-Compare.is)
    ∙ ap (λ o. fold_node f (expr_tree v c.args.node.now) (option_map v o)) (sym c.in-Some-first-2.is)
    )
    c.comparisons_constant.ensures.folds

pub constants::node_constant-returns-in-None-first-2-clause-folds : goal.constants::node_constant-returns-in-None-first-2-clause-folds
constants::node_constant-returns-in-None-first-2-clause-folds g t c =
    let f = g.V.TemplateValue.functions in
    let v = g.V.TemplateValue.contents in
    compare-unknown f v c.in-Compare.chain.place.value.node
    ∙ ap (λ e. fold_node f (expr_tree v e) None) (sym c.in-Compare.is)
    ∙ ap (λ o. fold_node f (expr_tree v c.args.node.now) (option_map v o)) (sym c.in-None-first-2.is)

pub constants::node_constant-returns-in-List-clause-folds : goal.constants::node_constant-returns-in-List-clause-folds
constants::node_constant-returns-in-List-clause-folds g t c =
    let f = g.V.TemplateValue.functions in
    let v = g.V.TemplateValue.contents in
    let first = option_map v c.args.first in
    subst (λ o. IfOk c.as_const.result (λ r. option_map v r ≡ o))
    (ap (λ n. fold f (list (exprs_of v n.items.items))) c.node-in-List.ensures ∙ ap (λ t. fold_node f t first) (sym (list_is v c.in-List.list)) ∙ ap (λ e. fold_node f (expr_tree v e) first) (sym c.in-List.is))
    c.as_const.ensures.folds

pub constants::node_constant-returns-in-Tuple-clause-folds : goal.constants::node_constant-returns-in-Tuple-clause-folds
constants::node_constant-returns-in-Tuple-clause-folds g t c =
    let f = g.V.TemplateValue.functions in
    let v = g.V.TemplateValue.contents in
    let first = option_map v c.args.first in
    subst (λ o. IfOk c.as_const-in-Tuple.result (λ r. option_map v r ≡ o))
    (ap (λ n. fold f (tuple (exprs_of v n.items.items))) c.node-in-Tuple.ensures ∙ ap (λ t. fold_node f t first) (sym (tuple_is v c.in-Tuple.tuple)) ∙ ap (λ e. fold_node f (expr_tree v e) first) (sym c.in-Tuple.is))
    c.as_const-in-Tuple.ensures.folds

pub constants::node_constant-returns-in-Map-clause-folds : goal.constants::node_constant-returns-in-Map-clause-folds
constants::node_constant-returns-in-Map-clause-folds g t c =
    let f = g.V.TemplateValue.functions in
    let v = g.V.TemplateValue.contents in
    let first = option_map v c.args.first in
    subst (λ o. IfOk c.as_const-in-Map.result (λ r. option_map v r ≡ o))
    (ap (λ n. fold f (map (exprs_of v n.keys.items) (exprs_of v n.values.items))) c.node-in-Map.ensures ∙ ap (λ t. fold_node f t first) (sym (map_is v c.in-Map.map)) ∙ ap (λ e. fold_node f (expr_tree v e) first) (sym c.in-Map.is))
    c.as_const-in-Map.ensures.folds

pub constants::comparisons_constant-returns-in-Some-false-clause-folds : goal.constants::comparisons_constant-returns-in-Some-false-clause-folds
constants::comparisons_constant-returns-in-Some-false-clause-folds g t c =
    let f = g.V.TemplateValue.functions in
    let v = g.V.TemplateValue.contents in
    let xs = c.args.comparisons.now in
    let i = c.loop-comparison.comparison-index in
    let x = c.comparison-item.result in
    let l = v c.loop-comparison.left in
    let rest = comparisons_of v (drop (i + 1) xs) in
    let within : i < length xs = omega arith in
    let here = next-comparison f v l xs i x within c.comparison-item.is in
    let right = ap (option_map v) (sym c.in-Some.is) ∙ c.in_ok-right.ensures.folds in
    let known = comparison_without_fault g.V.TemplateValue.fault_contents (compares f (compare_op x.op) l (v c.in-Some.right)) c.holds.result _ c.holds.ensures.outcome c.in_ok-without_fault-in-Some.ensures.value in
    let fails = ap Some (sym c.in-Some-false.field-0-test) ∙ sym c.in-Some-false.is ∙ known in
    ap Some c.of_bool.ensures ∙ sym (sym c.loop-comparison.invariant ∙ here ∙ chain-fails f l (compare_op x.op) (expr_tree v x.expr) rest (v c.in-Some.right) right fails)

pub constants::comparisons_constant-returns-in-None-2-clause-folds : goal.constants::comparisons_constant-returns-in-None-2-clause-folds
constants::comparisons_constant-returns-in-None-2-clause-folds g t c =
    let f = g.V.TemplateValue.functions in
    let v = g.V.TemplateValue.contents in
    let xs = c.args.comparisons.now in
    let i = c.loop-comparison.comparison-index in
    let x = c.comparison-item.result in
    let l = v c.loop-comparison.left in
    let rest = comparisons_of v (drop (i + 1) xs) in
    let within : i < length xs = omega arith in
    let here = next-comparison f v l xs i x within c.comparison-item.is in
    let right = ap (option_map v) (sym c.in-Some.is) ∙ c.in_ok-right.ensures.folds in
    let known = comparison_without_fault g.V.TemplateValue.fault_contents (compares f (compare_op x.op) l (v c.in-Some.right)) c.holds.result _ c.holds.ensures.outcome c.in_ok-without_fault-in-Some.ensures.value in
    let faults = sym c.in-None-2.is ∙ known in
    sym (sym c.loop-comparison.invariant ∙ here ∙ chain-faults f l (compare_op x.op) (expr_tree v x.expr) rest (v c.in-Some.right) right faults)

pub constants::comparisons_constant-returns-in-None-clause-folds : goal.constants::comparisons_constant-returns-in-None-clause-folds
constants::comparisons_constant-returns-in-None-clause-folds g t c =
    let f = g.V.TemplateValue.functions in
    let v = g.V.TemplateValue.contents in
    let xs = c.args.comparisons.now in
    let i = c.loop-comparison.comparison-index in
    let x = c.comparison-item.result in
    let l = v c.loop-comparison.left in
    let rest = comparisons_of v (drop (i + 1) xs) in
    let within : i < length xs = omega arith in
    let here = next-comparison f v l xs i x within c.comparison-item.is in
    let unknown = ap (option_map v) (sym c.in-None.is) ∙ c.in_ok-right.ensures.folds in
    sym (sym c.loop-comparison.invariant ∙ here ∙ chain-unknown f l (compare_op x.op) (expr_tree v x.expr) rest unknown)

pub constants::comparisons_constant-loop-comparison-preserved : goal.constants::comparisons_constant-loop-comparison-preserved
constants::comparisons_constant-loop-comparison-preserved g t c =
    let f = g.V.TemplateValue.functions in
    let v = g.V.TemplateValue.contents in
    let xs = c.args.comparisons.now in
    let i = c.loop-comparison.comparison-index in
    let x = c.comparison-item.result in
    let l = v c.loop-comparison.left in
    let rest = comparisons_of v (drop (i + 1) xs) in
    let within : i < length xs = omega arith in
    let here = next-comparison f v l xs i x within c.comparison-item.is in
    let right = ap (option_map v) (sym c.in-Some.is) ∙ c.in_ok-right.ensures.folds in
    let known = comparison_without_fault g.V.TemplateValue.fault_contents (compares f (compare_op x.op) l (v c.in-Some.right)) c.holds.result _ c.holds.ensures.outcome c.in_ok-without_fault-in-Some.ensures.value in
    let holds = ap Some (sym c.in-Some-true.field-0-test) ∙ sym c.in-Some-true.is ∙ known in
    sym (here ∙ chain-holds f l (compare_op x.op) (expr_tree v x.expr) rest (v c.in-Some.right) right holds) ∙ c.loop-comparison.invariant

pub constants::comparisons_constant-returns-clause-folds : goal.constants::comparisons_constant-returns-clause-folds
constants::comparisons_constant-returns-clause-folds g t c =
    let f = g.V.TemplateValue.functions in
    let v = g.V.TemplateValue.contents in
    ap Some c.of_bool-2.ensures ∙ sym (chain-ends f v (v c.loop-comparison.left) c.args.comparisons.now c.loop-comparison.comparison-index (omega arith)) ∙ c.loop-comparison.invariant
