use Rattle.std.proofs.Common.{◌<◌, length, true, false, arith, rules, sym, ap, ◌∙◌}
use Rattle.std.specs.Prelude.{◌&&◌}
use Rattle.minijinja_tree_expr.specs.Tree.{filter, test, call, list, tuple, map}
use Rattle.minijinja_tree_expr.specs.Erasure.{expr_tree, optional_of, exprs_of, args_of, comparisons_of, compare_tree}
use Rattle.minijinja_well_formed.specs.private.ExpressionTests.{is_chain, is_whole_beside, are_whole, are_compared, takes_arguments}
use Rattle.minijinja_tree_expr.proofs.SpannedNodes.{list_is, tuple_is, map_is, filter_is, test_is, call_is, compare_is}
use Rattle.minijinja_well_formed.proofs.WellFormedCounts.{next-argument}
use Rattle.minijinja_tree_expr.proofs.Sizes.{rest-within, next-smaller}
use Rattle.minijinja_well_formed.proofs.WellFormedSides.{goes-on}
use Rattle.minijinja_well_formed.proofs.expressions.+well_formed.Goals as goal

pub is_whole-is_whole_beside-requires : goal.is_whole-is_whole_beside-requires
is_whole-is_whole_beside-requires g t c κs within =
    let deep = rest-within c.args.expr.now c.loop-rest.rest c.loop-rest.rest c.in-Some.part c.in-Some.is c.loop-rest.invariant.lower in
    (omega (arith, deep, c.decreases), search rules)

pub is_whole-loop-rest-smaller : goal.is_whole-loop-rest-smaller
is_whole-loop-rest-smaller g t c = next-smaller c.args.expr.now c.loop-rest.rest c.long_side-rest.result c.in-Some.part c.in-Some.is c.long_side-rest.ensures.smaller

pub is_whole-loop-rest-preserved : goal.is_whole-loop-rest-preserved
is_whole-loop-rest-preserved g t c =
    goes-on g.V.TemplateValue.contents c.args.expr.now c.loop-rest.rest c.in-Some.part c.in-Some.is c.loop-rest.invariant c.long_side-rest.result
    (sym c.if-not-is_whole_beside.false ∙ c.is_whole_beside.ensures) c.long_side-rest.ensures.side c.long_side-rest.ensures.smaller

pub is_whole_beside-returns-in-Compare : goal.is_whole_beside-returns-in-Compare
is_whole_beside-returns-in-Compare g t c =
    let v = g.V.TemplateValue.contents in
    c.are_compared.ensures
    ∙ ap (λ xs. is_chain (comparisons_of v xs) && are_compared (comparisons_of v xs)) c.deref.ensures.value
    ∙ ap is_whole_beside (sym (compare_is v c.node-in-Compare.result.now))
    ∙ ap (λ n. is_whole_beside (compare_tree v n)) c.node-in-Compare.ensures
    ∙ ap (λ e. is_whole_beside (expr_tree v e)) (sym c.in-Compare.is)

pub is_whole_beside-returns-in-Some : goal.is_whole_beside-returns-in-Some
is_whole_beside-returns-in-Some g t c =
    let v = g.V.TemplateValue.contents in
    let n = c.node-filter.result.now in
    c.are_arguments.ensures ∙ ap (λ xs. takes_arguments (args_of v xs)) c.deref-in-Some.ensures.value
    ∙ ap (λ o. is_whole_beside (filter (optional_of v o) n.name.now (args_of v n.args.items))) (sym c.in-Some.is)
    ∙ ap (λ n. is_whole_beside (filter (optional_of v n.expr) n.name.now (args_of v n.args.items))) c.node-filter.ensures
    ∙ ap is_whole_beside (sym (filter_is v c.in-Filter.filter))
    ∙ ap (λ e. is_whole_beside (expr_tree v e)) (sym c.in-Filter.is)

pub is_whole_beside-returns-in-Test : goal.is_whole_beside-returns-in-Test
is_whole_beside-returns-in-Test g t c =
    let v = g.V.TemplateValue.contents in
    c.are_arguments-in-Test.ensures ∙ ap (λ xs. takes_arguments (args_of v xs)) c.deref-in-Test.ensures.value
    ∙ ap (λ n. is_whole_beside (test (expr_tree v n.expr) n.name.now (args_of v n.args.items))) c.node-in-Test.ensures
    ∙ ap is_whole_beside (sym (test_is v c.in-Test.test))
    ∙ ap (λ e. is_whole_beside (expr_tree v e)) (sym c.in-Test.is)

pub is_whole_beside-returns-in-Call : goal.is_whole_beside-returns-in-Call
is_whole_beside-returns-in-Call g t c =
    let v = g.V.TemplateValue.contents in
    c.are_arguments-in-Call.ensures ∙ ap (λ xs. takes_arguments (args_of v xs)) c.deref-in-Call.ensures.value
    ∙ ap (λ n. is_whole_beside (call (expr_tree v n.expr) (args_of v n.args.items))) c.node-in-Call.ensures
    ∙ ap is_whole_beside (sym (call_is v c.in-Call.call))
    ∙ ap (λ e. is_whole_beside (expr_tree v e)) (sym c.in-Call.is)

pub is_whole_beside-returns-in-List : goal.is_whole_beside-returns-in-List
is_whole_beside-returns-in-List g t c =
    let v = g.V.TemplateValue.contents in
    c.are_whole.ensures ∙ ap (λ xs. are_whole (exprs_of v xs)) c.deref-in-List.ensures.value
    ∙ ap (λ n. is_whole_beside (list (exprs_of v n.items.items))) c.node-in-List.ensures
    ∙ ap is_whole_beside (sym (list_is v c.in-List.list))
    ∙ ap (λ e. is_whole_beside (expr_tree v e)) (sym c.in-List.is)

pub is_whole_beside-returns-in-Tuple : goal.is_whole_beside-returns-in-Tuple
is_whole_beside-returns-in-Tuple g t c =
    let v = g.V.TemplateValue.contents in
    c.are_whole-in-Tuple.ensures ∙ ap (λ xs. are_whole (exprs_of v xs)) c.deref-in-Tuple.ensures.value
    ∙ ap (λ n. is_whole_beside (tuple (exprs_of v n.items.items))) c.node-in-Tuple.ensures
    ∙ ap is_whole_beside (sym (tuple_is v c.in-Tuple.tuple))
    ∙ ap (λ e. is_whole_beside (expr_tree v e)) (sym c.in-Tuple.is)

pub is_whole_beside-returns-in-Map : goal.is_whole_beside-returns-in-Map
is_whole_beside-returns-in-Map g t c =
    let v = g.V.TemplateValue.contents in
    c.is_map.ensures
    ∙ ap (λ n. is_whole_beside (map (exprs_of v n.keys.items) (exprs_of v n.values.items))) c.node-in-Map.ensures
    ∙ ap is_whole_beside (sym (map_is v c.in-Map.map))
    ∙ ap (λ e. is_whole_beside (expr_tree v e)) (sym c.in-Map.is)

pub are_arguments-returns-then-not-is_argument : goal.are_arguments-returns-then-not-is_argument
are_arguments-returns-then-not-is_argument g t c =
    let xs = c.args.args.now in
    let i = c.loop-arg.arg-index in
    let within : i < length xs = omega arith in
    sym (c.loop-arg.invariant ∙ next-argument g.V.TemplateValue.contents xs i c.arg-item.result false within c.arg-item.is (sym c.if-not-is_argument.true ∙ c.is_argument.ensures))

pub are_arguments-loop-arg-preserved : goal.are_arguments-loop-arg-preserved
are_arguments-loop-arg-preserved g t c =
    let xs = c.args.args.now in
    let i = c.loop-arg.arg-index in
    let within : i < length xs = omega arith in
    c.loop-arg.invariant ∙ next-argument g.V.TemplateValue.contents xs i c.arg-item.result true within c.arg-item.is (sym c.if-not-is_argument.false ∙ c.is_argument.ensures)
