use Rattle.std.proofs.Common.{◌<◌, ◌≤◌, length, arith, rules, refl, sym, ap, ◌∙◌, subst}
use Rattle.minijinja_tree.specs.SpannedErasure.{all_compared, args_of, expr_node, optional_of, trees}
use Rattle.minijinja_tree.specs.SpannedTrees.{comparisons_of, exprs_of}
use Rattle.minijinja_tree_expr.specs.Nodes.{span_of}
use Rattle.minijinja_tree_expr.specs.SpannedErasure.{compare_node}
use Rattle.minijinja_tree_expr.proofs.NodeRows.{call_is, compare_is, filter_is, list_is, map_is, test_is, tuple_is}
use Rattle.minijinja_meta.specs.Mentions.{through_all, through_compared, through_if_any, through_keyword, through_positional}
use Rattle.minijinja_meta.specs.private.Parts.{any_node, map_size, rest}
use Rattle.minijinja_meta.specs.private.Walked.{Walks}
use Rattle.minijinja_meta.proofs.Descending.{descending-begins, descending-goes-on, fewer, rising-begins, rising-goes-on, then-side, walks-reached}
use Rattle.minijinja_meta.proofs.ExprWays.{arg-below, copied-is, next-compared, next-expr, next-keyword, next-pair, next-positional, no-keyword, no-pairs, no-positional, rest-below}
use Rattle.minijinja_meta.proofs.Walking.{then-walks, walking-ends, walking-goes-on, walking-left, walks-as, walks-on}
use Rattle.minijinja_meta.proofs.expressions.+walk.Goals as goal

-- ---- down the long side and back up

pub expression-returns-in-Some : goal.expression-returns-in-Some
expression-returns-in-Some g t c =
    walks-reached g.V.TemplateValue.contents c.row.result c.args.walker.now c.leaf.new.walker c.row.new.walker _ _ c.in-Some.part c.in-Some.is c.in_ok-part.ensures.reaches c.row.ensures

pub next_side-returns-in_ok-if_any-in-Side-clause-reaches : goal.next_side-returns-in_ok-if_any-in-Side-clause-reaches
next_side-returns-in_ok-if_any-in-Side-clause-reaches g t c =
    then-side g.V.TemplateValue.contents c.leaf.result c.args.walker.now c.if_any.new.walker c.leaf.new.walker c.args.part.now c.in-Side.side.now _ c.in_ok-if_any-in-Side.ensures c.leaf.ensures.reaches c.in-Side.ensures.way

pub row-loop-side-init : goal.row-loop-side-init
row-loop-side-init g t c = descending-begins g.V.TemplateValue.contents c.args.walker.now c.args.expr c.requires.logged c.requires.parts

pub row-loop-side-preserved : goal.row-loop-side-preserved
row-loop-side-preserved g t c =
    descending-goes-on g.V.TemplateValue.contents c.args.walker.now c.loop-side.walker c.leaves.new.self c.next_side.new.walker c.args.expr.now c.loop-side.left c.loop-side.side c.in_ok-left.left c.in_ok-side.side c.in-Some.part
    c.in-Some.is c.loop-side.invariant c.in_ok-left.ensures c.in_ok-side.ensures.reaches c.in_ok-side.ensures.smaller

pub row-loop-left-init : goal.row-loop-left-init
row-loop-left-init g t c =
    rising-begins g.V.TemplateValue.contents c.args.walker.now c.loop-side.walker c.args.expr.now c.loop-side.left c.loop-side.side c.len-mark.result (c.len-mark.ensures ∙ c.args.walker.now.waiting.ok.0) c.in_default.not-Some c.loop-side.invariant

pub row-loop-left-smaller : goal.row-loop-left-smaller
row-loop-left-smaller g t c =
    fewer g.V.TemplateValue.contents c.loop-left.walker c.rest.new.walker c.left_after-left.new.self c.len-mark.result c.loop-left.left c.left_after-left.result c.in-Some-left.part c.in-Some-left.is c.in_ok-rest.ensures.waiting c.left_after-left.ensures

pub row-loop-left-preserved : goal.row-loop-left-preserved
row-loop-left-preserved g t c =
    rising-goes-on g.V.TemplateValue.contents c.args.walker.now c.loop-left.walker c.rest.new.walker c.left_after-left.new.self c.args.expr.now c.len-mark.result c.loop-left.left c.in-Some-left.part c.in-Some-left.is c.loop-left.invariant c.in_ok-rest.ensures c.left_after-left.result c.left_after-left.ensures

-- ---- the other parts

pub bounds-returns : goal.bounds-returns
bounds-returns g t c =
    let v = g.V.TemplateValue.contents in
    let n = c.args.slice.now in
    let s = c.args.walker.now in
    let first : Walks v s c.if_any.new.walker (through_if_any (optional_of v n.start)) =
    subst (λ o. Walks v s c.if_any.new.walker (through_if_any o)) (copied-is v c.as_ref.result n.start c.as_ref.ensures.value) c.in_ok-if_any.ensures in
    let second : Walks v c.if_any.new.walker c.if_any-2.new.walker (through_if_any (optional_of v n.stop)) =
    subst (λ o. Walks v c.if_any.new.walker c.if_any-2.new.walker (through_if_any o)) (copied-is v c.as_ref-2.result n.stop c.as_ref-2.ensures.value) c.in_ok-if_any-2.ensures in
    then-walks v c.if_any-3.result s c.if_any-2.new.walker c.if_any-3.new.walker (λ w. through_if_any (optional_of v n.start) (through_if_any (optional_of v n.stop) w)) (through_if_any (optional_of v n.step))
    (walks-on v s c.if_any.new.walker c.if_any-2.new.walker (through_if_any (optional_of v n.start)) (through_if_any (optional_of v n.stop)) first second)
    (walks-as v c.if_any-3.result c.if_any-2.new.walker c.if_any-3.new.walker _ _ (ap through_if_any (copied-is v c.as_ref-3.result n.step c.as_ref-3.ensures.value)) c.if_any-3.ensures)

pub expressions-loop-expr-preserved : goal.expressions-loop-expr-preserved
expressions-loop-expr-preserved g t c =
    let v = g.V.TemplateValue.contents in
    let xs = c.args.exprs.now in
    let i = c.loop-expr.expr-index in
    let within : i < length xs = omega arith in
    walking-goes-on v c.args.walker.now c.loop-expr.walker c.expression.new.walker _ _ _ _ c.loop-expr.invariant c.in_ok-expression.ensures (next-expr v xs i c.expr-item.result within c.expr-item.is)

pub compared-loop-comparison-preserved : goal.compared-loop-comparison-preserved
compared-loop-comparison-preserved g t c =
    let v = g.V.TemplateValue.contents in
    let xs = c.args.comparisons.now in
    let i = c.loop-comparison.comparison-index in
    let within : i < length xs = omega arith in
    walking-goes-on v c.args.walker.now c.loop-comparison.walker c.expression.new.walker _ _ _ _ c.loop-comparison.invariant c.in_ok-expression.ensures (next-compared v xs i c.comparison-item.result within c.comparison-item.is)

pub arguments-if_any-requires : goal.arguments-if_any-requires
arguments-if_any-requires g t c κs within =
    let inside : c.loop-arg.arg-index < length c.args.args.now = omega arith in
    let deep = arg-below c.args.args.now c.loop-arg.arg-index c.arg-item.result c.positional.result inside c.arg-item.is c.positional.ensures.smaller in
    (omega (arith, deep, c.decreases), search rules)

pub arguments-if_any-requires-in-loop-arg-2 : goal.arguments-if_any-requires-in-loop-arg-2
arguments-if_any-requires-in-loop-arg-2 g t c κs within =
    let inside : c.loop-arg-2.arg-index < length c.args.args.now = omega arith in
    let deep = arg-below c.args.args.now c.loop-arg-2.arg-index c.arg-item-in-loop-arg-2.result c.keyword.result inside c.arg-item-in-loop-arg-2.is c.keyword.ensures.smaller in
    (omega (arith, deep, c.decreases), search rules)

pub arguments-loop-arg-preserved : goal.arguments-loop-arg-preserved
arguments-loop-arg-preserved g t c =
    let v = g.V.TemplateValue.contents in
    let xs = c.args.args.now in
    let i = c.loop-arg.arg-index in
    let inside : i < length xs = omega arith in
    walking-goes-on v c.args.walker.now c.loop-arg.walker c.if_any.new.walker _ _ _ _ c.loop-arg.invariant c.in_ok-if_any.ensures
    (λ w. next-positional v xs i c.arg-item.result c.positional.result inside c.arg-item.is c.positional.ensures.expr (through_keyword (args_of v xs) w))

pub arguments-loop-arg-2-preserved : goal.arguments-loop-arg-2-preserved
arguments-loop-arg-2-preserved g t c =
    let v = g.V.TemplateValue.contents in
    let xs = c.args.args.now in
    let i = c.loop-arg-2.arg-index in
    let inside : i < length xs = omega arith in
    walking-goes-on v c.args.walker.now c.loop-arg-2.walker c.if_any-in-loop-arg-2.new.walker _ _ _ _ c.loop-arg-2.invariant c.in_ok-if_any-2.ensures
    (next-keyword v xs i c.arg-item-in-loop-arg-2.result c.keyword.result inside c.arg-item-in-loop-arg-2.is c.keyword.ensures.expr)

pub arguments-loop-arg-2-init : goal.arguments-loop-arg-2-init
arguments-loop-arg-2-init g t c =
    let v = g.V.TemplateValue.contents in
    let xs = c.args.args.now in
    let past : length xs ≤ c.loop-arg.arg-index = omega arith in
    walking-left v c.args.walker.now c.loop-arg.walker _ _ _ c.loop-arg.invariant (λ w. no-positional v xs c.loop-arg.arg-index past (through_keyword (args_of v xs) w))

pub arguments-returns : goal.arguments-returns
arguments-returns g t c =
    let v = g.V.TemplateValue.contents in
    let past : length c.args.args.now ≤ c.loop-arg-2.arg-index = omega arith in
    walking-ends v c.args.walker.now c.loop-arg-2.walker _ _ c.loop-arg-2.invariant (no-keyword v c.args.args.now c.loop-arg-2.arg-index past)

pub pairs-if_any-requires : goal.pairs-if_any-requires
pairs-if_any-requires g t c κs within =
    let deep = rest-below c.key_at.result (map_size c.args.map.now) c.key_at.ensures.smaller in
    (omega (arith, deep, c.decreases), search rules)

pub pairs-if_any-requires-in-loop-place : goal.pairs-if_any-requires-in-loop-place
pairs-if_any-requires-in-loop-place g t c κs within =
    let deep = rest-below c.value_at.result (map_size c.args.map.now) c.value_at.ensures.smaller in
    (omega (arith, deep, c.decreases), search rules)

pub pairs-loop-place-preserved : goal.pairs-loop-place-preserved
pairs-loop-place-preserved g t c =
    let v = g.V.TemplateValue.contents in
    let m = c.args.map.now in
    let key = through_if_any (any_node v c.key_at.result) in
    let value = through_if_any (any_node v c.value_at.result) in
    walking-goes-on v c.args.walker.now c.loop-place.walker c.if_any-in-loop-place.new.walker _ _ _ _ c.loop-place.invariant
    (walks-on v c.loop-place.walker c.if_any.new.walker c.if_any-in-loop-place.new.walker key value c.in_ok-if_any.ensures c.in_ok-if_any-2.ensures)
    (next-pair v m.keys.items m.values.items c.loop-place.place c.key_at.result c.value_at.result c.key_at.ensures.key c.value_at.ensures.value)

pub pairs-returns : goal.pairs-returns
pairs-returns g t c =
    let v = g.V.TemplateValue.contents in
    let m = c.args.map.now in
    let i = c.loop-place.place in
    let keys : length m.keys.items ≤ i = omega (arith, m.keys.ok.0, m.values.ok.0) in
    let values : length m.values.items ≤ i = omega (arith, m.keys.ok.0, m.values.ok.0) in
    walking-ends v c.args.walker.now c.loop-place.walker _ _ c.loop-place.invariant (no-pairs v m.keys.items m.values.items i keys values)

pub rest-returns-in-Compare : goal.rest-returns-in-Compare
rest-returns-in-Compare g t c =
    let v = g.V.TemplateValue.contents in
    walks-as v c.compared.result c.args.walker.now c.compared.new.walker _ _
    (ap (λ xs. through_compared (comparisons_of (all_compared v xs))) c.deref.ensures.value ∙ ap rest (sym (compare_is v c.node-in-Compare.result.now (span_of c.in-Compare.chain)))
    ∙ ap (λ q. rest (compare_node v q (span_of c.in-Compare.chain))) c.node-in-Compare.ensures ∙ ap (λ e. rest (expr_node v e)) (sym c.in-Compare.is))
    c.compared.ensures

pub rest-returns-in-Filter : goal.rest-returns-in-Filter
rest-returns-in-Filter g t c =
    let v = g.V.TemplateValue.contents in
    walks-as v c.arguments.result c.args.walker.now c.arguments.new.walker _ _
    (ap (λ xs w. through_positional (args_of v xs) (through_keyword (args_of v xs) w)) c.deref-in-Filter.ensures.value
    ∙ ap rest (sym (filter_is v c.in-Filter.filter c.node-in-Filter.result.now _ (sym c.node-in-Filter.ensures) refl)) ∙ ap (λ e. rest (expr_node v e)) (sym c.in-Filter.is))
    c.arguments.ensures

pub rest-returns-in-Test : goal.rest-returns-in-Test
rest-returns-in-Test g t c =
    let v = g.V.TemplateValue.contents in
    walks-as v c.arguments-in-Test.result c.args.walker.now c.arguments-in-Test.new.walker _ _
    (ap (λ xs w. through_positional (args_of v xs) (through_keyword (args_of v xs) w)) c.deref-in-Test.ensures.value
    ∙ ap rest (sym (test_is v c.in-Test.test c.node-in-Test.result.now _ (sym c.node-in-Test.ensures) refl)) ∙ ap (λ e. rest (expr_node v e)) (sym c.in-Test.is))
    c.arguments-in-Test.ensures

pub rest-returns-in-Call : goal.rest-returns-in-Call
rest-returns-in-Call g t c =
    let v = g.V.TemplateValue.contents in
    walks-as v c.arguments-in-Call.result c.args.walker.now c.arguments-in-Call.new.walker _ _
    (ap (λ xs w. through_positional (args_of v xs) (through_keyword (args_of v xs) w)) c.deref-in-Call.ensures.value
    ∙ ap rest (sym (call_is v c.in-Call.call c.node-in-Call.result.now _ (sym c.node-in-Call.ensures) refl)) ∙ ap (λ e. rest (expr_node v e)) (sym c.in-Call.is))
    c.arguments-in-Call.ensures

pub rest-returns-in-List : goal.rest-returns-in-List
rest-returns-in-List g t c =
    let v = g.V.TemplateValue.contents in
    walks-as v c.expressions.result c.args.walker.now c.expressions.new.walker _ _
    (ap (λ xs. through_all (exprs_of (trees v xs))) c.deref-in-List.ensures.value
    ∙ ap rest (sym (list_is v c.in-List.list c.node-in-List.result.now _ (sym c.node-in-List.ensures) refl)) ∙ ap (λ e. rest (expr_node v e)) (sym c.in-List.is))
    c.expressions.ensures

pub rest-returns-in-Tuple : goal.rest-returns-in-Tuple
rest-returns-in-Tuple g t c =
    let v = g.V.TemplateValue.contents in
    walks-as v c.expressions-in-Tuple.result c.args.walker.now c.expressions-in-Tuple.new.walker _ _
    (ap (λ xs. through_all (exprs_of (trees v xs))) c.deref-in-Tuple.ensures.value
    ∙ ap rest (sym (tuple_is v c.in-Tuple.tuple c.node-in-Tuple.result.now _ (sym c.node-in-Tuple.ensures) refl)) ∙ ap (λ e. rest (expr_node v e)) (sym c.in-Tuple.is))
    c.expressions-in-Tuple.ensures

pub rest-returns-in-Map : goal.rest-returns-in-Map
rest-returns-in-Map g t c =
    let v = g.V.TemplateValue.contents in
    walks-as v c.pairs.result c.args.walker.now c.pairs.new.walker _ _
    (ap rest (sym (map_is v c.in-Map.map c.node-in-Map.result.now _ (sym c.node-in-Map.ensures) refl)) ∙ ap (λ e. rest (expr_node v e)) (sym c.in-Map.is))
    c.pairs.ensures
