use Rattle.std.proofs.Common.{true, false, arith, ◌≡◌, ◌∙◌, Some, length, refl, sym, ap, subst}
use Rattle.minijinja_tree.specs.Erasure.{bin_op, unary_op, expr_tree, exprs_of, args_of}
use Rattle.minijinja_tree.specs.WellFormed.{IsWhole}
use Rattle.minijinja_semantics.specs.Layout.{Count, map_count}
use Rattle.minijinja_emitter.specs.internal.AtEmitter.{made_of}
use Rattle.minijinja_code_expr.specs.internal.Parts.{count_of}
use Rattle.minijinja_tree.specs.SpannedErasure as node
use Rattle.minijinja_tree.specs.SpannedErasure.{expr_node}
use Rattle.minijinja_tree.specs.SpannedTrees as spanned
use Rattle.minijinja_tree.specs.SpannedTrees.{bare_expr}
use Rattle.minijinja_tree.specs.Callees.{callee}
use Rattle.minijinja_tree.specs.Folding.{constant_keywords, fold, fold_keywords}
use Rattle.minijinja_tree.specs.Nodes.{node_of, span_of}
use Rattle.minijinja_tree.specs.Operators.{working}
use Rattle.minijinja_tree_expr.proofs.Bare.{expr_is}
use Rattle.minijinja_semantics.specs.Marks as marks
use Rattle.minijinja_semantics.specs.Marks.{here, loaded, ◌⟫◌}
use Rattle.minijinja_emitter.specs.internal.AtEmitter.{margin_of}
use Rattle.minijinja_emitter.specs.internal.Making.{Adds}
use Rattle.minijinja_emitter.specs.internal.Margins.{closed}
use Rattle.minijinja_emitter.proofs.Counting.{as_many}
use Rattle.minijinja_code_expr.specs.internal.Leading.{before_right}
use Rattle.minijinja_code_expr.specs.internal.NodeMarks.{call_ending, ending, finished, given_marks}
use Rattle.minijinja_code_expr.specs.private.ChainMarks.{chain_end}
use Rattle.minijinja_code_expr.specs.private.OperatorMarks.{before_right_marks}
use Rattle.minijinja_code_expr.proofs.ChainMarking.{ahead_end, chain_added, chain_taken, compared_some, later_comparison}
use Rattle.minijinja_code_expr.proofs.CycleMarks.{binary_marks, joined_marks, plain_marks, unary_marks}
use Rattle.minijinja_code_expr.proofs.ItemMarks.{item_marks, items_marked, keyword_marked, pair_marks, pairs_marked, positional_marked}
use Rattle.minijinja_code_expr.proofs.LoadedMarks.{args_bare, list_built, map_built, tuple_built, binary_same, finishes_marks_as, given_loaded, given_merged, items_then, joined_replaced, literal_kept, literal_loaded_marks, loaded_not, loaded_some, unjoined_marks}
use Rattle.minijinja_code_expr.proofs.PositionalArguments.{marks_positional}
use Rattle.minijinja_code_expr.proofs.NodeArms.{spanned_attribute, spanned_binary, spanned_call, spanned_chain, spanned_constant, spanned_filter, spanned_if, spanned_item, spanned_list, spanned_map, spanned_slice, spanned_test, spanned_tuple, spanned_unary, spanned_variable}
use Rattle.minijinja_code_expr.proofs.NodeMarking.{Later, expr_later, later_then}
use Rattle.minijinja_code_expr.proofs.Arms.{compare_arm, unary_arm, binary_arm, list_arm, tuple_arm, map_arm}
use Rattle.minijinja_code_expr.proofs.InOrder.{pairs}
use Rattle.minijinja_tree_expr.specs.declared.ast.Compare.{out-Compare}
use Rattle.minijinja_code_expr.proofs.ChainTurns.{turn, turn_false}
use Rattle.minijinja_code_expr.proofs.PendingMarks.{one_plain, one_tested}
use Rattle.minijinja_code_expr.proofs.PendingNodes.{Begins, begins_ready, begun_none, begun_test}
use Rattle.minijinja_code_expr.proofs.+expr.Goals.{expr::expression-in-Some+in_ok-expression-in-Some+in_ok-place-in-Some, expr::expression-in-None, expr::expression-then-has_leading_operand+in_ok-nested, expr::expression-else-has_leading_operand+in_ok-leaf}
use Rattle.minijinja_code_expr.proofs.ChainEnds.{whole_parts, end_true, end_unknown}
use Rattle.minijinja_code_expr.proofs.CallArguments.{args_length, keywords_loaded}
use Rattle.minijinja_code_expr.proofs.Results.{ok_gives}
use Rattle.minijinja_tree.specs.Tree as tree
use Rattle.minijinja_semantics.specs.Layout as layout
use Rattle.minijinja_code_expr.proofs.+expr.Goals as goal

pub expr::expression-returns-clause-marked : goal.expr::expression-returns-clause-marked
expr::expression-returns-clause-marked g t c =
    let v = g.V.TemplateValue.contents in
    let f = g.V.TemplateValue.functions in
    let e = expr_tree v c.args.expr.now in
    let node = expr_node v c.args.expr.now in
    let operand = c.leading_operand-operand.result.now in
    let x = expr_tree v operand in
    let old = margin_of c.args.code.now in
    let begun : Begins f e c.match-test_of.place (made_of v c.begin-outer.new.code) (made_of v c.match-test_of.code) = elim c.match-test_of.branch [
      | expr::expression-in-Some+in_ok-expression-in-Some+in_ok-place-in-Some w ↦ rw (w.code-is, w.place-is) (begun_test f e (expr_tree v w.in-Some.test.now) (sym w.in-Some.ensures.test) w.in_ok-expression-in-Some.ensures.added w.in_ok-place-in-Some.ensures.place w.in_ok-place-in-Some.ensures.added)
      | expr::expression-in-None w ↦ rw (w.code-is, w.place-is) (begun_none f e (sym w.in-None.ensures.test) w.place-place.ensures)
    ] in
    let more : Adds (made_of v c.match-test_of.code) (made_of v c.if-has_leading_operand.code) (layout.expr f x) = elim c.if-has_leading_operand.branch [
      | expr::expression-then-has_leading_operand+in_ok-nested w ↦ rw w.code-is w.in_ok-nested.ensures.added
      | expr::expression-else-has_leading_operand+in_ok-leaf w ↦ rw w.code-is w.in_ok-leaf.ensures.added
    ] in
    let then : margin_of c.if-has_leading_operand.code ≡ marks.expr f (expr_node v operand) (margin_of c.match-test_of.code) = elim c.if-has_leading_operand.branch [
      | expr::expression-then-has_leading_operand+in_ok-nested w ↦ rw w.code-is w.in_ok-nested.ensures.marked
      | expr::expression-else-has_leading_operand+in_ok-leaf w ↦ rw w.code-is w.in_ok-leaf.ensures.marked
    ] in
    let left : finished f node c.match-test_of.place c.begin-outer.result (marks.expr f (expr_node v operand) (margin_of c.match-test_of.code)) ≡ marks.expr f node old = elim c.match-test_of.branch [
      | expr::expression-in-Some+in_ok-expression-in-Some+in_ok-place-in-Some w ↦ rw (w.code-is, w.place-is)
          (one_tested f v c.args.expr.now operand w.in_ok-place-in-Some.place c.begin-outer.result old (margin_of w.reserve.new.self) w.in-Some.test.now (sym w.in-Some.ensures.node) c.leading_operand-operand.ensures.node c.begin-outer.ensures.outer
          (w.in_ok-place-in-Some.ensures.marked ∙ ap (here 1) (w.in_ok-expression-in-Some.ensures.marked ∙ ap (marks.expr f (expr_node v w.in-Some.test.now)) c.begin-outer.ensures.marked)))
      | expr::expression-in-None w ↦ rw (w.code-is, w.place-is)
          (one_plain f v c.args.expr.now operand w.place-place.result c.begin-outer.result old (margin_of c.begin-outer.new.code) (sym w.in-None.ensures.node) c.leading_operand-operand.ensures.node
          (w.place-place.ensures ∙ ap (λ m. length m.code) c.begin-outer.ensures.made ∙ sym (as_many v c.args.code.now)) c.begin-outer.ensures.outer c.begin-outer.ensures.marked)
    ] in
    c.close.ensures.marked ∙ c.in_ok-finish.ensures.marked (made_of v c.begin-outer.new.code) (begins_ready f e x c.match-test_of.place (made_of v c.begin-outer.new.code) (made_of v c.match-test_of.code) (made_of v c.if-has_leading_operand.code) begun c.leading_operand-operand.ensures.operand more)
    ∙ ap (finished f node c.match-test_of.place c.begin-outer.result) then ∙ left

pub chain::compare-returns-in-Some-false-clause-marked : goal.chain::compare-returns-in-Some-false-clause-marked
chain::compare-returns-in-Some-false-clause-marked g t c =
    let f = g.V.TemplateValue.functions in
    let v = g.V.TemplateValue.contents in
    let q = c.args.chain.now in
    let chain = out-Compare g.row.V.Denot g.row.V-Fault.Denot q in
    let before = c.in_ok-add_comparison_before.ensures in
    let l = c.loop-i in
    let step = turn f v l.invariant.turning (omega (arith, chain.ops.ok.0)) c.index-comparison.ensures c.deref.ensures.value before.leads before.followed c.place-place.ensures c.in_ok-expression.ensures.added in
    let later = subst (Later (margin_of c.args.code.now)) (sym c.in_ok-expression.ensures.marked) (later_then (subst (Later (margin_of c.args.code.now)) (sym before.marked) (later_then l.invariant.later (later_comparison l.i (margin_of l.code)))) (expr_later f (expr_node v c.index-comparison.result.now.expr) (margin_of c.add_comparison_before.new.code))) in
    ok_gives c.fold_to.result (chain_taken f v q c.args.site.node c.args.site.outer c.args.start (made_of v c.args.code.now) (margin_of c.args.code.now) (margin_of c.fold_to.new.code) (f.of_bool false)
    (turn_false f v step c.in_ok-compare_constants.ensures (c.in-Some-false.is ∙ ap Some c.in-Some-false.field-0-test)) later (as_many v c.args.code.now)) c.fold_to.ensures.marked

pub chain::compare-returns-then-is_some-clause-marked : goal.chain::compare-returns-then-is_some-clause-marked
chain::compare-returns-then-is_some-clause-marked g t c =
    let f = g.V.TemplateValue.functions in
    let v = g.V.TemplateValue.contents in
    let q = c.args.chain.now in
    let chain = out-Compare g.row.V.Denot g.row.V-Fault.Denot q in
    ok_gives c.fold_to-then-is_some.result (chain_taken f v q c.args.site.node c.args.site.outer c.args.start (made_of v c.args.code.now) (margin_of c.args.code.now) (margin_of c.fold_to-then-is_some.new.code) (f.of_bool true)
    (end_true f v c.loop-i.invariant.turning (omega (arith, chain.ops.ok.0)) (sym c.is_some.ensures ∙ c.if-is_some.true)) c.loop-i.invariant.later (as_many v c.args.code.now)) c.fold_to-then-is_some.ensures.marked

pub chain::compare-returns-clause-marked : goal.chain::compare-returns-clause-marked
chain::compare-returns-clause-marked g t c =
    let f = g.V.TemplateValue.functions in
    let v = g.V.TemplateValue.contents in
    let q = c.args.chain.now in
    let chain = out-Compare g.row.V.Denot g.row.V-Fault.Denot q in
    let all : c.loop-i.i ≡ length chain.ops.items = omega (arith, chain.ops.ok.0) in
    let some = compared_some f v chain.ops.items (whole_parts f v q c.requires).1 in
    ok_gives c.close.result (λ k. chain_added f v q c.args.site.node c.args.site.outer c.args.start (made_of v c.args.code.now) (margin_of c.args.code.now) (margin_of c.close.new.code)
    (end_unknown f v c.loop-i.invariant.turning (sym c.is_some.ensures ∙ c.if-is_some.false))
    (k ∙ ap (λ xs. chain_end v xs (margin_of c.loop-i.code)) c.deref-2.ensures.value ∙ sym (ahead_end f v chain.ops.items c.loop-i.i (margin_of c.loop-i.code) all (omega (arith, all, some))) ∙ c.loop-i.invariant.marks)) c.close.ensures.marked

pub arguments::positional_arguments-returns-clause-marked : goal.arguments::positional_arguments-returns-clause-marked
arguments::positional_arguments-returns-clause-marked g t c =
    sym (positional_marked g.V.TemplateValue.functions g.V.TemplateValue.contents c.args.args.now c.loop-arg.arg-index (count_of c.loop-arg.count).waiting (margin_of c.loop-arg.code) c.loop-arg-test.false) ∙ c.loop-arg.invariant.marks

pub arguments::keyword_pairs-returns-clause-marked : goal.arguments::keyword_pairs-returns-clause-marked
arguments::keyword_pairs-returns-clause-marked g t c =
    sym (keyword_marked g.V.TemplateValue.functions g.V.TemplateValue.contents c.args.args.now c.loop-arg.arg-index (count_of c.loop-arg.count).waiting (margin_of c.loop-arg.code) c.loop-arg-test.false) ∙ c.loop-arg.invariant.marks

pub expr::leaf-returns-in-Var-clause-marked : goal.expr::leaf-returns-in-Var-clause-marked
expr::leaf-returns-in-Var-clause-marked g t c =
    let v = g.V.TemplateValue.contents in
    let f = g.V.TemplateValue.functions in
    let old = margin_of c.args.code.now in
    let is = spanned_variable v c.args.expr.now c.in-Var.variable c.node.result.now c.span.result c.in-Var.is c.node.ensures c.span.ensures in
    ok_gives c.add.result (λ s. s ∙ ap (here 1) c.on_line.ensures.marked ∙ sym (ap (λ n. marks.expr f n old) is)) c.add.ensures.marked

pub expr::leaf-returns-in-Const-clause-marked : goal.expr::leaf-returns-in-Const-clause-marked
expr::leaf-returns-in-Const-clause-marked g t c =
    let v = g.V.TemplateValue.contents in
    let f = g.V.TemplateValue.functions in
    let old = margin_of c.args.code.now in
    let is = spanned_constant v c.args.expr.now c.in-Const.constant c.node-in-Const.result.now c.span-in-Const.result c.in-Const.is c.node-in-Const.ensures c.span-in-Const.ensures in
    ok_gives c.load_constant.result (λ s. s ∙ ap (here 1) c.on_line-in-Const.ensures.marked ∙ sym (ap (λ n. marks.expr f n old) is)) c.load_constant.ensures.marked

pub expr::finish-returns-in-Var-clause-marked : goal.expr::finish-returns-in-Var-clause-marked
expr::finish-returns-in-Var-clause-marked g t c =
    let v = g.V.TemplateValue.contents in
    let f = g.V.TemplateValue.functions in
    let e = c.args.node.now in
    let n = c.node.result.now in
    let old = margin_of c.args.code.now in
    let is = spanned_variable v e c.in-Var.variable n (span_of c.in-Var.variable) c.in-Var.is c.node.ensures refl in
    ok_gives c.add.result (λ s. plain_marks f (expr_tree v e) c.args.place c.args.outer (made_of v c.args.code.now) old (margin_of c.add.new.self) (here 1) is refl (s)) c.add.ensures.marked

pub expr::finish-returns-in-Const-clause-marked : goal.expr::finish-returns-in-Const-clause-marked
expr::finish-returns-in-Const-clause-marked g t c =
    let v = g.V.TemplateValue.contents in
    let f = g.V.TemplateValue.functions in
    let e = c.args.node.now in
    let n = c.node-in-Const.result.now in
    let old = margin_of c.args.code.now in
    let is = spanned_constant v e c.in-Const.constant n (span_of c.in-Const.constant) c.in-Const.is c.node-in-Const.ensures refl in
    ok_gives c.load_constant.result (λ s. plain_marks f (expr_tree v e) c.args.place c.args.outer (made_of v c.args.code.now) old (margin_of c.load_constant.new.code) (here 1) is refl (s)) c.load_constant.ensures.marked

pub expr::finish_operation-returns-in_ok-optional-in-Slice-3-clause-marked : goal.expr::finish_operation-returns-in_ok-optional-in-Slice-3-clause-marked
expr::finish_operation-returns-in_ok-optional-in-Slice-3-clause-marked g t c =
    let v = g.V.TemplateValue.contents in
    let f = g.V.TemplateValue.functions in
    let e = c.args.node.now in
    let n = c.node-slice.result.now in
    let old = margin_of c.args.code.now in
    let is = spanned_slice v e c.in-Slice.slice n (span_of c.in-Slice.slice) c.in-Slice.is c.node-slice.ensures refl in
    ok_gives c.add.result (λ s. plain_marks f (expr_tree v e) c.args.place c.args.outer (made_of v c.args.code.now) old (margin_of c.add.new.self) (marks.optional f (node.optional_of v n.start) ⟫ marks.optional f (node.optional_of v n.stop) ⟫ marks.optional f (node.optional_of v n.step) ⟫ here 1) is refl (s ∙ ap (here 1) (c.in_ok-optional-in-Slice-3.ensures.marked ∙ ap (marks.optional f (node.optional_of v n.step)) (c.in_ok-optional-in-Slice-2.ensures.marked ∙ ap (marks.optional f (node.optional_of v n.stop)) c.in_ok-optional-in-Slice.ensures.marked)))) c.add.ensures.marked

pub expr::finish_operation-returns-in_ok-optional-in-IfExpr-clause-marked : goal.expr::finish_operation-returns-in_ok-optional-in-IfExpr-clause-marked
expr::finish_operation-returns-in_ok-optional-in-IfExpr-clause-marked g t c =
    let v = g.V.TemplateValue.contents in
    let f = g.V.TemplateValue.functions in
    let e = c.args.node.now in
    let n = c.node-in-IfExpr.result.now in
    let old = margin_of c.args.code.now in
    let is = spanned_if v e c.in-IfExpr.choice n (span_of c.in-IfExpr.choice) c.in-IfExpr.is c.node-in-IfExpr.ensures refl in
    plain_marks f (expr_tree v e) c.args.place c.args.outer (made_of v c.args.code.now) old (margin_of c.end_else.new.code) (here 1 ⟫ marks.optional f (node.optional_of v n.false_expr)) is refl
    (c.end_else.ensures.marked ∙ c.in_ok-optional-in-IfExpr.ensures.marked ∙ ap (marks.optional f (node.optional_of v n.false_expr)) c.in_ok-end-in-IfExpr.ensures.marked)

pub expr::finish-returns-in_ok-count-in-Filter-clause-marked : goal.expr::finish-returns-in_ok-count-in-Filter-clause-marked
expr::finish-returns-in_ok-count-in-Filter-clause-marked g t c =
    let v = g.V.TemplateValue.contents in
    let f = g.V.TemplateValue.functions in
    let e = c.args.node.now in
    let n = c.node-filter.result.now in
    let old = margin_of c.args.code.now in
    let is = spanned_filter v e c.in-Filter.filter n (span_of c.in-Filter.filter) c.in-Filter.is c.node-filter.ensures refl in
    ok_gives c.apply_filter.result (λ s. plain_marks f (expr_tree v e) c.args.place c.args.outer (made_of v c.args.code.now) old (margin_of c.apply_filter.new.code) (given_marks f (node.args_of v n.args.items) 1 ⟫ here 1) is refl (s ∙ ap (here 1) (c.in_ok-count-in-Filter.ensures.marked ∙ ap (λ xs. given_marks f (node.args_of v xs) 1 old) c.deref.ensures.value))) c.apply_filter.ensures.marked

pub expr::finish-returns-in_ok-count-in-Test-clause-marked : goal.expr::finish-returns-in_ok-count-in-Test-clause-marked
expr::finish-returns-in_ok-count-in-Test-clause-marked g t c =
    let v = g.V.TemplateValue.contents in
    let f = g.V.TemplateValue.functions in
    let e = c.args.node.now in
    let n = c.node-test.result.now in
    let old = margin_of c.args.code.now in
    let is = spanned_test v e c.in-Test.test n (span_of c.in-Test.test) c.in-Test.is c.node-test.ensures refl in
    ok_gives c.perform_test.result (λ s. plain_marks f (expr_tree v e) c.args.place c.args.outer (made_of v c.args.code.now) old (margin_of c.perform_test.new.code) (given_marks f (node.args_of v n.args.items) 1 ⟫ here 1) is refl (s ∙ ap (here 1) (c.in_ok-count-in-Test.ensures.marked ∙ ap (λ xs. given_marks f (node.args_of v xs) 1 old) c.deref-in-Test.ensures.value))) c.perform_test.ensures.marked

pub expr::finish-returns-in-GetAttr-clause-marked : goal.expr::finish-returns-in-GetAttr-clause-marked
expr::finish-returns-in-GetAttr-clause-marked g t c =
    let v = g.V.TemplateValue.contents in
    let f = g.V.TemplateValue.functions in
    let e = c.args.node.now in
    let n = c.node-in-GetAttr.result.now in
    let old = margin_of c.args.code.now in
    let is = spanned_attribute v e c.in-GetAttr.attribute n (span_of c.in-GetAttr.attribute) c.in-GetAttr.is c.node-in-GetAttr.ensures refl in
    ok_gives c.add-in-GetAttr.result (λ s. plain_marks f (expr_tree v e) c.args.place c.args.outer (made_of v c.args.code.now) old (margin_of c.add-in-GetAttr.new.self) (here 1) is refl (s)) c.add-in-GetAttr.ensures.marked

pub expr::finish-returns-in_ok-expression-in-GetItem-clause-marked : goal.expr::finish-returns-in_ok-expression-in-GetItem-clause-marked
expr::finish-returns-in_ok-expression-in-GetItem-clause-marked g t c =
    let v = g.V.TemplateValue.contents in
    let f = g.V.TemplateValue.functions in
    let e = c.args.node.now in
    let n = c.node-in-GetItem.result.now in
    let old = margin_of c.args.code.now in
    let is = spanned_item v e c.in-GetItem.item n (span_of c.in-GetItem.item) c.in-GetItem.is c.node-in-GetItem.ensures refl in
    ok_gives c.add-in-GetItem.result (λ s. plain_marks f (expr_tree v e) c.args.place c.args.outer (made_of v c.args.code.now) old (margin_of c.add-in-GetItem.new.self) (marks.expr f (expr_node v n.subscript_expr) ⟫ here 1) is refl (s ∙ ap (here 1) c.in_ok-expression-in-GetItem.ensures.marked)) c.add-in-GetItem.ensures.marked

pub expr::finish-returns-in-Call-clause-marked : goal.expr::finish-returns-in-Call-clause-marked
expr::finish-returns-in-Call-clause-marked g t c =
    let v = g.V.TemplateValue.contents in
    let f = g.V.TemplateValue.functions in
    let e = c.args.node.now in
    let n = c.node-in-Call.result.now in
    let old = margin_of c.args.code.now in
    let is = spanned_call v e c.in-Call.call n (span_of c.in-Call.call) c.in-Call.is c.node-in-Call.ensures refl in
    ok_gives c.finish_call.result (λ s. plain_marks f (expr_tree v e) c.args.place c.args.outer (made_of v c.args.code.now) old (margin_of c.finish_call.new.code) (call_ending (callee (bare_expr (expr_node v n.expr))) (given_marks f (node.args_of v n.args.items))) is refl (s ∙ ap (λ k. call_ending (callee k) (given_marks f (node.args_of v n.args.items)) old) (sym (expr_is v n.expr)))) c.finish_call.ensures.marked

pub expr::finish-returns-in-List-clause-marked : goal.expr::finish-returns-in-List-clause-marked
expr::finish-returns-in-List-clause-marked g t c =
    let v = g.V.TemplateValue.contents in
    let f = g.V.TemplateValue.functions in
    let e = c.args.node.now in
    let old = margin_of c.args.code.now in
    let is = spanned_list v e c.in-List.field-0 (node_of c.in-List.field-0) (span_of c.in-List.field-0) c.in-List.is refl refl in
    ok_gives c.literal.result (λ s. plain_marks f (expr_tree v e) c.args.place c.args.outer (made_of v c.args.code.now) old (margin_of c.literal.new.code) (ending f (expr_node v e)) is (ap (λ x. closed c.args.outer (ending f x old)) is) s) c.literal.ensures.marked

pub expr::finish-returns-in-Tuple-clause-marked : goal.expr::finish-returns-in-Tuple-clause-marked
expr::finish-returns-in-Tuple-clause-marked g t c =
    let v = g.V.TemplateValue.contents in
    let f = g.V.TemplateValue.functions in
    let e = c.args.node.now in
    let old = margin_of c.args.code.now in
    let is = spanned_tuple v e c.in-Tuple.field-0 (node_of c.in-Tuple.field-0) (span_of c.in-Tuple.field-0) c.in-Tuple.is refl refl in
    ok_gives c.literal-in-Tuple.result (λ s. plain_marks f (expr_tree v e) c.args.place c.args.outer (made_of v c.args.code.now) old (margin_of c.literal-in-Tuple.new.code) (ending f (expr_node v e)) is (ap (λ x. closed c.args.outer (ending f x old)) is) s) c.literal-in-Tuple.ensures.marked

pub expr::finish-returns-in-Map-clause-marked : goal.expr::finish-returns-in-Map-clause-marked
expr::finish-returns-in-Map-clause-marked g t c =
    let v = g.V.TemplateValue.contents in
    let f = g.V.TemplateValue.functions in
    let e = c.args.node.now in
    let old = margin_of c.args.code.now in
    let is = spanned_map v e c.in-Map.field-0 (node_of c.in-Map.field-0) (span_of c.in-Map.field-0) c.in-Map.is refl refl in
    ok_gives c.literal-in-Map.result (λ s. plain_marks f (expr_tree v e) c.args.place c.args.outer (made_of v c.args.code.now) old (margin_of c.literal-in-Map.new.code) (ending f (expr_node v e)) is (ap (λ x. closed c.args.outer (ending f x old)) is) s) c.literal-in-Map.ensures.marked

pub expr::finish_operation-returns-in-UnaryOp-clause-marked : goal.expr::finish_operation-returns-in-UnaryOp-clause-marked
expr::finish_operation-returns-in-UnaryOp-clause-marked g t c =
    let v = g.V.TemplateValue.contents in
    let f = g.V.TemplateValue.functions in
    let e = c.args.node.now in
    let n = c.node.result.now in
    let s = c.span-node.result in
    let made = made_of v c.args.code.now in
    let old = margin_of c.args.code.now in
    let new = margin_of c.end_unary.new.code in
    let bare = unary_arm v e c.in-UnaryOp.operation n c.in-UnaryOp.is c.node.ensures in
    let is = spanned_unary v e c.in-UnaryOp.operation n s c.in-UnaryOp.is c.node.ensures c.span-node.ensures in
    ok_gives c.end_unary.result (λ ends. finishes_marks_as f c.args.place c.args.outer made old new bare is
    (unary_marks f (unary_op n.op) (expr_node v n.expr) s (expr_tree v n.expr) c.args.place c.args.outer made old new (expr_is v n.expr) (subst IsWhole bare c.requires.whole) ends)) c.end_unary.ensures.marked

pub expr::finish_operation-returns-in-BinOp-clause-marked : goal.expr::finish_operation-returns-in-BinOp-clause-marked
expr::finish_operation-returns-in-BinOp-clause-marked g t c =
    let v = g.V.TemplateValue.contents in
    let f = g.V.TemplateValue.functions in
    let e = c.args.node.now in
    let n = c.node-in-BinOp.result.now in
    let bare = binary_arm v e c.in-BinOp.operation n c.in-BinOp.is c.node-in-BinOp.ensures in
    let is = spanned_binary v e c.in-BinOp.operation n c.span-node-in-BinOp.result c.in-BinOp.is c.node-in-BinOp.ensures c.span-node-in-BinOp.ensures in
    ok_gives c.finish_binary.result (finishes_marks_as f c.args.place c.args.outer (made_of v c.args.code.now) (margin_of c.args.code.now) (margin_of c.finish_binary.new.code) bare is) c.finish_binary.ensures.marked

pub expr::finish_operation-returns-in-Compare-clause-marked : goal.expr::finish_operation-returns-in-Compare-clause-marked
expr::finish_operation-returns-in-Compare-clause-marked g t c =
    let v = g.V.TemplateValue.contents in
    let f = g.V.TemplateValue.functions in
    let e = c.args.node.now in
    let n = c.node-in-Compare.result.now in
    let bare = compare_arm v e c.in-Compare.chain n c.in-Compare.is c.node-in-Compare.ensures in
    let is = spanned_chain v e c.in-Compare.chain n c.span-node-in-Compare.result c.in-Compare.is c.node-in-Compare.ensures c.span-node-in-Compare.ensures in
    ok_gives c.compare.result (finishes_marks_as f c.args.place c.args.outer (made_of v c.args.code.now) (margin_of c.args.code.now) (margin_of c.compare.new.code) bare is) c.compare.ensures.marked

pub expr::finish_binary-returns-clause-marked : goal.expr::finish_binary-returns-clause-marked
expr::finish_binary-returns-clause-marked g t c =
    let v = g.V.TemplateValue.contents in
    let f = g.V.TemplateValue.functions in
    let n = c.args.operation.now in
    let old = margin_of c.args.code.now in
    let same = binary_same f (bin_op n.op) (expr_tree v n.left) (expr_tree v n.right) c.args.place (made_of v c.args.code.now) (made_of v c.join_constant.new.code) c.in_ok-joined.joined c.if-joined.false c.requires.left c.in_ok-joined.ensures.added in
    let kept = unjoined_marks c.args.place c.args.site c.in_ok-joined.joined old (margin_of c.join_constant.new.code) c.if-joined.false c.in_ok-joined.ensures.marked in
    ok_gives c.end_binary.result (binary_marks f (bin_op n.op) (expr_node v n.left) (expr_node v n.right) c.args.site.node (expr_tree v n.left) (expr_tree v n.right) c.args.place c.in_ok-middle.middle c.args.site.outer (made_of v c.args.code.now) old (expr_is v n.left) (expr_is v n.right)
    (margin_of c.begin_right.new.code) (margin_of c.expression.new.code) (margin_of c.end_binary.new.code) c.requires.left c.requires.right (as_many v c.args.code.now)
    (c.in_ok-middle.ensures.middle ∙ ap (λ m. length m.code) same)
    (subst (λ m. Adds m (made_of v c.begin_right.new.code) (before_right (working (bin_op n.op)))) same c.in_ok-middle.ensures.added) c.in_ok-expression.ensures.added
    (c.in_ok-middle.ensures.marked ∙ ap (before_right_marks (working (bin_op n.op))) kept) c.in_ok-expression.ensures.marked) c.end_binary.ensures.marked

pub expr::finish_binary-returns-then-joined-clause-marked : goal.expr::finish_binary-returns-then-joined-clause-marked
expr::finish_binary-returns-then-joined-clause-marked g t c =
    let v = g.V.TemplateValue.contents in
    let f = g.V.TemplateValue.functions in
    let n = c.args.operation.now in
    let old = margin_of c.args.code.now in
    joined_marks f (bin_op n.op) (expr_node v n.left) (expr_node v n.right) c.args.site.node (expr_tree v n.left) (expr_tree v n.right) c.args.place c.args.place c.args.site.outer (made_of v c.args.code.now) old (expr_is v n.left) (expr_is v n.right)
    (margin_of c.join_constant.new.code) (c.in_ok-joined.ensures.folds c.if-joined.true c.requires.left) (joined_replaced c.args.place c.args.site c.in_ok-joined.joined old (margin_of c.join_constant.new.code) c.if-joined.true c.in_ok-joined.ensures.marked)

pub expr::finish_call-returns-in_ok-count-in-Function-clause-marked : goal.expr::finish_call-returns-in_ok-count-in-Function-clause-marked
expr::finish_call-returns-in_ok-count-in-Function-clause-marked g t c =
    let v = g.V.TemplateValue.contents in
    let f = g.V.TemplateValue.functions in
    let n = c.args.call.now in
    let old = margin_of c.args.code.now in
    ok_gives c.add.result (λ s. s ∙ ap (here 1) (c.in_ok-count-in-Function.ensures.marked ∙ ap (λ xs. given_marks f (node.args_of v xs) 0 old) c.deref.ensures.value)
    ∙ ap (λ k. call_ending k (given_marks f (node.args_of v n.args.items)) old) c.in-Function.ensures.callee) c.add.ensures.marked

pub expr::finish_call-returns-in_ok-count-in-Method-clause-marked : goal.expr::finish_call-returns-in_ok-count-in-Method-clause-marked
expr::finish_call-returns-in_ok-count-in-Method-clause-marked g t c =
    let v = g.V.TemplateValue.contents in
    let f = g.V.TemplateValue.functions in
    let n = c.args.call.now in
    let old = margin_of c.args.code.now in
    ok_gives c.add-in-Method.result (λ s. s ∙ ap (here 1) (c.in_ok-count-in-Method.ensures.marked ∙ ap (λ xs. given_marks f (node.args_of v xs) 1 old) c.deref-in-Method.ensures.value)
    ∙ ap (λ k. call_ending k (given_marks f (node.args_of v n.args.items)) old) c.in-Method.ensures.callee) c.add-in-Method.ensures.marked

pub expr::finish_call-returns-in_ok-count-in-Object-clause-marked : goal.expr::finish_call-returns-in_ok-count-in-Object-clause-marked
expr::finish_call-returns-in_ok-count-in-Object-clause-marked g t c =
    let v = g.V.TemplateValue.contents in
    let f = g.V.TemplateValue.functions in
    let n = c.args.call.now in
    let old = margin_of c.args.code.now in
    ok_gives c.add-in-Object.result (λ s. s ∙ ap (here 1) (c.in_ok-count-in-Object.ensures.marked ∙ ap (λ xs. given_marks f (node.args_of v xs) 1 old) c.deref-in-Object.ensures.value)
    ∙ ap (λ k. call_ending k (given_marks f (node.args_of v n.args.items)) old) c.in-Object.ensures.callee) c.add-in-Object.ensures.marked

pub expr::finish_call-returns-in-Block-clause-marked : goal.expr::finish_call-returns-in-Block-clause-marked
expr::finish_call-returns-in-Block-clause-marked g t c =
    let v = g.V.TemplateValue.contents in
    let f = g.V.TemplateValue.functions in
    let n = c.args.call.now in
    ok_gives c.capture_block.result (λ s. s ∙ ap (λ k. call_ending k (given_marks f (node.args_of v n.args.items)) (margin_of c.args.code.now)) c.in-Block.ensures.callee) c.capture_block.ensures.marked

pub expr::literal-returns-then-branch-clause-marked : goal.expr::literal-returns-then-branch-clause-marked
expr::literal-returns-then-branch-clause-marked g t c =
    let v = g.V.TemplateValue.contents in
    let f = g.V.TemplateValue.functions in
    let e = c.args.node.now in
    let n = c.node-list.result.now in
    let old = margin_of c.args.code.now in
    let is = spanned_list v e c.in-List.list n (span_of c.in-List.list) c.in-List.is c.node-list.ensures refl in
    let bare = list_arm v e c.in-List.list n c.in-List.is c.node-list.ensures in
    let folds : fold f (bare_expr (spanned.list (spanned.exprs_of (node.trees v n.items.items)) (span_of c.in-List.list))) ≡ fold f (tree.list (exprs_of v n.items.items)) = ap (fold f) (ap bare_expr (sym is) ∙ expr_is v e ∙ bare) in
    literal_loaded_marks c.in_ok-load_list-in-List.field-0 (fold f (tree.list (exprs_of v n.items.items))) old (margin_of c.load_list.new.code) c.if-branch.true (loaded_some f (made_of v c.args.code.now) (made_of v c.load_list.new.code) (fold f (tree.list (exprs_of v n.items.items))) c.in_ok-load_list-in-List.field-0 c.if-branch.true c.in_ok-load_list-in-List.ensures.added) c.in_ok-load_list-in-List.ensures.marked (items_then f (spanned.exprs_of (node.trees v n.items.items)))
    ∙ ap (λ o. loaded o (items_then f (spanned.exprs_of (node.trees v n.items.items))) old) (sym folds)
    ∙ ap (λ x. ending f x old) (sym is)

pub expr::literal-returns-after-loop-item-clause-marked : goal.expr::literal-returns-after-loop-item-clause-marked
expr::literal-returns-after-loop-item-clause-marked g t c =
    let v = g.V.TemplateValue.contents in
    let f = g.V.TemplateValue.functions in
    let e = c.args.node.now in
    let n = c.node-list.result.now in
    let old = margin_of c.args.code.now in
    let is = spanned_list v e c.in-List.list n (span_of c.in-List.list) c.in-List.is c.node-list.ensures refl in
    let bare = list_arm v e c.in-List.list n c.in-List.is c.node-list.ensures in
    let folds : fold f (bare_expr (spanned.list (spanned.exprs_of (node.trees v n.items.items)) (span_of c.in-List.list))) ≡ fold f (tree.list (exprs_of v n.items.items)) = ap (fold f) (ap bare_expr (sym is) ∙ expr_is v e ∙ bare) in
    let kept = literal_kept c.in_ok-load_list-in-List.field-0 old (margin_of c.load_list.new.code) c.if-branch.false c.in_ok-load_list-in-List.ensures.marked in
    let items : margin_of c.loop-item.code ≡ item_marks f v n.items.items old = sym (items_marked f v c.deref-item-items.result.now c.loop-item.item-index (margin_of c.loop-item.code) (omega arith)) ∙ c.loop-item.invariant.marks ∙ ap (λ xs. item_marks f v xs (margin_of c.load_list.new.code)) c.deref-item-items.ensures.value ∙ ap (item_marks f v n.items.items) kept in
    let none = loaded_not f (made_of v c.args.code.now) (made_of v c.load_list.new.code) (fold f (tree.list (exprs_of v n.items.items))) c.in_ok-load_list-in-List.field-0 c.if-branch.false c.in_ok-load_list-in-List.ensures.added in
    ok_gives c.add.result (list_built f (expr_node v e) (span_of c.in-List.list) (fold f (tree.list (exprs_of v n.items.items))) old (margin_of c.loop-item.code) (spanned.exprs_of (node.trees v n.items.items)) folds none is items) c.add.ensures.marked

pub expr::literal-returns-then-branch-2-clause-marked : goal.expr::literal-returns-then-branch-2-clause-marked
expr::literal-returns-then-branch-2-clause-marked g t c =
    let v = g.V.TemplateValue.contents in
    let f = g.V.TemplateValue.functions in
    let e = c.args.node.now in
    let n = c.node-tuple.result.now in
    let old = margin_of c.args.code.now in
    let is = spanned_tuple v e c.in-Tuple.tuple n (span_of c.in-Tuple.tuple) c.in-Tuple.is c.node-tuple.ensures refl in
    let bare = tuple_arm v e c.in-Tuple.tuple n c.in-Tuple.is c.node-tuple.ensures in
    let folds : fold f (bare_expr (spanned.tuple (spanned.exprs_of (node.trees v n.items.items)) (span_of c.in-Tuple.tuple))) ≡ fold f (tree.tuple (exprs_of v n.items.items)) = ap (fold f) (ap bare_expr (sym is) ∙ expr_is v e ∙ bare) in
    literal_loaded_marks c.in_ok-load_tuple-in-Tuple.field-0 (fold f (tree.tuple (exprs_of v n.items.items))) old (margin_of c.load_tuple.new.code) c.if-branch-2.true (loaded_some f (made_of v c.args.code.now) (made_of v c.load_tuple.new.code) (fold f (tree.tuple (exprs_of v n.items.items))) c.in_ok-load_tuple-in-Tuple.field-0 c.if-branch-2.true c.in_ok-load_tuple-in-Tuple.ensures.added) c.in_ok-load_tuple-in-Tuple.ensures.marked (items_then f (spanned.exprs_of (node.trees v n.items.items)))
    ∙ ap (λ o. loaded o (items_then f (spanned.exprs_of (node.trees v n.items.items))) old) (sym folds)
    ∙ ap (λ x. ending f x old) (sym is)

pub expr::literal-returns-after-loop-item-2-clause-marked : goal.expr::literal-returns-after-loop-item-2-clause-marked
expr::literal-returns-after-loop-item-2-clause-marked g t c =
    let v = g.V.TemplateValue.contents in
    let f = g.V.TemplateValue.functions in
    let e = c.args.node.now in
    let n = c.node-tuple.result.now in
    let old = margin_of c.args.code.now in
    let is = spanned_tuple v e c.in-Tuple.tuple n (span_of c.in-Tuple.tuple) c.in-Tuple.is c.node-tuple.ensures refl in
    let bare = tuple_arm v e c.in-Tuple.tuple n c.in-Tuple.is c.node-tuple.ensures in
    let folds : fold f (bare_expr (spanned.tuple (spanned.exprs_of (node.trees v n.items.items)) (span_of c.in-Tuple.tuple))) ≡ fold f (tree.tuple (exprs_of v n.items.items)) = ap (fold f) (ap bare_expr (sym is) ∙ expr_is v e ∙ bare) in
    let kept = literal_kept c.in_ok-load_tuple-in-Tuple.field-0 old (margin_of c.load_tuple.new.code) c.if-branch-2.false c.in_ok-load_tuple-in-Tuple.ensures.marked in
    let items : margin_of c.loop-item-2.code ≡ item_marks f v n.items.items old = sym (items_marked f v c.deref-item-items-in-Tuple.result.now c.loop-item-2.item-index (margin_of c.loop-item-2.code) (omega arith)) ∙ c.loop-item-2.invariant.marks ∙ ap (λ xs. item_marks f v xs (margin_of c.load_tuple.new.code)) c.deref-item-items-in-Tuple.ensures.value ∙ ap (item_marks f v n.items.items) kept in
    let none = loaded_not f (made_of v c.args.code.now) (made_of v c.load_tuple.new.code) (fold f (tree.tuple (exprs_of v n.items.items))) c.in_ok-load_tuple-in-Tuple.field-0 c.if-branch-2.false c.in_ok-load_tuple-in-Tuple.ensures.added in
    ok_gives c.add-in-Tuple.result (tuple_built f (expr_node v e) (span_of c.in-Tuple.tuple) (fold f (tree.tuple (exprs_of v n.items.items))) old (margin_of c.loop-item-2.code) (spanned.exprs_of (node.trees v n.items.items)) folds none is items) c.add-in-Tuple.ensures.marked

pub expr::literal-returns-then-branch-3-clause-marked : goal.expr::literal-returns-then-branch-3-clause-marked
expr::literal-returns-then-branch-3-clause-marked g t c =
    let v = g.V.TemplateValue.contents in
    let f = g.V.TemplateValue.functions in
    let e = c.args.node.now in
    let n = c.node-map.result.now in
    let ks = n.keys.items in
    let vs = n.values.items in
    let old = margin_of c.args.code.now in
    let is = spanned_map v e c.in-Map.map n (span_of c.in-Map.map) c.in-Map.is c.node-map.ensures refl in
    let bare = map_arm v e c.in-Map.map n c.in-Map.is c.node-map.ensures in
    let pairs_of = pair_marks f v ks vs ⟫ here 1 in
    let folds : fold f (bare_expr (spanned.map (spanned.exprs_of (node.trees v ks)) (spanned.exprs_of (node.trees v vs)) (span_of c.in-Map.map))) ≡ fold f (tree.map (exprs_of v ks) (exprs_of v vs)) = ap (fold f) (ap bare_expr (sym is) ∙ expr_is v e ∙ bare) in
    literal_loaded_marks c.in_ok-load_map-in-Map.field-0 (fold f (tree.map (exprs_of v ks) (exprs_of v vs))) old (margin_of c.load_map.new.code) c.if-branch-3.true (loaded_some f (made_of v c.args.code.now) (made_of v c.load_map.new.code) (fold f (tree.map (exprs_of v ks) (exprs_of v vs))) c.in_ok-load_map-in-Map.field-0 c.if-branch-3.true c.in_ok-load_map-in-Map.ensures.added) c.in_ok-load_map-in-Map.ensures.marked pairs_of
    ∙ ap (λ o. loaded o pairs_of old) (sym folds)
    ∙ ap (λ x. ending f x old) (sym is)

pub expr::literal-returns-after-loop-i-clause-marked : goal.expr::literal-returns-after-loop-i-clause-marked
expr::literal-returns-after-loop-i-clause-marked g t c =
    let v = g.V.TemplateValue.contents in
    let f = g.V.TemplateValue.functions in
    let e = c.args.node.now in
    let n = c.node-map.result.now in
    let ks = n.keys.items in
    let vs = n.values.items in
    let old = margin_of c.args.code.now in
    let is = spanned_map v e c.in-Map.map n (span_of c.in-Map.map) c.in-Map.is c.node-map.ensures refl in
    let bare = map_arm v e c.in-Map.map n c.in-Map.is c.node-map.ensures in
    let folds : fold f (bare_expr (spanned.map (spanned.exprs_of (node.trees v ks)) (spanned.exprs_of (node.trees v vs)) (span_of c.in-Map.map))) ≡ fold f (tree.map (exprs_of v ks) (exprs_of v vs)) = ap (fold f) (ap bare_expr (sym is) ∙ expr_is v e ∙ bare) in
    let l = c.loop-i in
    let kept = literal_kept c.in_ok-load_map-in-Map.field-0 old (margin_of c.load_map.new.code) c.if-branch-3.false c.in_ok-load_map-in-Map.ensures.marked in
    let pairs : margin_of l.code ≡ pair_marks f v ks vs old = sym (pairs_marked f v ks vs l.i (margin_of l.code) (omega (arith, n.keys.ok.0))) ∙ l.invariant.marks ∙ ap (pair_marks f v ks vs) kept in
    let none = loaded_not f (made_of v c.args.code.now) (made_of v c.load_map.new.code) (fold f (tree.map (exprs_of v ks) (exprs_of v vs))) c.in_ok-load_map-in-Map.field-0 c.if-branch-3.false c.in_ok-load_map-in-Map.ensures.added in
    ok_gives c.add-in-Map.result (map_built f (expr_node v e) (span_of c.in-Map.map) (fold f (tree.map (exprs_of v ks) (exprs_of v vs))) old (margin_of l.code) (spanned.exprs_of (node.trees v ks)) (spanned.exprs_of (node.trees v vs)) folds none is pairs) c.add-in-Map.ensures.marked

pub arguments::arguments-returns-then-count-front-clause-marked : goal.arguments::arguments-returns-then-count-front-clause-marked
arguments::arguments-returns-then-count-front-clause-marked g t c =
    let v = g.V.TemplateValue.contents in
    let xs = c.args.args.now in
    marks_positional g.V.TemplateValue.functions (args_of v xs) c.args.front (count_of c.in_ok-count.count) c.in_ok-count.ensures.counted (omega (arith, c.if-count-front.true, args_length v xs)) (node.args_of v xs) (args_bare v xs) (margin_of c.args.code.now) (margin_of c.positional_arguments.new.code) c.in_ok-count.ensures.marked

pub arguments::arguments-returns-then-branch-clause-marked : goal.arguments::arguments-returns-then-branch-clause-marked
arguments::arguments-returns-then-branch-clause-marked g t c =
    let v = g.V.TemplateValue.contents in
    let f = g.V.TemplateValue.functions in
    let xs = c.args.args.now in
    let args = args_of v xs in
    let old = margin_of c.args.code.now in
    let map = keywords_loaded f args c.in_ok-load_keywords.field-0 c.if-branch.true c.in_ok-load_keywords.ensures.added in
    given_loaded f (node.args_of v xs) args (args_bare v xs) c.args.front (count_of c.in_ok-count.count) 1 c.in_ok-count.ensures.counted map.1 old (margin_of c.positional_arguments.new.code) (margin_of c.load_keywords.new.code) (margin_of c.spread.new.code) c.spread.result
    c.in_ok-load_keywords.field-0 c.if-branch.true (loaded_some f (made_of v c.positional_arguments.new.code) (made_of v c.load_keywords.new.code) (fold_keywords f (constant_keywords f args)) c.in_ok-load_keywords.field-0 c.if-branch.true c.in_ok-load_keywords.ensures.added) c.in_ok-count.ensures.marked c.in_ok-load_keywords.ensures.marked c.spread.ensures.marked

pub arguments::arguments-returns-clause-marked : goal.arguments::arguments-returns-clause-marked
arguments::arguments-returns-clause-marked g t c =
    let v = g.V.TemplateValue.contents in
    let f = g.V.TemplateValue.functions in
    let xs = c.args.args.now in
    let args = args_of v xs in
    let old = margin_of c.args.code.now in
    let maps = c.in_ok-map.ensures.count ∙ ap (λ (k : Count). map_count k.batches k.waiting) c.in_ok-pairs.ensures.counted in
    given_merged f (node.args_of v xs) args (args_bare v xs) c.args.front (count_of c.in_ok-count.count) c.in_ok-map.map c.in_ok-count.ensures.counted maps old (margin_of c.positional_arguments.new.code) (margin_of c.merge.new.code) (margin_of c.spread-2.new.code) c.spread-2.result
    c.in_ok-load_keywords.field-0 c.if-branch.false (loaded_not f (made_of v c.positional_arguments.new.code) (made_of v c.load_keywords.new.code) (fold_keywords f (constant_keywords f args)) c.in_ok-load_keywords.field-0 c.if-branch.false c.in_ok-load_keywords.ensures.added) (count_of c.in_ok-pairs.pairs) c.in_ok-pairs.ensures.counted (margin_of c.load_keywords.new.code) (margin_of c.keyword_pairs.new.code)
    c.in_ok-count.ensures.marked c.in_ok-load_keywords.ensures.marked c.in_ok-pairs.ensures.marked c.in_ok-map.ensures.marked c.spread-2.ensures.marked
