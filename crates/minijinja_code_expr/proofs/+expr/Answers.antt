use Rattle.std.proofs.Common.{rules, arith, ◌≡◌, ◌+◌, ◌≤◌, [], ◌∙◌, Some, length, refl, sym, ap, ap₂, subst}
use Rattle.std.specs.Prelude.{reverse}
use Rattle.minijinja_tree.specs.Erasure.{bin_op, expr_tree, args_of, optional_of}
use Rattle.minijinja_tree.specs.WellFormed.{IsWhole, AreArguments, arg_count, most_arguments}
use Rattle.minijinja_tree_expr.specs.declared.ast.Expr.{size-Expr, the_lemmas}
use Rattle.minijinja_semantics.specs.Pieces.{one}
use Rattle.minijinja_code_expr.specs.internal.Leading.{IsLiteral, test_in}
use Rattle.minijinja_emitter.specs.internal.AtEmitter.{made_of}
use Rattle.minijinja_code_expr.specs.private.PendingNodes.{pending_of}
use Rattle.minijinja_tree.specs.SpannedErasure.{expr_node}
use Rattle.minijinja_semantics.specs.Marks as marks
use Rattle.minijinja_semantics.specs.Marks.{here}
use Rattle.minijinja_semantics.proofs.Runs.{append_nil}
use Rattle.minijinja_emitter.specs.internal.AtEmitter.{margin_of}
use Rattle.minijinja_emitter.proofs.Counting.{as_many}
use Rattle.minijinja_emitter.specs.internal.Making.{Adds}
use Rattle.minijinja_code_expr.specs.internal.NodeMarks.{finished}
use Rattle.minijinja_code_expr.proofs.ChainMarking.{ahead_marks, ahead_next, later_comparison}
use Rattle.minijinja_code_expr.proofs.NodeMarking.{Later, expr_later, later_then, whole_leaf}
use Rattle.minijinja_code_expr.proofs.PendingMarks.{after, after_more, no_leading, with_one_more, waits_plain, waits_tested}
use Rattle.minijinja_emitter.proofs.Adding.{adds_as}
use Rattle.minijinja_code_expr.proofs.Arms.{whole_if_false, compare_arm, attribute_arm, item_arm, whole_slice_start, whole_left, whole_right, whole_key, whole_compare, slice_arm, unary_arm, binary_arm, if_arm, filter_arm, test_arm, call_arm, list_arm, tuple_arm, map_arm, whole_slice_stop, whole_slice_step, whole_filter, whole_test_args, whole_test_few, whole_call_args, whole_call_few}
use Rattle.minijinja_code_expr.proofs.Finishing.{constant_finishes, variable_finishes, attribute_finishes, item_finishes, block_finishes, finishes_as, slice_finishes, binary_finishes, binary_joined, binary_unjoined, filter_finishes, filter_arguments, test_finishes, function_finishes, method_finishes, object_finishes, leading_whole, test_whole}
use Rattle.minijinja_code_expr.proofs.OperationNodes.{is_operation, no_operation}
use Rattle.minijinja_code_expr.proofs.PendingNodes.{Begins, begins_ready, begun_none, begun_test, Rest, rest_more, rest_less, rest_whole, rest_size, leaf_ready, rest_ready}
use Rattle.minijinja_tree_expr.specs.declared.ast.Compare.{out-Compare}
use Rattle.minijinja_code_expr.specs.private.Comparing.{places_of}
use Rattle.minijinja_code_expr.proofs.ChainTurns.{turning_first, turn, turn_held, turn_holds, turn_stops}
use Rattle.minijinja_code_expr.proofs.ChainEnds.{whole_parts, compare_fails, compare_holds, compare_closes}
use Rattle.minijinja_code_expr.proofs.+expr.Goals.{expr::nested-in-Some+in_ok-expression-in-Some+in_ok-place-in-Some, expr::nested-in-None, expr::expression-in-Some+in_ok-expression-in-Some+in_ok-place-in-Some, expr::expression-in-None, expr::expression-then-has_leading_operand+in_ok-nested, expr::expression-else-has_leading_operand+in_ok-leaf, chain::compare-in-Some-true, chain::compare-in-None}
use Rattle.minijinja_tree_expr.specs.declared.ast.Call.{the_lemmas as call_lemmas}
use Rattle.minijinja_tree_expr.specs.declared.ast.BinOp.{the_lemmas as binary_lemmas}
use Rattle.minijinja_code_expr.proofs.Branching.{if_finishes}
use Rattle.minijinja_code_expr.proofs.Results.{ok_gives}
use Rattle.minijinja_tree.specs.Tree as tree
use Rattle.minijinja_semantics.specs.Layout as layout
use Rattle.minijinja_semantics.specs.Code as code
use Rattle.minijinja_semantics.specs.Events as event
use Rattle.minijinja_code_expr.proofs.+expr.Answers.Marked as marked
use Rattle.minijinja_code_expr.proofs.+expr.Answers.Arguments as of_arguments
use Rattle.minijinja_code_expr.proofs.+expr.Answers.Literals as of_literals
use Rattle.minijinja_code_expr.proofs.+expr.Goals as goal
mod Arguments
mod Literals
mod Marked

pub expr::nested-expression-requires : goal.expr::nested-expression-requires
expr::nested-expression-requires g t c =
    let v = g.V.TemplateValue.contents in
    let e = expr_tree v c.loop-code.part.now in
    let is : test_in e ≡ Some (expr_tree v c.in-Some.test.now) = sym c.in-Some.ensures.test in
    let small = c.loop-code.invariant.small in
    λ κs live. (omega (arith, c.in-Some.ensures.smaller, small, c.decreases), (search rules, (search rules, test_whole e (expr_tree v c.in-Some.test.now) is c.loop-code.invariant.whole)))

pub expr::expression-expression-requires : goal.expr::expression-expression-requires
expr::expression-expression-requires g t c =
    let v = g.V.TemplateValue.contents in
    let e = expr_tree v c.args.expr.now in
    λ κs live. (omega (arith, c.in-Some.ensures.smaller, c.decreases), (search rules, (search rules, test_whole e (expr_tree v c.in-Some.test.now) (sym c.in-Some.ensures.test) c.requires)))

pub expr::expression-nested-requires : goal.expr::expression-nested-requires
expr::expression-nested-requires g t c =
    let v = g.V.TemplateValue.contents in
    let operand = c.leading_operand-operand in
    λ κs live. (omega (arith, operand.ensures.smaller, c.decreases), (search rules, (search rules, leading_whole (expr_tree v c.args.expr.now) (expr_tree v operand.result.now) operand.ensures.operand c.requires)))

pub expr::expression-leaf-requires-else-has_leading_operand : goal.expr::expression-leaf-requires-else-has_leading_operand
expr::expression-leaf-requires-else-has_leading_operand g t c =
    let v = g.V.TemplateValue.contents in
    let operand = c.leading_operand-operand in
    λ κs live. (omega (arith, operand.ensures.smaller, c.decreases), (search rules, (search rules, (leading_whole (expr_tree v c.args.expr.now) (expr_tree v operand.result.now) operand.ensures.operand c.requires, sym c.has_leading_operand-2.ensures ∙ c.if-has_leading_operand.false))))

pub expr::expression-finish-requires : goal.expr::expression-finish-requires
expr::expression-finish-requires g t c = λ κs live. (omega (arith, c.decreases), (search rules, (search rules, c.requires)))

pub expr::expression-returns-clause-added : goal.expr::expression-returns-clause-added
expr::expression-returns-clause-added g t c =
    let v = g.V.TemplateValue.contents in
    let f = g.V.TemplateValue.functions in
    let e = expr_tree v c.args.expr.now in
    let x = expr_tree v c.leading_operand-operand.result.now in
    let begun : Begins f e c.match-test_of.place (made_of v c.begin-outer.new.code) (made_of v c.match-test_of.code) = elim c.match-test_of.branch [
      | expr::expression-in-Some+in_ok-expression-in-Some+in_ok-place-in-Some w ↦ rw (w.code-is, w.place-is) (begun_test f e (expr_tree v w.in-Some.test.now) (sym w.in-Some.ensures.test) w.in_ok-expression-in-Some.ensures.added w.in_ok-place-in-Some.ensures.place w.in_ok-place-in-Some.ensures.added)
      | expr::expression-in-None w ↦ rw (w.code-is, w.place-is) (begun_none f e (sym w.in-None.ensures.test) w.place-place.ensures)
    ] in
    let more : Adds (made_of v c.match-test_of.code) (made_of v c.if-has_leading_operand.code) (layout.expr f x) = elim c.if-has_leading_operand.branch [
      | expr::expression-then-has_leading_operand+in_ok-nested w ↦ rw w.code-is w.in_ok-nested.ensures.added
      | expr::expression-else-has_leading_operand+in_ok-leaf w ↦ rw w.code-is w.in_ok-leaf.ensures.added
    ] in
    let added = c.in_ok-finish.ensures.added (made_of v c.begin-outer.new.code) (begins_ready f e x c.match-test_of.place (made_of v c.begin-outer.new.code) (made_of v c.match-test_of.code) (made_of v c.if-has_leading_operand.code) begun c.leading_operand-operand.ensures.operand more) in
    subst (λ m. Adds (made_of v c.args.code.now) m (layout.expr f e)) (sym c.close.ensures.made) (subst (λ m. Adds m (made_of v c.finish.new.code) (layout.expr f e)) c.begin-outer.ensures.made added)

pub expr::expression-returns-clause-marked : goal.expr::expression-returns-clause-marked
expr::expression-returns-clause-marked = marked.expr::expression-returns-clause-marked

pub expr::expression-leaf-requires : goal.expr::expression-leaf-requires
expr::expression-leaf-requires g t c =
    λ κs live. (omega (arith, c.decreases), (search rules, (search rules, (c.requires, sym c.has_leading_operand.ensures ∙ c.if-not-has_leading_operand.true))))

pub expr::nested-leaf-requires : goal.expr::nested-leaf-requires
expr::nested-leaf-requires g t c =
    let small = c.loop-code.invariant.small in
    λ κs live. (omega (arith, small, c.decreases), (search rules, (search rules, (c.loop-code.invariant.whole, sym c.has_leading_operand.ensures ∙ c.loop-code-test.false))))

pub expr::leaf-finish-requires : goal.expr::leaf-finish-requires
expr::leaf-finish-requires g t c = λ κs live. (omega (arith, c.decreases), (search rules, (search rules, c.requires.whole)))

pub expr::leaf-returns-in-Var-clause-added : goal.expr::leaf-returns-in-Var-clause-added
expr::leaf-returns-in-Var-clause-added g t c =
    let v = g.V.TemplateValue.contents in
    let f = g.V.TemplateValue.functions in
    let is : expr_tree v c.args.expr.now ≡ tree.variable c.node.result.now.id.now = rw (c.in-Var.is, c.node.ensures) refl in
    ok_gives c.add.result (λ s. adds_as (sym (ap (layout.expr f) is)) (subst (λ m. Adds m (made_of v c.add.new.self) (one (code.Do event.Lookup c.node.result.now.id.now 0))) c.on_line.ensures.made s)) c.add.ensures.added

pub expr::leaf-returns-in-Const-clause-added : goal.expr::leaf-returns-in-Const-clause-added
expr::leaf-returns-in-Const-clause-added g t c =
    let v = g.V.TemplateValue.contents in
    let f = g.V.TemplateValue.functions in
    let n = c.node-in-Const.result.now in
    let is : expr_tree v c.args.expr.now ≡ tree.constant (v n.value) = rw (c.in-Const.is, c.node-in-Const.ensures) refl in
    ok_gives c.load_constant.result (λ s. adds_as (sym (ap (layout.expr f) is)) (subst (λ m. Adds m (made_of v c.load_constant.new.code) (one (code.Load (v n.value)))) c.on_line-in-Const.ensures.made s)) c.load_constant.ensures.added

pub expr::leaf-returns-in_ok-finish-in_default-clause-added : goal.expr::leaf-returns-in_ok-finish-in_default-clause-added
expr::leaf-returns-in_ok-finish-in_default-clause-added g t c =
    let v = g.V.TemplateValue.contents in
    let f = g.V.TemplateValue.functions in
    let e = expr_tree v c.args.expr.now in
    let from = made_of v c.begin-outer.new.code in
    let added = c.in_ok-finish-in_default.ensures.added from (leaf_ready f e from c.place-place.result c.requires.leads c.place-place.ensures) in
    subst (λ m. Adds (made_of v c.args.code.now) m (layout.expr f e)) (sym c.close.ensures.made) (subst (λ m. Adds m (made_of v c.finish.new.code) (layout.expr f e)) c.begin-outer.ensures.made added)

pub expr::leaf-returns-in-Var-clause-marked : goal.expr::leaf-returns-in-Var-clause-marked
expr::leaf-returns-in-Var-clause-marked = marked.expr::leaf-returns-in-Var-clause-marked

pub expr::leaf-returns-in-Const-clause-marked : goal.expr::leaf-returns-in-Const-clause-marked
expr::leaf-returns-in-Const-clause-marked = marked.expr::leaf-returns-in-Const-clause-marked

pub expr::leaf-returns-in_ok-finish-in_default-clause-marked : goal.expr::leaf-returns-in_ok-finish-in_default-clause-marked
expr::leaf-returns-in_ok-finish-in_default-clause-marked g t c =
    let v = g.V.TemplateValue.contents in
    let f = g.V.TemplateValue.functions in
    let e = expr_tree v c.args.expr.now in
    let node = expr_node v c.args.expr.now in
    let from = made_of v c.begin-outer.new.code in
    c.close.ensures.marked ∙ c.in_ok-finish-in_default.ensures.marked from (leaf_ready f e from c.place-place.result c.requires.leads c.place-place.ensures)
    ∙ ap₂ (λ o u. finished f node c.place-place.result o u) c.begin-outer.ensures.outer c.begin-outer.ensures.marked
    ∙ whole_leaf f node (margin_of c.args.code.now) c.place-place.result (no_leading v c.args.expr.now c.requires.leads)

pub expr::nested-finish-requires : goal.expr::nested-finish-requires
expr::nested-finish-requires g t c =
    let v = g.V.TemplateValue.contents in
    let f = g.V.TemplateValue.functions in
    let r = subst (λ l. Rest f v (made_of v c.args.code.now) (expr_tree v c.args.expr.now) (size-Expr g.row.V.Denot g.row.V-Fault.Denot c.args.expr.now) (reverse l) (made_of v c.loop-last.code)) c.in-Some-pop.ensures.last c.loop-last.invariant.rest in
    let n = rest_size f v (made_of v c.args.code.now) (expr_tree v c.args.expr.now) _ (pending_of c.pop.new.self) c.in-Some-pop.last (made_of v c.loop-last.code) r in
    λ κs live. (omega (arith, n, c.decreases), (search rules, (search rules, rest_whole f v (made_of v c.args.code.now) (expr_tree v c.args.expr.now) _ (pending_of c.pop.new.self) c.in-Some-pop.last (made_of v c.loop-last.code) r)))

pub expr::nested-loop-code-preserved : goal.expr::nested-loop-code-preserved
expr::nested-loop-code-preserved g t c =
    let v = g.V.TemplateValue.contents in
    let f = g.V.TemplateValue.functions in
    let e = expr_tree v c.loop-code.part.now in
    let leads = c.leading_operand-part.ensures.operand in
    let held : Begins f e c.match-test_of.place (made_of v c.begin-outer.new.code) (made_of v c.match-test_of.code) = elim c.match-test_of.branch [
      | expr::nested-in-Some+in_ok-expression-in-Some+in_ok-place-in-Some w ↦ rw (w.code-is, w.place-is) (begun_test f e (expr_tree v w.in-Some.test.now) (sym w.in-Some.ensures.test) w.in_ok-expression-in-Some.ensures.added w.in_ok-place-in-Some.ensures.place w.in_ok-place-in-Some.ensures.added)
      | expr::nested-in-None w ↦ rw (w.code-is, w.place-is) (begun_none f e (sym w.in-None.ensures.test) w.place-place.ensures)
    ] in
    let begun = subst (λ m. Begins f e c.match-test_of.place m (made_of v c.match-test_of.code)) c.begin-outer.ensures.made held in
    let t = margin_of c.loop-code.code in
    let left : with_one_more f v (pending_of c.loop-code.pending) c.loop-code.part c.match-test_of.place c.begin-outer.result (marks.expr f (expr_node v c.leading_operand-part.result.now) (margin_of c.match-test_of.code)) ≡ marks.expr f (expr_node v c.args.expr.now) (margin_of c.args.code.now) = elim c.match-test_of.branch [
      | expr::nested-in-Some+in_ok-expression-in-Some+in_ok-place-in-Some w ↦ rw (w.code-is, w.place-is)
          (waits_tested f v (pending_of c.loop-code.pending) (record { node = c.loop-code.part; place = w.in_ok-place-in-Some.place; outer = c.begin-outer.result }) c.leading_operand-part.result.now t (margin_of w.reserve.new.self) _ w.in-Some.test.now (sym w.in-Some.ensures.node) c.leading_operand-part.ensures.node c.begin-outer.ensures.outer
          (w.in_ok-place-in-Some.ensures.marked ∙ ap (here 1) (w.in_ok-expression-in-Some.ensures.marked ∙ ap (marks.expr f (expr_node v w.in-Some.test.now)) c.begin-outer.ensures.marked)) c.loop-code.invariant.marks)
      | expr::nested-in-None w ↦ rw (w.code-is, w.place-is)
          (waits_plain f v (pending_of c.loop-code.pending) (record { node = c.loop-code.part; place = w.place-place.result; outer = c.begin-outer.result }) c.leading_operand-part.result.now t (margin_of c.begin-outer.new.code) _ (sym w.in-None.ensures.node) c.leading_operand-part.ensures.node
          (w.place-place.ensures ∙ ap (λ m. length m.code) c.begin-outer.ensures.made ∙ sym (as_many v c.loop-code.code)) c.begin-outer.ensures.outer c.begin-outer.ensures.marked c.loop-code.invariant.marks)
    ] in
    record {
      marks = ap (λ l. after f v (reverse l) (marks.expr f (expr_node v c.leading_operand-part.result.now) (margin_of c.match-test_of.code))) c.in_ok-push.ensures ∙ left;
      whole = leading_whole e (expr_tree v c.leading_operand-part.result.now) leads c.loop-code.invariant.whole;
      small = omega (arith, c.loop-code.invariant.small, c.leading_operand-part.ensures.smaller);
      rest = λ later s. subst (λ l. Rest f v (made_of v c.args.code.now) (expr_tree v c.args.expr.now) (size-Expr g.row.V.Denot g.row.V-Fault.Denot c.args.expr.now) (reverse l) later) (sym c.in_ok-push.ensures)
          (rest_more f v (made_of v c.args.code.now) (expr_tree v c.args.expr.now) _ (pending_of c.loop-code.pending) (record { node = c.loop-code.part; place = c.match-test_of.place; outer = c.begin-outer.result }) (expr_tree v c.leading_operand-part.result.now) (made_of v c.loop-code.code) (made_of v c.match-test_of.code) begun leads c.loop-code.invariant.whole c.loop-code.invariant.small c.loop-code.invariant.rest later s);
    }

pub expr::nested-loop-last-init : goal.expr::nested-loop-last-init
expr::nested-loop-last-init g t c =
    let v = g.V.TemplateValue.contents in
    let f = g.V.TemplateValue.functions in
    record {
      rest = c.loop-code.invariant.rest (made_of v c.leaf.new.code) c.in_ok-leaf.ensures.added;
      marks = ap (after f v (reverse (pending_of c.loop-code.pending))) c.in_ok-leaf.ensures.marked ∙ c.loop-code.invariant.marks;
    }

pub expr::nested-loop-last-preserved : goal.expr::nested-loop-last-preserved
expr::nested-loop-last-preserved g t c =
    let v = g.V.TemplateValue.contents in
    let f = g.V.TemplateValue.functions in
    let w = c.in-Some-pop.last in
    let ws = pending_of c.pop.new.self in
    let n = size-Expr g.row.V.Denot g.row.V-Fault.Denot c.args.expr.now in
    let now = made_of v c.loop-last.code in
    let before = subst (λ l. Rest f v (made_of v c.args.code.now) (expr_tree v c.args.expr.now) n (reverse l) now) c.in-Some-pop.ensures.last c.loop-last.invariant.rest in
    let ready = rest_ready f v (made_of v c.args.code.now) (expr_tree v c.args.expr.now) n ws w now before in
    let rest = rest_less f v (made_of v c.args.code.now) (expr_tree v c.args.expr.now) n ws w now (made_of v c.finish.new.code) c.in_ok-finish.ensures.added before in
    record {
      rest = subst (Rest f v (made_of v c.args.code.now) (expr_tree v c.args.expr.now) n (reverse ws)) (sym c.close.ensures.made) rest;
      marks = ap (after f v (reverse ws)) (c.close.ensures.marked ∙ c.in_ok-finish.ensures.marked ready.0 ready.1)
          ∙ sym (after_more f v ws w (margin_of c.loop-last.code))
          ∙ ap (λ l. after f v (reverse l) (margin_of c.loop-last.code)) (sym c.in-Some-pop.ensures.last)
          ∙ c.loop-last.invariant.marks;
    }

pub expr::finish_operation-optional-requires : goal.expr::finish_operation-optional-requires
expr::finish_operation-optional-requires g t c =
    let v = g.V.TemplateValue.contents in
    λ κs live. (search (rules, the_lemmas), (search rules, (search rules, whole_slice_start v c.args.node.now c.in-Slice.slice c.node-slice.result.now c.in-Slice.is c.node-slice.ensures c.requires.whole)))

pub expr::finish_operation-optional-requires-in-Slice : goal.expr::finish_operation-optional-requires-in-Slice
expr::finish_operation-optional-requires-in-Slice g t c =
    let v = g.V.TemplateValue.contents in
    λ κs live. (search (rules, the_lemmas), (search rules, (search rules, whole_slice_stop v c.args.node.now c.in-Slice.slice c.node-slice.result.now c.in-Slice.is c.node-slice.ensures c.requires.whole)))

pub expr::finish_operation-optional-requires-in-Slice-2 : goal.expr::finish_operation-optional-requires-in-Slice-2
expr::finish_operation-optional-requires-in-Slice-2 g t c =
    let v = g.V.TemplateValue.contents in
    λ κs live. (search (rules, the_lemmas), (search rules, (search rules, whole_slice_step v c.args.node.now c.in-Slice.slice c.node-slice.result.now c.in-Slice.is c.node-slice.ensures c.requires.whole)))

pub expr::finish_operation-returns-in_ok-optional-in-Slice-3-clause-added : goal.expr::finish_operation-returns-in_ok-optional-in-Slice-3-clause-added
expr::finish_operation-returns-in_ok-optional-in-Slice-3-clause-added g t c =
    let v = g.V.TemplateValue.contents in
    let f = g.V.TemplateValue.functions in
    let n = c.node-slice.result.now in
    ok_gives c.add.result (λ s. finishes_as f c.args.place (made_of v c.args.code.now) (made_of v c.add.new.self) (slice_arm v c.args.node.now c.in-Slice.slice n c.in-Slice.is c.node-slice.ensures)
    (slice_finishes f (expr_tree v n.expr) (optional_of v n.start) (optional_of v n.stop) (optional_of v n.step)
    c.in_ok-optional-in-Slice.ensures.added
    c.in_ok-optional-in-Slice-2.ensures.added
    c.in_ok-optional-in-Slice-3.ensures.added s)) c.add.ensures.added

pub expr::finish_operation-optional-requires-in-IfExpr : goal.expr::finish_operation-optional-requires-in-IfExpr
expr::finish_operation-optional-requires-in-IfExpr g t c =
    let v = g.V.TemplateValue.contents in
    λ κs live. (search (rules, the_lemmas), (search rules, (search rules, whole_if_false v c.args.node.now c.in-IfExpr.choice c.node-in-IfExpr.result.now c.in-IfExpr.is c.node-in-IfExpr.ensures c.requires.whole)))

pub expr::finish_operation-returns-in_ok-optional-in-IfExpr-clause-added : goal.expr::finish_operation-returns-in_ok-optional-in-IfExpr-clause-added
expr::finish_operation-returns-in_ok-optional-in-IfExpr-clause-added g t c =
    let v = g.V.TemplateValue.contents in
    let f = g.V.TemplateValue.functions in
    let n = c.node-in-IfExpr.result.now in
    finishes_as f c.args.place (made_of v c.args.code.now) (made_of v c.end_else.new.code) (if_arm v c.args.node.now c.in-IfExpr.choice n c.in-IfExpr.is c.node-in-IfExpr.ensures)
    (if_finishes f (expr_tree v n.test_expr) (expr_tree v n.true_expr) (optional_of v n.false_expr) c.in_ok-end-in-IfExpr.ensures.begun
    c.in_ok-optional-in-IfExpr.ensures.added c.end_else.ensures.ended)

pub expr::finish_binary-returns-clause-added : goal.expr::finish_binary-returns-clause-added
expr::finish_binary-returns-clause-added g t c =
    let v = g.V.TemplateValue.contents in
    let f = g.V.TemplateValue.functions in
    let n = c.args.operation.now in
    ok_gives c.end_binary.result (λ s.
    binary_unjoined f (bin_op n.op) (expr_tree v n.left) (expr_tree v n.right) c.in_ok-joined.joined c.if-joined.false c.requires.left c.in_ok-joined.ensures.added
    (binary_finishes f (bin_op n.op) (expr_tree v n.left) (expr_tree v n.right) c.requires.left c.requires.right c.in_ok-middle.ensures.middle c.in_ok-middle.ensures.added c.in_ok-expression.ensures.added s)) c.end_binary.ensures.added

pub expr::finish_binary-returns-then-joined-clause-added : goal.expr::finish_binary-returns-then-joined-clause-added
expr::finish_binary-returns-then-joined-clause-added g t c =
    let v = g.V.TemplateValue.contents in
    let f = g.V.TemplateValue.functions in
    let n = c.args.operation.now in
    binary_joined f (bin_op n.op) (expr_tree v n.left) (expr_tree v n.right) c.in_ok-joined.joined c.if-joined.true c.requires.left c.in_ok-joined.ensures.added

pub expr::finish_operation-returns-in-UnaryOp-clause-added : goal.expr::finish_operation-returns-in-UnaryOp-clause-added
expr::finish_operation-returns-in-UnaryOp-clause-added g t c =
    let v = g.V.TemplateValue.contents in
    let f = g.V.TemplateValue.functions in
    let n = c.node.result.now in
    let is = unary_arm v c.args.node.now c.in-UnaryOp.operation n c.in-UnaryOp.is c.node.ensures in
    ok_gives c.end_unary.result (λ ends. finishes_as f c.args.place (made_of v c.args.code.now) (made_of v c.end_unary.new.code) is (ends (expr_tree v n.expr) (subst IsWhole is c.requires.whole))) c.end_unary.ensures.added

pub expr::finish-returns-in_ok-count-in-Filter-clause-added : goal.expr::finish-returns-in_ok-count-in-Filter-clause-added
expr::finish-returns-in_ok-count-in-Filter-clause-added g t c =
    let v = g.V.TemplateValue.contents in
    let f = g.V.TemplateValue.functions in
    let n = c.node-filter.result.now in
    let args = args_of v c.deref.result.now in
    ok_gives c.apply_filter.result (λ s. finishes_as f c.args.place (made_of v c.args.code.now) (made_of v c.apply_filter.new.code) (filter_arm v c.args.node.now c.in-Filter.filter n c.in-Filter.is c.node-filter.ensures ∙ ap (λ xs. tree.filter (optional_of v n.expr) n.name.now (args_of v xs)) (sym c.deref.ensures.value))
    (filter_finishes f (optional_of v n.expr) n.name.now args c.in_ok-count-in-Filter.ensures.added (adds_as (ap (layout.apply_filter n.name.now) c.in_ok-count-in-Filter.ensures.count) s))) c.apply_filter.ensures.added

pub expr::finish-returns-in_ok-count-in-Test-clause-added : goal.expr::finish-returns-in_ok-count-in-Test-clause-added
expr::finish-returns-in_ok-count-in-Test-clause-added g t c =
    let v = g.V.TemplateValue.contents in
    let f = g.V.TemplateValue.functions in
    let n = c.node-test.result.now in
    let args = args_of v c.deref-in-Test.result.now in
    ok_gives c.perform_test.result (λ s. finishes_as f c.args.place (made_of v c.args.code.now) (made_of v c.perform_test.new.code) (test_arm v c.args.node.now c.in-Test.test n c.in-Test.is c.node-test.ensures ∙ ap (λ xs. tree.test (expr_tree v n.expr) n.name.now (args_of v xs)) (sym c.deref-in-Test.ensures.value))
    (test_finishes f (expr_tree v n.expr) n.name.now args c.in_ok-count-in-Test.ensures.added (adds_as (ap (layout.perform_test n.name.now) c.in_ok-count-in-Test.ensures.count) s))) c.perform_test.ensures.added

pub expr::finish_call-returns-in_ok-count-in-Function-clause-added : goal.expr::finish_call-returns-in_ok-count-in-Function-clause-added
expr::finish_call-returns-in_ok-count-in-Function-clause-added g t c =
    let v = g.V.TemplateValue.contents in
    let f = g.V.TemplateValue.functions in
    let e = expr_tree v c.args.call.now.expr in
    let args = args_of v c.deref.result.now in
    ok_gives c.add.result (λ s place. finishes_as f place (made_of v c.args.code.now) (made_of v c.add.new.self) (ap (λ xs. tree.call e (args_of v xs)) (sym c.deref.ensures.value))
    (function_finishes f e args c.in-Function.name.now (sym c.in-Function.ensures.callee) c.in_ok-count-in-Function.ensures.added
    (adds_as (ap (λ m. one (code.Call event.CallFunction c.in-Function.name.now m)) c.in_ok-count-in-Function.ensures.count) s))) c.add.ensures.added

pub expr::finish_call-returns-in_ok-count-in-Method-clause-added : goal.expr::finish_call-returns-in_ok-count-in-Method-clause-added
expr::finish_call-returns-in_ok-count-in-Method-clause-added g t c =
    let v = g.V.TemplateValue.contents in
    let f = g.V.TemplateValue.functions in
    let e = expr_tree v c.args.call.now.expr in
    let args = args_of v c.deref-in-Method.result.now in
    ok_gives c.add-in-Method.result (λ s place. finishes_as f place (made_of v c.args.code.now) (made_of v c.add-in-Method.new.self) (ap (λ xs. tree.call e (args_of v xs)) (sym c.deref-in-Method.ensures.value))
    (method_finishes f e args (expr_tree v c.in-Method.field-0.now) c.in-Method.name.now (sym c.in-Method.ensures.callee) c.in_ok-count-in-Method.ensures.added
    (adds_as (ap (λ m. one (code.Call event.CallMethod c.in-Method.name.now m)) c.in_ok-count-in-Method.ensures.count) s))) c.add-in-Method.ensures.added

pub expr::finish_call-returns-in_ok-count-in-Object-clause-added : goal.expr::finish_call-returns-in_ok-count-in-Object-clause-added
expr::finish_call-returns-in_ok-count-in-Object-clause-added g t c =
    let v = g.V.TemplateValue.contents in
    let f = g.V.TemplateValue.functions in
    let e = expr_tree v c.args.call.now.expr in
    let args = args_of v c.deref-in-Object.result.now in
    ok_gives c.add-in-Object.result (λ s place. finishes_as f place (made_of v c.args.code.now) (made_of v c.add-in-Object.new.self) (ap (λ xs. tree.call e (args_of v xs)) (sym c.deref-in-Object.ensures.value))
    (object_finishes f e args (expr_tree v c.in-Object.field-0.now) (sym c.in-Object.ensures.callee) c.in_ok-count-in-Object.ensures.added
    (adds_as (ap (λ m. one (code.Call event.CallObject [] m)) c.in_ok-count-in-Object.ensures.count) s))) c.add-in-Object.ensures.added

pub expr::finish-finish_operation-requires : goal.expr::finish-finish_operation-requires
expr::finish-finish_operation-requires g t c =
    λ κs live. (omega (arith, c.decreases), (search rules, (search rules, (is_operation g.V.TemplateValue.contents c.args.node.now c.in-Slice.is, c.requires))))

pub expr::finish_operation-unreachable-requires : goal.expr::finish_operation-unreachable-requires
expr::finish_operation-unreachable-requires g t c = no_operation g.V.TemplateValue.contents c.args.node.now c.in_default.not-Slice c.in_default.not-UnaryOp c.in_default.not-BinOp c.in_default.not-Compare c.in_default.not-IfExpr c.requires.operation

pub expr::finish-literal-requires : goal.expr::finish-literal-requires
expr::finish-literal-requires g t c =
    let v = g.V.TemplateValue.contents in
    let is = list_arm v c.args.node.now c.in-List.field-0 _ c.in-List.is refl in
    λ κs live. (omega (arith, c.decreases), (search rules, (search rules, (subst IsLiteral (sym is) tt, c.requires))))

pub expr::finish-returns-in-List-clause-added : goal.expr::finish-returns-in-List-clause-added
expr::finish-returns-in-List-clause-added g t c = ok_gives c.literal.result (λ s. s c.args.place) c.literal.ensures.added

pub expr::finish-literal-requires-in-Tuple : goal.expr::finish-literal-requires-in-Tuple
expr::finish-literal-requires-in-Tuple g t c =
    let v = g.V.TemplateValue.contents in
    let is = tuple_arm v c.args.node.now c.in-Tuple.field-0 _ c.in-Tuple.is refl in
    λ κs live. (omega (arith, c.decreases), (search rules, (search rules, (subst IsLiteral (sym is) tt, c.requires))))

pub expr::finish-returns-in-Tuple-clause-added : goal.expr::finish-returns-in-Tuple-clause-added
expr::finish-returns-in-Tuple-clause-added g t c = ok_gives c.literal-in-Tuple.result (λ s. s c.args.place) c.literal-in-Tuple.ensures.added

pub expr::finish-literal-requires-in-Map : goal.expr::finish-literal-requires-in-Map
expr::finish-literal-requires-in-Map g t c =
    let v = g.V.TemplateValue.contents in
    let is = map_arm v c.args.node.now c.in-Map.field-0 _ c.in-Map.is refl in
    λ κs live. (omega (arith, c.decreases), (search rules, (search rules, (subst IsLiteral (sym is) tt, c.requires))))

pub expr::finish-returns-in-Map-clause-added : goal.expr::finish-returns-in-Map-clause-added
expr::finish-returns-in-Map-clause-added g t c = ok_gives c.literal-in-Map.result (λ s. s c.args.place) c.literal-in-Map.ensures.added

pub expr::literal-unreachable-requires : goal.expr::literal-unreachable-requires
expr::literal-unreachable-requires = of_literals.expr::literal-unreachable-requires

pub expr::literal-returns-then-branch-clause-added : goal.expr::literal-returns-then-branch-clause-added
expr::literal-returns-then-branch-clause-added = of_literals.expr::literal-returns-then-branch-clause-added

pub expr::literal-loop-item-init : goal.expr::literal-loop-item-init
expr::literal-loop-item-init = of_literals.expr::literal-loop-item-init

pub expr::literal-loop-item-preserved : goal.expr::literal-loop-item-preserved
expr::literal-loop-item-preserved = of_literals.expr::literal-loop-item-preserved

pub expr::literal-expression-requires : goal.expr::literal-expression-requires
expr::literal-expression-requires = of_literals.expr::literal-expression-requires

pub expr::literal-returns-after-loop-item-clause-added : goal.expr::literal-returns-after-loop-item-clause-added
expr::literal-returns-after-loop-item-clause-added = of_literals.expr::literal-returns-after-loop-item-clause-added

pub expr::literal-returns-then-branch-2-clause-added : goal.expr::literal-returns-then-branch-2-clause-added
expr::literal-returns-then-branch-2-clause-added = of_literals.expr::literal-returns-then-branch-2-clause-added

pub expr::literal-loop-item-2-init : goal.expr::literal-loop-item-2-init
expr::literal-loop-item-2-init = of_literals.expr::literal-loop-item-2-init

pub expr::literal-loop-item-2-preserved : goal.expr::literal-loop-item-2-preserved
expr::literal-loop-item-2-preserved = of_literals.expr::literal-loop-item-2-preserved

pub expr::literal-expression-requires-in-loop-item-2 : goal.expr::literal-expression-requires-in-loop-item-2
expr::literal-expression-requires-in-loop-item-2 = of_literals.expr::literal-expression-requires-in-loop-item-2

pub expr::literal-returns-after-loop-item-2-clause-added : goal.expr::literal-returns-after-loop-item-2-clause-added
expr::literal-returns-after-loop-item-2-clause-added = of_literals.expr::literal-returns-after-loop-item-2-clause-added

pub expr::literal-returns-then-branch-3-clause-added : goal.expr::literal-returns-then-branch-3-clause-added
expr::literal-returns-then-branch-3-clause-added = of_literals.expr::literal-returns-then-branch-3-clause-added

pub expr::literal-loop-i-init : goal.expr::literal-loop-i-init
expr::literal-loop-i-init = of_literals.expr::literal-loop-i-init

pub expr::literal-index-requires-in-loop-i : goal.expr::literal-index-requires-in-loop-i
expr::literal-index-requires-in-loop-i = of_literals.expr::literal-index-requires-in-loop-i

pub expr::literal-expression-requires-in-loop-i : goal.expr::literal-expression-requires-in-loop-i
expr::literal-expression-requires-in-loop-i = of_literals.expr::literal-expression-requires-in-loop-i

pub expr::literal-expression-requires-in-loop-i-2 : goal.expr::literal-expression-requires-in-loop-i-2
expr::literal-expression-requires-in-loop-i-2 = of_literals.expr::literal-expression-requires-in-loop-i-2

pub expr::literal-loop-i-preserved : goal.expr::literal-loop-i-preserved
expr::literal-loop-i-preserved = of_literals.expr::literal-loop-i-preserved

pub expr::literal-returns-after-loop-i-clause-added : goal.expr::literal-returns-after-loop-i-clause-added
expr::literal-returns-after-loop-i-clause-added = of_literals.expr::literal-returns-after-loop-i-clause-added

pub chain::compare-loop-i-init : goal.chain::compare-loop-i-init
chain::compare-loop-i-init g t c =
    let f = g.V.TemplateValue.functions in
    let v = g.V.TemplateValue.contents in
    let chain = out-Compare g.row.V.Denot g.row.V-Fault.Denot c.args.chain.now in
    record { turning = turning_first f v (made_of v c.args.code.now) (expr_tree v chain.expr) chain.ops.items c.args.start (places_of c.new-jumps.result) c.first_constant-last.result (whole_parts f v c.args.chain.now c.requires) c.new-jumps.ensures c.first_constant-last.ensures; later = record { more = []; marks = sym (append_nil (margin_of c.args.code.now).marks) }; marks = refl }

pub chain::compare-compare_constants-requires : goal.chain::compare-compare_constants-requires
chain::compare-compare_constants-requires g t c =
    let f = g.V.TemplateValue.functions in
    let v = g.V.TemplateValue.contents in
    let chain = out-Compare g.row.V.Denot g.row.V-Fault.Denot c.args.chain.now in
    let before = c.in_ok-add_comparison_before.ensures in
    let step = turn f v c.loop-i.invariant.turning (omega (arith, chain.ops.ok.0)) c.index-comparison.ensures c.deref.ensures.value before.leads before.followed c.place-place.ensures c.in_ok-expression.ensures.added in
    (step.before.value, turn_held f v step)

pub chain::compare-returns-in-Some-false-clause-added : goal.chain::compare-returns-in-Some-false-clause-added
chain::compare-returns-in-Some-false-clause-added g t c =
    let f = g.V.TemplateValue.functions in
    let v = g.V.TemplateValue.contents in
    let chain = out-Compare g.row.V.Denot g.row.V-Fault.Denot c.args.chain.now in
    let before = c.in_ok-add_comparison_before.ensures in
    let step = turn f v c.loop-i.invariant.turning (omega (arith, chain.ops.ok.0)) c.index-comparison.ensures c.deref.ensures.value before.leads before.followed c.place-place.ensures c.in_ok-expression.ensures.added in
    compare_fails f v c.args.chain.now c.fold_to.result (made_of v c.fold_to.new.code) step c.in_ok-compare_constants.ensures (c.in-Some-false.is ∙ ap Some c.in-Some-false.field-0-test) c.fold_to.ensures.replaced

pub chain::compare-loop-i-preserved : goal.chain::compare-loop-i-preserved
chain::compare-loop-i-preserved g t c =
    let f = g.V.TemplateValue.functions in
    let v = g.V.TemplateValue.contents in
    let chain = out-Compare g.row.V.Denot g.row.V-Fault.Denot c.args.chain.now in
    let before = c.in_ok-add_comparison_before.ensures in
    let step = turn f v c.loop-i.invariant.turning (omega (arith, chain.ops.ok.0)) c.index-comparison.ensures c.deref.ensures.value before.leads before.followed c.place-place.ensures c.in_ok-expression.ensures.added in
    let l = c.loop-i in
    let added = c.in_ok-expression.ensures.marked ∙ ap (marks.expr f (expr_node v c.index-comparison.result.now.expr)) before.marked in
    let later = subst (Later (margin_of c.args.code.now)) (sym c.in_ok-expression.ensures.marked) (later_then (subst (Later (margin_of c.args.code.now)) (sym before.marked) (later_then l.invariant.later (later_comparison l.i (margin_of l.code)))) (expr_later f (expr_node v c.index-comparison.result.now.expr) (margin_of c.add_comparison_before.new.code))) in
    let left = ap (ahead_marks f v chain.ops.items (l.i + 1)) added ∙ sym (ahead_next f v chain.ops.items l.i c.index-comparison.result.now (margin_of l.code) (omega (arith, chain.ops.ok.0)) c.index-comparison.ensures) ∙ l.invariant.marks in
    elim c.match-branch-4.branch [
      | chain::compare-in-Some-true w ↦ record { turning = turn_holds f v step c.in_ok-compare_constants.ensures (w.in-Some-true.is ∙ ap Some w.in-Some-true.field-0-test) w.last-is; later = later; marks = left }
      | chain::compare-in-None w ↦ record { turning = turn_stops f v step c.in_ok-compare_constants.ensures w.in-None.is w.last-is; later = later; marks = left }
    ]

pub chain::compare-returns-then-is_some-clause-added : goal.chain::compare-returns-then-is_some-clause-added
chain::compare-returns-then-is_some-clause-added g t c =
    let v = g.V.TemplateValue.contents in
    let chain = out-Compare g.row.V.Denot g.row.V-Fault.Denot c.args.chain.now in
    compare_holds g.V.TemplateValue.functions v c.args.chain.now c.fold_to-then-is_some.result (made_of v c.fold_to-then-is_some.new.code) c.loop-i.invariant.turning (omega (arith, chain.ops.ok.0)) (sym c.is_some.ensures ∙ c.if-is_some.true) c.fold_to-then-is_some.ensures.replaced

pub chain::compare-returns-clause-added : goal.chain::compare-returns-clause-added
chain::compare-returns-clause-added g t c =
    let v = g.V.TemplateValue.contents in
    let chain = out-Compare g.row.V.Denot g.row.V-Fault.Denot c.args.chain.now in
    compare_closes g.V.TemplateValue.functions v c.args.chain.now c.close.result (made_of v c.close.new.code) c.requires c.loop-i.invariant.turning (omega (arith, chain.ops.ok.0)) (sym c.is_some.ensures ∙ c.if-is_some.false) c.deref-2.ensures.value refl c.close.ensures.closed

pub chain::compare-returns-in-Some-false-clause-marked : goal.chain::compare-returns-in-Some-false-clause-marked
chain::compare-returns-in-Some-false-clause-marked = marked.chain::compare-returns-in-Some-false-clause-marked

pub chain::compare-returns-then-is_some-clause-marked : goal.chain::compare-returns-then-is_some-clause-marked
chain::compare-returns-then-is_some-clause-marked = marked.chain::compare-returns-then-is_some-clause-marked

pub chain::compare-returns-clause-marked : goal.chain::compare-returns-clause-marked
chain::compare-returns-clause-marked = marked.chain::compare-returns-clause-marked

pub arguments::arguments-spread-requires-clause-batches : goal.arguments::arguments-spread-requires-clause-batches
arguments::arguments-spread-requires-clause-batches = of_arguments.arguments::arguments-spread-requires-clause-batches

pub arguments::arguments-spread-requires-clause-waiting : goal.arguments::arguments-spread-requires-clause-waiting
arguments::arguments-spread-requires-clause-waiting = of_arguments.arguments::arguments-spread-requires-clause-waiting

pub arguments::arguments-returns-then-is_empty-clause-count : goal.arguments::arguments-returns-then-is_empty-clause-count
arguments::arguments-returns-then-is_empty-clause-count = of_arguments.arguments::arguments-returns-then-is_empty-clause-count

pub arguments::arguments-returns-then-is_empty-clause-added : goal.arguments::arguments-returns-then-is_empty-clause-added
arguments::arguments-returns-then-is_empty-clause-added = of_arguments.arguments::arguments-returns-then-is_empty-clause-added

pub arguments::arguments-returns-then-is_empty-clause-marked : goal.arguments::arguments-returns-then-is_empty-clause-marked
arguments::arguments-returns-then-is_empty-clause-marked = of_arguments.arguments::arguments-returns-then-is_empty-clause-marked

pub arguments::arguments-overflow_cast-result-then-count-front : goal.arguments::arguments-overflow_cast-result-then-count-front
arguments::arguments-overflow_cast-result-then-count-front = of_arguments.arguments::arguments-overflow_cast-result-then-count-front

pub arguments::arguments-returns-then-count-front-clause-count : goal.arguments::arguments-returns-then-count-front-clause-count
arguments::arguments-returns-then-count-front-clause-count = of_arguments.arguments::arguments-returns-then-count-front-clause-count

pub arguments::arguments-returns-then-count-front-clause-added : goal.arguments::arguments-returns-then-count-front-clause-added
arguments::arguments-returns-then-count-front-clause-added = of_arguments.arguments::arguments-returns-then-count-front-clause-added

pub arguments::arguments-returns-then-branch-clause-count : goal.arguments::arguments-returns-then-branch-clause-count
arguments::arguments-returns-then-branch-clause-count = of_arguments.arguments::arguments-returns-then-branch-clause-count

pub arguments::arguments-returns-then-branch-clause-added : goal.arguments::arguments-returns-then-branch-clause-added
arguments::arguments-returns-then-branch-clause-added = of_arguments.arguments::arguments-returns-then-branch-clause-added

pub arguments::arguments-merge-requires : goal.arguments::arguments-merge-requires
arguments::arguments-merge-requires = of_arguments.arguments::arguments-merge-requires

pub arguments::arguments-spread-requires-2-clause-batches : goal.arguments::arguments-spread-requires-2-clause-batches
arguments::arguments-spread-requires-2-clause-batches = of_arguments.arguments::arguments-spread-requires-2-clause-batches

pub arguments::arguments-spread-requires-2-clause-waiting : goal.arguments::arguments-spread-requires-2-clause-waiting
arguments::arguments-spread-requires-2-clause-waiting = of_arguments.arguments::arguments-spread-requires-2-clause-waiting

pub arguments::arguments-returns-clause-count : goal.arguments::arguments-returns-clause-count
arguments::arguments-returns-clause-count = of_arguments.arguments::arguments-returns-clause-count

pub arguments::arguments-returns-clause-added : goal.arguments::arguments-returns-clause-added
arguments::arguments-returns-clause-added = of_arguments.arguments::arguments-returns-clause-added

pub arguments::positional_arguments-loop-arg-init : goal.arguments::positional_arguments-loop-arg-init
arguments::positional_arguments-loop-arg-init = of_arguments.arguments::positional_arguments-loop-arg-init

pub arguments::positional_arguments-expression-requires : goal.arguments::positional_arguments-expression-requires
arguments::positional_arguments-expression-requires = of_arguments.arguments::positional_arguments-expression-requires

pub arguments::positional_arguments-expression-requires-in-PosSplat : goal.arguments::positional_arguments-expression-requires-in-PosSplat
arguments::positional_arguments-expression-requires-in-PosSplat = of_arguments.arguments::positional_arguments-expression-requires-in-PosSplat

pub arguments::positional_arguments-one-count-requires : goal.arguments::positional_arguments-one-count-requires
arguments::positional_arguments-one-count-requires = of_arguments.arguments::positional_arguments-one-count-requires

pub arguments::positional_arguments-batch-count-requires : goal.arguments::positional_arguments-batch-count-requires
arguments::positional_arguments-batch-count-requires = of_arguments.arguments::positional_arguments-batch-count-requires

pub arguments::positional_arguments-loop-arg-preserved : goal.arguments::positional_arguments-loop-arg-preserved
arguments::positional_arguments-loop-arg-preserved = of_arguments.arguments::positional_arguments-loop-arg-preserved

pub arguments::positional_arguments-loop-arg-preserved-in-Kwarg : goal.arguments::positional_arguments-loop-arg-preserved-in-Kwarg
arguments::positional_arguments-loop-arg-preserved-in-Kwarg = of_arguments.arguments::positional_arguments-loop-arg-preserved-in-Kwarg

pub arguments::positional_arguments-returns-clause-counted : goal.arguments::positional_arguments-returns-clause-counted
arguments::positional_arguments-returns-clause-counted = of_arguments.arguments::positional_arguments-returns-clause-counted

pub arguments::positional_arguments-returns-clause-added : goal.arguments::positional_arguments-returns-clause-added
arguments::positional_arguments-returns-clause-added = of_arguments.arguments::positional_arguments-returns-clause-added

pub arguments::keyword_pairs-loop-arg-init : goal.arguments::keyword_pairs-loop-arg-init
arguments::keyword_pairs-loop-arg-init = of_arguments.arguments::keyword_pairs-loop-arg-init

pub arguments::keyword_pairs-expression-requires : goal.arguments::keyword_pairs-expression-requires
arguments::keyword_pairs-expression-requires = of_arguments.arguments::keyword_pairs-expression-requires

pub arguments::keyword_pairs-expression-requires-in-KwargSplat : goal.arguments::keyword_pairs-expression-requires-in-KwargSplat
arguments::keyword_pairs-expression-requires-in-KwargSplat = of_arguments.arguments::keyword_pairs-expression-requires-in-KwargSplat

pub arguments::keyword_pairs-one-count-requires : goal.arguments::keyword_pairs-one-count-requires
arguments::keyword_pairs-one-count-requires = of_arguments.arguments::keyword_pairs-one-count-requires

pub arguments::keyword_pairs-batch-count-requires : goal.arguments::keyword_pairs-batch-count-requires
arguments::keyword_pairs-batch-count-requires = of_arguments.arguments::keyword_pairs-batch-count-requires

pub arguments::keyword_pairs-loop-arg-preserved : goal.arguments::keyword_pairs-loop-arg-preserved
arguments::keyword_pairs-loop-arg-preserved = of_arguments.arguments::keyword_pairs-loop-arg-preserved

pub arguments::keyword_pairs-loop-arg-preserved-in-Pos : goal.arguments::keyword_pairs-loop-arg-preserved-in-Pos
arguments::keyword_pairs-loop-arg-preserved-in-Pos = of_arguments.arguments::keyword_pairs-loop-arg-preserved-in-Pos

pub arguments::positional_arguments-returns-clause-marked : goal.arguments::positional_arguments-returns-clause-marked
arguments::positional_arguments-returns-clause-marked = marked.arguments::positional_arguments-returns-clause-marked

pub arguments::keyword_pairs-returns-clause-marked : goal.arguments::keyword_pairs-returns-clause-marked
arguments::keyword_pairs-returns-clause-marked = marked.arguments::keyword_pairs-returns-clause-marked

pub arguments::keyword_pairs-returns-clause-counted : goal.arguments::keyword_pairs-returns-clause-counted
arguments::keyword_pairs-returns-clause-counted = of_arguments.arguments::keyword_pairs-returns-clause-counted

pub arguments::keyword_pairs-returns-clause-added : goal.arguments::keyword_pairs-returns-clause-added
arguments::keyword_pairs-returns-clause-added = of_arguments.arguments::keyword_pairs-returns-clause-added

pub expr::finish-arguments-requires : goal.expr::finish-arguments-requires
expr::finish-arguments-requires g t c =
    let v = g.V.TemplateValue.contents in
    let f = g.V.TemplateValue.functions in
    let n = c.node-filter.result.now in
    let w = filter_arguments (optional_of v n.expr) n.name.now (args_of v n.args.items) (whole_filter v c.args.node.now c.in-Filter.filter n c.in-Filter.is c.node-filter.ensures c.requires) in
    λ κs live. (search (rules, the_lemmas), (search rules, (search rules, (subst (λ xs. AreArguments (args_of v xs)) (sym c.deref.ensures.value) w.0, (subst (λ xs. arg_count (args_of v xs) ≤ most_arguments) (sym c.deref.ensures.value) w.1, omega arith)))))

pub expr::finish-arguments-requires-in-Test : goal.expr::finish-arguments-requires-in-Test
expr::finish-arguments-requires-in-Test g t c =
    let v = g.V.TemplateValue.contents in
    let f = g.V.TemplateValue.functions in
    λ κs live. (search (rules, the_lemmas), (search rules, (search rules, (whole_test_args v c.args.node.now c.in-Test.test c.node-test.result.now c.deref-in-Test.result.now c.in-Test.is c.node-test.ensures c.deref-in-Test.ensures.value c.requires, (whole_test_few v c.args.node.now c.in-Test.test c.node-test.result.now c.deref-in-Test.result.now c.in-Test.is c.node-test.ensures c.deref-in-Test.ensures.value c.requires, omega arith)))))

pub expr::finish_call-arguments-requires : goal.expr::finish_call-arguments-requires
expr::finish_call-arguments-requires g t c =
    let v = g.V.TemplateValue.contents in
    λ κs live. (search (rules, call_lemmas), (search rules, (search rules, (subst (λ xs. AreArguments (args_of v xs)) (sym c.deref.ensures.value) c.requires.whole, (subst (λ xs. arg_count (args_of v xs) ≤ most_arguments) (sym c.deref.ensures.value) c.requires.few, omega arith)))))

pub expr::finish_call-arguments-requires-in-Method : goal.expr::finish_call-arguments-requires-in-Method
expr::finish_call-arguments-requires-in-Method g t c =
    let v = g.V.TemplateValue.contents in
    λ κs live. (search (rules, call_lemmas), (search rules, (search rules, (subst (λ xs. AreArguments (args_of v xs)) (sym c.deref-in-Method.ensures.value) c.requires.whole, (subst (λ xs. arg_count (args_of v xs) ≤ most_arguments) (sym c.deref-in-Method.ensures.value) c.requires.few, omega arith)))))

pub expr::finish_call-arguments-requires-in-Object : goal.expr::finish_call-arguments-requires-in-Object
expr::finish_call-arguments-requires-in-Object g t c =
    let v = g.V.TemplateValue.contents in
    λ κs live. (search (rules, call_lemmas), (search rules, (search rules, (subst (λ xs. AreArguments (args_of v xs)) (sym c.deref-in-Object.ensures.value) c.requires.whole, (subst (λ xs. arg_count (args_of v xs) ≤ most_arguments) (sym c.deref-in-Object.ensures.value) c.requires.few, omega arith)))))

pub expr::finish_operation-finish_binary-requires : goal.expr::finish_operation-finish_binary-requires
expr::finish_operation-finish_binary-requires g t c =
    let v = g.V.TemplateValue.contents in
    let e = c.args.node.now in
    let n = c.node-in-BinOp.result.now in
    λ κs live. (search (rules, the_lemmas), (search rules, (search rules, (whole_left v e c.in-BinOp.operation n c.in-BinOp.is c.node-in-BinOp.ensures c.requires.whole, whole_right v e c.in-BinOp.operation n c.in-BinOp.is c.node-in-BinOp.ensures c.requires.whole))))

pub expr::finish_operation-returns-in-BinOp-clause-added : goal.expr::finish_operation-returns-in-BinOp-clause-added
expr::finish_operation-returns-in-BinOp-clause-added g t c =
    let v = g.V.TemplateValue.contents in
    ok_gives c.finish_binary.result (finishes_as g.V.TemplateValue.functions c.args.place (made_of v c.args.code.now) (made_of v c.finish_binary.new.code) (binary_arm v c.args.node.now c.in-BinOp.operation c.node-in-BinOp.result.now c.in-BinOp.is c.node-in-BinOp.ensures)) c.finish_binary.ensures.added

pub expr::finish_binary-expression-requires : goal.expr::finish_binary-expression-requires
expr::finish_binary-expression-requires g t c =
    λ κs live. (search (rules, binary_lemmas), (search rules, (search rules, c.requires.right)))

pub expr::finish-expression-requires : goal.expr::finish-expression-requires
expr::finish-expression-requires g t c =
    let v = g.V.TemplateValue.contents in
    λ κs live. (search (rules, the_lemmas), (search rules, (search rules, whole_key v c.args.node.now c.in-GetItem.item c.node-in-GetItem.result.now c.in-GetItem.is c.node-in-GetItem.ensures c.requires)))

pub expr::finish_operation-compare-requires : goal.expr::finish_operation-compare-requires
expr::finish_operation-compare-requires g t c =
    let v = g.V.TemplateValue.contents in
    λ κs live. (search (rules, the_lemmas), (search rules, (search rules, whole_compare v c.args.node.now c.in-Compare.chain c.node-in-Compare.result.now c.in-Compare.is c.node-in-Compare.ensures c.requires.whole)))

pub expr::finish_operation-returns-in-Compare-clause-added : goal.expr::finish_operation-returns-in-Compare-clause-added
expr::finish_operation-returns-in-Compare-clause-added g t c =
    let v = g.V.TemplateValue.contents in
    let f = g.V.TemplateValue.functions in
    ok_gives c.compare.result (finishes_as f c.args.place (made_of v c.args.code.now) (made_of v c.compare.new.code) (compare_arm v c.args.node.now c.in-Compare.chain c.node-in-Compare.result.now c.in-Compare.is c.node-in-Compare.ensures)) c.compare.ensures.added

pub expr::finish-returns-in-GetAttr-clause-added : goal.expr::finish-returns-in-GetAttr-clause-added
expr::finish-returns-in-GetAttr-clause-added g t c =
    let v = g.V.TemplateValue.contents in
    let f = g.V.TemplateValue.functions in
    let n = c.node-in-GetAttr.result.now in
    ok_gives c.add-in-GetAttr.result (λ s. finishes_as f c.args.place (made_of v c.args.code.now) (made_of v c.add-in-GetAttr.new.self) (attribute_arm v c.args.node.now c.in-GetAttr.attribute n c.in-GetAttr.is c.node-in-GetAttr.ensures)
    (attribute_finishes f (expr_tree v n.expr) n.name.now s)) c.add-in-GetAttr.ensures.added

pub expr::finish-returns-in_ok-expression-in-GetItem-clause-added : goal.expr::finish-returns-in_ok-expression-in-GetItem-clause-added
expr::finish-returns-in_ok-expression-in-GetItem-clause-added g t c =
    let v = g.V.TemplateValue.contents in
    let f = g.V.TemplateValue.functions in
    let n = c.node-in-GetItem.result.now in
    ok_gives c.add-in-GetItem.result (λ s. finishes_as f c.args.place (made_of v c.args.code.now) (made_of v c.add-in-GetItem.new.self) (item_arm v c.args.node.now c.in-GetItem.item n c.in-GetItem.is c.node-in-GetItem.ensures)
    (item_finishes f (expr_tree v n.expr) (expr_tree v n.subscript_expr) c.in_ok-expression-in-GetItem.ensures.added s)) c.add-in-GetItem.ensures.added

pub expr::finish_call-returns-in-Block-clause-added : goal.expr::finish_call-returns-in-Block-clause-added
expr::finish_call-returns-in-Block-clause-added g t c =
    let v = g.V.TemplateValue.contents in
    let n = c.args.call.now in
    ok_gives c.capture_block.result (λ s place. block_finishes g.V.TemplateValue.functions (expr_tree v n.expr) (args_of v n.args.items) c.in-Block.name.now (sym c.in-Block.ensures.callee) s) c.capture_block.ensures.added

pub expr::finish-returns-in-Call-clause-added : goal.expr::finish-returns-in-Call-clause-added
expr::finish-returns-in-Call-clause-added g t c =
    let v = g.V.TemplateValue.contents in
    ok_gives c.finish_call.result (λ s. finishes_as g.V.TemplateValue.functions c.args.place (made_of v c.args.code.now) (made_of v c.finish_call.new.code) (call_arm v c.args.node.now c.in-Call.call c.node-in-Call.result.now c.in-Call.is c.node-in-Call.ensures) (s c.args.place)) c.finish_call.ensures.added

pub expr::finish-finish_call-requires : goal.expr::finish-finish_call-requires
expr::finish-finish_call-requires g t c =
    let v = g.V.TemplateValue.contents in
    let e = c.args.node.now in
    let n = c.node-in-Call.result.now in
    λ κs live. (search (rules, the_lemmas), (search rules, (search rules, (whole_call_args v e c.in-Call.call n n.args.items c.in-Call.is c.node-in-Call.ensures refl c.requires, whole_call_few v e c.in-Call.call n n.args.items c.in-Call.is c.node-in-Call.ensures refl c.requires))))

pub expr::finish-returns-in-Var-clause-added : goal.expr::finish-returns-in-Var-clause-added
expr::finish-returns-in-Var-clause-added g t c =
    let v = g.V.TemplateValue.contents in
    let f = g.V.TemplateValue.functions in
    let is : expr_tree v c.args.node.now ≡ tree.variable c.node.result.now.id.now = rw (c.in-Var.is, c.node.ensures) refl in
    ok_gives c.add.result (λ s. finishes_as f c.args.place (made_of v c.args.code.now) (made_of v c.add.new.self) is (variable_finishes f c.node.result.now.id.now s)) c.add.ensures.added

pub expr::finish-returns-in-Const-clause-added : goal.expr::finish-returns-in-Const-clause-added
expr::finish-returns-in-Const-clause-added g t c =
    let v = g.V.TemplateValue.contents in
    let f = g.V.TemplateValue.functions in
    let n = c.node-in-Const.result.now in
    let is : expr_tree v c.args.node.now ≡ tree.constant (v n.value) = rw (c.in-Const.is, c.node-in-Const.ensures) refl in
    ok_gives c.load_constant.result (λ s. finishes_as f c.args.place (made_of v c.args.code.now) (made_of v c.load_constant.new.code) is (constant_finishes f (v n.value) s)) c.load_constant.ensures.added

pub expr::finish-returns-in-Var-clause-marked : goal.expr::finish-returns-in-Var-clause-marked
expr::finish-returns-in-Var-clause-marked = marked.expr::finish-returns-in-Var-clause-marked

pub expr::finish-returns-in-Const-clause-marked : goal.expr::finish-returns-in-Const-clause-marked
expr::finish-returns-in-Const-clause-marked = marked.expr::finish-returns-in-Const-clause-marked

pub expr::finish_operation-returns-in_ok-optional-in-Slice-3-clause-marked : goal.expr::finish_operation-returns-in_ok-optional-in-Slice-3-clause-marked
expr::finish_operation-returns-in_ok-optional-in-Slice-3-clause-marked = marked.expr::finish_operation-returns-in_ok-optional-in-Slice-3-clause-marked

pub expr::finish_operation-returns-in_ok-optional-in-IfExpr-clause-marked : goal.expr::finish_operation-returns-in_ok-optional-in-IfExpr-clause-marked
expr::finish_operation-returns-in_ok-optional-in-IfExpr-clause-marked = marked.expr::finish_operation-returns-in_ok-optional-in-IfExpr-clause-marked

pub expr::finish-returns-in_ok-count-in-Filter-clause-marked : goal.expr::finish-returns-in_ok-count-in-Filter-clause-marked
expr::finish-returns-in_ok-count-in-Filter-clause-marked = marked.expr::finish-returns-in_ok-count-in-Filter-clause-marked

pub expr::finish-returns-in_ok-count-in-Test-clause-marked : goal.expr::finish-returns-in_ok-count-in-Test-clause-marked
expr::finish-returns-in_ok-count-in-Test-clause-marked = marked.expr::finish-returns-in_ok-count-in-Test-clause-marked

pub expr::finish-returns-in-GetAttr-clause-marked : goal.expr::finish-returns-in-GetAttr-clause-marked
expr::finish-returns-in-GetAttr-clause-marked = marked.expr::finish-returns-in-GetAttr-clause-marked

pub expr::finish-returns-in_ok-expression-in-GetItem-clause-marked : goal.expr::finish-returns-in_ok-expression-in-GetItem-clause-marked
expr::finish-returns-in_ok-expression-in-GetItem-clause-marked = marked.expr::finish-returns-in_ok-expression-in-GetItem-clause-marked

pub expr::finish-returns-in-Call-clause-marked : goal.expr::finish-returns-in-Call-clause-marked
expr::finish-returns-in-Call-clause-marked = marked.expr::finish-returns-in-Call-clause-marked

pub expr::finish-returns-in-List-clause-marked : goal.expr::finish-returns-in-List-clause-marked
expr::finish-returns-in-List-clause-marked = marked.expr::finish-returns-in-List-clause-marked

pub expr::finish-returns-in-Tuple-clause-marked : goal.expr::finish-returns-in-Tuple-clause-marked
expr::finish-returns-in-Tuple-clause-marked = marked.expr::finish-returns-in-Tuple-clause-marked

pub expr::finish-returns-in-Map-clause-marked : goal.expr::finish-returns-in-Map-clause-marked
expr::finish-returns-in-Map-clause-marked = marked.expr::finish-returns-in-Map-clause-marked

pub expr::finish_operation-returns-in-UnaryOp-clause-marked : goal.expr::finish_operation-returns-in-UnaryOp-clause-marked
expr::finish_operation-returns-in-UnaryOp-clause-marked = marked.expr::finish_operation-returns-in-UnaryOp-clause-marked

pub expr::finish_operation-returns-in-BinOp-clause-marked : goal.expr::finish_operation-returns-in-BinOp-clause-marked
expr::finish_operation-returns-in-BinOp-clause-marked = marked.expr::finish_operation-returns-in-BinOp-clause-marked

pub expr::finish_operation-returns-in-Compare-clause-marked : goal.expr::finish_operation-returns-in-Compare-clause-marked
expr::finish_operation-returns-in-Compare-clause-marked = marked.expr::finish_operation-returns-in-Compare-clause-marked

pub expr::finish_binary-returns-clause-marked : goal.expr::finish_binary-returns-clause-marked
expr::finish_binary-returns-clause-marked = marked.expr::finish_binary-returns-clause-marked

pub expr::finish_binary-returns-then-joined-clause-marked : goal.expr::finish_binary-returns-then-joined-clause-marked
expr::finish_binary-returns-then-joined-clause-marked = marked.expr::finish_binary-returns-then-joined-clause-marked

pub expr::finish_call-returns-in_ok-count-in-Function-clause-marked : goal.expr::finish_call-returns-in_ok-count-in-Function-clause-marked
expr::finish_call-returns-in_ok-count-in-Function-clause-marked = marked.expr::finish_call-returns-in_ok-count-in-Function-clause-marked

pub expr::finish_call-returns-in_ok-count-in-Method-clause-marked : goal.expr::finish_call-returns-in_ok-count-in-Method-clause-marked
expr::finish_call-returns-in_ok-count-in-Method-clause-marked = marked.expr::finish_call-returns-in_ok-count-in-Method-clause-marked

pub expr::finish_call-returns-in_ok-count-in-Object-clause-marked : goal.expr::finish_call-returns-in_ok-count-in-Object-clause-marked
expr::finish_call-returns-in_ok-count-in-Object-clause-marked = marked.expr::finish_call-returns-in_ok-count-in-Object-clause-marked

pub expr::finish_call-returns-in-Block-clause-marked : goal.expr::finish_call-returns-in-Block-clause-marked
expr::finish_call-returns-in-Block-clause-marked = marked.expr::finish_call-returns-in-Block-clause-marked

pub expr::literal-returns-then-branch-clause-marked : goal.expr::literal-returns-then-branch-clause-marked
expr::literal-returns-then-branch-clause-marked = marked.expr::literal-returns-then-branch-clause-marked

pub expr::literal-returns-after-loop-item-clause-marked : goal.expr::literal-returns-after-loop-item-clause-marked
expr::literal-returns-after-loop-item-clause-marked = marked.expr::literal-returns-after-loop-item-clause-marked

pub expr::literal-returns-then-branch-2-clause-marked : goal.expr::literal-returns-then-branch-2-clause-marked
expr::literal-returns-then-branch-2-clause-marked = marked.expr::literal-returns-then-branch-2-clause-marked

pub expr::literal-returns-after-loop-item-2-clause-marked : goal.expr::literal-returns-after-loop-item-2-clause-marked
expr::literal-returns-after-loop-item-2-clause-marked = marked.expr::literal-returns-after-loop-item-2-clause-marked

pub expr::literal-returns-then-branch-3-clause-marked : goal.expr::literal-returns-then-branch-3-clause-marked
expr::literal-returns-then-branch-3-clause-marked = marked.expr::literal-returns-then-branch-3-clause-marked

pub expr::literal-returns-after-loop-i-clause-marked : goal.expr::literal-returns-after-loop-i-clause-marked
expr::literal-returns-after-loop-i-clause-marked = marked.expr::literal-returns-after-loop-i-clause-marked

pub arguments::arguments-returns-then-count-front-clause-marked : goal.arguments::arguments-returns-then-count-front-clause-marked
arguments::arguments-returns-then-count-front-clause-marked = marked.arguments::arguments-returns-then-count-front-clause-marked

pub arguments::arguments-returns-then-branch-clause-marked : goal.arguments::arguments-returns-then-branch-clause-marked
arguments::arguments-returns-then-branch-clause-marked = marked.arguments::arguments-returns-then-branch-clause-marked

pub arguments::arguments-returns-clause-marked : goal.arguments::arguments-returns-clause-marked
arguments::arguments-returns-clause-marked = marked.arguments::arguments-returns-clause-marked
