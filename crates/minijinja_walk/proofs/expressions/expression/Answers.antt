use Rattle.std.proofs.Common.{refl, sym, ap, ap₂, ◌++◌, ◌∙◌}
use Rattle.std.specs.Prelude.{[], ◌∷◌}
use Rattle.minijinja_tree_expr.specs.Nodes.{span_of}
use Rattle.minijinja_tree_expr.specs.SpannedErasure.{compare_node}
use Rattle.minijinja_tree.specs.SpannedErasure.{expr_node, optional_of}
use Rattle.minijinja_tree_expr.proofs.NodeRows.{call_is, compare_is, filter_is, list_is, map_is, test_is, tuple_is}
use Rattle.minijinja_walk.specs.Children.{expr, expr_children, if_any}
use Rattle.minijinja_walk.proofs.Adding.{adds-as, adds-nothing}
use Rattle.minijinja_walk.proofs.ExpressionNodes.{if_expr_is, slice_is}
use Rattle.minijinja_walk.proofs.Items.{of_args, of_exprs}
use Rattle.minijinja_walk.proofs.expressions.expression.Goals as goal

pub returns-in-Var : goal.returns-in-Var
returns-in-Var g c =
    let v = g.V.TemplateValue.contents in
    adds-nothing v c.args.nodes.now.items _ (ap (λ e. expr_children (expr_node v e)) c.in-Var.is)

pub returns-in-Const : goal.returns-in-Const
returns-in-Const g c =
    let v = g.V.TemplateValue.contents in
    adds-nothing v c.args.nodes.now.items _ (ap (λ e. expr_children (expr_node v e)) c.in-Const.is)

pub returns-in-Slice : goal.returns-in-Slice
returns-in-Slice g c =
    let v = g.V.TemplateValue.contents in
    adds-as v c.bounds.result c.args.nodes.now.items c.bounds.new.nodes.items _ _
    (ap (λ n. expr (expr_node v n.expr) ∷ if_any (optional_of v n.start) ++ if_any (optional_of v n.stop) ++ if_any (optional_of v n.step)) c.node.ensures
    ∙ sym (slice_is v c.in-Slice.slice)
    ∙ ap (λ e. expr_children (expr_node v e)) (sym c.in-Slice.is)) c.bounds.ensures

pub returns-in-UnaryOp : goal.returns-in-UnaryOp
returns-in-UnaryOp g c =
    let v = g.V.TemplateValue.contents in
    adds-as v c.one.result c.args.nodes.now.items c.one.new.nodes.items _ _
    (ap (λ n. expr (expr_node v n.expr) ∷ []) c.node-in-UnaryOp.ensures
    ∙ ap (λ e. expr_children (expr_node v e)) (sym c.in-UnaryOp.is)) c.one.ensures

pub returns-in-BinOp : goal.returns-in-BinOp
returns-in-BinOp g c =
    let v = g.V.TemplateValue.contents in
    adds-as v c.two.result c.args.nodes.now.items c.two.new.nodes.items _ _
    (ap₂ (λ m n. expr (expr_node v m.left) ∷ expr (expr_node v n.right) ∷ []) c.node-in-BinOp.ensures c.node-in-BinOp-2.ensures
    ∙ ap (λ e. expr_children (expr_node v e)) (sym c.in-BinOp.is)) c.two.ensures

pub returns-in-Compare : goal.returns-in-Compare
returns-in-Compare g c =
    let v = g.V.TemplateValue.contents in
    adds-as v c.compared.result c.args.nodes.now.items c.compared.new.nodes.items _ _
    (ap expr_children (sym (compare_is v c.node-in-Compare.result.now (span_of c.in-Compare.chain)))
    ∙ ap (λ q. expr_children (compare_node v q (span_of c.in-Compare.chain))) c.node-in-Compare.ensures
    ∙ ap (λ e. expr_children (expr_node v e)) (sym c.in-Compare.is)) c.compared.ensures

pub returns-in-IfExpr : goal.returns-in-IfExpr
returns-in-IfExpr g c =
    let v = g.V.TemplateValue.contents in
    adds-as v c.branches.result c.args.nodes.now.items c.branches.new.nodes.items _ _
    (ap (λ n. expr (expr_node v n.test_expr) ∷ expr (expr_node v n.true_expr) ∷ if_any (optional_of v n.false_expr)) c.node-in-IfExpr.ensures
    ∙ sym (if_expr_is v c.in-IfExpr.choice)
    ∙ ap (λ e. expr_children (expr_node v e)) (sym c.in-IfExpr.is)) c.branches.ensures

pub returns-in-Filter : goal.returns-in-Filter
returns-in-Filter g c =
    let v = g.V.TemplateValue.contents in
    adds-as v c.filtered.result c.args.nodes.now.items c.filtered.new.nodes.items _ _
    (ap expr_children (sym (filter_is v c.in-Filter.filter c.node-in-Filter.result.now _ (sym c.node-in-Filter.ensures) refl))
    ∙ ap (λ e. expr_children (expr_node v e)) (sym c.in-Filter.is)) c.filtered.ensures

pub returns-in-Test : goal.returns-in-Test
returns-in-Test g c =
    let v = g.V.TemplateValue.contents in
    adds-as v c.called.result c.args.nodes.now.items c.called.new.nodes.items _ _
    (ap₂ (λ n xs. expr (expr_node v n.expr) ∷ of_args v xs) c.node-in-Test.ensures (c.deref.ensures.value ∙ ap (λ n. n.args.items) c.node-in-Test-2.ensures)
    ∙ ap expr_children (sym (test_is v c.in-Test.test _ _ refl refl))
    ∙ ap (λ e. expr_children (expr_node v e)) (sym c.in-Test.is)) c.called.ensures

pub returns-in-GetAttr : goal.returns-in-GetAttr
returns-in-GetAttr g c =
    let v = g.V.TemplateValue.contents in
    adds-as v c.one-in-GetAttr.result c.args.nodes.now.items c.one-in-GetAttr.new.nodes.items _ _
    (ap (λ n. expr (expr_node v n.expr) ∷ []) c.node-in-GetAttr.ensures
    ∙ ap (λ e. expr_children (expr_node v e)) (sym c.in-GetAttr.is)) c.one-in-GetAttr.ensures

pub returns-in-GetItem : goal.returns-in-GetItem
returns-in-GetItem g c =
    let v = g.V.TemplateValue.contents in
    adds-as v c.two-in-GetItem.result c.args.nodes.now.items c.two-in-GetItem.new.nodes.items _ _
    (ap₂ (λ m n. expr (expr_node v m.expr) ∷ expr (expr_node v n.subscript_expr) ∷ []) c.node-in-GetItem.ensures c.node-in-GetItem-2.ensures
    ∙ ap (λ e. expr_children (expr_node v e)) (sym c.in-GetItem.is)) c.two-in-GetItem.ensures

pub returns-in-Call : goal.returns-in-Call
returns-in-Call g c =
    let v = g.V.TemplateValue.contents in
    adds-as v c.called-in-Call.result c.args.nodes.now.items c.called-in-Call.new.nodes.items _ _
    (ap₂ (λ n xs. expr (expr_node v n.expr) ∷ of_args v xs) c.node-in-Call.ensures (c.deref-in-Call.ensures.value ∙ ap (λ n. n.args.items) c.node-in-Call-2.ensures)
    ∙ ap expr_children (sym (call_is v c.in-Call.call _ _ refl refl))
    ∙ ap (λ e. expr_children (expr_node v e)) (sym c.in-Call.is)) c.called-in-Call.ensures

pub returns-in-List : goal.returns-in-List
returns-in-List g c =
    let v = g.V.TemplateValue.contents in
    adds-as v c.all.result c.args.nodes.now.items c.all.new.nodes.items _ _
    (ap (of_exprs v) (c.deref-in-List.ensures.value ∙ ap (λ n. n.items.items) c.node-in-List.ensures)
    ∙ ap expr_children (sym (list_is v c.in-List.list _ _ refl refl))
    ∙ ap (λ e. expr_children (expr_node v e)) (sym c.in-List.is)) c.all.ensures

pub returns-in-Tuple : goal.returns-in-Tuple
returns-in-Tuple g c =
    let v = g.V.TemplateValue.contents in
    adds-as v c.all-in-Tuple.result c.args.nodes.now.items c.all-in-Tuple.new.nodes.items _ _
    (ap (of_exprs v) (c.deref-in-Tuple.ensures.value ∙ ap (λ n. n.items.items) c.node-in-Tuple.ensures)
    ∙ ap expr_children (sym (tuple_is v c.in-Tuple.tuple _ _ refl refl))
    ∙ ap (λ e. expr_children (expr_node v e)) (sym c.in-Tuple.is)) c.all-in-Tuple.ensures

pub returns-in-Map : goal.returns-in-Map
returns-in-Map g c =
    let v = g.V.TemplateValue.contents in
    adds-as v c.keys_and_values.result c.args.nodes.now.items c.keys_and_values.new.nodes.items _ _
    (ap expr_children (sym (map_is v c.in-Map.map c.node-in-Map.result.now _ (sym c.node-in-Map.ensures) refl))
    ∙ ap (λ e. expr_children (expr_node v e)) (sym c.in-Map.is)) c.keys_and_values.ensures
