use Rattle.std.proofs.Common.{◌≡◌, false, true, ap, refl, subst, ◌∙◌}
use Rattle.std.specs.Prelude.{is_some}
use Rattle.minijinja_tree.specs.Callees.{callee}
use Rattle.minijinja_tree.specs.Erasure.{expr_tree}
use Rattle.minijinja_tree.specs.Nodes.{span_of}
use Rattle.minijinja_tree.specs.SpannedErasure.{expr_node}
use Rattle.minijinja_tree_expr.proofs.Bare.{expr_is}
use Rattle.minijinja_tree_expr.proofs.SpannedNodes.{compare_is}
use Rattle.minijinja_code_expr.specs.internal.Leading.{leading}
use Rattle.minijinja_code_expr.specs.internal.NodeMarks.{called_on_node, leading_node}
use Rattle.minijinja_code_expr.proofs.Arms.{compare_arm, slice_arm, unary_arm, binary_arm, if_arm, test_arm, attribute_arm, item_arm, call_arm}
use Rattle.minijinja_code_expr.proofs.NodeArms.{spanned_call, spanned_compare}
use Rattle.minijinja_code_expr.proofs.leading.leading_operand.Goals as goal

pub returns-in-Compare-clause-operand : goal.returns-in-Compare-clause-operand
returns-in-Compare-clause-operand g c =
    let v = g.V.TemplateValue.contents in
    let n = c.node-in-Compare.result.now in
    ap leading (compare_arm v c.args.node.now c.in-Compare.chain n c.in-Compare.is c.node-in-Compare.ensures ∙ compare_is v n)

pub returns-in-Slice-clause-operand : goal.returns-in-Slice-clause-operand
returns-in-Slice-clause-operand g c = ap leading (slice_arm g.V.TemplateValue.contents c.args.node.now c.in-Slice.slice c.node.result.now c.in-Slice.is c.node.ensures)

pub returns-in-UnaryOp-clause-operand : goal.returns-in-UnaryOp-clause-operand
returns-in-UnaryOp-clause-operand g c = ap leading (unary_arm g.V.TemplateValue.contents c.args.node.now c.in-UnaryOp.operation c.node-in-UnaryOp.result.now c.in-UnaryOp.is c.node-in-UnaryOp.ensures)

pub returns-in-BinOp-clause-operand : goal.returns-in-BinOp-clause-operand
returns-in-BinOp-clause-operand g c = ap leading (binary_arm g.V.TemplateValue.contents c.args.node.now c.in-BinOp.operation c.node-in-BinOp.result.now c.in-BinOp.is c.node-in-BinOp.ensures)

pub returns-in-IfExpr-clause-operand : goal.returns-in-IfExpr-clause-operand
returns-in-IfExpr-clause-operand g c = ap leading (if_arm g.V.TemplateValue.contents c.args.node.now c.in-IfExpr.choice c.node-in-IfExpr.result.now c.in-IfExpr.is c.node-in-IfExpr.ensures)

pub returns-in-Test-clause-operand : goal.returns-in-Test-clause-operand
returns-in-Test-clause-operand g c = ap leading (test_arm g.V.TemplateValue.contents c.args.node.now c.in-Test.test c.node-in-Test.result.now c.in-Test.is c.node-in-Test.ensures)

pub returns-in-GetAttr-clause-operand : goal.returns-in-GetAttr-clause-operand
returns-in-GetAttr-clause-operand g c = ap leading (attribute_arm g.V.TemplateValue.contents c.args.node.now c.in-GetAttr.attribute c.node-in-GetAttr.result.now c.in-GetAttr.is c.node-in-GetAttr.ensures)

pub returns-in-GetItem-clause-operand : goal.returns-in-GetItem-clause-operand
returns-in-GetItem-clause-operand g c = ap leading (item_arm g.V.TemplateValue.contents c.args.node.now c.in-GetItem.item c.node-in-GetItem.result.now c.in-GetItem.is c.node-in-GetItem.ensures)

pub returns-in-Call-clause-operand : goal.returns-in-Call-clause-operand
returns-in-Call-clause-operand g c = ap leading (call_arm g.V.TemplateValue.contents c.args.node.now c.in-Call.call c.node-in-Call.result.now c.in-Call.is c.node-in-Call.ensures) ∙ c.called_operand.ensures.operand

pub returns-in-Compare-clause-node : goal.returns-in-Compare-clause-node
returns-in-Compare-clause-node g c = ap leading_node (spanned_compare g.V.TemplateValue.contents c.args.node.now c.in-Compare.chain c.node-in-Compare.result.now (span_of c.in-Compare.chain) c.in-Compare.is c.node-in-Compare.ensures refl)

pub returns-in-Call-clause-node : goal.returns-in-Call-clause-node
returns-in-Call-clause-node g c =
    let v = g.V.TemplateValue.contents in
    let n = c.node-in-Call.result.now in
    ap leading_node (spanned_call v c.args.node.now c.in-Call.call n (span_of c.in-Call.call) c.in-Call.is c.node-in-Call.ensures refl)
    ∙ ap (λ e. called_on_node (callee e) (expr_node v n.expr)) (expr_is v n.expr)
    ∙ c.called_operand.ensures.node

pub unreachable-requires-in-Var : goal.unreachable-requires-in-Var
unreachable-requires-in-Var g c =
    let h : false ≡ true = subst (λ e. is_some (leading (expr_tree g.V.TemplateValue.contents e)) ≡ true) c.in-Var.is c.requires in
    cc

pub unreachable-requires-in-Const : goal.unreachable-requires-in-Const
unreachable-requires-in-Const g c =
    let h : false ≡ true = subst (λ e. is_some (leading (expr_tree g.V.TemplateValue.contents e)) ≡ true) c.in-Const.is c.requires in
    cc

pub unreachable-requires-in-List : goal.unreachable-requires-in-List
unreachable-requires-in-List g c =
    let h : false ≡ true = subst (λ e. is_some (leading (expr_tree g.V.TemplateValue.contents e)) ≡ true) c.in-List.is c.requires in
    cc

pub unreachable-requires-in-Tuple : goal.unreachable-requires-in-Tuple
unreachable-requires-in-Tuple g c =
    let h : false ≡ true = subst (λ e. is_some (leading (expr_tree g.V.TemplateValue.contents e)) ≡ true) c.in-Tuple.is c.requires in
    cc

pub unreachable-requires-in-Map : goal.unreachable-requires-in-Map
unreachable-requires-in-Map g c =
    let h : false ≡ true = subst (λ e. is_some (leading (expr_tree g.V.TemplateValue.contents e)) ≡ true) c.in-Map.is c.requires in
    cc
