use Rattle.std.proofs.Common.{◌≡◌, sym, ap, subst, ◌∙◌}
use Rattle.minijinja_tree.specs.BinOps.{concat}
use Rattle.minijinja_tree.specs.Erasure.{bin_op, expr_tree}
use Rattle.minijinja_tree.specs.Tree.{binary, constant}
use Rattle.minijinja_code_expr.specs.internal.Leading.{FinishesIf}
use Rattle.minijinja_emitter.specs.internal.AtEmitter.{made_of}
use Rattle.minijinja_code_expr.specs.private.OperatorMarks.{Folds}
use Rattle.minijinja_code_expr.proofs.OperatorCode.{joins_finish, joins_folds}
use Rattle.minijinja_code_expr.proofs.Results.{ok_value_gives}
use Rattle.minijinja_code_expr.proofs.operators.join_constant.Goals as goal

pub returns-in-Const-clause-added : goal.returns-in-Const-clause-added
returns-in-Const-clause-added g c =
    let v = g.V.TemplateValue.contents in
    let f = g.V.TemplateValue.functions in
    let n = c.args.operation.now in
    let old = made_of v c.args.code.now in
    let new = made_of v c.join.new.self in
    let left = expr_tree v n.left in
    let is : binary (bin_op n.op) left (expr_tree v n.right) ≡ binary concat left (constant (v c.node.result.now.value)) =
    ap (λ o. binary (bin_op o) left (expr_tree v n.right)) c.in-Concat.is
    ∙ ap (binary concat left) (ap (expr_tree v) c.in-Const.is ∙ ap (λ m. constant (v m.value)) (sym c.node.ensures)) in
    ok_value_gives c.join.result (λ joined j w. subst (λ e. FinishesIf f joined e c.args.place old new) (sym is) (joins_finish f old new (v c.node.result.now.value) c.args.place joined j left w)) c.join.ensures.joined

pub returns-in-Const-clause-folds : goal.returns-in-Const-clause-folds
returns-in-Const-clause-folds g c =
    let v = g.V.TemplateValue.contents in
    let f = g.V.TemplateValue.functions in
    let n = c.args.operation.now in
    let old = made_of v c.args.code.now in
    let new = made_of v c.join.new.self in
    let left = expr_tree v n.left in
    let is : binary (bin_op n.op) left (expr_tree v n.right) ≡ binary concat left (constant (v c.node.result.now.value)) =
    ap (λ o. binary (bin_op o) left (expr_tree v n.right)) c.in-Concat.is
    ∙ ap (binary concat left) (ap (expr_tree v) c.in-Const.is ∙ ap (λ m. constant (v m.value)) (sym c.node.ensures)) in
    ok_value_gives c.join.result (λ joined j e w. subst (λ t. Folds f t c.args.place old) (sym is) (joins_folds f old new (v c.node.result.now.value) c.args.place joined e j left w)) c.join.ensures.joined
