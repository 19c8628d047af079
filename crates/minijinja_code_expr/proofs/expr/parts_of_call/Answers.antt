use Rattle.std.proofs.Common.{length, refl, sym, ap, ◌∙◌, subst}
use Rattle.minijinja_tree.specs.Callees.{callee}
use Rattle.minijinja_tree.specs.Erasure.{expr_tree, args_of}
use Rattle.minijinja_tree.specs.SpannedErasure.{expr_node}
use Rattle.minijinja_tree.specs.SpannedErasure as node
use Rattle.minijinja_tree.specs.Tree as tree
use Rattle.minijinja_tree_expr.proofs.Bare.{expr_is}
use Rattle.minijinja_code_expr.specs.internal.Leading.{piece_of}
use Rattle.minijinja_code_expr.specs.internal.NodeMarks.{call_ending, given_marks}
use Rattle.minijinja_emitter.specs.internal.AtEmitter.{made_of, margin_of}
use Rattle.minijinja_emitter.specs.internal.Making.{Adds}
use Rattle.minijinja_code_expr.proofs.Finishing.{leading_whole}
use Rattle.minijinja_code_expr.proofs.NodeMarking.{called_alone, called_whole}
use Rattle.minijinja_code_expr.proofs.PendingMarks.{bare_called}
use Rattle.minijinja_code_expr.proofs.PendingNodes.{leaf_ready}
use Rattle.minijinja_code_expr.proofs.Results.{ok_gives}
use Rattle.minijinja_code_expr.proofs.expr.parts_of_call.Goals as goal

pub returns-then-not-is_called_on-clause-added : goal.returns-then-not-is_called_on-clause-added
returns-then-not-is_called_on-clause-added g c =
    let v = g.V.TemplateValue.contents in
    let n = c.args.call.now in
    let old = made_of v c.args.code.now in
    let alone = sym c.is_called_on.ensures ∙ c.if-not-is_called_on.true in
    ok_gives c.finish_call.result (λ s. s (length old.code) old (leaf_ready g.V.TemplateValue.functions (tree.call (expr_tree v n.expr) (args_of v n.args.items)) old (length old.code) alone refl)) c.finish_call.ensures.added

pub returns-then-not-is_called_on-clause-marked : goal.returns-then-not-is_called_on-clause-marked
returns-then-not-is_called_on-clause-marked g c =
    let v = g.V.TemplateValue.contents in
    let f = g.V.TemplateValue.functions in
    let n = c.args.call.now in
    let called = expr_node v n.expr in
    let k = callee (expr_tree v n.expr) in
    let alone = sym c.is_called_on.ensures ∙ c.if-not-is_called_on.true in
    ok_gives c.finish_call.result (λ s. s ∙ called_alone f k called (given_marks f (node.args_of v n.args.items)) (margin_of c.args.code.now) (ap callee (expr_is v n.expr)) (bare_called k called alone)) c.finish_call.ensures.marked

pub expression-requires : goal.expression-requires
expression-requires g c =
    let v = g.V.TemplateValue.contents in
    let n = c.args.call.now in
    leading_whole (tree.call (expr_tree v n.expr) (args_of v n.args.items)) (expr_tree v c.called_operand.result.now) c.called_operand.ensures.operand c.requires

pub returns-clause-added : goal.returns-clause-added
returns-clause-added g c =
    let v = g.V.TemplateValue.contents in
    let f = g.V.TemplateValue.functions in
    let old = made_of v c.args.code.now in
    let on = subst (λ o. Adds old (made_of v c.expression.new.code) (piece_of f o)) (sym c.called_operand.ensures.operand) c.in_ok-expression.ensures.added in
    ok_gives c.finish_call-2.result (λ s. s (length old.code) old (record { at = refl; added = on })) c.finish_call-2.ensures.added

pub returns-clause-marked : goal.returns-clause-marked
returns-clause-marked g c =
    let v = g.V.TemplateValue.contents in
    let f = g.V.TemplateValue.functions in
    let n = c.args.call.now in
    let called = expr_node v n.expr in
    let k = callee (expr_tree v n.expr) in
    let given = given_marks f (node.args_of v n.args.items) in
    ok_gives c.finish_call-2.result (λ s. s ∙ ap (call_ending k given) c.in_ok-expression.ensures.marked ∙ called_whole f k called (expr_node v c.called_operand.result.now) given (margin_of c.args.code.now) c.called_operand.ensures.node) c.finish_call-2.ensures.marked
