use Rattle.std.proofs.Common.{sym, ap}
use Rattle.minijinja_code_expr.specs.internal.Leading.{test_in}
use Rattle.minijinja_code_expr.proofs.Arms.{if_arm}
use Rattle.minijinja_code_expr.proofs.OperationNodes.{no_test, no_test_node}
use Rattle.minijinja_code_expr.proofs.leading.test_of.Goals as goal

pub returns-in-IfExpr-clause-test : goal.returns-in-IfExpr-clause-test
returns-in-IfExpr-clause-test g c = sym (ap (λ e. test_in e) (if_arm g.V.TemplateValue.contents c.args.node.now c.in-IfExpr.choice c.node.result.now c.in-IfExpr.is c.node.ensures))

pub returns-in_default-clause-test : goal.returns-in_default-clause-test
returns-in_default-clause-test g c = sym (no_test g.V.TemplateValue.contents c.args.node.now c.in_default.not-IfExpr)

pub returns-in_default-clause-node : goal.returns-in_default-clause-node
returns-in_default-clause-node g c = sym (no_test_node g.V.TemplateValue.contents c.args.node.now c.in_default.not-IfExpr)
