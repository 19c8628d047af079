use Rattle.minijinja_tree.specs.SpannedErasure.{expr_node}
use Rattle.minijinja_meta.specs.Mentions.{through, to_target}
use Rattle.minijinja_meta.proofs.Walking.{then-walks}
use Rattle.minijinja_meta.proofs.statements.set.Goals as goal

pub returns : goal.returns
returns g c =
    let v = g.V.TemplateValue.contents in
    let n = c.args.assignment.now in
    then-walks v c.target.result c.args.walker.now c.expression.new.walker c.target.new.walker (through (expr_node v n.expr)) (to_target (expr_node v n.target)) c.in_ok-expression.ensures c.target.ensures
