use Rattle.minijinja_tree.specs.SpannedErasure.{expr_node}
use Rattle.minijinja_meta.specs.Mentions.{through, to_target}
use Rattle.minijinja_meta.proofs.Walking.{then-walks}
use Rattle.minijinja_meta.proofs.targets.defaulted.Goals as goal

pub returns : goal.returns
returns g c =
    let v = g.V.TemplateValue.contents in
    then-walks v c.target.result c.args.walker.now c.expression.new.walker c.target.new.walker (through (expr_node v c.args.default.now)) (to_target (expr_node v c.args.arg.now)) c.in_ok-expression.ensures c.target.ensures
