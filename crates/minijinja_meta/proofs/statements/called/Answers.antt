use Rattle.std.proofs.Common.{ap}
use Rattle.minijinja_tree.specs.SpannedErasure.{args_of, expr_node}
use Rattle.minijinja_meta.specs.Mentions.{through, through_keyword, through_positional}
use Rattle.minijinja_meta.proofs.Walking.{then-walks, walks-as}
use Rattle.minijinja_meta.proofs.statements.called.Goals as goal

pub returns : goal.returns
returns g c =
    let v = g.V.TemplateValue.contents in
    let n = c.args.call.now in
    then-walks v c.arguments.result c.args.walker.now c.expression.new.walker c.arguments.new.walker (through (expr_node v n.expr)) (λ w. through_positional (args_of v n.args.items) (through_keyword (args_of v n.args.items) w)) c.in_ok-expression.ensures
    (walks-as v c.arguments.result c.expression.new.walker c.arguments.new.walker _ _ (ap (λ xs w. through_positional (args_of v xs) (through_keyword (args_of v xs) w)) c.deref.ensures.value) c.arguments.ensures)
