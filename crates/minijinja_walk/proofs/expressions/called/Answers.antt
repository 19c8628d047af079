use Rattle.std.specs.Prelude.{[], ◌∷◌}
use Rattle.minijinja_tree.specs.SpannedErasure.{expr_node}
use Rattle.minijinja_walk.specs.Children.{expr}
use Rattle.minijinja_walk.proofs.Adding.{then-adds}
use Rattle.minijinja_walk.proofs.Items.{of_args}
use Rattle.minijinja_walk.proofs.expressions.called.Goals as goal

pub returns : goal.returns
returns g c =
    let v = g.V.TemplateValue.contents in
    then-adds v c.arguments.result c.args.nodes.now.items c.one.new.nodes.items c.arguments.new.nodes.items (expr (expr_node v c.args.expr.now) ∷ []) (of_args v c.args.args.now) c.in_ok-one.ensures c.arguments.ensures
