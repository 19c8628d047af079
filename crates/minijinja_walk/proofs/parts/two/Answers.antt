use Rattle.std.specs.Prelude.{[], ◌∷◌}
use Rattle.minijinja_tree.specs.SpannedErasure.{expr_node}
use Rattle.minijinja_walk.specs.Children.{expr}
use Rattle.minijinja_walk.proofs.Adding.{then-adds}
use Rattle.minijinja_walk.proofs.parts.two.Goals as goal

pub returns : goal.returns
returns g c =
    let v = g.V.TemplateValue.contents in
    then-adds v c.one-2.result c.args.nodes.now.items c.one.new.nodes.items c.one-2.new.nodes.items (expr (expr_node v c.args.first.now) ∷ []) (expr (expr_node v c.args.second.now) ∷ []) c.in_ok-one.ensures c.one-2.ensures
