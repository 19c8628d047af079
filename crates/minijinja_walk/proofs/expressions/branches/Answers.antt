use Rattle.std.specs.Prelude.{[], ◌∷◌}
use Rattle.minijinja_tree.specs.SpannedErasure.{expr_node, optional_of}
use Rattle.minijinja_walk.specs.Children.{expr, if_any}
use Rattle.minijinja_walk.proofs.Adding.{then-adds}
use Rattle.minijinja_walk.proofs.expressions.branches.Goals as goal

pub returns : goal.returns
returns g c =
    let v = g.V.TemplateValue.contents in
    let n = c.args.choice.now in
    then-adds v c.if_any.result c.args.nodes.now.items c.two.new.nodes.items c.if_any.new.nodes.items (expr (expr_node v n.test_expr) ∷ expr (expr_node v n.true_expr) ∷ []) (if_any (optional_of v n.false_expr)) c.in_ok-two.ensures c.if_any.ensures
