use Rattle.std.specs.Prelude.{[], ◌∷◌}
use Rattle.minijinja_tree.specs.SpannedErasure.{expr_node}
use Rattle.minijinja_walk.specs.Children.{expr}
use Rattle.minijinja_walk.proofs.Adding.{then-adds}
use Rattle.minijinja_walk.proofs.Items.{of_stmts}
use Rattle.minijinja_walk.proofs.statements.headed.Goals as goal

pub returns : goal.returns
returns g c =
    let v = g.V.TemplateValue.contents in
    let s = c.args.nodes.now.items in
    then-adds v c.body.result s c.one.new.nodes.items c.body.new.nodes.items (expr (expr_node v c.args.expr.now) ∷ []) (of_stmts v c.args.stmts.now) c.in_ok-one.ensures c.body.ensures
