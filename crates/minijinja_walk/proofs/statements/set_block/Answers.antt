use Rattle.std.proofs.Common.{ap}
use Rattle.std.specs.Prelude.{[], ◌∷◌}
use Rattle.minijinja_tree.specs.SpannedErasure.{expr_node, optional_of}
use Rattle.minijinja_walk.specs.Children.{expr, if_any}
use Rattle.minijinja_walk.proofs.Adding.{adds-as, adds-on, then-adds}
use Rattle.minijinja_walk.proofs.Items.{of_stmts}
use Rattle.minijinja_walk.proofs.statements.set_block.Goals as goal

pub returns : goal.returns
returns g c =
    let v = g.V.TemplateValue.contents in
    let s = c.args.nodes.now.items in
    let n = c.args.block.now in
    let first = adds-on v s c.one.new.nodes.items c.if_any.new.nodes.items (expr (expr_node v n.target) ∷ []) (if_any (optional_of v n.filter)) c.in_ok-one.ensures c.in_ok-if_any.ensures in
    then-adds v c.body.result s c.if_any.new.nodes.items c.body.new.nodes.items (expr (expr_node v n.target) ∷ if_any (optional_of v n.filter)) (of_stmts v n.body.items) first
    (adds-as v c.body.result c.if_any.new.nodes.items c.body.new.nodes.items _ _ (ap (of_stmts v) c.deref.ensures.value) c.body.ensures)
