use Rattle.std.proofs.Common.{ap}
use Rattle.std.specs.Prelude.{[], ◌∷◌}
use Rattle.minijinja_tree.specs.SpannedErasure.{expr_node}
use Rattle.minijinja_walk.specs.Children.{expr}
use Rattle.minijinja_walk.proofs.Adding.{adds-as, then-adds}
use Rattle.minijinja_walk.proofs.Items.{of_names}
use Rattle.minijinja_walk.proofs.statements.from_import.Goals as goal

pub returns : goal.returns
returns g c =
    let v = g.V.TemplateValue.contents in
    let s = c.args.nodes.now.items in
    let n = c.args.import.now in
    then-adds v c.imported.result s c.one.new.nodes.items c.imported.new.nodes.items (expr (expr_node v n.expr) ∷ []) (of_names v n.names.items) c.in_ok-one.ensures
    (adds-as v c.imported.result c.one.new.nodes.items c.imported.new.nodes.items _ _ (ap (of_names v) c.deref.ensures.value) c.imported.ensures)
