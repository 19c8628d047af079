use Rattle.std.proofs.Common.{ap}
use Rattle.minijinja_tree.specs.SpannedErasure.{optional_of}
use Rattle.minijinja_walk.specs.Children.{if_any}
use Rattle.minijinja_walk.proofs.Adding.{adds-as, then-adds}
use Rattle.minijinja_walk.proofs.Items.{of_args}
use Rattle.minijinja_walk.proofs.expressions.filtered.Goals as goal

pub returns : goal.returns
returns g c =
    let v = g.V.TemplateValue.contents in
    let n = c.args.filter.now in
    then-adds v c.arguments.result c.args.nodes.now.items c.if_any.new.nodes.items c.arguments.new.nodes.items (if_any (optional_of v n.expr)) (of_args v n.args.items) c.in_ok-if_any.ensures
    (adds-as v c.arguments.result c.if_any.new.nodes.items c.arguments.new.nodes.items _ _ (ap (of_args v) c.deref.ensures.value) c.arguments.ensures)
