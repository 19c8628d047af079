use Rattle.std.proofs.Common.{◌++◌}
use Rattle.std.specs.Prelude.{[], ◌∷◌}
use Rattle.minijinja_tree.specs.SpannedErasure.{expr_node, optional_of}
use Rattle.minijinja_walk.specs.Children.{expr, if_any}
use Rattle.minijinja_walk.proofs.Adding.{adds-on, then-adds}
use Rattle.minijinja_walk.proofs.expressions.bounds.Goals as goal

pub returns : goal.returns
returns g c =
    let v = g.V.TemplateValue.contents in
    let n = c.args.slice.now in
    let s = c.args.nodes.now.items in
    let first = adds-on v s c.one.new.nodes.items c.if_any.new.nodes.items (expr (expr_node v n.expr) ∷ []) (if_any (optional_of v n.start)) c.in_ok-one.ensures c.in_ok-if_any.ensures in
    let second = adds-on v s c.if_any.new.nodes.items c.if_any-2.new.nodes.items (expr (expr_node v n.expr) ∷ if_any (optional_of v n.start)) (if_any (optional_of v n.stop)) first c.in_ok-if_any-2.ensures in
    then-adds v c.if_any-3.result s c.if_any-2.new.nodes.items c.if_any-3.new.nodes.items (expr (expr_node v n.expr) ∷ if_any (optional_of v n.start) ++ if_any (optional_of v n.stop)) (if_any (optional_of v n.step)) second c.if_any-3.ensures
