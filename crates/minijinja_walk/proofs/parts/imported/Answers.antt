use Rattle.std.proofs.Common.{◌<◌, ◌≤◌, length, arith}
use Rattle.std.specs.Prelude.{[], ◌∷◌}
use Rattle.minijinja_tree.specs.SpannedErasure.{expr_node, optional_of}
use Rattle.minijinja_walk.specs.Children.{expr, if_any}
use Rattle.minijinja_walk.proofs.Adding.{adds-on}
use Rattle.minijinja_walk.proofs.Items.{of_names, names-by_items}
use Rattle.minijinja_walk.proofs.Listing.{adding-ends, adding-goes-on}
use Rattle.minijinja_walk.proofs.parts.imported.Goals as goal

pub loop-name-preserved : goal.loop-name-preserved
loop-name-preserved g c =
    let v = g.V.TemplateValue.contents in
    let x = c.loop-name-item.result in
    let within : c.loop-name.name-index < length c.args.names.now = omega arith in
    adding-goes-on v (of_names v) _ (names-by_items v) c.args.names.now c.args.nodes.now.items c.loop-name.nodes.items c.if_any.new.nodes.items c.loop-name.name-index x within c.loop-name-item.is c.loop-name.invariant
    (adds-on v c.loop-name.nodes.items c.one.new.nodes.items c.if_any.new.nodes.items (expr (expr_node v x.0) ∷ []) (if_any (optional_of v x.1)) c.in_ok-one.ensures c.in_ok-if_any.ensures)

pub returns : goal.returns
returns g c =
    let v = g.V.TemplateValue.contents in
    let past : length c.args.names.now ≤ c.loop-name.name-index = omega arith in
    adding-ends v (of_names v) _ (names-by_items v) c.args.names.now c.args.nodes.now.items c.loop-name.nodes.items c.loop-name.name-index past c.loop-name.invariant
