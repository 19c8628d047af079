use Rattle.std.proofs.Common.{◌<◌, ◌≤◌, length, arith}
use Rattle.minijinja_walk.proofs.Items.{of_bindings, bindings-by_items}
use Rattle.minijinja_walk.proofs.Listing.{adding-ends, adding-goes-on}
use Rattle.minijinja_walk.proofs.parts.pairs.Goals as goal

pub loop-target-preserved : goal.loop-target-preserved
loop-target-preserved g c =
    let v = g.V.TemplateValue.contents in
    let within : c.loop-target.target-index < length c.args.assignments.now = omega arith in
    adding-goes-on v (of_bindings v) _ (bindings-by_items v) c.args.assignments.now c.args.nodes.now.items c.loop-target.nodes.items c.two.new.nodes.items c.loop-target.target-index c.loop-target-item.result within c.loop-target-item.is c.loop-target.invariant c.in_ok-two.ensures

pub returns : goal.returns
returns g c =
    let v = g.V.TemplateValue.contents in
    let past : length c.args.assignments.now ≤ c.loop-target.target-index = omega arith in
    adding-ends v (of_bindings v) _ (bindings-by_items v) c.args.assignments.now c.args.nodes.now.items c.loop-target.nodes.items c.loop-target.target-index past c.loop-target.invariant
