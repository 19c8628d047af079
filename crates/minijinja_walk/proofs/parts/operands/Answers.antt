use Rattle.std.proofs.Common.{◌<◌, ◌≤◌, length, arith}
use Rattle.minijinja_walk.proofs.Items.{of_comparisons, comparisons-by_items}
use Rattle.minijinja_walk.proofs.Listing.{adding-ends, adding-goes-on}
use Rattle.minijinja_walk.proofs.parts.operands.Goals as goal

pub loop-comparison-preserved : goal.loop-comparison-preserved
loop-comparison-preserved g c =
    let v = g.V.TemplateValue.contents in
    let within : c.loop-comparison.comparison-index < length c.args.comparisons.now = omega arith in
    adding-goes-on v (of_comparisons v) _ (comparisons-by_items v) c.args.comparisons.now c.args.nodes.now.items c.loop-comparison.nodes.items c.one.new.nodes.items c.loop-comparison.comparison-index c.comparison-item.result within c.comparison-item.is c.loop-comparison.invariant c.in_ok-one.ensures

pub returns : goal.returns
returns g c =
    let v = g.V.TemplateValue.contents in
    let past : length c.args.comparisons.now ≤ c.loop-comparison.comparison-index = omega arith in
    adding-ends v (of_comparisons v) _ (comparisons-by_items v) c.args.comparisons.now c.args.nodes.now.items c.loop-comparison.nodes.items c.loop-comparison.comparison-index past c.loop-comparison.invariant
