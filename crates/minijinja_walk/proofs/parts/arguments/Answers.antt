use Rattle.std.proofs.Common.{◌<◌, ◌≤◌, length, arith}
use Rattle.minijinja_walk.proofs.Items.{of_args, args-by_items}
use Rattle.minijinja_walk.proofs.Listing.{adding-ends, adding-goes-on}
use Rattle.minijinja_walk.proofs.parts.arguments.Goals as goal

pub loop-arg-preserved : goal.loop-arg-preserved
loop-arg-preserved g c =
    let v = g.V.TemplateValue.contents in
    let within : c.loop-arg.arg-index < length c.args.args.now = omega arith in
    adding-goes-on v (of_args v) _ (args-by_items v) c.args.args.now c.args.nodes.now.items c.loop-arg.nodes.items c.argument.new.nodes.items c.loop-arg.arg-index c.arg-item.result within c.arg-item.is c.loop-arg.invariant c.in_ok-argument.ensures

pub returns : goal.returns
returns g c =
    let v = g.V.TemplateValue.contents in
    let past : length c.args.args.now ≤ c.loop-arg.arg-index = omega arith in
    adding-ends v (of_args v) _ (args-by_items v) c.args.args.now c.args.nodes.now.items c.loop-arg.nodes.items c.loop-arg.arg-index past c.loop-arg.invariant
