use Rattle.std.proofs.Common.{◌<◌, ◌≤◌, length, arith}
use Rattle.minijinja_walk.proofs.Items.{of_exprs, exprs-by_items}
use Rattle.minijinja_walk.proofs.Listing.{adding-ends, adding-goes-on}
use Rattle.minijinja_walk.proofs.parts.all.Goals as goal

pub loop-expr-preserved : goal.loop-expr-preserved
loop-expr-preserved g c =
    let v = g.V.TemplateValue.contents in
    let within : c.loop-expr.expr-index < length c.args.items.now = omega arith in
    adding-goes-on v (of_exprs v) _ (exprs-by_items v) c.args.items.now c.args.nodes.now.items c.loop-expr.nodes.items c.one.new.nodes.items c.loop-expr.expr-index c.expr-item.result within c.expr-item.is c.loop-expr.invariant c.in_ok-one.ensures

pub returns : goal.returns
returns g c =
    let v = g.V.TemplateValue.contents in
    let past : length c.args.items.now ≤ c.loop-expr.expr-index = omega arith in
    adding-ends v (of_exprs v) _ (exprs-by_items v) c.args.items.now c.args.nodes.now.items c.loop-expr.nodes.items c.loop-expr.expr-index past c.loop-expr.invariant
