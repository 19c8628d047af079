use Rattle.std.proofs.Common.{◌<◌, ◌≤◌, length, arith}
use Rattle.minijinja_walk.proofs.Adding.{adds-one}
use Rattle.minijinja_walk.proofs.Items.{of_stmts, stmts-by_items}
use Rattle.minijinja_walk.proofs.Listing.{adding-ends, adding-goes-on}
use Rattle.minijinja_walk.proofs.parts.body.Goals as goal

pub loop-stmt-preserved : goal.loop-stmt-preserved
loop-stmt-preserved g c =
    let v = g.V.TemplateValue.contents in
    let within : c.loop-stmt.stmt-index < length c.args.stmts.now = omega arith in
    adding-goes-on v (of_stmts v) _ (stmts-by_items v) c.args.stmts.now c.args.nodes.now.items c.loop-stmt.nodes.items c.push.new.self.items c.loop-stmt.stmt-index c.stmt-item.result within c.stmt-item.is c.loop-stmt.invariant
    (adds-one v c.loop-stmt.nodes.items c.push.new.self.items _ c.in_ok-push.ensures.items)

pub returns : goal.returns
returns g c =
    let v = g.V.TemplateValue.contents in
    let past : length c.args.stmts.now ≤ c.loop-stmt.stmt-index = omega arith in
    adding-ends v (of_stmts v) _ (stmts-by_items v) c.args.stmts.now c.args.nodes.now.items c.loop-stmt.nodes.items c.loop-stmt.stmt-index past c.loop-stmt.invariant
