use Rattle.std.proofs.Common.{◌<◌, length, arith}
use Rattle.minijinja_tree.specs.SpannedErasure.{expr_node}
use Rattle.minijinja_meta.specs.Mentions.{through, to_target}
use Rattle.minijinja_meta.proofs.TargetWays.{next-assignment}
use Rattle.minijinja_meta.proofs.Walking.{walking-goes-on, walks-on}
use Rattle.minijinja_meta.proofs.targets.assignments.Goals as goal

pub loop-left-preserved : goal.loop-left-preserved
loop-left-preserved g c =
    let v = g.V.TemplateValue.contents in
    let xs = c.args.pairs.now in
    let i = c.loop-left.left-index in
    let within : i < length xs = omega arith in
    let x = c.loop-left-item.result in
    walking-goes-on v c.args.walker.now c.loop-left.walker c.target.new.walker _ _ _ _ c.loop-left.invariant
    (walks-on v c.loop-left.walker c.expression.new.walker c.target.new.walker (through (expr_node v x.1)) (to_target (expr_node v x.0)) c.in_ok-expression.ensures c.in_ok-target.ensures)
    (next-assignment v xs i x within c.loop-left-item.is)
