use Rattle.std.proofs.Common.{◌≤◌, length, drop, arith, refl}
use Rattle.std.specs.Prelude.{reverse}
use Rattle.minijinja_tree.specs.SpannedErasure.{trees}
use Rattle.minijinja_meta.proofs.TargetWays.{no-parameters}
use Rattle.minijinja_meta.proofs.Walking.{walking-ends, walking-on}
use Rattle.minijinja_meta.proofs.targets.parameters.Goals as goal

pub loop-place-preserved : goal.loop-place-preserved
loop-place-preserved g c = walking-on g.V.TemplateValue.contents c.args.walker.now c.loop-place.walker c.parameter.new.walker _ _ _ _ c.loop-place.invariant c.in_ok-parameter.ensures (λ w. refl)

pub returns : goal.returns
returns g c =
    let v = g.V.TemplateValue.contents in
    let m = c.args.declared.now in
    let i = c.loop-place.place in
    let past : length m.args.items ≤ i = omega (arith, m.args.ok.0) in
    walking-ends v c.args.walker.now c.loop-place.walker _ _ c.loop-place.invariant (no-parameters v m.args.items (drop i (reverse (trees v m.defaults.items))) i past)
