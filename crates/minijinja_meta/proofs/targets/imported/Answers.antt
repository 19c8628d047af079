use Rattle.std.proofs.Common.{◌≡◌, ◌-◌, ◌<◌, suc, length, take, arith, ap, sym}
use Rattle.std.proofs.Math.Seq.{take-length}
use Rattle.minijinja_tree.specs.SpannedErasure.{names_of}
use Rattle.minijinja_meta.specs.Mentions.{to_names}
use Rattle.minijinja_meta.proofs.TargetWays.{taken-before}
use Rattle.minijinja_meta.proofs.Walking.{walking-begins, walking-ends, walking-goes-on, walking-left}
use Rattle.minijinja_meta.proofs.targets.imported.Goals as goal

pub loop-left-init : goal.loop-left-init
loop-left-init g c =
    let v = g.V.TemplateValue.contents in
    let xs = c.args.taken.now in
    let whole : xs ≡ take (length xs) xs = sym (take-length xs) in
    record {
      walked = walking-left v c.args.walker.now c.args.walker.now _ _ _ (walking-begins v c.args.walker.now (to_names (names_of v xs)) c.requires) (λ w. ap (λ ys. to_names (names_of v ys) w) whole);
      within = omega arith;
    }

pub loop-left-preserved : goal.loop-left-preserved
loop-left-preserved g c =
    let v = g.V.TemplateValue.contents in
    let n = c.loop-left.left in
    let e : n ≡ suc (n - 1) = omega arith in
    let below : n - 1 < length c.args.taken.now = omega (arith, c.loop-left.invariant.within) in
    record {
      walked = walking-goes-on v c.args.walker.now c.loop-left.walker c.taken_as.new.walker _ _ _ _ c.loop-left.invariant.walked c.in_ok-taken_as.ensures
          (taken-before v c.args.taken.now (n - 1) n c.index-taken-left.result e below c.index-taken-left.is);
      within = omega (arith, c.loop-left.invariant.within);
    }

pub returns : goal.returns
returns g c =
    let v = g.V.TemplateValue.contents in
    let none : c.loop-left.left ≡ 0 = omega arith in
    walking-ends v c.args.walker.now c.loop-left.walker _ _ c.loop-left.invariant.walked (λ w. ap (λ m. to_names (names_of v (take m c.args.taken.now)) w) none)
