-- The pairs come off one by one.
use Rattle.std.proofs.Common.{arith, ◌≡◌, ◌-◌, ◌+◌, suc, ap, ◌∙◌, sym, refl, ◌∷◌}
use Rattle.std.specs.Prelude.{reverse, Some}
use Rattle.minijinja_value.specs.Outcomes.{map_pairs}
use Rattle.minijinja_semantics.specs.Machine.{popped_pairs}
use Rattle.minijinja_replay.specs.private.AtMachine.{stack}
use Rattle.minijinja_replay.proofs.Stacks.{map_reverse, pair_more, pair_none, pairs_done, pushed_last}
use Rattle.minijinja_replay.proofs.machine.Machine.pop_pairs.Goals as goal

pub returns-in-None-clause-popped : goal.returns-in-None-clause-popped
returns-in-None-clause-popped g c =
    let t = g.V.TemplateValue in
    let left : c.loop.counter + suc (c.args.count - c.loop.counter - 1) ≡ c.args.count = omega arith in
    c.loop.invariant.popped (suc (c.args.count - c.loop.counter - 1)) left
    ∙ pair_none (c.args.count - c.loop.counter - 1) (stack t.contents c.loop.self) (reverse (map_pairs t.contents c.loop.pairs.items)) (c.in-None.ensures.few refl)

pub loop-preserved : goal.loop-preserved
loop-preserved g c =
    let t = g.V.TemplateValue in
    let turned : reverse (map_pairs t.contents c.push.new.self.items) ≡ (t.contents c.in-Some.pair.0, t.contents c.in-Some.pair.1) ∷ reverse (map_pairs t.contents c.loop.pairs.items) =
    ap (λ xs. reverse (map_pairs t.contents xs)) c.in_ok-push-in-Some.ensures.items ∙ pushed_last (λ p. (t.contents p.0, t.contents p.1)) c.loop.pairs.items c.in-Some.pair in
    record {
      popped = λ n e.
          let more : c.loop.counter + suc n ≡ c.args.count = omega (arith, e) in
          c.loop.invariant.popped (suc n) more
          ∙ pair_more n (stack t.contents c.loop.self) (stack t.contents c.pop_two.new.self) (t.contents c.in-Some.pair.0) (t.contents c.in-Some.pair.1) (reverse (map_pairs t.contents c.loop.pairs.items)) c.in-Some.ensures.operands
          ∙ ap (popped_pairs n (stack t.contents c.pop_two.new.self)) (sym turned);
      place = c.pop_two.ensures.place ∙ c.loop.invariant.place;
      loops = c.pop_two.ensures.loops ∙ c.loop.invariant.loops;
      world = c.pop_two.ensures.world ∙ c.loop.invariant.world;
      same = c.pop_two.ensures.same ∙ c.loop.invariant.same;
    }

pub returns-clause-popped : goal.returns-clause-popped
returns-clause-popped g c =
    let t = g.V.TemplateValue in
    let none_left : c.loop.counter + 0 ≡ c.args.count = omega arith in
    c.loop.invariant.popped 0 none_left
    ∙ pairs_done (stack t.contents c.loop.self) (reverse (map_pairs t.contents c.loop.pairs.items))
    ∙ ap (λ ps. Some (ps, stack t.contents c.loop.self)) (sym (map_reverse (λ p. (t.contents p.0, t.contents p.1)) c.loop.pairs.items) ∙ ap (map_pairs t.contents) (sym c.reverse.ensures.items))
