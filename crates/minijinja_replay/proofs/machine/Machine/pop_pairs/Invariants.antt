-- What is left to take off, and the pairs so far, the one that was taken off first first.
use Rattle.std.proofs.Common.{◌≡◌, ◌+◌, [], ℕ}
use Rattle.std.specs.Prelude.{reverse}
use Rattle.minijinja_value.specs.Outcomes.{map_pairs}
use Rattle.minijinja_semantics.specs.Machine as machine
use Rattle.minijinja_replay.specs.private.AtMachine.{loops, stack, world}
use Rattle.minijinja_replay.proofs.machine.Machine.pop_pairs.Given as goal

abbrev pub invariant-loop : goal.invariant-loop
invariant-loop g l =
    let c = g.V.TemplateValue.contents in
    record {
      popped : (n : ℕ) → l.counter + n ≡ l.count → machine.popped_pairs l.count (stack c l.fn.self) [] ≡ machine.popped_pairs n (stack c l.self) (reverse (map_pairs c l.pairs.items));
      place : l.self.place ≡ l.fn.self.place;
      loops : loops c l.self ≡ loops c l.fn.self;
      world : world c l.self ≡ world c l.fn.self;
      same : l.self.code ≡ l.fn.self.code;
    }
