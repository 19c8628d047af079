use Rattle.std.proofs.Common.{◌≡◌, ◌^◌, ◌*◌, ◌≤◌}
use Rattle.minijinja_value.proofs.value.integer.power_of.Given as goal

abbrev pub invariant-loop-left : goal.invariant-loop-left
invariant-loop-left l = record {
  whole : l.power * l.square ^ l.left ≡ l.fn.base ^ l.fn.exponent;
  more : 1 ≤ l.left;
  power_positive : 1 ≤ l.power;
  square_positive : 1 ≤ l.square;
}

abbrev pub decreases-loop-left : goal.decreases-loop-left
decreases-loop-left l = l.left
