use Rattle.std.proofs.Common.{◌≡◌}
use Rattle.minijinja_value.specs.Outcomes.{map_pairs}
use Rattle.minijinja_value.specs.ValueFunctions.{built}
use Rattle.minijinja_value.specs.ValueViews.{contents_of, pairs_view}
use Rattle.minijinja_value.proofs.value.build.distinct.Given as goal

-- what is made so far is built from the pairs so far
abbrev pub invariant-loop-key : goal.invariant-loop-key
invariant-loop-key l = pairs_view l.made.items ≡ built (map_pairs contents_of l.yielded)
