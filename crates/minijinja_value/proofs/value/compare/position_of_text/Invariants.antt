use Rattle.std.proofs.Common.{◌≡◌, ◌+◌, drop}
use Rattle.std.specs.Prelude.{option_map}
use Rattle.minijinja_value.specs.ValueContents.{text}
use Rattle.minijinja_value.specs.ValueComparison.{position_of_key}
use Rattle.minijinja_value.specs.ValueViews.{pairs_view}
use Rattle.minijinja_value.proofs.value.compare.position_of_text.Given as goal

-- the place in what is left decides
abbrev pub invariant-loop-i : goal.invariant-loop-i
invariant-loop-i l =
    option_map (λ n. n + l.i) (position_of_key (text l.key) (pairs_view (drop l.i l.pair-items))) ≡ position_of_key (text l.key) (pairs_view l.pair-items)
