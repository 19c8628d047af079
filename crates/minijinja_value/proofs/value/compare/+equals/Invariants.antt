use Rattle.std.proofs.Common.{◌≡◌, drop}
use Rattle.minijinja_value.specs.ValueComparison.{equals, items_equal, has_pair, are_pairs_in}
use Rattle.minijinja_value.specs.ValueViews.{contents_of, items_view, pairs_view}
use Rattle.minijinja_value.proofs.value.compare.+equals.Given as goal

-- what is left decides
abbrev pub invariant-items_equal-loop-i : goal.invariant-items_equal-loop-i
invariant-items_equal-loop-i l =
    items_equal (items_view (drop l.i l.items.items)) (items_view (drop l.i l.others.items)) ≡ items_equal (items_view l.items.items) (items_view l.others.items)

abbrev pub invariant-pairs_equal-pairs : goal.invariant-pairs_equal-pairs
invariant-pairs_equal-pairs l =
    are_pairs_in (pairs_view (drop l.key-index l.key-items)) (pairs_view l.others.items) ≡ are_pairs_in (pairs_view l.key-items) (pairs_view l.others.items)

abbrev pub invariant-pairs_equal-loop-other_key : goal.invariant-pairs_equal-loop-other_key
invariant-pairs_equal-loop-other_key l =
    has_pair (equals (contents_of l.key)) (equals (contents_of l.value)) (pairs_view (drop l.other_key-index l.other_key-items))
    ≡ has_pair (equals (contents_of l.key)) (equals (contents_of l.value)) (pairs_view l.other_key-items)
