use Rattle.std.proofs.Common.{◌≡◌, drop}
use Rattle.minijinja_value.specs.ValueComparison.{has_item}
use Rattle.minijinja_value.specs.ValueViews.{contents_of, items_view}
use Rattle.minijinja_value.proofs.value.compare.has_item.Given as goal

-- what is left decides
abbrev pub invariant-loop-item : goal.invariant-loop-item
invariant-loop-item l =
    has_item (contents_of l.value) (items_view (drop l.item-index l.item-items)) ≡ has_item (contents_of l.value) (items_view l.item-items)
