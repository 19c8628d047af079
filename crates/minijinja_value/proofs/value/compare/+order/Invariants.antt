use Rattle.std.proofs.Common.{◌≡◌, drop}
use Rattle.minijinja_value.specs.ValueComparison.{items_order}
use Rattle.minijinja_value.specs.ValueViews.{items_view}
use Rattle.minijinja_value.proofs.value.compare.+order.Given as goal

-- what is left decides
abbrev pub invariant-items_order-loop-i : goal.invariant-items_order-loop-i
invariant-items_order-loop-i l =
    items_order (items_view (drop l.i l.items.items)) (items_view (drop l.i l.others.items)) ≡ items_order (items_view l.items.items) (items_view l.others.items)
