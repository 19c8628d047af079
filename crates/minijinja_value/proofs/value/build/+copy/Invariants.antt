use Rattle.std.proofs.Common.{◌≡◌, take, map}
use Rattle.minijinja_value.specs.Outcomes.{map_pairs}
use Rattle.minijinja_value.specs.ValueViews.{contents_of}
use Rattle.minijinja_value.proofs.value.build.+copy.Given as goal

abbrev pub invariant-copy_items-loop-item : goal.invariant-copy_items-loop-item
invariant-copy_items-loop-item l = map contents_of l.copies.items ≡ map contents_of (take l.item-index l.item-items)

abbrev pub invariant-copy_map-loop-key : goal.invariant-copy_map-loop-key
invariant-copy_map-loop-key l = map_pairs contents_of l.copies.items ≡ map_pairs contents_of (take l.key-index l.key-items)
