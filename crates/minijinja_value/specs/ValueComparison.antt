-- When two values are equal, and their order.
use Rattle.std.specs.Prelude.{ℕ, ◌+◌, Bool, true, false, ◌&&◌, ◌||◌, ◌==◌, nat_eq, Option, Some, None, option_map, is_some, if◌then◌else◌}
use Rattle.std.specs.declared.cmp.Ordering.{Ordering}
use Rattle.std.specs.declared.cmp.Ordering.TheVariants.{Less, Equal, Greater}
use Rattle.std.specs.Ordering.{int_eq, int_cmp, nat_cmp, bool_cmp, partial_ordering_then}
use Rattle.std.specs.Bool.{beq}
use Rattle.std.specs.Cmp.Lexicographic.{pointwise, slice_cmp}
use Rattle.minijinja_value.specs.ValueContents.{Contents, undefined, silent_undefined, none, truth, integer, text, list, tuple, mapping, keywords, Items, no_items, item, Pairs, no_pairs, pair}

-- undefined, silently or not
abbrev pub is_undefined : Contents → Bool
is_undefined undefined = true
is_undefined silent_undefined = true
is_undefined _ = false

-- how many pairs there are
abbrev pub pair_count : Pairs → ℕ
pair_count no_pairs = 0
pair_count (pair k v ps) = pair_count ps + 1

-- whether a pair passes the test of its key and that of its value
abbrev pub has_pair : (Contents → Bool) → (Contents → Bool) → Pairs → Bool
has_pair is_key is_value no_pairs = false
has_pair is_key is_value (pair k v ps) = (is_key k && is_value v) || has_pair is_key is_value ps

-- values of one kind that hold equal things; both undefined are equal, and the pairs of maps stand
-- in any order
abbrev mutual
  pub equals : Contents → Contents → Bool
  equals undefined c = is_undefined c
  equals silent_undefined c = is_undefined c
  equals none none = true
  equals (truth a) (truth b) = beq a b
  equals (integer a) (integer b) = int_eq a b
  equals (text s) (text t) = pointwise nat_eq s t
  equals (list xs) (list ys) = items_equal xs ys
  equals (tuple xs) (tuple ys) = items_equal xs ys
  equals (mapping ps) (mapping qs) = (pair_count ps == pair_count qs) && are_pairs_in ps qs
  equals (keywords ps) (keywords qs) = (pair_count ps == pair_count qs) && are_pairs_in ps qs
  equals _ _ = false

  -- as many items, each equal to that at its place
  pub items_equal : Items → Items → Bool
  items_equal no_items no_items = true
  items_equal (item x xs) (item y ys) = equals x y && items_equal xs ys
  items_equal _ _ = false

  -- each pair of the first is equal to one of the second
  pub are_pairs_in : Pairs → Pairs → Bool
  are_pairs_in no_pairs qs = true
  are_pairs_in (pair k v ps) qs = has_pair (equals k) (equals v) qs && are_pairs_in ps qs

-- equal both ways round: where no map has two equal keys, one way decides
abbrev pub equals_both_ways : Contents → Contents → Bool
equals_both_ways a b = equals a b && equals b a

-- the order of integers, truth values, texts by bytes, and of two lists or two tuples item by item
abbrev mutual
  pub order : Contents → Contents → Option Ordering
  order (truth a) (truth b) = Some (bool_cmp a b)
  order (integer a) (integer b) = Some (int_cmp a b)
  order (text s) (text t) = Some (slice_cmp nat_cmp s t)
  order (list xs) (list ys) = items_order xs ys
  order (tuple xs) (tuple ys) = items_order xs ys
  order _ _ = None

  -- the first two items that are not equal decide, and then the lengths
  pub items_order : Items → Items → Option Ordering
  items_order no_items no_items = Some Equal
  items_order no_items (item y ys) = Some Less
  items_order (item x xs) no_items = Some Greater
  items_order (item x xs) (item y ys) = partial_ordering_then (order x y) (items_order xs ys)

-- whether an item is equal to the contents
abbrev pub has_item : Contents → Items → Bool
has_item c no_items = false
has_item c (item x xs) = equals x c || has_item c xs

-- the place of the first key that is equal to the contents
abbrev pub position_of_key : Contents → Pairs → Option ℕ
position_of_key c no_pairs = None
position_of_key c (pair k v ps) = if equals k c then Some 0 else option_map (λ n. n + 1) (position_of_key c ps)

-- whether a key is equal to the contents
abbrev pub has_key : Contents → Pairs → Bool
has_key c ps = is_some (position_of_key c ps)

-- the value of the first key that is equal to the contents
abbrev pub value_for : Contents → Pairs → Option Contents
value_for c no_pairs = None
value_for c (pair k v ps) = if equals k c then Some v else value_for c ps
