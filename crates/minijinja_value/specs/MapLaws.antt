-- Maps whose keys are distinct.
use Rattle.std.specs.Prelude.{◌≡◌, Bool, false, ◌||◌}
use Rattle.minijinja_value.specs.ValueContents.{Contents, list, tuple, mapping, keywords, Items, no_items, item, Pairs, no_pairs, pair}
use Rattle.minijinja_value.specs.ValueComparison.{equals}

-- whether the contents are equal to a key
abbrev pub equals_a_key : Contents → Pairs → Bool
equals_a_key c no_pairs = false
equals_a_key c (pair k v ps) = equals c k || equals_a_key c ps

-- no key is equal to a later one
abbrev pub HasDistinctKeys : Pairs → Type 0
HasDistinctKeys no_pairs = Unit {0}
HasDistinctKeys (pair k v ps) = (equals_a_key k ps ≡ false) × HasDistinctKeys ps

-- each map in the contents has distinct keys
abbrev mutual
  pub HasDistinctKeysThroughout : Contents → Type 0
  HasDistinctKeysThroughout (list xs) = ItemsHaveDistinctKeys xs
  HasDistinctKeysThroughout (tuple xs) = ItemsHaveDistinctKeys xs
  HasDistinctKeysThroughout (mapping ps) = HasDistinctKeys ps × PairsHaveDistinctKeys ps
  HasDistinctKeysThroughout (keywords ps) = HasDistinctKeys ps × PairsHaveDistinctKeys ps
  HasDistinctKeysThroughout _ = Unit {0}

  pub ItemsHaveDistinctKeys : Items → Type 0
  ItemsHaveDistinctKeys no_items = Unit {0}
  ItemsHaveDistinctKeys (item x xs) = HasDistinctKeysThroughout x × ItemsHaveDistinctKeys xs

  pub PairsHaveDistinctKeys : Pairs → Type 0
  PairsHaveDistinctKeys no_pairs = Unit {0}
  PairsHaveDistinctKeys (pair k v ps) = HasDistinctKeysThroughout k × HasDistinctKeysThroughout v × PairsHaveDistinctKeys ps
