-- The items of values that are lists.
use Rattle.std.specs.Prelude.{List, [], ◌∷◌, Option, None, Some}
use Rattle.minijinja_value.specs.ValueContents.{Contents, Items, no_items, item, list}

abbrev pub each_item : Items → List Contents
each_item no_items = []
each_item (item x items) = x ∷ each_item items

-- the items, if the value is a list
abbrev pub items_in : Contents → Option (List Contents)
items_in (list items) = Some (each_item items)
items_in _ = None
