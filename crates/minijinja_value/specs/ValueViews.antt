-- What a `Value` is seen as.
use Rattle.std.specs.Prelude.{List, map}
use Rattle.minijinja_value.specs.Outcomes.{map_pairs}
use Rattle.minijinja_value.specs.ValueContents.{Contents, undefined, silent_undefined, none, truth, integer, text, list, tuple, mapping, keywords, Items, Pairs, items_of, pairs_of}
use Rattle.minijinja_value.specs.declared.value.Value.{Value, fold-Value}
use Rattle.minijinja_value.specs.declared.value.Value.TheOpen.{Value-F, ValueMap-F}
use Rattle.minijinja_value.specs.declared.value.ValueMap.{ValueMap, fold-ValueMap}

-- one level, with each value inside already seen as what it holds
abbrev pub contents_step : Value-F Contents Pairs → Contents
contents_step Value-F.Undefined = undefined
contents_step Value-F.SilentUndefined = silent_undefined
contents_step Value-F.None = none
contents_step (Value-F.Bool b) = truth b
contents_step (Value-F.Integer z) = integer z
contents_step (Value-F.String s) = text s
contents_step (Value-F.List v) = list (items_of v.items)
contents_step (Value-F.Tuple v) = tuple (items_of v.items)
contents_step (Value-F.Map ps) = mapping ps
contents_step (Value-F.Kwargs ps) = keywords ps

abbrev pub map_step : ValueMap-F Contents Pairs → Pairs
map_step m = pairs_of m.pairs.items

-- what a value holds
abbrev pub contents_of : Value → Contents
contents_of = fold-Value Contents Pairs contents_step map_step

-- what a map holds
abbrev pub map_view : ValueMap → Pairs
map_view = fold-ValueMap Contents Pairs contents_step map_step

-- what the values of a list hold, and those of pairs
abbrev pub items_view : List Value → Items
items_view values = items_of (map contents_of values)

abbrev pub pairs_view : List (Value × Value) → Pairs
pairs_view pairs = pairs_of (map_pairs contents_of pairs)
