-- The printed form of a value, and what a template prints for it.
use Rattle.std.specs.Prelude.{true, false, codes, List, [], ◌∷◌, ◌++◌}
use Rattle.std.specs.Fmt.{signed_decimal}
use Rattle.std.specs.List.{flat_map}
use Rattle.minijinja_text.specs.Texts.{Text}
use Rattle.minijinja_text.specs.Quotes.{quoted}
use Rattle.minijinja_value.specs.ValueContents.{Contents, undefined, silent_undefined, none, truth, integer, text, list, tuple, mapping, keywords, Items, no_items, item, Pairs, no_pairs, pair}

-- texts with `, ` between them
abbrev pub joined : List Text → Text
joined [] = []
joined (t ∷ ts) = t ++ flat_map (λ u. codes ", " ++ u) ts

-- a tuple of one item has a comma after it
abbrev pub tuple_words : List Text → Text
tuple_words [] = codes "()"
tuple_words (t ∷ []) = codes "(" ++ t ++ codes ",)"
tuple_words ts = codes "(" ++ joined ts ++ codes ")"

-- undefined is `undefined` or `silent`, a text stands between quotes, and a map of keywords begins
-- with `kwargs`
abbrev mutual
  pub words : Contents → Text
  words undefined = codes "undefined"
  words silent_undefined = codes "silent"
  words none = codes "none"
  words (truth true) = codes "true"
  words (truth false) = codes "false"
  words (integer z) = signed_decimal z
  words (text t) = quoted t
  words (list xs) = codes "[" ++ joined (each_words xs) ++ codes "]"
  words (tuple xs) = tuple_words (each_words xs)
  words (mapping ps) = codes "{" ++ joined (pair_words ps) ++ codes "}"
  words (keywords ps) = codes "kwargs{" ++ joined (pair_words ps) ++ codes "}"

  pub each_words : Items → List Text
  each_words no_items = []
  each_words (item x xs) = words x ∷ each_words xs

  -- `key: value` for each pair
  pub pair_words : Pairs → List Text
  pair_words no_pairs = []
  pair_words (pair k v ps) = (words k ++ codes ": " ++ words v) ∷ pair_words ps

-- what a template prints for a value, and what `~` joins: a text as it is, both undefined as
-- nothing, and any other value as its words
abbrev pub rendered : Contents → Text
rendered (text t) = t
rendered undefined = []
rendered silent_undefined = []
rendered c = words c
