-- What a `Value` holds.
use Rattle.std.specs.Prelude.{Bool, ℤ, List, [], ◌∷◌}
use Rattle.minijinja_text.specs.Texts.{Text}

mutual
  pub data Contents : Type 0 where
    undefined : Contents
    -- what an if expression gives that has no else part and whose test fails
    silent_undefined : Contents
    none : Contents
    truth : Bool → Contents
    -- from -2^127 to 2^128 - 1
    integer : ℤ → Contents
    text : Text → Contents
    list : Items → Contents
    tuple : Items → Contents
    -- a map, and the keyword arguments of a call
    mapping : Pairs → Contents
    keywords : Pairs → Contents

  pub data Items : Type 0 where
    no_items : Items
    item : Contents → Items → Items

  -- keys, each with its value
  pub data Pairs : Type 0 where
    no_pairs : Pairs
    pair : Contents → Contents → Pairs → Pairs

-- items from a list of them, and pairs
abbrev pub items_of : List Contents → Items
items_of [] = no_items
items_of (x ∷ xs) = item x (items_of xs)

abbrev pub pairs_of : List (Contents × Contents) → Pairs
pairs_of [] = no_pairs
pairs_of (p ∷ ps) = pair p.0 p.1 (pairs_of ps)
