-- Which lists and maps are empty.
use Rattle.std.proofs.Common.{◌≡◌, Bool, true, false, List, [], ◌∷◌, length, refl, ap, arith}
use Rattle.std.specs.Prelude.{ℕ, suc, not, ◌==◌, ◌↔◌, IsTrue}
use Rattle.minijinja_value.specs.ValueContents.{list, tuple, mapping, keywords, Pairs, no_pairs, pair}
use Rattle.minijinja_value.specs.ValueFunctions.{is_true}
use Rattle.minijinja_value.specs.ValueViews.{items_view}
use Rattle.minijinja_value.specs.declared.value.Value.{Value}

not_zero : (n : ℕ) → not (suc n == 0) ≡ true
not_zero n = grind arith

pub is_true-list : (xs : List Value) → not (length xs == 0) ≡ is_true (list (items_view xs))
is_true-list [] = refl
is_true-list (x ∷ xs) = not_zero (length xs)

pub is_true-tuple : (xs : List Value) → not (length xs == 0) ≡ is_true (tuple (items_view xs))
is_true-tuple [] = refl
is_true-tuple (x ∷ xs) = not_zero (length xs)

pub is_true-mapping : (ps : Pairs) (b : Bool) → IsTrue b ↔ (ps ≡ no_pairs) → not b ≡ is_true (mapping ps)
is_true-mapping no_pairs b h = ap not (h.1 refl)
is_true-mapping (pair k v ps) true h = let none : pair k v ps ≡ no_pairs = h.0 refl in absurd (cc none)
is_true-mapping (pair k v ps) false h = refl

pub is_true-keywords : (ps : Pairs) (b : Bool) → IsTrue b ↔ (ps ≡ no_pairs) → not b ≡ is_true (keywords ps)
is_true-keywords no_pairs b h = ap not (h.1 refl)
is_true-keywords (pair k v ps) true h = let none : pair k v ps ≡ no_pairs = h.0 refl in absurd (cc none)
is_true-keywords (pair k v ps) false h = refl
