-- Comparisons of values, item by item.
use Rattle.std.proofs.Common.{◌≡◌, ◌≢◌, ℕ, suc, zero, ◌+◌, ◌<◌, ◌≤◌, min, Bool, true, false, List, [], ◌∷◌, length, drop, get_or, refl, sym, ap, ◌∙◌, arith, add-one, drop-cons}
use Rattle.std.specs.Prelude.{◌&&◌, ◌||◌, ◌==◌, Some}
use Rattle.std.specs.declared.cmp.Ordering.TheVariants.{Less, Greater}
use Rattle.std.specs.Ordering.{nat_cmp}
use Rattle.std.proofs.lemmas.Bool.Decides.{Decides-eqb}
use Rattle.std.proofs.lemmas.List.{drop_all}
use Rattle.minijinja_value.specs.ValueContents.{Contents, Pairs}
use Rattle.minijinja_value.specs.ValueComparison.{equals, items_equal, pair_count, has_pair, are_pairs_in, items_order}
use Rattle.minijinja_value.specs.ValueViews.{contents_of, items_view, pairs_view}
use Rattle.minijinja_value.specs.declared.value.Value.{Value}

and_false : (a b : Bool) → false ≡ b → false ≡ (a && b)
and_false true b h = h
and_false false b h = refl

-- lists that are not as long are not equal
pub items_equal-lengths : (xs ys : List Value) → length xs ≢ length ys → false ≡ items_equal (items_view xs) (items_view ys)
items_equal-lengths [] [] h = absurd (h refl)
items_equal-lengths [] (y ∷ ys) h = refl
items_equal-lengths (x ∷ xs) [] h = refl
items_equal-lengths (x ∷ xs) (y ∷ ys) h = and_false (equals (contents_of x) (contents_of y)) (items_equal (items_view xs) (items_view ys)) (items_equal-lengths xs ys (λ e. h (ap suc e)))

-- the pairs seen are as many as there are
pub pair_count-view : (ps : List (Value × Value)) → pair_count (pairs_view ps) ≡ length ps
pair_count-view [] = refl
pair_count-view (p ∷ ps) = omega (arith, pair_count-view ps)

-- what is left of a list from an item on
pub drop_item : {X : Type 0} → (xs : List X) (i : ℕ) (x : X) → i < length xs → x ≡ get_or xs i x → drop i xs ≡ x ∷ drop (i + 1) xs
drop_item xs i x h e = rw add-one (drop-cons xs i x h ∙ ap (λ y. y ∷ drop (suc i) xs) (sym e))

same_count : (ps qs : List (Value × Value)) (b : Bool) → length ps ≡ length qs → b ≡ ((pair_count (pairs_view ps) == pair_count (pairs_view qs)) && b)
same_count ps qs b h = rw (pair_count-view ps, pair_count-view qs, h) (by (length qs == length qs) ((Decides-eqb (length qs) (length qs)).1 refl))
  where
    by : (t : Bool) → t ≡ true → b ≡ (t && b)
    by true e = refl
    by false e = absurd (cc e)

-- maps of other sizes are not equal
pub pairs_differ : (ps qs : List (Value × Value)) (b : Bool) → length ps ≢ length qs → false ≡ ((pair_count (pairs_view ps) == pair_count (pairs_view qs)) && b)
pairs_differ ps qs b h = rw (pair_count-view ps, pair_count-view qs) (by (length ps == length qs) ((Decides-eqb (length ps) (length qs)).0))
  where
    by : (t : Bool) → (t ≡ true → length ps ≡ length qs) → false ≡ (t && b)
    by true e = absurd (h (e refl))
    by false e = refl

-- for maps of one size the pairs decide
pub pairs_decide : (ps qs : List (Value × Value)) (b : Bool) → length ps ≡ length qs → b ≡ are_pairs_in (pairs_view ps) (pairs_view qs)
    → b ≡ ((pair_count (pairs_view ps) == pair_count (pairs_view qs)) && are_pairs_in (pairs_view ps) (pairs_view qs))
pairs_decide ps qs b h e = e ∙ same_count ps qs (are_pairs_in (pairs_view ps) (pairs_view qs)) h

pub pairs_in-step : (ps : List (Value × Value)) (qs : Pairs) (i : ℕ) (p : Value × Value) → i < length ps → p ≡ get_or ps i p
    → are_pairs_in (pairs_view (drop i ps)) qs ≡ (has_pair (equals (contents_of p.0)) (equals (contents_of p.1)) qs && are_pairs_in (pairs_view (drop (i + 1) ps)) qs)
pairs_in-step ps qs i p h e = ap (λ (l : List (Value × Value)). are_pairs_in (pairs_view l) qs) (drop_item ps i p h e)

pub has_pair-step : (f g : Contents → Bool) (qs : List (Value × Value)) (j : ℕ) (q : Value × Value) → j < length qs → q ≡ get_or qs j q
    → has_pair f g (pairs_view (drop j qs)) ≡ ((f (contents_of q.0) && g (contents_of q.1)) || has_pair f g (pairs_view (drop (j + 1) qs)))
has_pair-step f g qs j q h e = ap (λ (l : List (Value × Value)). has_pair f g (pairs_view l)) (drop_item qs j q h e)

-- no pair is left at the end
pub has_pair-end : (f g : Contents → Bool) (qs : List (Value × Value)) (j : ℕ) → length qs ≤ j → has_pair f g (pairs_view (drop j qs)) ≡ false
has_pair-end f g qs j h = ap (λ (l : List (Value × Value)). has_pair f g (pairs_view l)) (drop_all j qs h)

both_true : (a b c : Bool) → a ≡ true → b ≡ true → ((a && b) || c) ≡ true
both_true true true c h e = refl
both_true true false c h e = absurd (cc e)
both_true false b c h e = absurd (cc h)

-- a pair that passes both tests is found
pub has_pair-found : (f g : Contents → Bool) (qs : List (Value × Value)) (j : ℕ) (q : Value × Value) → j < length qs → q ≡ get_or qs j q
    → f (contents_of q.0) ≡ true → g (contents_of q.1) ≡ true → has_pair f g (pairs_view (drop j qs)) ≡ true
has_pair-found f g qs j q h e k v = has_pair-step f g qs j q h e ∙ both_true (f (contents_of q.0)) (g (contents_of q.1)) (has_pair f g (pairs_view (drop (j + 1) qs))) k v

first_shorter : (n : ℕ) → Less ≡ nat_cmp 0 (suc n)
first_shorter n = grind arith

first_longer : (n : ℕ) → Greater ≡ nat_cmp (suc n) 0
first_longer n = grind arith

both_longer : (m n : ℕ) → nat_cmp m n ≡ nat_cmp (suc m) (suc n)
both_longer m n = grind arith

-- where one of two lists has ended, the lengths decide
pub items_order-ends : (xs ys : List Value) (i : ℕ) → i ≡ min (length xs) (length ys)
    → items_order (items_view (drop i xs)) (items_view (drop i ys)) ≡ Some (nat_cmp (length xs) (length ys))
items_order-ends [] [] zero h = refl
items_order-ends [] (y ∷ ys) zero h = ap Some (first_shorter (length ys))
items_order-ends (x ∷ xs) [] zero h = ap Some (first_longer (length xs))
items_order-ends (x ∷ xs) (y ∷ ys) zero h = absurd (omega arith)
items_order-ends [] ys (suc i) h = absurd (omega arith)
items_order-ends (x ∷ xs) [] (suc i) h = absurd (omega arith)
items_order-ends (x ∷ xs) (y ∷ ys) (suc i) h = items_order-ends xs ys i (omega arith) ∙ ap Some (both_longer (length xs) (length ys))
