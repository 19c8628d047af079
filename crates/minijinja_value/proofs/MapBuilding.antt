-- Pairs of a map, put one after another.
use Rattle.std.proofs.Common.{◌≡◌, ℕ, suc, ◌+◌, ◌<◌, Bool, true, false, List, [], ◌∷◌, ◌++◌, length, get_or, set, refl, sym, ap, ◌∙◌, arith, inl, inr}
use Rattle.std.specs.Prelude.{Option, Some, None, option_map, if◌then◌else◌, ◌⊎◌}
use Rattle.minijinja_value.specs.ValueContents.{Contents, Pairs, pair}
use Rattle.minijinja_value.specs.ValueComparison.{equals, position_of_key, value_for}
use Rattle.minijinja_value.specs.ValueFunctions.{put}
use Rattle.minijinja_value.specs.ValueViews.{contents_of, pairs_view}
use Rattle.minijinja_value.specs.declared.value.Value.{Value}

-- a place is the first, or one after it
split : (t : Bool) (o : Option ℕ) (n : ℕ) → Some n ≡ (if t then Some 0 else option_map (λ k. k + 1) o) → ((t ≡ true) × (n ≡ 0)) ⊎ ((m : ℕ) × (t ≡ false) × (o ≡ Some m) × (n ≡ suc m))
split true o n e = inl (refl, cc e)
split false None n e = absurd (cc e)
split false (Some m) n e = let same : n ≡ m + 1 = cc e in inr (m, refl, refl, omega (arith, same))

-- the place of a key is one of the list
pub position_of_key-below : (c : Contents) (ps : List (Value × Value)) (n : ℕ) → Some n ≡ position_of_key c (pairs_view ps) → n < length ps
position_of_key-below c [] n e = absurd (cc e)
position_of_key-below c (p ∷ ps) n e = elim (split (equals (contents_of p.0) c) (position_of_key c (pairs_view ps)) n e) [
  | inl first ↦ omega (arith, first.1)
  | inr later ↦ omega (arith, later.3, position_of_key-below c ps later.0 (sym later.2))
]

-- a key that is there keeps its place and takes the value
pub put-found : (c : Contents) (w : Value) (ps : List (Value × Value)) (n : ℕ) (q : Value × Value) → Some n ≡ position_of_key c (pairs_view ps) → q ≡ get_or ps n q
    → pairs_view (set ps n (q.0, w)) ≡ put c (contents_of w) (pairs_view ps)
put-found c w [] n q e h = absurd (cc e)
put-found c w (p ∷ ps) n q e h = elim (split (equals (contents_of p.0) c) (position_of_key c (pairs_view ps)) n e) [
  | inl first ↦
      let here : q ≡ p = h ∙ ap (λ (k : ℕ). get_or (p ∷ ps) k q) first.1 in
      rw (first.1, first.0, here) refl
  | inr later ↦
      let there : q ≡ get_or ps later.0 q = h ∙ ap (λ (k : ℕ). get_or (p ∷ ps) k q) later.3 in
      let rest = put-found c w ps later.0 q (sym later.2) there in
      rw (later.3, later.1) (ap (λ (more : Pairs). pair (contents_of p.0) (contents_of p.1) more) rest)
]

missed : (t : Bool) (o : Option ℕ) → None ≡ (if t then Some 0 else option_map (λ k. k + 1) o) → (t ≡ false) × (None ≡ o)
missed true o e = absurd (cc e)
missed false None e = (refl, refl)
missed false (Some m) e = absurd (cc e)

-- a key that is not there comes last
pub put-missed : (k w : Value) (ps : List (Value × Value)) → None ≡ position_of_key (contents_of k) (pairs_view ps)
    → pairs_view (ps ++ (k, w) ∷ []) ≡ put (contents_of k) (contents_of w) (pairs_view ps)
put-missed k w [] e = refl
put-missed k w (p ∷ ps) e =
    let parts = missed (equals (contents_of p.0) (contents_of k)) (position_of_key (contents_of k) (pairs_view ps)) e in
    rw parts.0 (ap (λ (more : Pairs). pair (contents_of p.0) (contents_of p.1) more) (put-missed k w ps parts.1))

-- the value at the place of a key is the key's
pub value_for-found : (c : Contents) (ps : List (Value × Value)) (n : ℕ) (q : Value × Value) → Some n ≡ position_of_key c (pairs_view ps) → q ≡ get_or ps n q
    → Some (contents_of q.1) ≡ value_for c (pairs_view ps)
value_for-found c [] n q e h = absurd (cc e)
value_for-found c (p ∷ ps) n q e h = elim (split (equals (contents_of p.0) c) (position_of_key c (pairs_view ps)) n e) [
  | inl first ↦
      let here : q ≡ p = h ∙ ap (λ (k : ℕ). get_or (p ∷ ps) k q) first.1 in
      rw first.0 (ap (λ (r : Value × Value). Some (contents_of r.1)) here)
  | inr later ↦
      let there : q ≡ get_or ps later.0 q = h ∙ ap (λ (k : ℕ). get_or (p ∷ ps) k q) later.3 in
      rw later.1 (value_for-found c ps later.0 q (sym later.2) there)
]

-- a key that is not there has no value
pub value_for-missed : (c : Contents) (ps : List (Value × Value)) → None ≡ position_of_key c (pairs_view ps) → None ≡ value_for c (pairs_view ps)
value_for-missed c [] e = refl
value_for-missed c (p ∷ ps) e =
    let parts = missed (equals (contents_of p.0) c) (position_of_key c (pairs_view ps)) e in
    rw parts.0 (value_for-missed c ps parts.1)
