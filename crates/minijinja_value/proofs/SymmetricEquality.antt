-- Equality of contents is symmetric where no map has two equal keys.
use Rattle.std.proofs.Common.{◌≡◌, ℕ, ◌+◌, Bool, true, false, refl, sym, ap, ◌∙◌, subst, arith}
use Rattle.std.specs.Prelude.{◌&&◌, ◌||◌, ◌==◌, if◌then◌else◌}
use Rattle.minijinja_value.specs.ValueContents.{Contents, undefined, silent_undefined, none, truth, integer, text, list, tuple, mapping, keywords, Items, no_items, item, Pairs, no_pairs, pair}
use Rattle.minijinja_value.specs.ValueComparison.{equals, items_equal, pair_count, has_pair, are_pairs_in}
use Rattle.minijinja_value.specs.MapLaws.{equals_a_key, HasDistinctKeys, HasDistinctKeysThroughout, ItemsHaveDistinctKeys, PairsHaveDistinctKeys}
use Rattle.minijinja_value.specs.private.EqualContents.{and_parts, and_both, or_first, or_second, is_none, is_truth, is_integer, is_text, is_list, is_tuple, is_mapping, is_keywords, undefined_back, same_truth, same_integer, same_text, same_count, count_same, same_pairs, equals-chain, pairs_in-more}

neither : (a b : Bool) → (a || b) ≡ false → (a ≡ false) × (b ≡ false)
neither true b h = absurd (cc h)
neither false b h = (refl, h)

-- what is equal to the contents, the other way round
abbrev Turns : Contents → Type 0
Turns a = (b : Contents) → equals a b ≡ true → equals b a ≡ true

-- for both parts of each pair
abbrev AllTurn : Pairs → Type 0
AllTurn no_pairs = Unit {0}
AllTurn (pair k v ps) = Turns k × Turns v × AllTurn ps

-- the pairs without the first that passes both tests
abbrev without : (Contents → Bool) → (Contents → Bool) → Pairs → Pairs
without f g no_pairs = no_pairs
without f g (pair k v ps) = if f k && g v then ps else pair k v (without f g ps)

-- a pair that is found is one of them
count-without : (f g : Contents → Bool) (qs : Pairs) → has_pair f g qs ≡ true → pair_count qs ≡ pair_count (without f g qs) + 1
count-without f g no_pairs h = absurd (cc h)
count-without f g (pair l w qs) h = by (f l && g w) h (count-without f g qs)
  where
    by : (t : Bool) → (t || has_pair f g qs) ≡ true → (has_pair f g qs ≡ true → pair_count qs ≡ pair_count (without f g qs) + 1) → pair_count qs + 1 ≡ pair_count (if t then qs else pair l w (without f g qs)) + 1
    by true h rest = refl
    by false h rest = ap (λ (n : ℕ). n + 1) (rest h)

-- a pair with another key is found without it
found-without : (f g p q : Contents → Bool) (qs : Pairs) → ((c : Contents) → f c ≡ true → p c ≡ true → ⊥) → has_pair p q qs ≡ true → has_pair p q (without f g qs) ≡ true
found-without f g p q no_pairs other h = h
found-without f g p q (pair l w qs) other h = by (f l && g w) refl (p l && q w) refl h (found-without f g p q qs other)
  where
    by : (t : Bool) → (f l && g w) ≡ t → (s : Bool) → (p l && q w) ≡ s → (s || has_pair p q qs) ≡ true → (has_pair p q qs ≡ true → has_pair p q (without f g qs) ≡ true)
        → has_pair p q (if t then qs else pair l w (without f g qs)) ≡ true
    by true e true d h rest = absurd (other l (and_parts (f l) (g w) e).0 (and_parts (p l) (q w) d).0)
    by true e false d h rest = h
    by false e true d h rest = or_first (p l && q w) (has_pair p q (without f g qs)) d
    by false e false d h rest = or_second (p l && q w) (has_pair p q (without f g qs)) (rest h)

pairs_in-without : (k v : Contents) (ps qs : Pairs) → equals_a_key k ps ≡ false → AllTurn ps → are_pairs_in ps qs ≡ true → are_pairs_in ps (without (equals k) (equals v) qs) ≡ true
pairs_in-without k v no_pairs qs d t h = refl
pairs_in-without k v (pair l w ps) qs d t h =
    let other = neither (equals k l) (equals_a_key k ps) d in
    let parts = and_parts (has_pair (equals l) (equals w) qs) (are_pairs_in ps qs) h in
    let apart : (c : Contents) → equals k c ≡ true → equals l c ≡ true → ⊥ = λ c x y.
    let same : equals k l ≡ true = equals-chain k c l x (t.0 c y) in
    let not_same : equals k l ≡ false = other.0 in
    cc (same, not_same) in
    and_both (has_pair (equals l) (equals w) (without (equals k) (equals v) qs)) (are_pairs_in ps (without (equals k) (equals v) qs))
    (found-without (equals k) (equals v) (equals l) (equals w) qs apart parts.0)
    (pairs_in-without k v ps qs other.1 t.2 parts.1)

-- where all others are found, and the one is equal, all are
pairs_in-back : (k v : Contents) (ps qs : Pairs) → Turns k → Turns v → are_pairs_in (without (equals k) (equals v) qs) ps ≡ true → are_pairs_in qs (pair k v ps) ≡ true
pairs_in-back k v ps no_pairs s t h = refl
pairs_in-back k v ps (pair l w qs) s t h = by (equals k l && equals v w) refl h (pairs_in-back k v ps qs s t)
  where
    by : (b : Bool) → (equals k l && equals v w) ≡ b → are_pairs_in (if b then qs else pair l w (without (equals k) (equals v) qs)) ps ≡ true
        → (are_pairs_in (without (equals k) (equals v) qs) ps ≡ true → are_pairs_in qs (pair k v ps) ≡ true)
        → (has_pair (equals l) (equals w) (pair k v ps) && are_pairs_in qs (pair k v ps)) ≡ true
    by true e h rest =
        let both = and_parts (equals k l) (equals v w) e in
        and_both (has_pair (equals l) (equals w) (pair k v ps)) (are_pairs_in qs (pair k v ps))
        (or_first (equals l k && equals w v) (has_pair (equals l) (equals w) ps) (and_both (equals l k) (equals w v) (s l both.0) (t w both.1)))
        (pairs_in-more k v ps qs h)
    by false e h rest =
        let parts = and_parts (has_pair (equals l) (equals w) ps) (are_pairs_in (without (equals k) (equals v) qs) ps) h in
        and_both (has_pair (equals l) (equals w) (pair k v ps)) (are_pairs_in qs (pair k v ps))
        (or_second (equals l k && equals w v) (has_pair (equals l) (equals w) ps) parts.0)
        (rest parts.1)

-- as many pairs with distinct keys that are all found are all that there are
pairs_in-turn : (ps qs : Pairs) → HasDistinctKeys ps → AllTurn ps → pair_count ps ≡ pair_count qs → are_pairs_in ps qs ≡ true → are_pairs_in qs ps ≡ true
pairs_in-turn no_pairs no_pairs d t n h = refl
pairs_in-turn no_pairs (pair l w qs) d t n h = absurd (omega (arith, n))
pairs_in-turn (pair k v ps) qs d t n h =
    let parts = and_parts (has_pair (equals k) (equals v) qs) (are_pairs_in ps qs) h in
    let left : Pairs = without (equals k) (equals v) qs in
    let fewer : pair_count ps ≡ pair_count left = omega (arith, n, count-without (equals k) (equals v) qs parts.0) in
    pairs_in-back k v ps qs t.0 t.1 (pairs_in-turn ps left d.1 t.2 fewer (pairs_in-without k v ps qs d.0 t.2 parts.1))

turn_maps : (ps qs : Pairs) → HasDistinctKeys ps → AllTurn ps → same_pairs ps qs ≡ true → same_pairs qs ps ≡ true
turn_maps ps qs d t h =
    let parts = and_parts (pair_count ps == pair_count qs) (are_pairs_in ps qs) h in
    let count = same_count (pair_count ps) (pair_count qs) parts.0 in
    and_both (pair_count qs == pair_count ps) (are_pairs_in qs ps) (count_same (pair_count qs) (pair_count ps) (sym count)) (pairs_in-turn ps qs d t count parts.1)

mutual
  pub equals-turn : (a : Contents) → HasDistinctKeysThroughout a → (b : Contents) → equals a b ≡ true → equals b a ≡ true
  equals-turn undefined d b h = (undefined_back b h).0
  equals-turn silent_undefined d b h = (undefined_back b h).1
  equals-turn none d b h = subst (λ (c : Contents). equals c none ≡ true) (sym (is_none b h)) refl
  equals-turn (truth x) d b h =
      let i = is_truth x b h in
      let same : b ≡ truth x = i.1 ∙ ap truth (sym (same_truth x i.0 i.2)) in
      subst (λ (c : Contents). equals c (truth x) ≡ true) (sym same) (subst (λ (c : Contents). equals (truth x) c ≡ true) same h)
  equals-turn (integer x) d b h =
      let i = is_integer x b h in
      let same : b ≡ integer x = i.1 ∙ ap integer (sym (same_integer x i.0 i.2)) in
      subst (λ (c : Contents). equals c (integer x) ≡ true) (sym same) (subst (λ (c : Contents). equals (integer x) c ≡ true) same h)
  equals-turn (text x) d b h =
      let i = is_text x b h in
      let same : b ≡ text x = i.1 ∙ ap text (sym (same_text x i.0 i.2)) in
      subst (λ (c : Contents). equals c (text x) ≡ true) (sym same) (subst (λ (c : Contents). equals (text x) c ≡ true) same h)
  equals-turn (list x) d b h =
      let i = is_list x b h in
      subst (λ (c : Contents). equals c (list x) ≡ true) (sym i.1) (items_equal-turn x d i.0 i.2)
  equals-turn (tuple x) d b h =
      let i = is_tuple x b h in
      subst (λ (c : Contents). equals c (tuple x) ≡ true) (sym i.1) (items_equal-turn x d i.0 i.2)
  equals-turn (mapping x) d b h =
      let i = is_mapping x b h in
      subst (λ (c : Contents). equals c (mapping x) ≡ true) (sym i.1) (turn_maps x i.0 d.0 (pairs_turn x d.1) i.2)
  equals-turn (keywords x) d b h =
      let i = is_keywords x b h in
      subst (λ (c : Contents). equals c (keywords x) ≡ true) (sym i.1) (turn_maps x i.0 d.0 (pairs_turn x d.1) i.2)

  items_equal-turn : (xs : Items) → ItemsHaveDistinctKeys xs → (ys : Items) → items_equal xs ys ≡ true → items_equal ys xs ≡ true
  items_equal-turn no_items d no_items h = refl
  items_equal-turn no_items d (item y ys) h = absurd (cc h)
  items_equal-turn (item x xs) d no_items h = absurd (cc h)
  items_equal-turn (item x xs) d (item y ys) h =
      let parts = and_parts (equals x y) (items_equal xs ys) h in
      and_both (equals y x) (items_equal ys xs) (equals-turn x d.0 y parts.0) (items_equal-turn xs d.1 ys parts.1)

  pairs_turn : (ps : Pairs) → PairsHaveDistinctKeys ps → AllTurn ps
  pairs_turn no_pairs d = tt
  pairs_turn (pair k v ps) d = (λ b h. equals-turn k d.0 b h, λ b h. equals-turn v d.1 b h, pairs_turn ps d.2)

-- two tests that follow from one another
alike : (a b : Bool) → (a ≡ true → b ≡ true) → (b ≡ true → a ≡ true) → a ≡ b
alike true b h g = sym (h refl)
alike false true h g = absurd (cc (g refl))
alike false false h g = refl

pub equals-symmetric : (a b : Contents) → HasDistinctKeysThroughout a → HasDistinctKeysThroughout b → equals a b ≡ equals b a
equals-symmetric a b c d = alike (equals a b) (equals b a) (equals-turn a c b) (equals-turn b d a)
