-- The laws of `==` on values.
use Rattle.std.proofs.Common.{◌≡◌, ℕ, Bool, true, false, refl, sym, ap, ◌∙◌, subst, nat_eq}
use Rattle.std.specs.Prelude.{◌&&◌, ◌||◌, ◌==◌, ℤ}
use Rattle.std.specs.Ordering.{int_eq}
use Rattle.std.specs.Bool.{beq}
use Rattle.std.specs.Cmp.{booleans_Decides, IsPartialEquivalence, IsEquivalence, equiv}
use Rattle.std.specs.Cmp.Lexicographic.{pointwise}
use Rattle.std.proofs.lemmas.Bool.Decides.{Decides-eqb, Decides-int_eq}
use Rattle.std.proofs.lemmas.Slice.Eq.{slice_eq-Decides}
use Rattle.minijinja_text.specs.Texts.{Text}
use Rattle.minijinja_value.specs.ValueContents.{Contents, undefined, silent_undefined, none, truth, integer, text, list, tuple, mapping, keywords, Items, no_items, item, Pairs, no_pairs, pair}
use Rattle.minijinja_value.specs.ValueComparison.{is_undefined, equals, equals_both_ways, items_equal, pair_count, has_pair, are_pairs_in}
use Rattle.minijinja_value.specs.ValueViews.{contents_of}
use Rattle.minijinja_value.specs.declared.value.Value.{Value}

pub and_parts : (a b : Bool) → (a && b) ≡ true → (a ≡ true) × (b ≡ true)
and_parts true b h = (refl, h)
and_parts false b h = absurd (cc h)

pub and_both : (a b : Bool) → a ≡ true → b ≡ true → (a && b) ≡ true
and_both true b h g = g
and_both false b h g = absurd (cc h)

pub or_first : (a b : Bool) → a ≡ true → (a || b) ≡ true
or_first true b h = refl
or_first false b h = absurd (cc h)

pub or_second : (a b : Bool) → b ≡ true → (a || b) ≡ true
or_second true b h = refl
or_second false b h = h

-- what a value of one kind is equal to is of that kind
pub is_none : (b : Contents) → equals none b ≡ true → b ≡ none
is_none none h = refl
is_none b h = absurd (cc h)

pub is_truth : (x : Bool) (b : Contents) → equals (truth x) b ≡ true → (y : Bool) × (b ≡ truth y) × (beq x y ≡ true)
is_truth x (truth y) h = (y, refl, h)
is_truth x b h = absurd (cc h)

pub is_integer : (x : ℤ) (b : Contents) → equals (integer x) b ≡ true → (y : ℤ) × (b ≡ integer y) × (int_eq x y ≡ true)
is_integer x (integer y) h = (y, refl, h)
is_integer x b h = absurd (cc h)

pub is_text : (x : Text) (b : Contents) → equals (text x) b ≡ true → (y : Text) × (b ≡ text y) × (pointwise nat_eq x y ≡ true)
is_text x (text y) h = (y, refl, h)
is_text x b h = absurd (cc h)

pub is_list : (x : Items) (b : Contents) → equals (list x) b ≡ true → (y : Items) × (b ≡ list y) × (items_equal x y ≡ true)
is_list x (list y) h = (y, refl, h)
is_list x b h = absurd (cc h)

pub is_tuple : (x : Items) (b : Contents) → equals (tuple x) b ≡ true → (y : Items) × (b ≡ tuple y) × (items_equal x y ≡ true)
is_tuple x (tuple y) h = (y, refl, h)
is_tuple x b h = absurd (cc h)

abbrev pub same_pairs : Pairs → Pairs → Bool
same_pairs ps qs = (pair_count ps == pair_count qs) && are_pairs_in ps qs

pub is_mapping : (x : Pairs) (b : Contents) → equals (mapping x) b ≡ true → (y : Pairs) × (b ≡ mapping y) × (same_pairs x y ≡ true)
is_mapping x (mapping y) h = (y, refl, h)
is_mapping x b h = absurd (cc h)

pub is_keywords : (x : Pairs) (b : Contents) → equals (keywords x) b ≡ true → (y : Pairs) × (b ≡ keywords y) × (same_pairs x y ≡ true)
is_keywords x (keywords y) h = (y, refl, h)
is_keywords x b h = absurd (cc h)

undefined_on : (b c : Contents) → is_undefined b ≡ true → equals b c ≡ true → is_undefined c ≡ true
undefined_on undefined c h g = g
undefined_on silent_undefined c h g = g
undefined_on b c h g = absurd (cc h)

pub undefined_back : (b : Contents) → is_undefined b ≡ true → (equals b undefined ≡ true) × (equals b silent_undefined ≡ true)
undefined_back undefined h = (refl, refl)
undefined_back silent_undefined h = (refl, refl)
undefined_back b h = absurd (cc h)

pub same_truth : (x y : Bool) → beq x y ≡ true → x ≡ y
same_truth x y h = (booleans_Decides x y).0 h

pub same_integer : (x y : ℤ) → int_eq x y ≡ true → x ≡ y
same_integer x y h = (Decides-int_eq x y).0 h

pub same_text : (x y : Text) → pointwise nat_eq x y ≡ true → x ≡ y
same_text x y h = (slice_eq-Decides Decides-eqb x y (pointwise nat_eq x y) refl).0 h

pub same_count : (m n : ℕ) → (m == n) ≡ true → m ≡ n
same_count m n h = (Decides-eqb m n).0 h

pub count_same : (m n : ℕ) → m ≡ n → (m == n) ≡ true
count_same m n h = (Decides-eqb m n).1 h

-- what the contents are equal to, and what that is equal to
abbrev Chains : Contents → Type 0
Chains a = (b c : Contents) → equals a b ≡ true → equals b c ≡ true → equals a c ≡ true

-- a pair that is found by a test is found by a weaker one
weaker : (f g p q : Contents → Bool) (rs : Pairs) → ((c : Contents) → f c ≡ true → p c ≡ true) → ((c : Contents) → g c ≡ true → q c ≡ true) → has_pair f g rs ≡ true → has_pair p q rs ≡ true
weaker f g p q no_pairs k v h = absurd (cc h)
weaker f g p q (pair l w rs) k v h = by (f l && g w) refl h (weaker f g p q rs k v)
  where
    by : (t : Bool) → (f l && g w) ≡ t → (t || has_pair f g rs) ≡ true → (has_pair f g rs ≡ true → has_pair p q rs ≡ true) → ((p l && q w) || has_pair p q rs) ≡ true
    by true e h rest =
        let both = and_parts (f l) (g w) e in
        or_first (p l && q w) (has_pair p q rs) (and_both (p l) (q w) (k l both.0) (v w both.1))
    by false e h rest = or_second (p l && q w) (has_pair p q rs) (rest h)

-- a pair is found where what it is equal to is
found_through : (k v : Contents) (qs rs : Pairs) → Chains k → Chains v → has_pair (equals k) (equals v) qs ≡ true → are_pairs_in qs rs ≡ true → has_pair (equals k) (equals v) rs ≡ true
found_through k v no_pairs rs s t h g = absurd (cc h)
found_through k v (pair l w qs) rs s t h g = by (equals k l && equals v w) refl h (found_through k v qs rs s t)
  where
    within : (has_pair (equals l) (equals w) rs ≡ true) × (are_pairs_in qs rs ≡ true)
    within = and_parts (has_pair (equals l) (equals w) rs) (are_pairs_in qs rs) g

    by : (b : Bool) → (equals k l && equals v w) ≡ b → (b || has_pair (equals k) (equals v) qs) ≡ true → (has_pair (equals k) (equals v) qs ≡ true → are_pairs_in qs rs ≡ true → has_pair (equals k) (equals v) rs ≡ true) → has_pair (equals k) (equals v) rs ≡ true
    by true e h rest =
        let both = and_parts (equals k l) (equals v w) e in
        weaker (equals l) (equals w) (equals k) (equals v) rs (λ c x. s l c both.0 x) (λ c x. t w c both.1 x) within.0
    by false e h rest = rest h within.1

chain_maps : (ps qs rs : Pairs) → (are_pairs_in ps qs ≡ true → are_pairs_in qs rs ≡ true → are_pairs_in ps rs ≡ true) → same_pairs ps qs ≡ true → same_pairs qs rs ≡ true → same_pairs ps rs ≡ true
chain_maps ps qs rs t h g =
    let first = and_parts (pair_count ps == pair_count qs) (are_pairs_in ps qs) h in
    let second = and_parts (pair_count qs == pair_count rs) (are_pairs_in qs rs) g in
    and_both (pair_count ps == pair_count rs) (are_pairs_in ps rs)
    (count_same (pair_count ps) (pair_count rs) (same_count (pair_count ps) (pair_count qs) first.0 ∙ same_count (pair_count qs) (pair_count rs) second.0))
    (t first.1 second.1)

mutual
  pub equals-chain : (a b c : Contents) → equals a b ≡ true → equals b c ≡ true → equals a c ≡ true
  equals-chain undefined b c h g = undefined_on b c h g
  equals-chain silent_undefined b c h g = undefined_on b c h g
  equals-chain none b c h g = subst (λ (d : Contents). equals d c ≡ true) (is_none b h) g
  equals-chain (truth x) b c h g =
      let i = is_truth x b h in
      subst (λ (d : Contents). equals d c ≡ true) (i.1 ∙ ap truth (sym (same_truth x i.0 i.2))) g
  equals-chain (integer x) b c h g =
      let i = is_integer x b h in
      subst (λ (d : Contents). equals d c ≡ true) (i.1 ∙ ap integer (sym (same_integer x i.0 i.2))) g
  equals-chain (text x) b c h g =
      let i = is_text x b h in
      subst (λ (d : Contents). equals d c ≡ true) (i.1 ∙ ap text (sym (same_text x i.0 i.2))) g
  equals-chain (list x) b c h g =
      let i = is_list x b h in
      let j = is_list i.0 c (subst (λ (d : Contents). equals d c ≡ true) i.1 g) in
      subst (λ (d : Contents). equals (list x) d ≡ true) (sym j.1) (items_equal-chain x i.0 j.0 i.2 j.2)
  equals-chain (tuple x) b c h g =
      let i = is_tuple x b h in
      let j = is_tuple i.0 c (subst (λ (d : Contents). equals d c ≡ true) i.1 g) in
      subst (λ (d : Contents). equals (tuple x) d ≡ true) (sym j.1) (items_equal-chain x i.0 j.0 i.2 j.2)
  equals-chain (mapping x) b c h g =
      let i = is_mapping x b h in
      let j = is_mapping i.0 c (subst (λ (d : Contents). equals d c ≡ true) i.1 g) in
      subst (λ (d : Contents). equals (mapping x) d ≡ true) (sym j.1) (chain_maps x i.0 j.0 (pairs_in-chain x i.0 j.0) i.2 j.2)
  equals-chain (keywords x) b c h g =
      let i = is_keywords x b h in
      let j = is_keywords i.0 c (subst (λ (d : Contents). equals d c ≡ true) i.1 g) in
      subst (λ (d : Contents). equals (keywords x) d ≡ true) (sym j.1) (chain_maps x i.0 j.0 (pairs_in-chain x i.0 j.0) i.2 j.2)

  items_equal-chain : (xs ys zs : Items) → items_equal xs ys ≡ true → items_equal ys zs ≡ true → items_equal xs zs ≡ true
  items_equal-chain no_items no_items zs h g = g
  items_equal-chain no_items (item y ys) zs h g = absurd (cc h)
  items_equal-chain (item x xs) no_items zs h g = absurd (cc h)
  items_equal-chain (item x xs) (item y ys) no_items h g = absurd (cc g)
  items_equal-chain (item x xs) (item y ys) (item z zs) h g =
      let first = and_parts (equals x y) (items_equal xs ys) h in
      let second = and_parts (equals y z) (items_equal ys zs) g in
      and_both (equals x z) (items_equal xs zs) (equals-chain x y z first.0 second.0) (items_equal-chain xs ys zs first.1 second.1)

  pairs_in-chain : (ps qs rs : Pairs) → are_pairs_in ps qs ≡ true → are_pairs_in qs rs ≡ true → are_pairs_in ps rs ≡ true
  pairs_in-chain no_pairs qs rs h g = refl
  pairs_in-chain (pair k v ps) qs rs h g =
      let parts = and_parts (has_pair (equals k) (equals v) qs) (are_pairs_in ps qs) h in
      and_both (has_pair (equals k) (equals v) rs) (are_pairs_in ps rs)
      (found_through k v qs rs (λ b c x y. equals-chain k b c x y) (λ b c x y. equals-chain v b c x y) parts.0 g)
      (pairs_in-chain ps qs rs parts.1 g)

-- more pairs to be found in
pub pairs_in-more : (k v : Contents) (ps qs : Pairs) → are_pairs_in qs ps ≡ true → are_pairs_in qs (pair k v ps) ≡ true
pairs_in-more k v ps no_pairs h = refl
pairs_in-more k v ps (pair l w qs) h =
    let parts = and_parts (has_pair (equals l) (equals w) ps) (are_pairs_in qs ps) h in
    and_both (has_pair (equals l) (equals w) (pair k v ps)) (are_pairs_in qs (pair k v ps))
    (or_second (equals l k && equals w v) (has_pair (equals l) (equals w) ps) parts.0)
    (pairs_in-more k v ps qs parts.1)

mutual
  pub equals-itself : (a : Contents) → equals a a ≡ true
  equals-itself undefined = refl
  equals-itself silent_undefined = refl
  equals-itself none = refl
  equals-itself (truth x) = (booleans_Decides x x).1 refl
  equals-itself (integer x) = (Decides-int_eq x x).1 refl
  equals-itself (text x) = (slice_eq-Decides Decides-eqb x x (pointwise nat_eq x x) refl).1 refl
  equals-itself (list x) = items_equal-itself x
  equals-itself (tuple x) = items_equal-itself x
  equals-itself (mapping x) = and_both (pair_count x == pair_count x) (are_pairs_in x x) (count_same (pair_count x) (pair_count x) refl) (pairs_in-itself x)
  equals-itself (keywords x) = and_both (pair_count x == pair_count x) (are_pairs_in x x) (count_same (pair_count x) (pair_count x) refl) (pairs_in-itself x)

  items_equal-itself : (xs : Items) → items_equal xs xs ≡ true
  items_equal-itself no_items = refl
  items_equal-itself (item x xs) = and_both (equals x x) (items_equal xs xs) (equals-itself x) (items_equal-itself xs)

  pairs_in-itself : (ps : Pairs) → are_pairs_in ps ps ≡ true
  pairs_in-itself no_pairs = refl
  pairs_in-itself (pair k v ps) =
      and_both (has_pair (equals k) (equals v) (pair k v ps)) (are_pairs_in ps (pair k v ps))
      (or_first (equals k k && equals v v) (has_pair (equals k) (equals v) ps) (and_both (equals k k) (equals v v) (equals-itself k) (equals-itself v)))
      (pairs_in-more k v ps ps (pairs_in-itself ps))

-- `==` on values
abbrev pub equal_values : Value → Value → Bool
equal_values a b = equals_both_ways (contents_of a) (contents_of b)

and_swap : (a b : Bool) → (a && b) ≡ (b && a)
and_swap true true = refl
and_swap true false = refl
and_swap false true = refl
and_swap false false = refl

chain_both : (a b c : Contents) → equals_both_ways a b ≡ true → equals_both_ways b c ≡ true → equals_both_ways a c ≡ true
chain_both a b c h g =
    let first = and_parts (equals a b) (equals b a) h in
    let second = and_parts (equals b c) (equals c b) g in
    and_both (equals a c) (equals c a) (equals-chain a b c first.0 second.0) (equals-chain c b a second.1 first.1)

pub equal_values-partial : IsPartialEquivalence equal_values
equal_values-partial = record {
  symm = λ a b. and_swap (equals (contents_of a) (contents_of b)) (equals (contents_of b) (contents_of a));
  trans = λ a b c h g. chain_both (contents_of a) (contents_of b) (contents_of c) h g;
}

pub equal_values-equivalence : IsEquivalence equal_values
equal_values-equivalence = equiv equal_values-partial (λ a. and_both (equals (contents_of a) (contents_of a)) (equals (contents_of a) (contents_of a)) (equals-itself (contents_of a)) (equals-itself (contents_of a)))
