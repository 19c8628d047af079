-- Names in order of their bytes, each once, depend only on which names they are.
use Rattle.std.proofs.Common.{◌≡◌, refl, sym, ap, ap₂, ◌∙◌, true, false}
use Rattle.std.specs.Prelude.{Bool, ◌||◌, List, [], ◌∷◌, map}
use Rattle.std.specs.BTreeSet.{insert_key}
use Rattle.std.specs.Cmp.Lexicographic.{slice_cmp}
use Rattle.std.specs.List.{AllByRecursion}
use Rattle.std.specs.List.Sorted.{IsStrictlySortedBy}
use Rattle.std.specs.Ordering.{nat_cmp, is_eq, match_ordering, ordering_reverse}
use Rattle.std.specs.Str.{bytes_eq}
use Rattle.std.specs.declared.cmp.Ordering.{Ordering}
use Rattle.std.specs.declared.cmp.Ordering.TheVariants.{Less, Equal, Greater}
use Rattle.std.proofs.lemmas.Cmp.{nat_list_cmp_total}
use Rattle.std.proofs.lemmas.Map.Text.{is_eq-slice_cmp}
use Rattle.std.proofs.lemmas.Slice.Eq.{bytes_eq-Decides}
use Rattle.minijinja_syntax.specs.Texts.{Text}
use Rattle.minijinja_meta.specs.Mentions.{in_order, is_among}
use Rattle.minijinja_meta.proofs.Scoping.{same-text, true-false}

abbrev order : Text → Text → Ordering
order x y = slice_cmp nat_cmp x y

-- the first is below each of these
abbrev IsBelow : Text → List Text → Type 0
IsBelow x ys = AllByRecursion (λ y. order x y ≡ Less) ys

less-apart : (x y : Text) → order x y ≡ Less → bytes_eq x y ≡ false
less-apart x y h = sym (is_eq-slice_cmp x y) ∙ ap is_eq h

below-apart : (x : Text) (ys : List Text) → IsBelow x ys → is_among x ys ≡ false
below-apart x [] h = refl
below-apart x (y ∷ ys) h = ap (λ b. b || is_among x ys) (less-apart x y h.0) ∙ below-apart x ys h.1

below-more : (x y : Text) (ys : List Text) → order x y ≡ Less → IsBelow y ys → IsBelow x ys
below-more x y [] h k = tt
below-more x y (z ∷ ys) h k = (nat_list_cmp_total.trans x y z h k.0, below-more x y ys h k.1)

-- ---- names that are put in order

below-insert : (x k : Text) (ys : List Text) → order x k ≡ Less → IsBelow x ys → IsBelow x (insert_key order ys k)
below-insert x k [] h b = (h, tt)
below-insert x k (y ∷ ys) h b = go (order k y) (below-insert x k ys h b.1)
  where
    go : (o : Ordering) → IsBelow x (insert_key order ys k) → IsBelow x (match_ordering o (k ∷ y ∷ ys) (y ∷ ys) (y ∷ insert_key order ys k))
    go Less rest = (h, b)
    go Equal rest = b
    go Greater rest = (b.0, rest)

greater-less : (k y : Text) → order k y ≡ Greater → order y k ≡ Less
greater-less k y h = nat_list_cmp_total.antisymm y k ∙ ap ordering_reverse h

sorted-insert : (k : Text) (ys : List Text) → IsStrictlySortedBy order ys → IsStrictlySortedBy order (insert_key order ys k)
unfolding IsStrictlySortedBy
sorted-insert k [] h = (tt, tt)
sorted-insert k (y ∷ ys) h = go (order k y) refl (sorted-insert k ys h.1)
  where
    go : (o : Ordering) → order k y ≡ o → IsStrictlySortedBy order (insert_key order ys k) → IsStrictlySortedBy order (match_ordering o (k ∷ y ∷ ys) (y ∷ ys) (y ∷ insert_key order ys k))
    go Less e rest = ((e, below-more k y ys e h.0), h)
    go Equal e rest = h
    go Greater e rest = (below-insert y k ys (greater-less k y e) h.0, rest)

in_order-sorted : (xs : List Text) → IsStrictlySortedBy order (in_order xs)
unfolding IsStrictlySortedBy
in_order-sorted [] = tt
in_order-sorted (x ∷ xs) = sorted-insert x (in_order xs) (in_order-sorted xs)

or-swap : (a b c : Bool) → (a || (b || c)) ≡ (b || (a || c))
or-swap true true c = refl
or-swap true false c = refl
or-swap false true c = refl
or-swap false false c = refl

or-again : (a b : Bool) → (a || b) ≡ (a || (a || b))
or-again true b = refl
or-again false b = refl

-- what stands in a list once it is put in order
module _ {A : Type 0} (cmp : A → A → Ordering) (same : (x y : A) → cmp x y ≡ Equal → x ≡ y) (f : A → Text) where
  pub is_among-insert : (z : Text) (k : A) (ys : List A) → is_among z (map f (insert_key cmp ys k)) ≡ (bytes_eq z (f k) || is_among z (map f ys))
  is_among-insert z k [] = refl
  is_among-insert z k (y ∷ ys) = go (cmp k y) refl (is_among-insert z k ys)
    where
      go : (o : Ordering) → cmp k y ≡ o → is_among z (map f (insert_key cmp ys k)) ≡ (bytes_eq z (f k) || is_among z (map f ys)) →
          is_among z (map f (match_ordering o (k ∷ y ∷ ys) (y ∷ ys) (y ∷ insert_key cmp ys k))) ≡ (bytes_eq z (f k) || (bytes_eq z (f y) || is_among z (map f ys)))
      go Less e rest = refl
      go Equal e rest = or-again (bytes_eq z (f y)) (is_among z (map f ys)) ∙ ap (λ t. bytes_eq z (f t) || (bytes_eq z (f y) || is_among z (map f ys))) (sym (same k y e))
      go Greater e rest = ap (λ b. bytes_eq z (f y) || b) rest ∙ or-swap (bytes_eq z (f y)) (bytes_eq z (f k)) (is_among z (map f ys))

pub equal-is : (x y : Text) → order x y ≡ Equal → x ≡ y
equal-is x y h = (bytes_eq-Decides x y).0 (sym (is_eq-slice_cmp x y) ∙ ap is_eq h)

map-same : (xs : List Text) → map (λ x. x) xs ≡ xs
map-same [] = refl
map-same (x ∷ xs) = ap (λ l. x ∷ l) (map-same xs)

is_among-in_order : (z : Text) (xs : List Text) → is_among z (in_order xs) ≡ is_among z xs
is_among-in_order z [] = refl
is_among-in_order z (x ∷ xs) =
    ap (is_among z) (sym (map-same (insert_key order (in_order xs) x))) ∙ is_among-insert order equal-is (λ x. x) z x (in_order xs)
    ∙ ap (λ b. bytes_eq z x || b) (ap (is_among z) (map-same (in_order xs)) ∙ is_among-in_order z xs)

-- ---- the same names in order are the same list

first-there : (x : Text) (xs : List Text) → is_among x (x ∷ xs) ≡ true
first-there x xs = ap (λ b. b || is_among x xs) (same-text x)

not-there : (x y : Text) (ys : List Text) → order x y ≡ Less → IsBelow y ys → is_among x (y ∷ ys) ≡ false
not-there x y ys h k = ap (λ b. b || is_among x ys) (less-apart x y h) ∙ below-apart x ys (below-more x y ys h k)

never-both : {A : Type 0} (b : Bool) → b ≡ true → b ≡ false → A
never-both b h k = absurd (true-false (sym h ∙ k))

one-order : (xs ys : List Text) → IsStrictlySortedBy order xs → IsStrictlySortedBy order ys → ((z : Text) → is_among z xs ≡ is_among z ys) → xs ≡ ys
unfolding IsStrictlySortedBy
one-order [] [] h k same = refl
one-order [] (y ∷ ys) h k same = never-both (is_among y (y ∷ ys)) (first-there y ys) (sym (same y))
one-order (x ∷ xs) [] h k same = never-both (is_among x (x ∷ xs)) (first-there x xs) (same x)
one-order (x ∷ xs) (y ∷ ys) h k same = go (order x y) refl (one-order xs ys h.1 k.1)
  where
    tails : x ≡ y → (z : Text) → is_among z xs ≡ is_among z ys
    tails e z = tail (bytes_eq z x) refl
      where
        tail : (b : Bool) → bytes_eq z x ≡ b → is_among z xs ≡ is_among z ys
        tail true f =
            let is : z ≡ x = (bytes_eq-Decides z x).0 f in
            ap (λ t. is_among t xs) is ∙ below-apart x xs h.0 ∙ sym (below-apart y ys k.0) ∙ ap (λ t. is_among t ys) (sym (is ∙ e))
        tail false f =
            ap (λ b. b || is_among z xs) (sym f) ∙ same z ∙ ap (λ t. bytes_eq z t || is_among z ys) (sym e) ∙ ap (λ b. b || is_among z ys) f

    go : (o : Ordering) → order x y ≡ o → (((z : Text) → is_among z xs ≡ is_among z ys) → xs ≡ ys) → (x ∷ xs) ≡ (y ∷ ys)
    go Equal e rest = let first : x ≡ y = equal-is x y e in ap₂ ◌∷◌ first (rest (tails first))
    go Less e rest = never-both (is_among x (x ∷ xs)) (first-there x xs) (same x ∙ not-there x y ys e k.0)
    go Greater e rest = never-both (is_among y (y ∷ ys)) (first-there y ys) (sym (same y) ∙ not-there y x xs (greater-less x y e) h.0)

pub in_order-same : (xs ys : List Text) → ((z : Text) → is_among z xs ≡ is_among z ys) → in_order xs ≡ in_order ys
in_order-same xs ys same = one-order (in_order xs) (in_order ys) (in_order-sorted xs) (in_order-sorted ys) (λ z. is_among-in_order z xs ∙ same z ∙ sym (is_among-in_order z ys))

-- of texts that are put in order first
pub in_order-again : (f : Text → Text) (xs : List Text) → in_order (map f (in_order xs)) ≡ in_order (map f xs)
in_order-again f xs = in_order-same (map f (in_order xs)) (map f xs) (λ z. go z xs)
  where
    go : (z : Text) (xs : List Text) → is_among z (map f (in_order xs)) ≡ is_among z (map f xs)
    go z [] = refl
    go z (x ∷ xs) = is_among-insert order equal-is f z x (in_order xs) ∙ ap (λ b. bytes_eq z (f x) || b) (go z xs)
