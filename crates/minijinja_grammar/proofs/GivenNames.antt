-- Names that are given in turn, each for the first time, are those of which no two are one.
use Rattle.std.proofs.Common.{◌≡◌, List, [], ◌∷◌, ◌++◌, Bool, true, false, refl, sym, ap, ◌∙◌, subst}
use Rattle.std.specs.declared.cmp.Ordering.{Ordering}
use Rattle.std.specs.declared.cmp.Ordering.TheVariants.{Less, Equal, Greater}
use Rattle.std.specs.Ordering.{match_ordering, is_eq, nat_cmp}
use Rattle.std.proofs.lemmas.Slice.Eq.{bytes_eq-Decides}
use Rattle.std.specs.Prelude.{◌||◌, ◌&&◌, not}
use Rattle.std.specs.Str.{bytes_eq}
use Rattle.std.specs.List.{list_any}
use Rattle.std.specs.BTreeSet.{insert_key}
use Rattle.std.specs.Cmp.Lexicographic.{slice_cmp, texts_ties}
use Rattle.minijinja_syntax.specs.Texts.{Text}
use Rattle.minijinja_tree.specs.Tree.{Block, names_of_blocks}
use Rattle.minijinja_grammar.specs.Derived.{are_distinct, are_new}

-- the names with one more
abbrev pub with_one : List Text → Text → List Text
with_one names x = insert_key (slice_cmp nat_cmp) names x

-- these were given in turn, each for the first time
abbrev pub Given : List Text → List Text → List Text → Type 0
Given old [] new = old ≡ new
Given old (x ∷ xs) new = (list_any (bytes_eq x) old ≡ false) × Given (with_one old x) xs new

pub given_append : (a xs b ys c : List Text) → Given a xs b → Given b ys c → Given a (xs ++ ys) c
given_append a [] b ys c h k = subst (λ z. Given z ys c) (sym h) k
given_append a (x ∷ xs) b ys c h k = (h.0, given_append (with_one a x) xs b ys c h.1 k)

pub given_split : (a xs ys c : List Text) → Given a (xs ++ ys) c → (b : List Text) × Given a xs b × Given b ys c
given_split a [] ys c h = (a, refl, h)
given_split a (x ∷ xs) ys c h = let u = given_split (with_one a x) xs ys c h.1 in (u.0, (h.0, u.1), u.2)

pub names_append : {C L : Type 0} (bs cs : List (Block C L)) → names_of_blocks (bs ++ cs) ≡ names_of_blocks bs ++ names_of_blocks cs
names_append [] cs = refl
names_append (b ∷ bs) cs = ap (λ xs. b.name ∷ xs) (names_append bs cs)

-- those of two parts of a tree are given one after the other
pub two_given : {C L : Type 0} (a : List Text) (bs cs : List (Block C L)) (c : List Text) → Given a (names_of_blocks (bs ++ cs)) c → (b : List Text) × Given a (names_of_blocks bs) b ×
    Given b (names_of_blocks cs) c
two_given a bs cs c h = given_split a (names_of_blocks bs) (names_of_blocks cs) c (subst (λ xs. Given a xs c) (names_append bs cs) h)

-- ---- names that are distinct can be given

or_false : (p q : Bool) → p ≡ false → q ≡ false → (p || q) ≡ false
or_false false false h k = refl
or_false true q h k = cc
or_false false true h k = cc

left_false : (p q : Bool) → (p || q) ≡ false → p ≡ false
left_false false q h = refl
left_false true q h = cc

right_false : (p q : Bool) → (p || q) ≡ false → q ≡ false
right_false false q h = h
right_false true q h = cc

and_left : (p q : Bool) → (p && q) ≡ true → p ≡ true
and_left true q h = refl
and_left false q h = cc

and_right : (p q : Bool) → (p && q) ≡ true → q ≡ true
and_right true q h = h
and_right false q h = cc

not_true : (p : Bool) → not p ≡ true → p ≡ false
not_true false h = refl
not_true true h = cc

-- a name that is no name so far, and not the one more, is none then
not_added : (names : List Text) (x q : Text) → bytes_eq q x ≡ false → list_any (bytes_eq q) names ≡ false → list_any (bytes_eq q) (with_one names x) ≡ false
not_added [] x q h k = or_false (bytes_eq q x) false h refl
not_added (y ∷ ys) x q h k = go (slice_cmp nat_cmp x y) (not_added ys x q h (right_false (bytes_eq q y) (list_any (bytes_eq q) ys) k))
  where
    go : (o : Ordering) → list_any (bytes_eq q) (with_one ys x) ≡ false → list_any (bytes_eq q) (match_ordering o (x ∷ y ∷ ys) (y ∷ ys) (y ∷ with_one ys x)) ≡ false
    go Less i = or_false (bytes_eq q x) (bytes_eq q y || list_any (bytes_eq q) ys) h k
    go Equal i = k
    go Greater i = or_false (bytes_eq q y) (list_any (bytes_eq q) (with_one ys x)) (left_false (bytes_eq q y) (list_any (bytes_eq q) ys) k) i

eq_turned : (x y : Text) → bytes_eq x y ≡ false → bytes_eq y x ≡ false
eq_turned x y h = go (bytes_eq y x) refl
  where
    go : (b : Bool) → bytes_eq y x ≡ b → b ≡ false
    go false e = refl
    go true e = let same : x ≡ y = sym ((bytes_eq-Decides y x).0 e) in let lie : false ≡ true = sym h ∙ (bytes_eq-Decides x y).1 same in cc

-- none of these was given
abbrev pub AreNew : List Text → List Text → Type 0
AreNew old [] = Unit {0}
AreNew old (y ∷ ys) = (list_any (bytes_eq y) old ≡ false) × AreNew old ys

still_new : (old : List Text) (x : Text) (ys : List Text) → list_any (bytes_eq x) ys ≡ false → AreNew old ys → AreNew (with_one old x) ys
still_new old x [] h k = tt
still_new old x (y ∷ ys) h k =
    (not_added old x y (eq_turned x y (left_false (bytes_eq x y) (list_any (bytes_eq x) ys) h)) k.0, still_new old x ys (right_false (bytes_eq x y) (list_any (bytes_eq x) ys) h) k.1)

-- distinct names can be given that were not given before
can_be_given : (old xs : List Text) → are_distinct xs ≡ true → AreNew old xs → (new : List Text) × Given old xs new
can_be_given old [] h k = (old, refl)
can_be_given old (x ∷ xs) h k =
    let n : list_any (bytes_eq x) xs ≡ false = not_true (list_any (bytes_eq x) xs) (and_left (not (list_any (bytes_eq x) xs)) (are_distinct xs) h) in
    let u = can_be_given (with_one old x) xs (and_right (not (list_any (bytes_eq x) xs)) (are_distinct xs) h) (still_new old x xs n k.1) in
    (u.0, (k.0, u.1))

all_new : (old xs : List Text) → are_new old xs ≡ true → AreNew old xs
all_new old [] h = tt
all_new old (x ∷ xs) h = (
  not_true (list_any (bytes_eq x) old) (and_left (not (list_any (bytes_eq x) old)) (are_new old xs) h),
  all_new old xs (and_right (not (list_any (bytes_eq x) old)) (are_new old xs) h),
)

pub distinct_given : (old xs : List Text) → are_distinct xs ≡ true → are_new old xs ≡ true → (new : List Text) × Given old xs new
distinct_given old xs h k = can_be_given old xs h (all_new old xs k)

-- ---- names that were given are distinct

same_text : (x : Text) → bytes_eq x x ≡ true
same_text x = (bytes_eq-Decides x x).1 refl

or_true : (b : Bool) → (b || true) ≡ true
or_true true = refl
or_true false = refl

-- a name that was given is one of the names
is_there : (names : List Text) (x : Text) → list_any (bytes_eq x) (with_one names x) ≡ true
is_there [] x = rw (same_text x) refl
is_there (y ∷ ys) x = go (slice_cmp nat_cmp x y) refl (is_there ys x)
  where
    go : (o : Ordering) → slice_cmp nat_cmp x y ≡ o → list_any (bytes_eq x) (with_one ys x) ≡ true → list_any (bytes_eq x) (match_ordering o (x ∷ y ∷ ys) (y ∷ ys) (y ∷ with_one ys x)) ≡ true
    go Less e h = rw (same_text x) refl
    go Equal e h = let same : bytes_eq x y ≡ true = texts_ties x y ∙ ap is_eq e in rw same refl
    go Greater e h = rw h (or_true (bytes_eq x y))

-- and stays one
is_kept : (names : List Text) (x q : Text) → list_any (bytes_eq q) names ≡ true → list_any (bytes_eq q) (with_one names x) ≡ true
is_kept [] x q h = cc
is_kept (y ∷ ys) x q h = go (slice_cmp nat_cmp x y) (is_kept ys x q)
  where
    further : (b : Bool) → (b || list_any (bytes_eq q) ys) ≡ true → (list_any (bytes_eq q) ys ≡ true → list_any (bytes_eq q) (with_one ys x) ≡ true) →
        (b || list_any (bytes_eq q) (with_one ys x)) ≡ true
    further true i k = refl
    further false i k = k i

    go : (o : Ordering) → (list_any (bytes_eq q) ys ≡ true → list_any (bytes_eq q) (with_one ys x) ≡ true) → list_any (bytes_eq q) (match_ordering o (x ∷ y ∷ ys) (y ∷ ys) (y ∷ with_one ys x)) ≡ true
    go Less k = rw h (or_true (bytes_eq q x))
    go Equal k = h
    go Greater k = further (bytes_eq q y) h k

-- what was given before is not given again
none_again : (old xs new : List Text) (q : Text) → Given old xs new → list_any (bytes_eq q) old ≡ true → list_any (bytes_eq q) xs ≡ false
none_again old [] new q h k = refl
none_again old (x ∷ xs) new q h k = or_false (bytes_eq q x) (list_any (bytes_eq q) xs) (other (bytes_eq q x) refl) (none_again (with_one old x) xs new q h.1 (is_kept old x q k))
  where
    other : (b : Bool) → bytes_eq q x ≡ b → b ≡ false
    other false e = refl
    other true e =
        let same : q ≡ x = (bytes_eq-Decides q x).0 e in
        let lie : false ≡ true = sym h.0 ∙ subst (λ z. list_any (bytes_eq z) old ≡ true) same k in cc

pub given_distinct : (old xs new : List Text) → Given old xs new → are_distinct xs ≡ true
given_distinct old [] new h = refl
given_distinct old (x ∷ xs) new h =
    let n : list_any (bytes_eq x) xs ≡ false = none_again (with_one old x) xs new x h.1 (is_there old x) in
    rw (n, given_distinct (with_one old x) xs new h.1) refl

-- a name that is none of more names is none of these
fewer : (old : List Text) (x q : Text) → list_any (bytes_eq q) (with_one old x) ≡ false → list_any (bytes_eq q) old ≡ false
fewer old x q h = go (list_any (bytes_eq q) old) refl
  where
    go : (b : Bool) → list_any (bytes_eq q) old ≡ b → b ≡ false
    go false e = refl
    go true e = let lie : false ≡ true = sym h ∙ is_kept old x q e in cc

fewer_new : (old : List Text) (x : Text) (ys : List Text) → are_new (with_one old x) ys ≡ true → are_new old ys ≡ true
fewer_new old x [] h = refl
fewer_new old x (y ∷ ys) h =
    let n : list_any (bytes_eq y) old ≡ false =
    fewer old x y (not_true (list_any (bytes_eq y) (with_one old x)) (and_left (not (list_any (bytes_eq y) (with_one old x))) (are_new (with_one old x) ys) h)) in
    rw (n, fewer_new old x ys (and_right (not (list_any (bytes_eq y) (with_one old x))) (are_new (with_one old x) ys) h)) refl

-- and none of them was given before
pub given_new : (old xs new : List Text) → Given old xs new → are_new old xs ≡ true
given_new old [] new h = refl
given_new old (x ∷ xs) new h = rw (h.0, fewer_new old x xs (given_new (with_one old x) xs new h.1)) refl
