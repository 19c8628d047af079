-- No two names of a list are the same where each of them stands in it once.
use Rattle.std.proofs.Common.{◌≡◌, ℕ, ◌+◌, List, [], ◌∷◌, ◌++◌, true, false, refl, sym, ap, ◌∙◌, subst, arith}
use Rattle.std.specs.Prelude.{Bool, not, ◌&&◌, ◌||◌, ◌==◌, IsTrue, count_by, cond}
use Rattle.std.specs.List.{list_any, AllByRecursion}
use Rattle.std.specs.Str.{bytes_eq}
use Rattle.std.proofs.lemmas.Bool.Decides.{nat_tests}
use Rattle.std.proofs.lemmas.List.{append_assoc}
use Rattle.std.proofs.lemmas.List.Sums.{sum_by-cons}
use Rattle.std.proofs.lemmas.Slice.Eq.{bytes_eq-Decides}
use Rattle.minijinja_syntax.specs.Texts.{Text}
use Rattle.minijinja_well_formed.specs.private.StatementTests.{are_distinct, are_single}

both : (a b : Bool) → IsTrue a → IsTrue b → IsTrue (a && b)
both true b h k = k
both false b h k = h

left : (a b : Bool) → IsTrue (a && b) → IsTrue a
left true b h = refl
left false b h = h

right : (a b : Bool) → IsTrue (a && b) → IsTrue b
right true b h = h
right false b h = cc

-- how often a name stands among these
abbrev times : Text → List Text → ℕ
times x xs = count_by (bytes_eq x) xs

times-more : (x y : Text) (ys : List Text) → times x (y ∷ ys) ≡ cond (bytes_eq x y) 1 0 + times x ys
times-more x y ys = sum_by-cons (λ z. cond (bytes_eq x z) 1 0) y ys

times-append : (x : Text) (xs ys : List Text) → times x (xs ++ ys) ≡ times x xs + times x ys
times-append x [] ys = omega arith
times-append x (y ∷ xs) ys = omega (arith, times-more x y (xs ++ ys), times-more x y xs, times-append x xs ys)

same-text : (x : Text) → bytes_eq x x ≡ true
same-text x = (bytes_eq-Decides x x).1 refl

times-itself : (x : Text) (ys : List Text) → times x (x ∷ ys) ≡ 1 + times x ys
times-itself x ys = times-more x x ys ∙ ap (λ b. cond b 1 0 + times x ys) (same-text x)

-- a name that is not there stands there no time
none-counted : (x : Text) (ys : List Text) → IsTrue (not (list_any (bytes_eq x) ys)) → times x ys ≡ 0
none-counted x [] h = refl
none-counted x (y ∷ ys) h = times-more x y ys ∙ go (bytes_eq x y) h (none-counted x ys)
  where
    go : (b : Bool) → IsTrue (not (b || list_any (bytes_eq x) ys)) → (IsTrue (not (list_any (bytes_eq x) ys)) → times x ys ≡ 0) → cond b 1 0 + times x ys ≡ 0
    go true k further = cc
    go false k further = omega (arith, further k)

counted-none : (x : Text) (ys : List Text) → times x ys ≡ 0 → IsTrue (not (list_any (bytes_eq x) ys))
counted-none x [] h = refl
counted-none x (y ∷ ys) h = go (bytes_eq x y) (sym (times-more x y ys) ∙ h) (counted-none x ys)
  where
    go : (b : Bool) → cond b 1 0 + times x ys ≡ 0 → (times x ys ≡ 0 → IsTrue (not (list_any (bytes_eq x) ys))) → IsTrue (not (b || list_any (bytes_eq x) ys))
    go true k further = absurd (omega (arith, k))
    go false k further = further (omega (arith, k))

is-one : (n : ℕ) → IsTrue (n == 1) → n ≡ 1
is-one n h = grind (arith, nat_tests)

one-is : (n : ℕ) → n ≡ 1 → IsTrue (n == 1)
one-is n h = grind (arith, nat_tests)

apart : (before xs : List Text) → IsTrue (are_single xs (before ++ xs)) → IsTrue (are_distinct xs)
apart before [] h = refl
apart before (x ∷ xs) h =
    let once = is-one (times x (before ++ x ∷ xs)) (left (times x (before ++ x ∷ xs) == 1) (are_single xs (before ++ x ∷ xs)) h) in
    let none : times x xs ≡ 0 = omega (arith, once, times-append x before (x ∷ xs), times-itself x xs) in
    both (not (list_any (bytes_eq x) xs)) (are_distinct xs) (counted-none x xs none)
    (apart (before ++ x ∷ []) xs (subst (λ ys. IsTrue (are_single xs ys)) (sym (append_assoc before (x ∷ []) xs)) (right (times x (before ++ x ∷ xs) == 1) (are_single xs (before ++ x ∷ xs)) h)))

-- these are not among those
abbrev AreNew : List Text → List Text → Type 0
AreNew before xs = AllByRecursion (λ y. times y before ≡ 0) xs

-- nor where one more stands there that is not among these
new-after : (before : List Text) (x : Text) (xs : List Text) → AreNew before xs → IsTrue (not (list_any (bytes_eq x) xs)) → AreNew (before ++ x ∷ []) xs
new-after before x [] h k = tt
new-after before x (y ∷ ys) h k = go (bytes_eq x y) refl k (new-after before x ys h.1)
  where
    other : (b : Bool) → bytes_eq y x ≡ b → bytes_eq x y ≡ false → bytes_eq y x ≡ false
    other true e i = let same : y ≡ x = (bytes_eq-Decides y x).0 e in let there : bytes_eq x y ≡ true = subst (λ z. bytes_eq x z ≡ true) (sym same) (same-text x) in let lie : false ≡ true = sym i ∙ there in cc
    other false e i = e

    go : (b : Bool) → bytes_eq x y ≡ b → IsTrue (not (b || list_any (bytes_eq x) ys)) → (IsTrue (not (list_any (bytes_eq x) ys)) → AreNew (before ++ x ∷ []) ys) → AreNew (before ++ x ∷ []) (y ∷ ys)
    go true e i further = cc
    go false e i further =
        let last : times y (x ∷ []) ≡ 0 = times-more y x [] ∙ ap (λ b. cond b 1 0 + 0) (other (bytes_eq y x) refl e) in
        (omega (arith, times-append y before (x ∷ []), h.0, last), further i)

once : (before xs : List Text) → AreNew before xs → IsTrue (are_distinct xs) → IsTrue (are_single xs (before ++ xs))
once before [] h k = refl
once before (x ∷ xs) h k =
    let none = left (not (list_any (bytes_eq x) xs)) (are_distinct xs) k in
    let others = right (not (list_any (bytes_eq x) xs)) (are_distinct xs) k in
    let one : times x (before ++ x ∷ xs) ≡ 1 = omega (arith, times-append x before (x ∷ xs), times-itself x xs, none-counted x xs none, h.0) in
    both (times x (before ++ x ∷ xs) == 1) (are_single xs (before ++ x ∷ xs)) (one-is (times x (before ++ x ∷ xs)) one)
    (subst (λ ys. IsTrue (are_single xs ys)) (append_assoc before (x ∷ []) xs) (once (before ++ x ∷ []) xs (new-after before x xs h.1 none) others))

new-at-first : (xs : List Text) → AreNew [] xs
new-at-first [] = tt
new-at-first (x ∷ xs) = (refl, new-at-first xs)

same-truth : (a b : Bool) → (IsTrue a → IsTrue b) → (IsTrue b → IsTrue a) → a ≡ b
same-truth true b h k = sym (h refl)
same-truth false true h k = k refl
same-truth false false h k = refl

pub singles-differ : (xs : List Text) → are_single xs xs ≡ are_distinct xs
singles-differ xs = same-truth (are_single xs xs) (are_distinct xs) (apart [] xs) (once [] xs (new-at-first xs))
