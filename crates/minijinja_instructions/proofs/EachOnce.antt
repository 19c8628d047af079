-- Names that are added one by one, each once.
use Rattle.std.proofs.Common.{◌≡◌, refl, sym, ap, ap₂, ◌∙◌, true, false, cond, Bool, not, ◌&&◌, ◌||◌, List, [], ◌∷◌, ◌++◌, filter, append_assoc, append-nil}
use Rattle.std.specs.Borrow.{Bor}
use Rattle.std.specs.BTreeSet.{BTreeSet, Updates}
use Rattle.std.specs.Cmp.Lexicographic.{slice_cmp}
use Rattle.std.specs.Ordering.{nat_cmp}
use Rattle.std.specs.Str.{bytes_eq}
use Rattle.std.proofs.lemmas.List.Folds.{list_any-append}
use Rattle.std.proofs.lemmas.Map.Text.{is_eq-slice_cmp}
use Rattle.std.proofs.lemmas.Slice.Eq.{bytes_eq-Decides}
use Rattle.minijinja_syntax.specs.Texts.{Text}
use Rattle.minijinja_semantics.specs.MacroBodies.{each_once}
use Rattle.minijinja_instructions.specs.private.NamesOnce.{is_among, is_in_set, with_names, IsSetOf}

bool-is : (b : Bool) → (b ≡ true → ⊥) → b ≡ false
bool-is true h = absurd (h refl)
bool-is false h = refl

same-text : (x : Text) → bytes_eq x x ≡ true
same-text x = (bytes_eq-Decides x x).1 refl

text-comm : (x y : Text) → bytes_eq x y ≡ bytes_eq y x
text-comm x y = go (bytes_eq x y) refl
  where
    go : (b : Bool) → bytes_eq x y ≡ b → b ≡ bytes_eq y x
    go true e = let same : x ≡ y = (bytes_eq-Decides x y).0 e in sym (ap (bytes_eq y) same ∙ same-text y)
    go false e = sym (bool-is (bytes_eq y x) (λ h. let same : y ≡ x = (bytes_eq-Decides y x).0 h in let both : bytes_eq x y ≡ true = ap (bytes_eq x) same ∙ same-text x in cc))

or-false : (a : Bool) → (a || false) ≡ a
or-false true = refl
or-false false = refl

or-comm : (a b : Bool) → (a || b) ≡ (b || a)
or-comm true true = refl
or-comm true false = refl
or-comm false b = sym (or-false b)

among-last : (y : Text) (xs : List Text) (x : Text) → is_among y (xs ++ x ∷ []) ≡ (is_among y xs || bytes_eq y x)
among-last y xs x = list_any-append (bytes_eq y) xs (x ∷ []) ∙ ap (λ b. is_among y xs || b) (or-false (bytes_eq y x))

-- ---- the set of the names

-- a name, as the set has it
abbrev lent : Text → Bor Text
lent x = record { ref_ptr = (0, 0); now = x }

cond-or : (b c : Bool) → cond b true c ≡ (c || b)
cond-or true true = refl
cond-or true false = refl
cond-or false true = refl
cond-or false false = refl

pub set-more : (xs : List Text) (s t : BTreeSet (Bor Text)) (x : Bor Text) → IsSetOf xs s → Updates (λ a b. slice_cmp nat_cmp a.now b.now) s t x true → IsSetOf (xs ++ x.now ∷ []) t
set-more xs s t x h u = record {
  same = λ y.
      u.0 (lent y)
      ∙ ap (λ b. cond b true (is_in_set y s)) (is_eq-slice_cmp x.now y ∙ text-comm x.now y)
      ∙ cond-or (bytes_eq y x.now) (is_in_set y s)
      ∙ ap (λ b. b || bytes_eq y x.now) (h.same y)
      ∙ sym (among-last y xs x.now);
}

-- ---- names one after another

filter-filter : (p q r : Text → Bool) → ((z : Text) → (q z && p z) ≡ r z) → (xs : List Text) → filter p (filter q xs) ≡ filter r xs
filter-filter p q r h [] = refl
filter-filter p q r h (x ∷ xs) = go (filter-filter p q r h xs) (q x) refl (p x) refl
  where
    go : filter p (filter q xs) ≡ filter r xs → (a : Bool) → q x ≡ a → (b : Bool) → p x ≡ b → filter p (cond a (x ∷ filter q xs) (filter q xs)) ≡ cond (r x) (x ∷ filter r xs) (filter r xs)
    go others_so true e true f =
        ap (λ c. cond c (x ∷ filter p (filter q xs)) (filter p (filter q xs))) f ∙ ap (λ l. x ∷ l) others_so
        ∙ ap (λ c. cond c (x ∷ filter r xs) (filter r xs)) (sym (ap₂ ◌&&◌ e f) ∙ h x)
    go others_so true e false f =
        ap (λ c. cond c (x ∷ filter p (filter q xs)) (filter p (filter q xs))) f ∙ others_so
        ∙ ap (λ c. cond c (x ∷ filter r xs) (filter r xs)) (sym (ap₂ ◌&&◌ e f) ∙ h x)
    go others_so false e b f = others_so ∙ ap (λ c. cond c (x ∷ filter r xs) (filter r xs)) (sym (ap (λ c. c && p x) e) ∙ h x)

-- those that are not among these
abbrev others : List Text → List Text → List Text
others xs ys = filter (λ y. not (is_among y xs)) ys

not-or : (a b : Bool) → (not b && not a) ≡ not (a || b)
not-or true true = refl
not-or true false = refl
not-or false true = refl
not-or false false = refl

-- one that is among them already is left out anyway
others-known : (xs : List Text) (y : Text) → is_among y xs ≡ true → (zs : List Text) → others xs (filter (λ z. not (bytes_eq y z)) zs) ≡ others xs zs
others-known xs y h zs = filter-filter (λ z. not (is_among z xs)) (λ z. not (bytes_eq y z)) (λ z. not (is_among z xs)) known zs
  where
    known : (z : Text) → (not (bytes_eq y z) && not (is_among z xs)) ≡ not (is_among z xs)
    known z = go (bytes_eq y z) refl
      where
        go : (b : Bool) → bytes_eq y z ≡ b → (not b && not (is_among z xs)) ≡ not (is_among z xs)
        go true e = let same : y ≡ z = (bytes_eq-Decides y z).0 e in sym (ap (λ w. not (is_among w xs)) (sym same) ∙ ap not h)
        go false e = refl

others-more : (xs : List Text) (y : Text) (zs : List Text) → others xs (filter (λ z. not (bytes_eq y z)) zs) ≡ others (xs ++ y ∷ []) zs
others-more xs y zs =
    filter-filter (λ z. not (is_among z xs)) (λ z. not (bytes_eq y z)) (λ z. not (is_among z (xs ++ y ∷ [])))
    (λ z. not-or (is_among z xs) (bytes_eq y z) ∙ ap (λ b. not (is_among z xs || b)) (text-comm y z) ∙ sym (ap not (among-last z xs y))) zs

with_names-is : (xs ys : List Text) → with_names xs ys ≡ xs ++ others xs (each_once ys)
with_names-is xs [] = sym (append-nil xs)
with_names-is xs (y ∷ ys) = go (λ zs. with_names-is zs ys) (is_among y xs) refl
  where
    rest : List Text
    rest = filter (λ z. not (bytes_eq y z)) (each_once ys)

    go : ((zs : List Text) → with_names zs ys ≡ zs ++ others zs (each_once ys)) → (b : Bool) → is_among y xs ≡ b → with_names (cond b xs (xs ++ y ∷ [])) ys ≡ xs ++ cond (not (is_among y xs)) (y ∷ others xs rest) (others xs rest)
    go more true e =
        more xs ∙ ap (λ l. xs ++ l) (sym (others-known xs y e (each_once ys)))
        ∙ ap (λ b. xs ++ cond (not b) (y ∷ others xs rest) (others xs rest)) (sym e)
    go more false e =
        more (xs ++ y ∷ []) ∙ append_assoc xs (y ∷ []) (others (xs ++ y ∷ []) (each_once ys))
        ∙ ap (λ l. xs ++ (y ∷ l)) (sym (others-more xs y (each_once ys)))
        ∙ ap (λ b. xs ++ cond (not b) (y ∷ others xs rest) (others xs rest)) (sym e)

all-others : (ys : List Text) → others [] ys ≡ ys
all-others [] = refl
all-others (y ∷ ys) = ap (λ l. y ∷ l) (all-others ys)

-- names that are added one by one are each there once
pub added-once : (ys : List Text) → with_names [] ys ≡ each_once ys
added-once ys = with_names-is [] ys ∙ all-others (each_once ys)
