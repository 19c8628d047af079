-- The words of lists and maps, item by item.
use Rattle.std.proofs.Common.{◌≡◌, ◌≢◌, ℕ, ◌+◌, ◌<◌, List, [], ◌∷◌, ◌++◌, map, length, take, get_or, refl, sym, ap, ◌∙◌, arith, append_assoc}
use Rattle.std.specs.Prelude.{codes}
use Rattle.std.specs.List.{flat_map}
use Rattle.std.proofs.lemmas.List.{take_more, append-nil, map-append, length-map, length-take}
use Rattle.std.proofs.lemmas.List.Concat.{flat_map-append}
use Rattle.minijinja_text.specs.Texts.{Text}
use Rattle.minijinja_value.specs.ValueWords.{words, joined, tuple_words, each_words, pair_words}
use Rattle.minijinja_value.specs.ValueViews.{contents_of, items_view, pairs_view}
use Rattle.minijinja_value.specs.declared.value.Value.{Value}

abbrev pub value_text : Value → Text
value_text v = words (contents_of v)

abbrev pub pair_text : Value × Value → Text
pair_text p = value_text p.0 ++ codes ": " ++ value_text p.1

pub each_words-view : (xs : List Value) → each_words (items_view xs) ≡ map value_text xs
each_words-view [] = refl
each_words-view (x ∷ xs) = ap (λ (ts : List Text). value_text x ∷ ts) (each_words-view xs)

pub pair_words-view : (ps : List (Value × Value)) → pair_words (pairs_view ps) ≡ map pair_text ps
pair_words-view [] = refl
pair_words-view (p ∷ ps) = ap (λ (ts : List Text). pair_text p ∷ ts) (pair_words-view ps)

-- one text more
joined-more : (ts : List Text) (t : Text) → 0 < length ts → joined (ts ++ t ∷ []) ≡ (joined ts ++ codes ", ") ++ t
joined-more [] t h = absurd (omega arith)
joined-more (u ∷ us) t h =
    let comma : Text → Text = λ s. codes ", " ++ s in
    ap (λ (s : Text). u ++ s) (flat_map-append comma us (t ∷ []) ∙ ap (λ (s : Text). flat_map comma us ++ s) (append-nil (comma t)))
    ∙ sym (append_assoc u (flat_map comma us) (comma t))
    ∙ sym (append_assoc (u ++ flat_map comma us) (codes ", ") t)

module _ {X : Type 0} (f : X → Text) (xs : List X) (i : ℕ) (x : X) (inside : i < length xs) (is : x ≡ get_or xs i x) where
  next : map f (take (i + 1) xs) ≡ map f (take i xs) ++ f x ∷ []
  next = ap (map f) (take_more xs i x inside ∙ ap (λ (y : X). take i xs ++ y ∷ []) (sym is)) ∙ map-append f (take i xs) (x ∷ [])

  pub joined-later : 0 < i → (joined (map f (take i xs)) ++ codes ", ") ++ f x ≡ joined (map f (take (i + 1) xs))
  joined-later h =
      let some : 0 < length (map f (take i xs)) = simp (length-map, length-take) (omega arith) in
      sym (joined-more (map f (take i xs)) (f x) some) ∙ ap joined (sym next)

  pub joined-first : i ≡ 0 → joined (map f (take i xs)) ++ f x ≡ joined (map f (take (i + 1) xs))
  joined-first h =
      let none : map f (take i xs) ≡ [] = ap (λ (k : ℕ). map f (take k xs)) h in
      ap (λ (ts : List Text). joined ts ++ f x) none ∙ sym (append-nil (f x)) ∙ ap (λ (ts : List Text). joined (ts ++ f x ∷ [])) (sym none) ∙ ap joined (sym next)

pub tuple_words-one : (xs : List Value) → length xs ≡ 1 → codes "(" ++ (joined (each_words (items_view xs)) ++ codes ",)") ≡ tuple_words (each_words (items_view xs))
tuple_words-one [] h = absurd (omega arith)
tuple_words-one (x ∷ []) h = ap (λ (t : Text). codes "(" ++ (t ++ codes ",)")) (append-nil (value_text x))
tuple_words-one (x ∷ y ∷ xs) h = absurd (omega arith)

pub tuple_words-other : (xs : List Value) → length xs ≢ 1 → codes "(" ++ (joined (each_words (items_view xs)) ++ codes ")") ≡ tuple_words (each_words (items_view xs))
tuple_words-other [] h = refl
tuple_words-other (x ∷ []) h = absurd (h refl)
tuple_words-other (x ∷ y ∷ xs) h = refl
