-- Names that are put into sets, and attributes that are written.
use Rattle.std.proofs.Common.{◌≡◌, ℕ, suc, ◌<◌, ◌++◌, refl, sym, ap, ap₂, ◌∙◌, length, drop, get_or, append_assoc, append-nil, true, false}
use Rattle.std.specs.Prelude.{Bool, List, [], ◌∷◌, map, reverse, codes}
use Rattle.std.specs.Borrow.{Bor}
use Rattle.std.specs.BTreeSet.{insert_key}
use Rattle.std.specs.Cmp.Lexicographic.{slice_cmp}
use Rattle.std.specs.Ordering.{nat_cmp, match_ordering}
use Rattle.std.specs.declared.cmp.Ordering.{Ordering}
use Rattle.std.specs.declared.cmp.Ordering.TheVariants.{Less, Equal, Greater}
use Rattle.std.proofs.lemmas.List.{reverse-append}
use Rattle.std.proofs.Math.Seq.{drop-cons}
use Rattle.minijinja_syntax.specs.Texts.{Text}
use Rattle.minijinja_meta.specs.Mentions.{Mention, after_dots, free_of, in_order}
use Rattle.minijinja_meta.specs.private.Written.{put_if}

-- the last ones of a list, and one before them
pub drop-before : {A : Type 0} (xs : List A) (i n : ℕ) (x : A) → n ≡ suc i → i < length xs → x ≡ get_or xs i x → drop i xs ≡ x ∷ drop n xs
drop-before xs i n x e within is = drop-cons xs i x within ∙ ap₂ (λ y m. y ∷ drop m xs) (sym is) (sym e)

pub drop-at : {A : Type 0} (xs : List A) (i n : ℕ) (d : A) → n ≡ suc i → i < length xs → drop i xs ≡ get_or xs i d ∷ drop n xs
drop-at xs i n d e within = drop-cons xs i d within ∙ ap (λ m. get_or xs i d ∷ drop m xs) (sym e)

-- of keys that are compared by their texts
pub map-insert : {K : Type 0} (f : K → Text) (ks : List K) (k : K) → map f (insert_key (λ x y. slice_cmp nat_cmp (f x) (f y)) ks k) ≡ insert_key (slice_cmp nat_cmp) (map f ks) (f k)
map-insert f [] k = refl
map-insert f (x ∷ ks) k = go (slice_cmp nat_cmp (f k) (f x)) (map-insert f ks k)
  where
    go : (o : Ordering) → map f (insert_key (λ x y. slice_cmp nat_cmp (f x) (f y)) ks k) ≡ insert_key (slice_cmp nat_cmp) (map f ks) (f k) →
        map f (match_ordering o (k ∷ x ∷ ks) (x ∷ ks) (x ∷ insert_key (λ x y. slice_cmp nat_cmp (f x) (f y)) ks k)) ≡ match_ordering o (f k ∷ f x ∷ map f ks) (f x ∷ map f ks) (f x ∷ insert_key (slice_cmp nat_cmp) (map f ks) (f k))
    go Less h = refl
    go Equal h = refl
    go Greater h = ap (λ l. f x ∷ l) h

-- one occurrence before the others
pub put-first : (f : Mention → Text) (m : Mention) (b : Bool) (os : List (Mention × Bool)) → in_order (map f (free_of ((m, b) ∷ os))) ≡ put_if b (in_order (map f (free_of os))) (f m)
put-first f m true os = refl
put-first f m false os = refl

dots-last : (xs : List Text) (y : Text) → after_dots (xs ++ y ∷ []) ≡ after_dots xs ++ (codes "." ++ y)
dots-last [] y = ap (λ l. codes "." ++ l) (append-nil y)
dots-last (x ∷ xs) y =
    ap (λ l. codes "." ++ (x ++ l)) (dots-last xs y) ∙ ap (λ l. codes "." ++ l) (sym (append_assoc x (after_dots xs) (codes "." ++ y)))
    ∙ sym (append_assoc (codes ".") (x ++ after_dots xs) (codes "." ++ y))

-- one attribute more is written
pub dots-more : (text old : Text) (xs : List (Bor Text)) (x : Bor Text) → text ≡ old ++ after_dots (reverse (map (λ x. x.now) xs)) →
    (text ++ codes ".") ++ x.now ≡ old ++ after_dots (reverse (map (λ x. x.now) (x ∷ xs)))
dots-more text old xs x h =
    let ys = map (λ (x : Bor Text). x.now) xs in
    append_assoc text (codes ".") x.now ∙ ap (λ l. l ++ (codes "." ++ x.now)) h ∙ append_assoc old (after_dots (reverse ys)) (codes "." ++ x.now)
    ∙ ap (λ l. old ++ l) (sym (dots-last (reverse ys) x.now)) ∙ ap (λ l. old ++ after_dots l) (sym (reverse-append (x.now ∷ []) ys))
