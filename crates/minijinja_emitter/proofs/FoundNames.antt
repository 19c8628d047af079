-- A name that is found among those with an id leaves them as they are.
use Rattle.std.proofs.Common.{◌≡◌, ℕ, suc, ◌+◌, ◌<◌, List, ◌∷◌, ◌++◌, Bool, true, length, map, take, drop, get_or, sym, ap, ◌∙◌, Bor}
use Rattle.std.specs.Prelude.{bytes_eq, if◌then◌else◌}
use Rattle.std.proofs.lemmas.List.{at_drop_more, take-append-drop, map-append}
use Rattle.minijinja_syntax.specs.Texts.{Text}
use Rattle.minijinja_semantics.specs.Pieces.{noted_behind, noted}

abbrev now_of : Bor Text → Text
now_of x = x.now

found_at : (front back : List Text) (i : ℕ) (x y : Text) (b : Bool) → b ≡ true → front ++ (if b then y ∷ back else y ∷ noted_behind (suc i) x back) ≡ front ++ y ∷ back
found_at front back i x y b e = ap (λ b. front ++ (if b then y ∷ back else y ∷ noted_behind (suc i) x back)) e

pub found_noted : (xs : List (Bor Text)) (i : ℕ) (x : Text) (d : Bor Text) → i < length xs → bytes_eq x (get_or xs i d).now ≡ true → map now_of (take i xs) ++ noted_behind i x (map now_of (drop i xs)) ≡ noted x (map now_of xs) → map now_of xs ≡ noted x (map now_of xs)
found_noted xs i x d within same going =
    let front = map now_of (take i xs) in
    let rest = map now_of (drop (i + 1) xs) in
    let y = (get_or xs i d).now in
    let whole = sym (ap (map now_of) (take-append-drop i xs)) ∙ map-append now_of (take i xs) (drop i xs) in
    let here = at_drop_more (λ (l : List (Bor Text)). front ++ map now_of l) xs i d within in
    let there = at_drop_more (λ (l : List (Bor Text)). front ++ noted_behind i x (map now_of l)) xs i d within in
    whole ∙ here ∙ sym (found_at front rest i x y (bytes_eq x y) same) ∙ sym there ∙ going
