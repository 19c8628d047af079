-- What is noted, where all of it is wanted or only names.
use Rattle.std.proofs.Common.{◌≡◌, ◌++◌, refl, sym, ap, ◌∙◌, subst, append_assoc, true, false}
use Rattle.std.specs.Prelude.{Bool, not, ◌||◌, ◌&&◌, List, [], ◌∷◌, cond}
use Rattle.std.specs.Prelude as std
use Rattle.std.specs.Str.{bytes_eq}
use Rattle.std.proofs.lemmas.List.{append-nil}
use Rattle.std.proofs.lemmas.List.Folds.{list_any-append}
use Rattle.std.proofs.lemmas.Slice.Eq.{bytes_eq-Decides}
use Rattle.minijinja_syntax.specs.Texts.{Text}
use Rattle.minijinja_syntax.specs.declared.tokens.Span.{Span}
use Rattle.minijinja_tree.specs.FreeNames as bare
use Rattle.minijinja_meta.specs.Mentions.{Mention, Way, is_among, free_of, marked, names_of}
use Rattle.minijinja_meta.specs.private.Walked.{AreAlike, SayTheSame}
use Rattle.minijinja_meta.proofs.Bare.{bare_way, free_of-append, marked-names, names_of-append}

-- all that is noted
abbrev pub Notes : Type 0
Notes = List (Mention × Bool) × List (Text × Span)

-- the names of what occurs free
abbrev pub free_names : List (Mention × Bool) → List Text
free_names os = names_of (free_of os)

pub alike : (b : Bool) (p : Notes) → AreAlike b p p
alike true p = record { found = λ y. refl; macros = refl }
alike false p = record { found = refl; macros = refl }

pub alike-same : {b : Bool} {p q : Notes} → p ≡ q → AreAlike b p q
alike-same {b} {p} {q} e = subst (AreAlike b p) e (alike b p)

says-on : (b : Bool) (xs ys zs : List (Mention × Bool)) → SayTheSame b xs ys → SayTheSame b ys zs → SayTheSame b xs zs
says-on true xs ys zs h k = λ y. h y ∙ k y
says-on false xs ys zs h k = h ∙ k

pub alike-on : {b : Bool} {p q r : Notes} → AreAlike b p q → AreAlike b q r → AreAlike b p r
alike-on {b} {p} {q} {r} h k = record { found = says-on b p.0 q.0 r.0 h.found k.found; macros = h.macros ∙ k.macros }

-- of walkers that want the same
pub as-wanted : {b d : Bool} {p q : Notes} → d ≡ b → AreAlike d p q → AreAlike b p q
as-wanted {b} {d} {p} {q} e h = subst (λ b. AreAlike b p q) e h

-- ---- more occurrences after these

free_names-append : (xs ys : List (Mention × Bool)) → free_names (xs ++ ys) ≡ free_names xs ++ free_names ys
free_names-append xs ys = ap names_of (free_of-append xs ys) ∙ names_of-append (free_of xs) (free_of ys)

pub is_among-append : (y : Text) (xs ys : List (Mention × Bool)) → is_among y (free_names (xs ++ ys)) ≡ (is_among y (free_names xs) || is_among y (free_names ys))
is_among-append y xs ys = ap (is_among y) (free_names-append xs ys) ∙ list_any-append (bytes_eq y) (free_names xs) (free_names ys)

pub says-more : (b : Bool) (xs ys zs : List (Mention × Bool)) → SayTheSame b xs ys → SayTheSame b (xs ++ zs) (ys ++ zs)
says-more true xs ys zs h = λ y. is_among-append y xs zs ∙ ap (λ b. b || is_among y (free_names zs)) (h y) ∙ sym (is_among-append y ys zs)
says-more false xs ys zs h = ap (λ l. l ++ zs) h

pub says-equal : (b : Bool) (xs ys : List (Mention × Bool)) → xs ≡ ys → SayTheSame b xs ys
says-equal true xs ys h = λ y. ap (λ l. is_among y (free_names l)) h
says-equal false xs ys h = h

-- a region, and what comes after it
pub says-joined : (b : Bool) (xs zs bs ys : List (Mention × Bool)) → SayTheSame b (xs ++ zs) (ys ++ []) → SayTheSame b (xs ++ (zs ++ bs)) (ys ++ bs)
says-joined b xs zs bs ys h =
    says-on b (xs ++ (zs ++ bs)) ((xs ++ zs) ++ bs) (ys ++ bs) (says-equal b _ _ (sym (append_assoc xs zs bs)))
    (says-on b ((xs ++ zs) ++ bs) ((ys ++ []) ++ bs) (ys ++ bs) (says-more b (xs ++ zs) (ys ++ []) bs h) (says-equal b _ _ (ap (λ l. l ++ bs) (append-nil ys))))

-- ---- where only names are wanted

-- what is not free is not wanted
pub unwanted : (names_only is_free : Bool) (m : Mention) (xs zs : List (Mention × Bool)) → names_only ≡ true → is_free ≡ false → SayTheSame names_only (xs ++ (m, is_free) ∷ zs) (xs ++ zs)
unwanted false is_free m xs zs e h = cc
unwanted true true m xs zs e h = cc
unwanted true false m xs zs e h = λ y. is_among-append y xs ((m, false) ∷ zs) ∙ sym (is_among-append y xs zs)

is_among-filter : (y : Text) (p : Text → Bool) (xs : List Text) → is_among y (std.filter p xs) ≡ (is_among y xs && p y)
is_among-filter y p [] = refl
is_among-filter y p (x ∷ xs) = go (p x) refl (bytes_eq y x) refl (is_among-filter y p xs)
  where
    same : bytes_eq y x ≡ true → p y ≡ p x
    same e = ap p ((bytes_eq-Decides y x).0 e)

    keep : (a b : Bool) → b ≡ true → true ≡ ((true || a) && b)
    keep a b h = sym h

    none : (q b : Bool) → b ≡ false → (q && b) ≡ (true && b)
    none true b h = refl
    none false b h = sym h

    go : (q : Bool) → p x ≡ q → (e : Bool) → bytes_eq y x ≡ e → is_among y (std.filter p xs) ≡ (is_among y xs && p y) →
        is_among y (cond q (x ∷ std.filter p xs) (std.filter p xs)) ≡ ((e || is_among y xs) && p y)
    go true h true f rest = ap (λ b. b || is_among y (std.filter p xs)) f ∙ keep (is_among y xs) (p y) (same f ∙ h)
    go true h false f rest = ap (λ b. b || is_among y (std.filter p xs)) f ∙ rest
    go false h true f rest = rest ∙ none (is_among y xs) (p y) (same f ∙ h)
    go false h false f rest = rest

-- a name that was found free is stored from there on
pub remembered : (x : Text) (stored : List Text) (xs : List (Mention × Bool)) (w : Way) → is_among x (free_names xs) ≡ true → (y : Text) →
    is_among y (free_names (xs ++ marked stored w)) ≡ is_among y (free_names (xs ++ marked (x ∷ stored) w))
remembered x stored xs w there y =
    is_among-append y xs (marked stored w) ∙ go (bytes_eq y x) refl ∙ sym (is_among-append y xs (marked (x ∷ stored) w))
  where
    all : List Text
    all = bare.free (bare_way w)

    split : (a b c : Bool) → (a && not (b || c)) ≡ ((a && not c) && not b)
    split true true true = refl
    split true true false = refl
    split true false true = refl
    split true false false = refl
    split false b c = refl

    fewer : is_among y (free_names (marked (x ∷ stored) w)) ≡ (is_among y (free_names (marked stored w)) && not (bytes_eq y x))
    fewer =
        ap (is_among y) (marked-names (x ∷ stored) w) ∙ is_among-filter y (λ z. not (is_among z (x ∷ stored))) all
        ∙ split (is_among y all) (bytes_eq y x) (is_among y stored)
        ∙ ap (λ b. b && not (bytes_eq y x)) (sym (is_among-filter y (λ z. not (is_among z stored)) all) ∙ ap (is_among y) (sym (marked-names stored w)))

    plain : (a b : Bool) → (a || b) ≡ (a || (b && true))
    plain true b = refl
    plain false true = refl
    plain false false = refl

    go : (e : Bool) → bytes_eq y x ≡ e → (is_among y (free_names xs) || is_among y (free_names (marked stored w))) ≡ (is_among y (free_names xs) || is_among y (free_names (marked (x ∷ stored) w)))
    go true f =
        let here : is_among y (free_names xs) ≡ true = ap (λ z. is_among z (free_names xs)) ((bytes_eq-Decides y x).0 f) ∙ there in
        ap (λ b. b || is_among y (free_names (marked stored w))) here ∙ sym (ap (λ b. b || is_among y (free_names (marked (x ∷ stored) w))) here)
    go false f =
        plain (is_among y (free_names xs)) (is_among y (free_names (marked stored w)))
        ∙ ap (λ e. is_among y (free_names xs) || (is_among y (free_names (marked stored w)) && not e)) (sym f)
        ∙ ap (λ b. is_among y (free_names xs) || b) (sym fewer)
