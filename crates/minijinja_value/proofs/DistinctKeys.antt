-- Maps keep their keys distinct.
use Rattle.std.proofs.Common.{◌≡◌, Bool, true, false, List, [], ◌∷◌, refl}
use Rattle.std.specs.Prelude.{◌||◌, if◌then◌else◌, fold}
use Rattle.minijinja_value.specs.ValueContents.{Contents, Pairs, no_pairs, pair}
use Rattle.minijinja_value.specs.ValueComparison.{equals}
use Rattle.minijinja_value.specs.ValueFunctions.{put, built}
use Rattle.minijinja_value.specs.MapLaws.{equals_a_key, HasDistinctKeys}

-- a key that is equal to neither the new key nor an old one is equal to none
neither : (c k v : Contents) (ps : Pairs) → equals c k ≡ false → equals_a_key c ps ≡ false → equals_a_key c (put k v ps) ≡ false
neither c k v no_pairs h g = rw h refl
neither c k v (pair l w ps) h g = by (neither c k v ps h) (equals c l) (equals l k) refl g
  where
    by : (equals_a_key c ps ≡ false → equals_a_key c (put k v ps) ≡ false) → (first found : Bool) → equals c l ≡ first → (first || equals_a_key c ps) ≡ false → equals_a_key c (if found then pair l v ps else pair l w (put k v ps)) ≡ false
    by rest true found e g = absurd (cc g)
    by rest false true e g = rw e g
    by rest false false e g = rw e (rest g)

pub put-distinct : (k v : Contents) (ps : Pairs) → HasDistinctKeys ps → HasDistinctKeys (put k v ps)
put-distinct k v no_pairs h = (refl, tt)
put-distinct k v (pair l w ps) h = by (put-distinct k v ps h.1) (equals l k) refl
  where
    by : HasDistinctKeys (put k v ps) → (found : Bool) → equals l k ≡ found → HasDistinctKeys (if found then pair l v ps else pair l w (put k v ps))
    by rest true e = h
    by rest false e = (neither l k v ps e h.0, rest)

-- pairs put one after another after distinct ones
put_all : (ps : List (Contents × Contents)) (made : Pairs) → HasDistinctKeys made → HasDistinctKeys (fold (λ made p. put p.0 p.1 made) made ps)
put_all [] made h = h
put_all (p ∷ ps) made h = put_all ps (put p.0 p.1 made) (put-distinct p.0 p.1 made h)

pub built-distinct : (ps : List (Contents × Contents)) → HasDistinctKeys (built ps)
built-distinct ps = put_all ps no_pairs tt
