-- Where two bytes stand one after the other.
use Rattle.std.proofs.Common.{◌≡◌, ℕ, zero, suc, ◌+◌, ◌-◌, ◌<◌, ◌≤◌, List, [], ◌∷◌, length, drop, ap, refl, sym, ◌∙◌, arith, length-drop, get_or, get_or-drop, None}
use Rattle.std.proofs.lemmas.Bool.{eqb-true, eq-eqb}
use Rattle.memchr.specs.Find.{IsFirstByte, NoneBefore, Nowhere, OccursAt, Passes, is_byte}
use Rattle.memchr.proofs.lemmas.FindLemmas.{Nowhere-more, Nowhere-then}

module _ (hay : List ℕ) (a b : ℕ) where
  -- at this place
  abbrev pub PairAt : ℕ → Type 0
  PairAt = OccursAt hay (a ∷ b ∷ [])

  reads_here : (p : ℕ) → get_or hay p 0 ≡ a → get_or hay (p + 1) 0 ≡ b → (j : ℕ) → j < 2 → get_or hay (p + j) 0 ≡ get_or (a ∷ b ∷ []) j 0
  reads_here p first second zero h = ap (λ i. get_or hay i 0) (omega arith) ∙ first
  reads_here p first second (suc zero) h = second
  reads_here p first second (suc (suc j)) h = absurd (omega (arith, h))

  pub pair_here : (p : ℕ) → p + 1 < length hay → get_or hay p 0 ≡ a → get_or hay (p + 1) 0 ≡ b → PairAt p
  pair_here p within first second =
      record { fits = omega arith; reads = reads_here p first second }

  module _ (rest : List ℕ) (at : ℕ) (is : rest ≡ drop at hay) where
    -- a byte of what is left is one of the whole
    byte_is : (k : ℕ) → get_or rest k 0 ≡ get_or hay (at + k) 0
    byte_is k = ap (λ x. get_or x k 0) is ∙ get_or-drop at hay k 0

    -- where the two stand the first stands
    passes : (k : ℕ) → at ≤ k → PairAt k → Passes (is_byte a) rest (k - at)
    passes k onwards o = eq-eqb _ _ (byte_is (k - at) ∙ ap (λ i. get_or hay i 0) (omega arith) ∙ o.reads 0 (omega arith))

    within : (k : ℕ) → at ≤ k → PairAt k → k - at < length rest
    within k onwards o = let l = ap length is ∙ length-drop at hay in omega (arith, l, o.fits)

    pub none_up_to : (ahead : ℕ) → Nowhere PairAt 0 at → NoneBefore (Passes (is_byte a) rest) 0 (length rest) ahead → Nowhere PairAt 0 (at + ahead)
    none_up_to ahead none first = Nowhere-then none (λ k onwards high o. first.before (k - at) (omega arith) (omega (arith, high, onwards)) (passes k onwards o))

    pub first_is : (ahead : ℕ) → Passes (is_byte a) rest ahead → get_or hay (at + ahead) 0 ≡ a
    first_is ahead p = sym (byte_is ahead) ∙ eqb-true _ _ p

    pub none_at_all : Nowhere PairAt 0 at → IsFirstByte (is_byte a) rest None → Nowhere PairAt 0 (length hay + 1)
    none_at_all none no_more = Nowhere-then none (λ k onwards high o. no_more (k - at) (omega arith) (within k onwards o) (passes k onwards o))

  pub none_here : (p : ℕ) → Nowhere PairAt 0 p → (p + 1 < length hay → get_or hay (p + 1) 0 ≡ b → ⊥) → Nowhere PairAt 0 (p + 1)
  none_here p none other = Nowhere-more none (λ o. other (let f = o.fits in omega (arith, f)) (o.reads 1 (omega arith)))

-- a text of two bytes is these
pub two_bytes : (xs : List ℕ) → 2 ≤ length xs → length xs < 3 → get_or xs 0 0 ∷ get_or xs 1 0 ∷ [] ≡ xs
two_bytes [] low high = absurd (omega (arith, low))
two_bytes (x ∷ []) low high = absurd (omega (arith, low))
two_bytes (x ∷ y ∷ []) low high = refl
two_bytes (x ∷ y ∷ z ∷ xs) low high = absurd (omega (arith, high))
