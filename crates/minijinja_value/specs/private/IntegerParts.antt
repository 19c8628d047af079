-- The sign of an integer, and its magnitude in two halves.
use Rattle.std.specs.Prelude.{ℕ, zero, suc, ◌≡◌, ◌<◌, ◌≤◌, ◌+◌, ◌*◌, ◌/◌, ◌%◌, ◌^◌, Bool, true, false, ℤ, pos, negsuc, refl}
use Rattle.std.proofs.Common.{arith, ap, ap₂, ◌∙◌}
use Rattle.std.proofs.lemmas.Nat.{div-mul-add, mod-mul-add}
use Rattle.minijinja_value.specs.Integers.{signed}
use Rattle.minijinja_value.specs.declared.value.integer.Integer.TheInside.{Inside}

-- the magnitude of two halves of 64 bits
abbrev pub joined : (high low : ℕ) → ℕ
joined high low = high * 2 ^ 64 + low

-- an integer's sign and the two halves of its magnitude
abbrev fields : Bool → (high low : ℕ) → Inside
fields b high low = record { is_negative = b; high = high; low = low }

-- the fields of a sign and a magnitude
abbrev halves : Bool → ℕ → Inside
halves b n = fields b (n / 2 ^ 64) (n % 2 ^ 64)

-- the fields that an integer has
abbrev pub parts_of : ℤ → Inside
parts_of (pos n) = halves false n
parts_of (negsuc n) = halves true (suc n)

-- the parts of an integer made of parts are these
pub parts_of-signed : (a : Inside) → (a.low < 2 ^ 64) × (a.is_negative ≡ true → (0 < joined a.high a.low) × (joined a.high a.low ≤ 2 ^ 127)) → parts_of (signed a.is_negative (joined a.high a.low)) ≡ a
parts_of-signed a h = by a.is_negative a.high a.low (joined a.high a.low) refl h.0 h.1
  where
    found : (b : Bool) (high low n : ℕ) → n ≡ joined high low → low < 2 ^ 64 → halves b n ≡ fields b high low
    found b high low n e small = ap₂ (fields b) (ap (λ m. m / 2 ^ 64) e ∙ div-mul-add high (2 ^ 64) low small) (ap (λ m. m % 2 ^ 64) e ∙ mod-mul-add high (2 ^ 64) low small)

    by : (b : Bool) (high low n : ℕ) → n ≡ joined high low → low < 2 ^ 64 → (b ≡ true → (0 < n) × (n ≤ 2 ^ 127)) → parts_of (signed b n) ≡ fields b high low
    by false high low n e small h = found false high low n e small
    by true high low zero e small h = absurd (omega (arith, (h refl).0))
    by true high low (suc m) e small h = found true high low (suc m) e small
