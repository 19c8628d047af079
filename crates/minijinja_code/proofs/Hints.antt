-- The next power of two is the hint.
use Rattle.std.proofs.Common.{◌≡◌, ℕ, suc, ◌*◌, ◌^◌, ◌/◌, ◌<◌, ◌≤◌, min, max, arith, inl, inr, ⊎_elim}
use Rattle.std.specs.Int.{IsPowerOfTwo}
use Rattle.std.proofs.lemmas.Bool.{cases_lt}
use Rattle.std.proofs.lemmas.Nat.{pow_pos}
use Rattle.std.proofs.Math.Pow.{pow_mono}
use Rattle.std.proofs.Math.Nat.{pow-suc}
use Rattle.minijinja_code_parts.specs.Hint.{IsHint}

-- the least power of two at or over x is at most every other one that is
half_below : (k j x : ℕ) → 2 ^ k / 2 < max 1 x → x ≤ 2 ^ j → 2 ^ k ≤ 2 ^ j
half_below k j x h le =
    ⊎_elim
    (λ (more : j < k).
    let next : 2 ^ suc j ≤ 2 ^ k = pow_mono (omega arith) in
    let twice : 2 ^ suc j ≡ 2 ^ j * 2 = pow-suc 2 j in
    let some : 0 < 2 ^ j = pow_pos j in
    absurd (omega arith))
    (λ (fits : k ≤ j). pow_mono fits)
    (cases_lt j k)

-- twice the given number of bytes, but at most 2 ^ 63, at the power of two that is next
pub hint_from : (bytes taken hint : ℕ) → taken ≡ min bytes (2 ^ 62) → IsPowerOfTwo hint → taken * 2 ≤ hint → hint / 2 < max 1 (taken * 2) → IsHint bytes hint
hint_from bytes taken hint is power lower upper =
    let below : (j : ℕ) → taken * 2 ≤ 2 ^ j → hint ≤ 2 ^ j = λ j le.
    let e : hint ≡ 2 ^ power.0 = power.1 in
    let u : 2 ^ power.0 / 2 < max 1 (taken * 2) = omega arith in
    let r = half_below power.0 j (taken * 2) u le in
    omega arith in
    let limit : hint ≤ 2 ^ 63 = below 63 (omega arith) in
    record {
      power = power;
      limit = limit;
      enough = ⊎_elim
          (λ (large : 2 ^ 62 < bytes). inr (omega arith))
          (λ (small : bytes ≤ 2 ^ 62). inl (omega arith))
          (cases_lt (2 ^ 62) bytes);
      least = λ j le. below j (omega arith);
    }
