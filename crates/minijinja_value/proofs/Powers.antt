-- Powers by squaring.
use Rattle.std.proofs.Common.{◌≡◌, ℕ, zero, suc, ◌+◌, ◌*◌, ◌/◌, ◌%◌, ◌^◌, ◌<◌, ◌≤◌, arith, refl, sym, ap, ◌∙◌, pow-suc, mul-zero}
use Rattle.std.proofs.Math.Nat.{mul-one, one-mul, pow-zero, pow-le-pow_right, mul-le-mul, mul_assoc, mul_right_comm, mul-mul-mul_comm}
use Rattle.std.proofs.Math.Pow.{pow-add}

zero-pow : (e : ℕ) → 0 < e → 0 ^ e ≡ 0
zero-pow zero h = absurd (omega arith)
zero-pow (suc e) h = pow-suc 0 e ∙ mul-zero (0 ^ e)

one-pow : (e : ℕ) → 1 ^ e ≡ 1
one-pow zero = refl
one-pow (suc e) = pow-suc 1 e ∙ mul-one (1 ^ e) ∙ one-pow e

-- a power of 0 or 1 is that number
pub small-pow : (b e : ℕ) → 0 < e → b < 2 → b ≡ b ^ e
small-pow zero e h l = sym (zero-pow e h)
small-pow (suc zero) e h l = sym (one-pow e)
small-pow (suc (suc b)) e h l = absurd (omega arith)

square-pow : (b k : ℕ) → (b * b) ^ k ≡ b ^ (k + k)
square-pow b k = go k ∙ sym (pow-add b k k)
  where
    go : (k : ℕ) → (b * b) ^ k ≡ b ^ k * b ^ k
    go zero = pow-zero (b * b) ∙ sym (ap (λ (x : ℕ). x * x) (pow-zero b))
    go (suc k) = pow-suc (b * b) k ∙ ap (λ (x : ℕ). x * (b * b)) (go k) ∙ mul-mul-mul_comm (b ^ k) (b ^ k) b b ∙ sym (ap (λ (x : ℕ). x * x) (pow-suc b k))

-- a turn with an even exponent
pub even_turn : (p b k : ℕ) → k % 2 ≡ 0 → p * (b * b) ^ (k / 2) ≡ p * b ^ k
even_turn p b k h = ap (λ (x : ℕ). p * x) (square-pow b (k / 2) ∙ ap (λ (x : ℕ). b ^ x) (omega arith))

-- a turn with an odd exponent
pub odd_turn : (p b k : ℕ) → k % 2 ≡ 1 → p * b * (b * b) ^ (k / 2) ≡ p * b ^ k
odd_turn p b k h =
    ap (λ (x : ℕ). p * b * x) (square-pow b (k / 2)) ∙ mul_right_comm p b _ ∙ mul_assoc p _ b
    ∙ ap (λ (x : ℕ). p * x) (sym (pow-suc b (k / 2 + k / 2)) ∙ ap (λ (x : ℕ). b ^ x) (omega arith))

-- what stands so far is no more than the whole power
pub factor_le : (p b k : ℕ) → 1 ≤ b → 1 ≤ k → p * b ≤ p * b ^ k
factor_le p b k h l =
    let once : b ^ 1 ≤ b ^ k = pow-le-pow_right h l in
    let base : b ≤ b ^ k = omega (arith, once, pow-suc b 0, ap (λ (x : ℕ). x * b) (pow-zero b), one-mul b) in
    mul-le-mul (omega arith) base

pow-two : (b : ℕ) → b ^ 2 ≡ b * b
pow-two b = pow-suc b 1 ∙ ap (λ (x : ℕ). x * b) (pow-suc b 0 ∙ ap (λ (x : ℕ). x * b) (pow-zero b) ∙ one-mul b)

-- nor is a square, while it is still to be used
pub square_le : (p b k : ℕ) → 1 ≤ p → 1 ≤ b → 2 ≤ k → b * b ≤ p * b ^ k
square_le p b k h g l =
    let twice : b ^ 2 ≤ b ^ k = pow-le-pow_right g l in
    let base : b * b ≤ b ^ k = omega (arith, twice, pow-two b) in
    let whole : 1 * b ^ k ≤ p * b ^ k = mul-le-mul h (omega arith) in
    omega (arith, base, whole, one-mul (b ^ k))

pub last_turn : (p b k : ℕ) → k ≡ 1 → p * b ≡ p * b ^ k
last_turn p b k h = ap (λ (x : ℕ). p * x) (sym (ap (λ (x : ℕ). b ^ x) h ∙ pow-suc b 0 ∙ ap (λ (x : ℕ). x * b) (pow-zero b) ∙ one-mul b))
