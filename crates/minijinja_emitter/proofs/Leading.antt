-- A jump that is led elsewhere.
use Rattle.std.proofs.Common.{◌≡◌, ◌<◌, ◌≤◌, ℕ, zero, suc, List, [], ◌∷◌, Option, Some, None, length, map, refl, sym, ap, subst, ◌∙◌, arith}
use Rattle.std.specs.Prelude.{IfNone, IfSome, get_or, slice_set}
use Rattle.minijinja_semantics.specs.Code.{Instr}
use Rattle.minijinja_semantics.specs.Jumps.{led_to, with_target}

module _ {X C : Type 0} (v : X → Instr C) (l : ℕ) where
  pub led_at : (xs : List X) (p : ℕ) (x y : X) → p < length xs → x ≡ get_or xs p x → v y ≡ led_to l (v x) → map v (slice_set xs p y) ≡ with_target l (map v xs) p
  led_at [] p x y within at e = absurd (omega (arith, within))
  led_at (z ∷ xs) zero x y within at e = ap (λ i. i ∷ map v xs) (e ∙ ap (λ w. led_to l (v w)) at)
  led_at (z ∷ xs) (suc p) x y within at e = ap (λ is. v z ∷ is) (led_at xs p x y (omega (arith, within)) at e)

  -- what is no jump leads nowhere
  pub no_jump_at : (xs : List X) (p : ℕ) (x : X) → p < length xs → x ≡ get_or xs p x → led_to l (v x) ≡ v x → with_target l (map v xs) p ≡ map v xs
  no_jump_at [] p x within at e = refl
  no_jump_at (z ∷ xs) zero x within at e = ap (λ i. i ∷ map v xs) (ap (λ w. led_to l (v w)) (sym at) ∙ e ∙ ap v at)
  no_jump_at (z ∷ xs) (suc p) x within at e = ap (λ is. v z ∷ is) (no_jump_at xs p x (omega (arith, within)) at e)

  -- nothing stands past the end
  pub none_past : (xs : List X) (p : ℕ) → length xs ≤ p → with_target l (map v xs) p ≡ map v xs
  none_past [] p past = refl
  none_past (z ∷ xs) zero past = absurd (omega (arith, past))
  none_past (z ∷ xs) (suc p) past = ap (λ is. v z ∷ is) (none_past xs p (omega (arith, past)))

  pub led_if : (r : Option X) {ys xs : List X} (p : ℕ) (x : X) → ys ≡ xs → p < length ys → x ≡ get_or ys p x → IfSome r (λ y. v y ≡ led_to l (v x)) → IfSome r (λ y. map v (slice_set xs p y) ≡ with_target l (map v xs) p)
  led_if None p x same within at e = tt
  led_if (Some y) {ys} p x same within at e = subst (λ zs. map v (slice_set zs p y) ≡ with_target l (map v zs) p) same (led_at ys p x y within at e)

  pub unless_led : (r : Option X) {ys xs : List X} (p : ℕ) (x : X) → ys ≡ xs → p < length ys → x ≡ get_or ys p x → IfNone r (led_to l (v x) ≡ v x) → IfNone r (with_target l (map v xs) p ≡ map v xs)
  unless_led (Some y) p x same within at e = tt
  unless_led None {ys} p x same within at e = subst (λ zs. with_target l (map v zs) p ≡ map v zs) same (no_jump_at ys p x within at e)
