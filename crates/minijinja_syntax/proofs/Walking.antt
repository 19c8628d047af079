-- What the steps of a walk over places say.
use Rattle.std.proofs.Common.{◌≡◌, ℕ, zero, suc, ◌+◌, ◌-◌, ◌<◌, ◌≤◌, Bool, true, false, cond, length, refl, ap, sym, ◌∙◌, arith, ⊎_elim, inl, inr}
use Rattle.std.specs.Prelude.{is_some, ◌⊎◌}
use Rattle.std.proofs.lemmas.Bool.{cases_lt, cases_Bool}
use Rattle.minijinja_syntax.specs.Texts.{Text}
use Rattle.minijinja_syntax.specs.Syntax.{Syntax}
use Rattle.minijinja_syntax.specs.Markers.{marker_at, next_place, next_marker}

-- at a place that fails the test, and at one that passes
pub next_place-on : (p : ℕ → Bool) (at left : ℕ) → 0 < left → p at ≡ false → next_place p at left ≡ next_place p (at + 1) (left - 1)
next_place-on p at zero h f = absurd (omega (arith, h))
next_place-on p at (suc left) h f = let e : suc left - 1 ≡ left = omega arith in rw e (ap (λ b. cond b at (next_place p (at + 1) left)) f)

pub next_place-here : (p : ℕ → Bool) (at left : ℕ) → p at ≡ true → next_place p at left ≡ at
next_place-here p at zero t = refl
next_place-here p at (suc left) t = ap (λ b. cond b at (next_place p (at + 1) left)) t

-- the place that is found is within, all before it fail, and it passes or is the end
pub next_place-within : (p : ℕ → Bool) (at left : ℕ) → (at ≤ next_place p at left) × (next_place p at left ≤ at + left)
next_place-within p at zero = (omega arith, omega arith)
next_place-within p at (suc left) = either (next_place-within p (at + 1) left) (p at)
  where
    either : (at + 1 ≤ next_place p (at + 1) left) × (next_place p (at + 1) left ≤ at + 1 + left) → (b : Bool) → (at ≤ cond b at (next_place p (at + 1) left)) × (cond b at (next_place p (at + 1) left) ≤ at + suc left)
    either r true = (omega arith, omega arith)
    either r false = (omega (arith, r.0), omega (arith, r.1))

pub next_place-before : (p : ℕ → Bool) (at left q : ℕ) → at ≤ q → q < next_place p at left → p q ≡ false
next_place-before p at zero q h l = absurd (omega (arith, h, l))
next_place-before p at (suc left) q h l = ⊎_elim
    (λ (t : p at ≡ true). let e = next_place-here p at (suc left) t in absurd (omega (arith, e, h, l)))
    (λ (f : p at ≡ false).
    let e : next_place p at (suc left) ≡ next_place p (at + 1) left = ap (λ b. cond b at (next_place p (at + 1) left)) f in
    ⊎_elim
    (λ (m : at < q). next_place-before p (at + 1) left q (omega arith) (omega (arith, e, l)))
    (λ (m : q ≤ at). let same : at ≡ q = omega arith in ap p (sym same) ∙ f)
    (cases_lt at q))
    (cases_Bool (p at))

pub next_place-stops : (p : ℕ → Bool) (at left : ℕ) → (next_place p at left ≡ at + left) ⊎ (p (next_place p at left) ≡ true)
next_place-stops p at zero = inl (omega arith)
next_place-stops p at (suc left) = ⊎_elim
    (λ (t : p at ≡ true). inr (ap p (next_place-here p at (suc left) t) ∙ t))
    (λ (f : p at ≡ false).
    let e : next_place p at (suc left) ≡ next_place p (at + 1) left = ap (λ b. cond b at (next_place p (at + 1) left)) f in
    ⊎_elim (λ q. inl (omega (arith, e, q))) (λ q. inr (ap p e ∙ q)) (next_place-stops p (at + 1) left))
    (cases_Bool (p at))

-- the same of the next marker
pub next_marker-on : (s : Syntax) (text : Text) (at : ℕ) → at < length text → is_some (marker_at s text at) ≡ false → next_marker s text at ≡ next_marker s text (at + 1)
unfolding next_marker
next_marker-on s text at h f =
    let test : ℕ → Bool = λ p. is_some (marker_at s text p) in
    let e : length text - at - 1 ≡ length text - (at + 1) = omega arith in
    next_place-on test at (length text - at) (omega arith) f ∙ ap (next_place test (at + 1)) e

pub next_marker-here : (s : Syntax) (text : Text) (at : ℕ) → is_some (marker_at s text at) ≡ true → next_marker s text at ≡ at
unfolding next_marker
next_marker-here s text at t = next_place-here (λ p. is_some (marker_at s text p)) at (length text - at) t

pub next_marker-over : (s : Syntax) (text : Text) (at : ℕ) → length text ≤ at → next_marker s text at ≡ at
unfolding next_marker
next_marker-over s text at h = let e : length text - at ≡ 0 = omega arith in ap (next_place (λ p. is_some (marker_at s text p)) at) e

pub next_marker-within : (s : Syntax) (text : Text) (at : ℕ) → at ≤ length text → (at ≤ next_marker s text at) × (next_marker s text at ≤ length text)
unfolding next_marker
next_marker-within s text at h =
    let w = next_place-within (λ p. is_some (marker_at s text p)) at (length text - at) in
    (w.0, omega (arith, w.1))

pub next_marker-before : (s : Syntax) (text : Text) (at q : ℕ) → at ≤ q → q < next_marker s text at → is_some (marker_at s text q) ≡ false
unfolding next_marker
next_marker-before s text at q h l = next_place-before (λ p. is_some (marker_at s text p)) at (length text - at) q h l

pub next_marker-stops : (s : Syntax) (text : Text) (at : ℕ) → at ≤ length text → (next_marker s text at ≡ length text) ⊎ (is_some (marker_at s text (next_marker s text at)) ≡ true)
unfolding next_marker
next_marker-stops s text at h = ⊎_elim
    (λ e. inl (omega (arith, e)))
    (λ t. inr t)
    (next_place-stops (λ p. is_some (marker_at s text p)) at (length text - at))
