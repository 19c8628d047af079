-- Places between characters.
use Rattle.std.proofs.Common.{◌≡◌, ℕ, zero, suc, ◌+◌, ◌-◌, ◌<◌, ◌≤◌, Bool, true, false, cond, eqb, length, drop, get_or, refl, ap, sym, ◌∙◌, arith, subst, length-drop, ⊎_elim, ◌==◌, lit<}
use Rattle.std.specs.Prelude.{◌||◌}
use Rattle.std.specs.Str.{IsUtf8, IsCharBoundary}
use Rattle.std.proofs.lemmas.Bool.{cases_lt, eqb-true, ne_eqb}
use Rattle.std.proofs.lemmas.List.{get_or_past, drop_all}
use Rattle.std.proofs.lemmas.Str.{IsCharBoundary-start, IsCharBoundary-after_ascii, IsCharBoundary-from_drop}
use Rattle.minijinja_syntax.specs.Texts.{Text}
use Rattle.minijinja_lexer.specs.Controls.{Absent, Remove, Preserve}
use Rattle.minijinja_syntax.specs.declared.syntax.StartMarker.{StartMarker}
use Rattle.minijinja_syntax.specs.declared.syntax.StartMarker.TheVariants as markers
use Rattle.minijinja_lexer.specs.Whitespace.{line_end_len, control_of, control_len, control_behind, begins_line}

-- a byte that isn't 0 is within the text
pub within : (bs : Text) (n : ℕ) → 0 < get_or bs n 0 → n < length bs
within bs n h = ⊎_elim (λ l. l) (λ p. let e : get_or bs n 0 ≡ 0 = get_or_past bs n 0 p in absurd (omega (arith, e))) (cases_lt n (length bs))

pub after_byte : (bs : Text) (n b : ℕ) → IsUtf8 bs → get_or bs n 0 ≡ b → 0 < b → b < 128 → IsCharBoundary bs (n + 1)
after_byte bs n b u e some low = IsCharBoundary-after_ascii bs n u (within bs n (omega (arith, e))) (omega (arith, e))

one_more : (bs : Text) (n b : ℕ) (t : Bool) → IsUtf8 bs → IsCharBoundary bs n → 0 < b → b < 128 → eqb (get_or bs n 0) b ≡ t → IsCharBoundary bs (n + cond t 1 0)
one_more bs n b true u h some low e = after_byte bs n b u (eqb-true (get_or bs n 0) b e) some low
one_more bs n b false u h some low e = let z : n + 0 ≡ n = omega arith in rw z h

pub line_end_boundary : (bs : Text) → IsUtf8 bs → IsCharBoundary bs (line_end_len bs)
line_end_boundary bs u =
    let r : ℕ = cond (eqb (get_or bs 0 0) 13) 1 0 in
    let first : IsCharBoundary bs (0 + r) = one_more bs 0 13 (eqb (get_or bs 0 0) 13) u (IsCharBoundary-start bs u) (lit< tt) (lit< tt) refl in
    let z : 0 + r ≡ r = omega arith in
    let first' : IsCharBoundary bs r = rw z at first in
    one_more bs r 10 (eqb (get_or bs r 0) 10) u first' (lit< tt) (lit< tt) refl

pub trim_start_boundary : (bs rest : Text) → IsUtf8 bs → IsUtf8 rest → (n : ℕ) → rest ≡ drop n bs → IsCharBoundary bs (length bs - length rest)
trim_start_boundary bs rest u ur n e =
    let l : length rest ≡ length bs - n = ap length e ∙ length-drop n bs in
    IsCharBoundary-from_drop bs (length bs - length rest) (omega arith)
    (⊎_elim
    (λ (h : n < length bs). let k : length bs - length rest ≡ n = omega (arith, l) in subst IsUtf8 (e ∙ ap (λ m. drop m bs) (sym k)) ur)
    (λ (h : length bs ≤ n). let k : length bs - length rest ≡ length bs = omega (arith, l) in subst IsUtf8 (e ∙ drop_all n bs h ∙ sym (drop_all (length bs) bs (omega arith)) ∙ ap (λ m. drop m bs) (sym k)) ur)
    (cases_lt n (length bs)))

-- after a control, if one stands there
pub control_boundary : (bs : Text) (n : ℕ) → IsUtf8 bs → IsCharBoundary bs n → IsCharBoundary bs (n + control_len (control_of (get_or bs n 0)))
control_boundary bs n u h = either (eqb (get_or bs n 0) 45) (eqb (get_or bs n 0) 43) refl refl
  where
    either : (t v : Bool) → eqb (get_or bs n 0) 45 ≡ t → eqb (get_or bs n 0) 43 ≡ v → IsCharBoundary bs (n + control_len (control_of (get_or bs n 0)))
    either true v e f = subst (λ x. IsCharBoundary bs (n + control_len x)) (sym (ap (λ t. cond t Remove (cond (eqb (get_or bs n 0) 43) Preserve Absent)) e)) (after_byte bs n 45 u (eqb-true (get_or bs n 0) 45 e) (lit< tt) (lit< tt))
    either false true e f = subst (λ x. IsCharBoundary bs (n + control_len x)) (sym (ap (λ t. cond t Remove (cond (eqb (get_or bs n 0) 43) Preserve Absent)) e ∙ ap (λ t. cond t Preserve Absent) f)) (after_byte bs n 43 u (eqb-true (get_or bs n 0) 43 f) (lit< tt) (lit< tt))
    either false false e f = subst (λ x. IsCharBoundary bs (n + control_len x)) (sym (ap (λ t. cond t Remove (cond (eqb (get_or bs n 0) 43) Preserve Absent)) e ∙ ap (λ t. cond t Preserve Absent) f)) (let z : n + 0 ≡ n = omega arith in rw z h)

-- where a line begins
pub line_boundary : (bs : Text) (n : ℕ) → IsUtf8 bs → begins_line bs n ≡ true → IsCharBoundary bs n
line_boundary bs zero u h = IsCharBoundary-start bs u
line_boundary bs (suc n) u h =
    let e : suc n - 1 ≡ n = omega arith in
    let h' : ((suc n == 0) || (get_or bs n 0 == 10)) ≡ true = rw e at h in
    let f : n + 1 ≡ suc n = omega arith in
    let g : (suc n == 0) ≡ false = ne_eqb (suc n) 0 (λ q. absurd (omega (arith, q))) in
    let z : (get_or bs n 0 == 10) ≡ ((suc n == 0) || (get_or bs n 0 == 10)) = sym (ap (λ w. w || (get_or bs n 0 == 10)) g) in
    rw (← f) (after_byte bs n 10 u (eqb-true (get_or bs n 0) 10 (z ∙ h')) (lit< tt) (lit< tt))

-- after a marker's control
pub behind_boundary : (bs : Text) (n : ℕ) (m : StartMarker) → IsUtf8 bs → IsCharBoundary bs n → IsCharBoundary bs (n + control_len (control_behind bs n m))
behind_boundary bs n markers.Variable u h = control_boundary bs n u h
behind_boundary bs n markers.Block u h = control_boundary bs n u h
behind_boundary bs n markers.Comment u h = control_boundary bs n u h
behind_boundary bs n markers.LineComment u h = control_boundary bs n u h
behind_boundary bs n markers.LineStatement u h = let z : n + 0 ≡ n = omega arith in rw z h
