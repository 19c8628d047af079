-- Where a string ends.
use Rattle.std.proofs.Common.{◌≡◌, ℕ, ◌+◌, ◌-◌, ◌<◌, ◌≤◌, ◌≢◌, Bool, true, false, cond, [], ◌∷◌, length, take, drop, get_or, refl, ap, sym, ◌∙◌, arith, subst, length-drop, get_or-drop, eq-eqb, ne_eqb, nat_eq}
use Rattle.std.proofs.lemmas.List.{drop-drop}
use Rattle.minijinja_syntax.specs.Texts.{Text}
use Rattle.minijinja_syntax.specs.Positions.{slice}
use Rattle.std.specs.Prelude.{not, nat_lt, is_some, IsSome, Ok, Err}
use Rattle.std.specs.Str.{IsUtf8, IsCharBoundary}
use Rattle.std.proofs.lemmas.Bool.{lt-ltb, le-ltb}
use Rattle.minijinja_lexer.specs.Escapes.{unescaped}
use Rattle.minijinja_lexer.specs.Quoted.{quoted_len, quoted_inside, quoted, has_escapes}
use Rattle.minijinja_lexer.specs.private.TokenPlaces.{ScanPlaces, InsidePlaces}
use Rattle.minijinja_lexer.specs.Sorts.{Str, String}
use Rattle.minijinja_lexer.specs.Faults.{UnterminatedString, BadEscape}
use Rattle.minijinja_lexer.proofs.Scanning.{quoted_end, quoted_inside_places}

-- the end of the string stands after the first `len` bytes
pub record Before (quote : ℕ) (text : Text) (len : ℕ) : Type 0 where
  pub within : len ≤ length text
  pub left : quoted_len quote text ≡ len + quoted_len quote (drop len text)

at_quote : (q : ℕ) (text : Text) → 0 < length text → get_or text 0 0 ≡ q → quoted_len q text ≡ 0
at_quote q [] some e = absurd (omega (arith, some))
at_quote q (b ∷ []) some e = ap (λ t. cond t 0 1) (eq-eqb b q e)
at_quote q (b ∷ c ∷ rest) some e = ap (λ t. cond t 0 (cond (nat_eq b 92) (2 + quoted_len q rest) (1 + quoted_len q (c ∷ rest)))) (eq-eqb b q e)

at_backslash : (q : ℕ) (text : Text) → 1 < length text → get_or text 0 0 ≢ q → get_or text 0 0 ≡ 92 → quoted_len q text ≡ 2 + quoted_len q (drop 2 text)
at_backslash q [] some n e = absurd (omega (arith, some))
at_backslash q (b ∷ []) some n e = absurd (omega (arith, some))
at_backslash q (b ∷ c ∷ rest) some n e =
    ap (λ t. cond t 0 (cond (nat_eq b 92) (2 + quoted_len q rest) (1 + quoted_len q (c ∷ rest)))) (ne_eqb b q n)
    ∙ ap (λ t. cond t (2 + quoted_len q rest) (1 + quoted_len q (c ∷ rest))) (eq-eqb b 92 e)

at_other : (q : ℕ) (text : Text) → 0 < length text → get_or text 0 0 ≢ q → (1 < length text → get_or text 0 0 ≢ 92) → quoted_len q text ≡ 1 + quoted_len q (drop 1 text)
at_other q [] some n m = absurd (omega (arith, some))
at_other q (b ∷ []) some n m = ap (λ t. cond t 0 1) (ne_eqb b q n)
at_other q (b ∷ c ∷ rest) some n m =
    ap (λ t. cond t 0 (cond (nat_eq b 92) (2 + quoted_len q rest) (1 + quoted_len q (c ∷ rest)))) (ne_eqb b q n)
    ∙ ap (λ t. cond t (2 + quoted_len q rest) (1 + quoted_len q (c ∷ rest))) (ne_eqb b 92 (m (omega arith)))

module _ (q : ℕ) (text : Text) (len : ℕ) (before : Before q text len) where
  rest_len : length (drop len text) ≡ length text - len
  rest_len = length-drop len text

  rest_front : get_or (drop len text) 0 0 ≡ get_or text len 0
  rest_front = get_or-drop len text 0 0 ∙ ap (λ i. get_or text i 0) (let e : len + 0 ≡ len = omega arith in e)

  further : (k : ℕ) → len + k ≤ length text → quoted_len q (drop len text) ≡ k + quoted_len q (drop k (drop len text)) → Before q text (len + k)
  further k le e = let d = ap (quoted_len q) (drop-drop k len text) in record { within = le; left = omega (arith, before.left, e, d) }

  pub quoted_stop : len < length text → get_or text len 0 ≡ q → len ≡ quoted_len q text
  quoted_stop l e = let z = at_quote q (drop len text) (omega (arith, rest_len)) (rest_front ∙ e) in omega (arith, before.left, z)

  pub past_backslash : len + 1 < length text → get_or text len 0 ≢ q → get_or text len 0 ≡ 92 → Before q text (len + 2)
  past_backslash l n e = further 2 (omega arith) (at_backslash q (drop len text) (omega (arith, rest_len)) (λ h. n (sym rest_front ∙ h)) (rest_front ∙ e))

  pub past_other : len < length text → get_or text len 0 ≢ q → (len + 1 < length text → get_or text len 0 ≢ 92) → Before q text (len + 1)
  past_other l n m = further 1 (omega arith) (at_other q (drop len text) (omega (arith, rest_len)) (λ h. n (sym rest_front ∙ h)) (λ k h. m (omega (arith, k, rest_len)) (sym rest_front ∙ h)))

-- ---- the string

module _ (text rest : Text) (n : ℕ) (there : rest ≡ drop 1 text) (is : n ≡ quoted_len (get_or text 0 0) rest) where
  pub quoted_found : (inside : Text) → n < length rest → inside ≡ take n rest → quoted_inside inside n ≡ quoted text
  unfolding quoted
  quoted_found inside l e =
      let q : ℕ = get_or text 0 0 in
      let len : n ≡ quoted_len q (drop 1 text) = is ∙ ap (quoted_len q) there in
      let cut : inside ≡ take n (drop 1 text) = e ∙ ap (take n) there in
      let short : nat_lt n (length (drop 1 text)) ≡ true = lt-ltb n (length (drop 1 text)) (omega (arith, ap length there, l)) in
      ap (λ t. quoted_inside t n) cut
      ∙ sym (ap (λ t. cond t (quoted_inside (take n (drop 1 text)) n) (Err (UnterminatedString, length text))) short)
      ∙ ap (λ m. cond (nat_lt m (length (drop 1 text))) (quoted_inside (take m (drop 1 text)) m) (Err (UnterminatedString, length text))) len

  pub quoted_open : n ≡ length rest → Err (UnterminatedString, length text) ≡ quoted text
  unfolding quoted
  quoted_open e =
      let q : ℕ = get_or text 0 0 in
      let len : n ≡ quoted_len q (drop 1 text) = is ∙ ap (quoted_len q) there in
      let long : nat_lt n (length (drop 1 text)) ≡ false = le-ltb n (length (drop 1 text)) (omega (arith, ap length there, e)) in
      sym (ap (λ t. cond t (quoted_inside (take n (drop 1 text)) n) (Err (UnterminatedString, length text))) long)
      ∙ ap (λ m. cond (nat_lt m (length (drop 1 text))) (quoted_inside (take m (drop 1 text)) m) (Err (UnterminatedString, length text))) len

-- its inside and its end are between characters
pub quoted_places : (text rest inside : Text) (n q : ℕ) → IsUtf8 text → rest ≡ drop 1 text → n < length rest → get_or rest n 0 ≡ q → q < 128 → get_or text 0 0 ≡ q → inside ≡ take n rest → ScanPlaces text 0 (quoted_inside inside n)
quoted_places text rest inside n q u e h f low g cut = at (has_escapes inside) (is_some (unescaped inside)) refl
  where
    b : IsCharBoundary text (n + 2)
    b = quoted_end text rest n q u e h f low

    i : InsidePlaces text 0 (n + 2)
    i = let p = quoted_inside_places text rest n q u e h f low g in record { ordered = p.0; start_boundary = p.1; stop_boundary = p.2 }

    there : inside ≡ slice text (0 + 1) (n + 2 - 1)
    there = let m : n ≡ n + 2 - 1 - (0 + 1) = omega arith in cut ∙ ap (take n) e ∙ ap (λ k. take k (drop 1 text)) m

    at : (escapes right : Bool) → is_some (unescaped inside) ≡ right → ScanPlaces text 0 (cond (not escapes) (Ok (Str, n + 2)) (cond right (Ok (String, n + 2)) (Err (BadEscape, n + 2))))
    at false right _ = record { some = omega arith; boundary = b; inside = i }
    at true true r = record { some = omega arith; boundary = b; inside = (i, subst (λ t. IsSome (unescaped t)) there r) }
    at true false _ = record { onwards = omega arith; boundary = b }
