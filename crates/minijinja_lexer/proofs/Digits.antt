-- The value that the digits of a number write, read from the left.
use Rattle.std.proofs.Common.{◌≡◌, ℕ, zero, suc, ◌+◌, ◌*◌, ◌<◌, ◌≤◌, ◌≢◌, Bool, true, false, cond, [], ◌∷◌, length, drop, get_or, refl, ap, sym, ◌∙◌, arith, subst, ne_eqb, le-mul_of_pos_right}
use Rattle.std.proofs.Math.Seq.{drop-cons}
use Rattle.std.specs.Prelude.{not, ◌==◌}
use Rattle.std.specs.Char.{digit_value}
use Rattle.std.specs.Str.{IsUtf8, IsCharBoundary}
use Rattle.std.specs.Str.Parse.{digits_value, digits_value_after}
use Rattle.std.proofs.lemmas.Bool.Decides.{nat_tests}
use Rattle.std.proofs.lemmas.List.Sums.{prefix_len-le-length}
use Rattle.std.proofs.lemmas.Str.{IsUtf8-drop, IsCharBoundary-after_ascii, IsCharBoundary-start, IsCharBoundary-from_rest}
use Rattle.std.proofs.Math.ListN.{drop_of_length-le}
use Rattle.minijinja_syntax.specs.Texts.{Text}
use Rattle.minijinja_lexer.specs.Numbers.{digits_of, is_taken, taken_len, radix_at, radix_of, prefix_size, number_len}
use Rattle.minijinja_lexer.proofs.Scanning.{ascii_run, get_some}

value_grows : (radix : ℕ) → 1 ≤ radix → (n : ℕ) (ds : Text) → n ≤ digits_value_after radix n ds
value_grows radix some n [] = omega arith
value_grows radix some n (c ∷ cs) = omega (arith, le-mul_of_pos_right {m = radix} n some, value_grows radix some (n * radix + digit_value c) cs)

digits_of_digit : (b : ℕ) (bs : Text) → b ≢ 95 → digits_of (b ∷ bs) ≡ b ∷ digits_of bs
digits_of_digit b bs n = ap (λ t. cond (not t) (b ∷ digits_of bs) (digits_of bs)) (ne_eqb b 95 n)

-- the digits read so far write no more than all digits do
pub value_so_far : (radix value k : ℕ) (taken : Text) → 1 ≤ radix → k < length taken → get_or taken k 0 ≢ 95
    → digits_value radix (digits_of taken) ≡ digits_value_after radix value (digits_of (drop k taken))
    → value * radix + digit_value (get_or taken k 0) ≤ digits_value radix (digits_of taken)
value_so_far radix value k taken some l n e =
    let b : ℕ = get_or taken k 0 in
    let rest : Text = digits_of (drop (suc k) taken) in
    let there : digits_of (drop k taken) ≡ b ∷ rest = ap digits_of (drop-cons taken k 0 l) ∙ digits_of_digit b (drop (suc k) taken) n in
    let is : digits_value radix (digits_of taken) ≡ digits_value_after radix (value * radix + digit_value b) rest = e ∙ ap (digits_value_after radix value) there in
    omega (arith, is, value_grows radix some (value * radix + digit_value b) rest)

taken_low : (radix b : ℕ) → is_taken radix b ≡ true → b < 128
taken_low radix b h = grind (arith, nat_tests)

taken_boundary : (radix : ℕ) (text : Text) → IsUtf8 text → IsCharBoundary text (taken_len radix text)
taken_boundary radix text u = ascii_run (is_taken radix) text (taken_low radix) u (prefix_len-le-length (is_taken radix) text)

-- after the last byte the digits read write what all digits do
pub value_whole : (radix value k : ℕ) (taken : Text) → length taken ≤ k
    → digits_value radix (digits_of taken) ≡ digits_value_after radix value (digits_of (drop k taken)) → digits_value radix (digits_of taken) ≡ value
value_whole radix value k taken le e = e ∙ ap (λ t. digits_value_after radix value (digits_of t)) (drop_of_length-le taken le)

mark_some : (m : ℕ) → prefix_size (radix_of m) ≢ 0 → 0 < m
mark_some m n = grind (arith, nat_tests)

mark_low : (m : ℕ) → prefix_size (radix_of m) ≢ 0 → m < 128
mark_low m n = grind (arith, nat_tests)

prefix_two : (radix : ℕ) → prefix_size radix ≢ 0 → prefix_size radix ≡ 2
prefix_two radix n = grind (arith, nat_tests)

prefix_mark : (t : Bool) (m : ℕ) → prefix_size (cond t (radix_of m) 10) ≢ 0 → (0 < m) × (m < 128)
prefix_mark true m n = (mark_some m n, mark_low m n)
prefix_mark false m n = absurd (n refl)

-- a prefix is two ASCII bytes
prefix_boundary : (text : Text) → IsUtf8 text → IsCharBoundary text (prefix_size (radix_at text))
prefix_boundary text u = at (prefix_size (radix_at text)) refl
  where
    at : (n : ℕ) → prefix_size (radix_at text) ≡ n → IsCharBoundary text n
    at zero e = IsCharBoundary-start text u
    at (suc k) e =
        let n : prefix_size (radix_at text) ≢ 0 = λ h. omega (arith, e, h) in
        let m : (0 < get_or text 1 0) × (get_or text 1 0 < 128) = prefix_mark (get_or text 0 0 == 48) (get_or text 1 0) n in
        let f : 1 + 1 ≡ suc k = sym (prefix_two (radix_at text) n) ∙ e in
        subst (λ i. IsCharBoundary text i) f (IsCharBoundary-after_ascii text 1 u (get_some text 1 m.0) m.1)

-- a number ends between characters
pub number_boundary : (text : Text) → IsUtf8 text → IsCharBoundary text (number_len text)
number_boundary text u =
    let r : ℕ = radix_at text in
    let p : ℕ = prefix_size r in
    let b = prefix_boundary text u in
    IsCharBoundary-from_rest text p (taken_len r (drop p text)) b.0 (taken_boundary r (drop p text) (IsUtf8-drop text p u b))
