-- What the inside of a string means, from one escape to the next.
use Rattle.std.proofs.Common.{◌≡◌, ℕ, zero, suc, ◌+◌, ◌-◌, ◌<◌, ◌≤◌, ◌≢◌, Bool, true, false, cond, not, [], ◌∷◌, ◌++◌, length, take, drop, get_or, refl, ap, sym, ◌∙◌, arith, subst, append_assoc, append-nil, eq-eqb, ne_eqb, get_or-drop, get_or-take, length-drop, Option, Some, None}
use Rattle.std.specs.Prelude.{◌==◌, ◌&&◌, nat_le, is_some, IsSome, encode_utf8}
use Rattle.std.specs.List.{prefix_len, list_all}
use Rattle.std.specs.Char.{digit_value, is_digit}
use Rattle.std.specs.Str.Parse.{digits_value}
use Rattle.std.proofs.Math.Seq.{drop-cons}
use Rattle.std.proofs.Math.ListN.{drop_of_length-le}
use Rattle.std.proofs.lemmas.List.{length-take-le, drop-drop}
use Rattle.std.specs.Str.{IsUtf8, IsCharBoundary}
use Rattle.std.proofs.lemmas.Str.{IsUtf8-drop, IsCharBoundary-start, IsCharBoundary-from_rest}
use Rattle.std.proofs.lemmas.Bool.{le-ltb}
use Rattle.std.proofs.lemmas.Bool.Decides.{nat_tests}
use Rattle.std.specs.Option.{option_map, option_and_then}
use Rattle.minijinja_syntax.specs.Texts.{Text}
use Rattle.minijinja_lexer.specs.private.AsciiEnds.{EndsInAscii}
use Rattle.minijinja_lexer.specs.Escapes.{unescaped, unescaped_from, escape, simple_escape, unit_escape, unit_char, hex_unit}
use Rattle.minijinja_lexer.proofs.Scanning.{ascii_end}

-- the meaning with these bytes in front
abbrev pub after : Text → Option Text → Option Text
after done m = option_map (λ t. done ++ t) m

-- the bytes that are no backslash
abbrev pub is_plain : ℕ → Bool
is_plain b = not (b == 92)

after_nothing : (m : Option Text) → m ≡ after [] m
after_nothing None = refl
after_nothing (Some t) = refl

pub after_after : (a b : Text) (m : Option Text) → after a (after b m) ≡ after (a ++ b) m
after_after a b None = refl
after_after a b (Some t) = ap (λ s. Some s) (sym (append_assoc a b t))

pub skip_drop : (k : ℕ) (bs : Text) → unescaped_from k bs ≡ unescaped_from 0 (drop k bs)
skip_drop zero [] = refl
skip_drop (suc k) [] = refl
skip_drop zero (b ∷ bs) = refl
skip_drop (suc k) (b ∷ bs) = skip_drop k bs

pub plain_byte : (b : ℕ) (bs : Text) → (b == 92) ≡ false → unescaped_from 0 (b ∷ bs) ≡ after (b ∷ []) (unescaped_from 0 bs)
plain_byte b bs e = ap (λ t. cond t (option_and_then (λ (e : ℕ × ℕ). after (encode_utf8 e.0) (unescaped_from (e.1 - 1) bs)) (escape (b ∷ bs))) (option_map (λ t. b ∷ t) (unescaped_from 0 bs))) e

pub escape_byte : (b : ℕ) (bs : Text) → (b == 92) ≡ true → unescaped_from 0 (b ∷ bs) ≡ option_and_then (λ (e : ℕ × ℕ). after (encode_utf8 e.0) (unescaped_from (e.1 - 1) bs)) (escape (b ∷ bs))
escape_byte b bs e = ap (λ t. cond t (option_and_then (λ (e : ℕ × ℕ). after (encode_utf8 e.0) (unescaped_from (e.1 - 1) bs)) (escape (b ∷ bs))) (option_map (λ t. b ∷ t) (unescaped_from 0 bs))) e

-- an escape is its character
pub escape_means : (text : Text) (c n : ℕ) → get_or text 0 0 ≡ 92 → escape text ≡ Some (c, n) → 0 < n → unescaped_from 0 text ≡ after (encode_utf8 c) (unescaped_from 0 (drop n text))
escape_means [] c n b e some = absurd (omega (arith, b))
escape_means (b ∷ bs) c zero h e some = absurd (omega (arith, some))
escape_means (b ∷ bs) c (suc k) h e some =
    let f : suc k - 1 ≡ k = omega arith in
    escape_byte b bs (eq-eqb b 92 h)
    ∙ ap (option_and_then (λ (e : ℕ × ℕ). after (encode_utf8 e.0) (unescaped_from (e.1 - 1) bs))) e
    ∙ ap (λ j. after (encode_utf8 c) (unescaped_from j bs)) f
    ∙ ap (after (encode_utf8 c)) (skip_drop k bs)

-- a bad escape means nothing
pub escape_means_none : (text : Text) → get_or text 0 0 ≡ 92 → escape text ≡ None → unescaped_from 0 text ≡ None
escape_means_none [] b e = absurd (omega (arith, b))
escape_means_none (b ∷ bs) h e = escape_byte b bs (eq-eqb b 92 h) ∙ ap (option_and_then (λ (e : ℕ × ℕ). after (encode_utf8 e.0) (unescaped_from (e.1 - 1) bs))) e

-- bytes that are no backslash are themselves
pub plain_means : (text : Text) → unescaped_from 0 text ≡ after (take (prefix_len is_plain text) text) (unescaped_from 0 (drop (prefix_len is_plain text) text))
plain_means [] = refl
plain_means (b ∷ bs) = step (b == 92) refl (plain_means bs)
  where
    step : (t : Bool) → (b == 92) ≡ t → unescaped_from 0 bs ≡ after (take (prefix_len is_plain bs) bs) (unescaped_from 0 (drop (prefix_len is_plain bs) bs)) →
        let n : ℕ = cond (not t) (1 + prefix_len is_plain bs) 0 in unescaped_from 0 (b ∷ bs) ≡ after (take n (b ∷ bs)) (unescaped_from 0 (drop n (b ∷ bs)))
    step true e rest = after_nothing (unescaped_from 0 (b ∷ bs))
    step false e rest =
        let m : ℕ = prefix_len is_plain bs in
        let f : suc m ≡ 1 + m = omega arith in
        subst (λ n. unescaped_from 0 (b ∷ bs) ≡ after (take n (b ∷ bs)) (unescaped_from 0 (drop n (b ∷ bs)))) f
        (plain_byte b bs e ∙ ap (after (b ∷ [])) rest ∙ after_after (b ∷ []) (take m bs) (unescaped_from 0 (drop m bs)))

some_after : (done : Text) (m : Option Text) → is_some (after done m) ≡ is_some m
some_after done None = refl
some_after done (Some t) = refl

-- what is an escape begins with a backslash
escape_begins : (text : Text) (e : ℕ × ℕ) → escape text ≡ Some e → get_or text 0 0 ≡ 92
escape_begins text e h = at (get_or text 0 0 == 92) refl
  where
    at : (t : Bool) → (get_or text 0 0 == 92) ≡ t → get_or text 0 0 ≡ 92
    at true f = grind (arith, nat_tests)
    at false f = let none : escape text ≡ None = ap (λ t. cond (not t) None (cond (get_or text 1 0 == 117) (option_and_then (unit_char (drop 6 text)) (unit_escape text)) (option_map (λ c. (c, 2)) (simple_escape (get_or text 1 0))))) f in cc

drop_front : (at : ℕ) (inside : Text) → get_or (drop at inside) 0 0 ≡ get_or inside at 0
drop_front at inside = let e : at + 0 ≡ at = omega arith in get_or-drop at inside 0 0 ∙ ap (λ i. get_or inside i 0) e

past_end : (at : ℕ) (inside : Text) → length inside ≤ at → unescaped_from 0 (drop at inside) ≡ Some []
past_end at inside le = ap (unescaped_from 0) (drop_of_length-le inside le)

module _ (inside : Text) (at c n : ℕ) (is : escape (drop at inside) ≡ Some (c, n)) (ends : EndsInAscii (drop at inside) n) where
  past_escape : unescaped_from 0 (drop at inside) ≡ after (encode_utf8 c) (unescaped_from 0 (drop (at + n) inside))
  past_escape = escape_means (drop at inside) c n (escape_begins (drop at inside) (c, n) is) is ends.some ∙ ap (λ t. after (encode_utf8 c) (unescaped_from 0 t)) (drop-drop n at inside)

  past_within : at ≤ length inside → at + n ≤ length inside
  past_within le = omega (arith, ends.within, length-drop at inside)

-- ---- whether the inside has a meaning

-- what is left from a place on has a meaning where the whole has one
pub record SameMeaning (inside : Text) (at : ℕ) : Type 0 where
  pub within : at ≤ length inside
  pub same : is_some (unescaped_from 0 inside) ≡ is_some (unescaped_from 0 (drop at inside))

module _ (inside : Text) (at : ℕ) (m : SameMeaning inside at) where
  pub same_past_escape : (c n : ℕ) → escape (drop at inside) ≡ Some (c, n) → EndsInAscii (drop at inside) n → SameMeaning inside (at + n)
  same_past_escape c n is ends = record {
    within = past_within inside at c n is ends m.within;
    same = m.same ∙ ap (λ o. is_some o) (past_escape inside at c n is ends) ∙ some_after (encode_utf8 c) (unescaped_from 0 (drop (at + n) inside));
  }

  pub same_past_byte : at < length inside → get_or inside at 0 ≢ 92 → SameMeaning inside (at + 1)
  same_past_byte l other =
      let f : suc at ≡ at + 1 = omega arith in
      let b : ℕ = get_or inside at 0 in
      let rest : Text = drop (suc at) inside in
      record {
        within = omega arith;
        same = m.same ∙ ap (λ t. is_some (unescaped_from 0 t)) (drop-cons inside at 0 l) ∙ ap (λ o. is_some o) (plain_byte b rest (ne_eqb b 92 other))
            ∙ some_after (b ∷ []) (unescaped_from 0 rest) ∙ ap (λ k. is_some (unescaped_from 0 (drop k inside))) f;
      }

  pub same_bad : get_or inside at 0 ≡ 92 → escape (drop at inside) ≡ None → false ≡ is_some (unescaped inside)
  unfolding unescaped
  same_bad b e = sym (m.same ∙ ap (λ o. is_some o) (escape_means_none (drop at inside) (drop_front at inside ∙ b) e))

  pub same_end : length inside ≤ at → true ≡ is_some (unescaped inside)
  unfolding unescaped
  same_end le = sym (m.same ∙ ap (λ o. is_some o) (past_end at inside le))

-- ---- what the inside means

-- the inside means these bytes and then what is left from a place on
pub record Decoded (inside done : Text) (at : ℕ) : Type 0 where
  pub boundary : IsCharBoundary inside at
  pub means : unescaped_from 0 inside ≡ after done (unescaped_from 0 (drop at inside))

pub decoded_start : (inside done : Text) → IsUtf8 inside → done ≡ [] → Decoded inside done 0
decoded_start inside done u e = record {
  boundary = IsCharBoundary-start inside u;
  means = after_nothing (unescaped_from 0 inside) ∙ ap (λ d. after d (unescaped_from 0 inside)) (sym e);
}

module _ (inside done : Text) (at : ℕ) (d : Decoded inside done at) where
  pub decoded_plain : (rest plain : Text) (n : ℕ) → rest ≡ drop at inside → IsCharBoundary rest n → n ≡ prefix_len is_plain rest → plain ≡ take n rest → Decoded inside (done ++ plain) (at + n)
  decoded_plain rest plain n there b is e =
      let run : unescaped_from 0 rest ≡ after plain (unescaped_from 0 (drop n rest)) = plain_means rest ∙ ap (λ k. after (take k rest) (unescaped_from 0 (drop k rest))) (sym is) ∙ ap (λ p. after p (unescaped_from 0 (drop n rest))) (sym e) in
      let left : drop n rest ≡ drop (at + n) inside = ap (drop n) there ∙ drop-drop n at inside in
      record {
        boundary = IsCharBoundary-from_rest inside at n d.boundary.0 (subst (λ r. IsCharBoundary r n) there b);
        means = d.means ∙ ap (λ r. after done (unescaped_from 0 r)) (sym there) ∙ ap (after done) run ∙ after_after done plain (unescaped_from 0 (drop n rest)) ∙ ap (λ r. after (done ++ plain) (unescaped_from 0 r)) left;
      }

  pub decoded_escape : (c n : ℕ) → IsUtf8 inside → escape (drop at inside) ≡ Some (c, n) → EndsInAscii (drop at inside) n → Decoded inside (done ++ encode_utf8 c) (at + n)
  decoded_escape c n u is ends = record {
    boundary = IsCharBoundary-from_rest inside at n d.boundary.0 (ascii_end (drop at inside) n (IsUtf8-drop inside at u d.boundary) ends);
    means = d.means ∙ ap (after done) (past_escape inside at c n is ends) ∙ after_after done (encode_utf8 c) (unescaped_from 0 (drop (at + n) inside));
  }

  -- a backslash with no escape would leave the inside without a meaning
  pub not_bad : IsSome (unescaped inside) → get_or inside at 0 ≡ 92 → escape (drop at inside) ≡ None → ⊥
  unfolding unescaped
  not_bad some b e =
      let none : unescaped_from 0 inside ≡ None = d.means ∙ ap (after done) (escape_means_none (drop at inside) (drop_front at inside ∙ b) e) in
      let never : IsSome {T = Text} None = subst (λ o. IsSome o) none some in cc

  -- so some byte is passed where no escape follows
  pub plain_moves : (rest : Text) (n : ℕ) → rest ≡ drop at inside → IsSome (unescaped inside) → at < length inside → (n < length rest → get_or rest n 0 ≡ 92) → escape (drop (at + n) inside) ≡ None → 0 < n
  plain_moves rest zero there some l stops bad =
      let same : at + 0 ≡ at = omega arith in
      let left : 0 < length rest = omega (arith, ap length there, length-drop at inside, l) in
      absurd (not_bad some (sym (ap (λ t. get_or t 0 0) there ∙ drop_front at inside) ∙ stops left) (ap (λ k. escape (drop k inside)) (sym same) ∙ bad))
  plain_moves rest (suc n) there some l stops bad = omega arith

  pub decoded_end : length inside ≤ at → unescaped inside ≡ Some done
  unfolding unescaped
  decoded_end le = d.means ∙ ap (after done) (past_end at inside le) ∙ ap (λ t. Some t) (append-nil done)

-- ---- units

and_false : (b c : Bool) → c ≡ false → (b && c) ≡ false
and_false true c e = e
and_false false c e = refl

all_fails : (p : ℕ → Bool) (xs : Text) (i : ℕ) → i < length xs → p (get_or xs i 0) ≡ false → list_all p xs ≡ false
all_fails p [] i l e = absurd (omega (arith, l))
all_fails p (x ∷ xs) zero l e = ap (λ t. t && list_all p xs) e
all_fails p (x ∷ xs) (suc i) l e = and_false (p x) (list_all p xs) (all_fails p xs i (omega arith) e)

-- one of four bytes is no hexadecimal digit
pub no_hex_unit : (text : Text) (i : ℕ) → 4 ≤ length text → i < 4 → 16 ≤ digit_value (get_or text i 0) → None ≡ hex_unit text
no_hex_unit text i four l large =
    let len : length (take 4 text) ≡ 4 = length-take-le 4 text four in
    let bad : is_digit (get_or (take 4 text) i 0) 16 ≡ false = ap (λ b. is_digit b 16) (get_or-take 4 text i 0 l) ∙ le-ltb (digit_value (get_or text i 0)) 16 large in
    sym (ap (λ t. cond t (Some (digits_value 16 (take 4 text))) None) (and_false (nat_le 4 (length text)) _ (all_fails (λ b. is_digit b 16) (take 4 text) i (omega (arith, len, l)) bad)))
