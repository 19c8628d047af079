-- The characters of a text, the last one first.
use lib.Utf8.{encode}
use Rattle.std.proofs.Common.{◌≡◌, ℕ, ◌+◌, ◌/◌, ◌%◌, ◌≤◌, Bool, true, false, cond, ltb, List, [], ◌∷◌, ◌++◌, length, take, get_or, refl, ap, sym, ◌∙◌, arith, subst, length-append, append-nil}
use Rattle.std.specs.Prelude.{reverse}
use Rattle.std.specs.Str.{IsUtf8, IsCharBoundary, chars}
use Rattle.std.specs.Str.Iter.{chars_rest, chars_steps_back}
use Rattle.std.specs.Iterator.{AlwaysYields}
use Rattle.std.specs.Iterator.Adapters.{rev_source, rev_steps}
use Rattle.std.specs.declared.iter.Rev.{Rev}
use Rattle.std.specs.declared.str.Chars.{Chars}
use Rattle.std.proofs.lemmas.Iterator.{YieldsList}
use Rattle.std.proofs.lemmas.Bool.{ltb-true}
use Rattle.std.proofs.lemmas.List.{reverse-append, get_or-append-add, take-append-le, take_all, nil_from_length}
use Rattle.std.proofs.lemmas.Str.{IsUtf8-take, chars_from_encodes, encodes-chars, encodes-append, chars-nil}
use Rattle.minijinja_syntax.specs.Texts.{Text}

-- the first byte continues no character
abbrev IsLed : Text → Type 0
IsLed bs = 128 ≤ get_or bs 0 0 → 192 ≤ get_or bs 0 0

lead : (c : ℕ) → IsLed (encode c)
unfolding encode
lead c = either (ltb c 128) refl (ltb c 2048) (ltb c 65536)
  where
    either : (t : Bool) → ltb c 128 ≡ t → (u v : Bool) → IsLed (cond t (c ∷ []) (cond u ((192 + c / 64) ∷ (128 + c % 64) ∷ []) (cond v ((224 + c / 4096) ∷ (128 + c / 64 % 64) ∷ (128 + c % 64) ∷ []) ((240 + c / 262144) ∷ (128 + c / 4096 % 64) ∷ (128 + c / 64 % 64) ∷ (128 + c % 64) ∷ []))))
    either true e u v h = let l = ltb-true c 128 e in absurd (omega (arith, h, l))
    either false e true v h = omega arith
    either false e false true h = omega arith
    either false e false false h = omega arith

-- a text that ends with a character
pub last_char : (bs rest : Text) (c : ℕ) → IsUtf8 bs → bs ≡ rest ++ encode c → IsUtf8 rest × (chars bs ≡ chars rest ++ (c ∷ []))
last_char bs rest c u e =
    let n : length bs ≡ length rest + length (encode c) = ap length e ∙ length-append rest (encode c) in
    let first : get_or bs (length rest + 0) 0 ≡ get_or (encode c) 0 0 = ap (λ l. get_or l (length rest + 0) 0) e ∙ get_or-append-add rest (encode c) 0 0 in
    let z : length rest + 0 ≡ length rest = omega arith in
    let first' : get_or bs (length rest) 0 ≡ get_or (encode c) 0 0 = rw z at first in
    let b : IsCharBoundary bs (length rest) = (omega arith, λ l a. let k = lead c (omega arith) in omega arith) in
    let front : take (length rest) bs ≡ rest = ap (take (length rest)) e ∙ take-append-le (length rest) rest (encode c) (omega arith) ∙ take_all (length rest) rest (omega arith) in
    let ur : IsUtf8 rest = subst IsUtf8 front (IsUtf8-take bs (length rest) u b) in
    (ur, sym (chars_from_encodes (chars rest ++ (c ∷ [])) bs u (encodes-append (chars rest) (c ∷ []) ∙ ap (λ l. l ++ (encode c ++ [])) (encodes-chars rest ur) ∙ ap (λ l. rest ++ l) (append-nil (encode c)) ∙ sym e)))

backs : (cs : List ℕ) (s : Rev Chars) → IsUtf8 (chars_rest (rev_source s)) → reverse (chars (chars_rest (rev_source s))) ≡ cs → AlwaysYields (rev_steps chars_steps_back) (λ c. c) s cs
backs [] s u e = λ x j p.
    let k = last_char (chars_rest (rev_source s)) (chars_rest (rev_source j)) x u p in
    let r : x ∷ reverse (chars (chars_rest (rev_source j))) ≡ [] = sym (ap reverse k.1 ∙ reverse-append (chars (chars_rest (rev_source j))) (x ∷ [])) ∙ e in
    cc
backs (c ∷ cs) s u e = (
  (λ j p. let r : [] ≡ c ∷ cs = sym (ap (λ l. reverse (chars l)) (nil_from_length (chars_rest (rev_source s)) p.0) ∙ ap reverse chars-nil) ∙ e in cc),
  λ x j p.
      let k = last_char (chars_rest (rev_source s)) (chars_rest (rev_source j)) x u p in
      let r : x ∷ reverse (chars (chars_rest (rev_source j))) ≡ c ∷ cs = sym (ap reverse k.1 ∙ reverse-append (chars (chars_rest (rev_source j))) (x ∷ [])) ∙ e in
      (cc, backs cs j k.0 cc),
)

pub YieldsList-from_rev_chars : {s : Rev Chars} (bs : Text) → IsUtf8 bs → chars_rest (rev_source s) ≡ bs → YieldsList (rev_steps chars_steps_back) (λ c. c) s (reverse (chars bs))
YieldsList-from_rev_chars {s} bs u e = record { runs = backs (reverse (chars bs)) s (subst IsUtf8 (sym e) u) (ap (λ l. reverse (chars l)) e) }
