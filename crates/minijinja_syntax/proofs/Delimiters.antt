-- A delimiter in a text begins and ends between characters.
use Rattle.std.proofs.Common.{◌≡◌, ℕ, ◌+◌, ◌<◌, ◌≤◌, true, false, List, [], ◌∷◌, ◌++◌, length, take, drop, get_or, refl, ap, sym, ◌∙◌, arith, subst, append_assoc, length-drop, length-append, ⊎_elim}
use Rattle.std.specs.Prelude.{nat_eq}
use Rattle.std.specs.List.{starts_with}
use Rattle.std.proofs.lemmas.Bool.{cases_lt}
use lib.Pointwise.{bytes_decides}
use Rattle.std.proofs.lemmas.List.{take-append-drop, drop-drop, drop_all}
use Rattle.std.proofs.lemmas.List.Prefix.{at_reads}
use Rattle.std.specs.Str.{IsUtf8, IsCharBoundary, encode_utf8_all}
use Rattle.std.specs.Char.{encode_utf8}
use Rattle.std.proofs.lemmas.Str.{IsCharBoundary-start, IsCharBoundary-from_drop, IsUtf8-past_char, IsUtf8-drop}
use Rattle.minijinja_syntax.specs.Texts.{Text}
use Rattle.minijinja_syntax.specs.Markers.{stands}

-- the delimiter is the front of the text from its place on
pub stands_front : (d text : Text) (at : ℕ) → stands d text at ≡ true → drop at text ≡ d ++ drop (length d) (drop at text)
stands_front d text at h =
    let rest : Text = drop at text in
    sym (ap (λ x. x ++ drop (length d) rest) ((bytes_decides d (take (length d) rest)).0 h) ∙ take-append-drop (length d) rest)

utf8_after : (ds : List ℕ) (bs ys : Text) → IsUtf8 bs → bs ≡ encode_utf8_all ds ++ ys → IsUtf8 ys
utf8_after [] bs ys u e = subst IsUtf8 e u
utf8_after (d ∷ ds) bs ys u e = utf8_after ds (encode_utf8_all ds ++ ys) ys (IsUtf8-past_char bs (encode_utf8_all ds ++ ys) d u (e ∙ append_assoc (encode_utf8 d) (encode_utf8_all ds) ys)) refl

-- what follows a text in a text
pub IsUtf8-rest : (d bs ys : Text) → IsUtf8 d → IsUtf8 bs → bs ≡ d ++ ys → IsUtf8 ys
IsUtf8-rest d bs ys ud u e = utf8_after ud.0 bs ys u (e ∙ ap (λ x. x ++ ys) (sym ud.1.1))

pub start_boundary : (d text : Text) (at : ℕ) → IsUtf8 d → 0 < length d → at ≤ length text → stands d text at ≡ true → IsCharBoundary text at
start_boundary d text at ud some within h =
    let z : at + 0 ≡ at = omega arith in
    let r : get_or text (at + 0) 0 ≡ get_or d 0 0 = at_reads 0 text d at (drop (length d) (drop at text)) (stands_front d text at h) 0 some in
    let r' : get_or text at 0 ≡ get_or d 0 0 = rw z at r in
    let b : IsCharBoundary d 0 = IsCharBoundary-start d ud in
    (within, λ l k. let k' : 128 ≤ get_or d 0 0 = omega (arith, k, r') in let q = b.1 some k' in omega (arith, q, r'))

pub end_boundary : (d text : Text) (at : ℕ) → IsUtf8 d → IsUtf8 text → 0 < length d → at ≤ length text → stands d text at ≡ true → IsCharBoundary text (at + length d)
end_boundary d text at ud u some within h =
    let e = stands_front d text at h in
    let start = start_boundary d text at ud some within h in
    let rest : IsUtf8 (drop (length d) (drop at text)) = IsUtf8-rest d (drop at text) _ ud (IsUtf8-drop text at u start) e in
    let l : length (drop at text) ≡ length d + length (drop (length d) (drop at text)) = ap length e ∙ length-append d _ in
    let m = length-drop at text in
    IsCharBoundary-from_drop text (at + length d) (omega (arith, l, m)) (subst IsUtf8 (drop-drop (length d) at text) rest)

-- after the text no delimiter stands
pub stands_past : (d text : Text) (at : ℕ) → 0 < length d → length text ≤ at → stands d text at ≡ false
stands_past d text at some h = ap (λ rest. starts_with nat_eq rest d) (drop_all at text h) ∙ none d some
  where
    none : (d : Text) → 0 < length d → starts_with nat_eq [] d ≡ false
    none [] h = absurd (omega (arith, h))
    none (x ∷ xs) h = refl

-- and one that stands is within it
pub stands_within : (d text : Text) (at : ℕ) → 0 < length d → stands d text at ≡ true → at + length d ≤ length text
stands_within d text at some h =
    ⊎_elim
    (λ l. let e = ap length (stands_front d text at h) in let a = length-append d (drop (length d) (drop at text)) in let b = length-drop at text in omega (arith, e, a, b))
    (λ l. let e : false ≡ true = sym (stands_past d text at some l) ∙ h in cc)
    (cases_lt at (length text))
