-- What a search finds is the first place where a delimiter stands, or where a line ends.
use Rattle.std.proofs.Common.{◌≡◌, ℕ, ◌+◌, ◌-◌, ◌<◌, ◌≤◌, true, false, length, take, drop, refl, ap, sym, ◌∙◌, arith, subst, length-drop, get_or, get_or-drop, Option, Some, None, inl, inr, ⊎_elim}
use Rattle.std.proofs.lemmas.Bool.{cases_Bool}
use Rattle.std.proofs.lemmas.List.{drop-drop}
use lib.Pointwise.{bytes_decides}
use Rattle.memchr.specs.Find.{OccursAt, FindsNeedle, IsFirstByte, is_byte2}
use Rattle.memchr.proofs.lemmas.MatchLemmas.{OccursAt-part, OccursAt-from_part}
use Rattle.minijinja_syntax.specs.Texts.{Text}
use Rattle.minijinja_syntax.specs.Markers.{stands, is_line_end}
use Rattle.minijinja_syntax.proofs.Delimiters.{stands_within}
use Rattle.minijinja_lexer.specs.Cut.{next_delimiter, next_line_end}
use Rattle.minijinja_lexer.proofs.Searching.{delimiter_is, no_delimiter_is, line_end_is}

pub occurs_stands : (d text : Text) (at k : ℕ) → OccursAt (drop at text) d k → stands d text (at + k) ≡ true
occurs_stands d text at k o =
    (bytes_decides d (take (length d) (drop (at + k) text))).1 (sym (OccursAt-part (drop at text) d k o) ∙ ap (take (length d)) (drop-drop k at text))

pub stands_occurs : (d text : Text) (at k : ℕ) → 0 < length d → stands d text (at + k) ≡ true → OccursAt (drop at text) d k
stands_occurs d text at k some h =
    let w = stands_within d text (at + k) some h in
    let l = length-drop at text in
    OccursAt-from_part (drop at text) d k (omega (arith, w, l)) (ap (take (length d)) (drop-drop k at text) ∙ sym ((bytes_decides d (take (length d) (drop (at + k) text))).0 h))

-- where the delimiter does not occur it does not stand
absent : (d text : Text) (at n p : ℕ) → 0 < length d → ((k : ℕ) → 0 ≤ k → k < n → OccursAt (drop at text) d k → ⊥) → at ≤ p → p - at < n → stands d text p ≡ false
absent d text at n p some none l h = ⊎_elim
    (λ (t : stands d text p ≡ true).
    let e : p ≡ at + (p - at) = omega arith in
    absurd (none (p - at) (omega arith) h (stands_occurs d text at (p - at) some (ap (stands d text) (sym e) ∙ t))))
    (λ f. f)
    (cases_Bool (stands d text p))

-- the place that a search from a place on returns
abbrev pub place_of : (at len : ℕ) → Option ℕ → ℕ
place_of at len None = len
place_of at len (Some ahead) = at + ahead

pub delimiter_found : (d text rest : Text) (at : ℕ) (r : Option ℕ) → 0 < length d → at ≤ length text → rest ≡ drop at text → FindsNeedle rest d 0 r → place_of at (length text) r ≡ next_delimiter d text at
delimiter_found d text rest at None some h e none =
    let l = length-drop at text in
    let found = subst (λ x. FindsNeedle x d 0 None) e none in
    sym (no_delimiter_is d text at h (λ p onwards within. absent d text at (length (drop at text) + 1) p some found onwards (omega (arith, l, onwards, within, h))))
delimiter_found d text rest at (Some k) some h e is =
    let found = subst (λ x. FindsNeedle x d 0 (Some k)) e is in
    sym (delimiter_is d text at (at + k) some h (record {
      onwards = omega arith;
      there = occurs_stands d text at k found.1;
      first = λ p onwards before. absent d text at k p some found.0.before onwards (omega (arith, onwards, before));
    }))

-- the delimiter stands at the place that is found
pub delimiter_stands : (d text rest : Text) (at k : ℕ) → rest ≡ drop at text → FindsNeedle rest d 0 (Some k) → stands d text (at + k) ≡ true
delimiter_stands d text rest at k e is = let found = subst (λ x. FindsNeedle x d 0 (Some k)) e is in occurs_stands d text at k found.1

-- ---- line ends

no_line_end : (text rest : Text) (at n p : ℕ) → rest ≡ drop at text → ((k : ℕ) → 0 ≤ k → k < n → is_byte2 13 10 (get_or rest k 0) ≡ true → ⊥) → at ≤ p → p - at < n → is_line_end (get_or text p 0) ≡ false
no_line_end text rest at n p e none l h = ⊎_elim
    (λ (t : is_line_end (get_or text p 0) ≡ true).
    let f : at + (p - at) ≡ p = omega arith in
    absurd (none (p - at) (omega arith) h (ap is_line_end (ap (λ x. get_or x (p - at) 0) e ∙ get_or-drop at text (p - at) 0 ∙ ap (λ i. get_or text i 0) f) ∙ t)))
    (λ f. f)
    (cases_Bool (is_line_end (get_or text p 0)))

pub line_end_found : (text rest : Text) (at : ℕ) (r : Option ℕ) → at ≤ length text → rest ≡ drop at text → IsFirstByte (is_byte2 13 10) rest r → place_of at (length text) r ≡ next_line_end text at
line_end_found text rest at None h e none =
    let l = ap length e ∙ length-drop at text in
    sym (line_end_is text at (length text) h (omega arith) (λ p onwards within. no_line_end text rest at (length rest) p e none onwards (omega (arith, l, onwards, within))) (inl refl))
line_end_found text rest at (Some k) h e is =
    let l = ap length e ∙ length-drop at text in
    let within = is.0.high in
    sym (line_end_is text at (at + k) (omega arith) (omega (arith, l, within)) (λ p onwards before. no_line_end text rest at k p e is.0.before onwards (omega (arith, onwards, before)))
    (inr (ap is_line_end (sym (ap (λ x. get_or x k 0) e ∙ get_or-drop at text k 0)) ∙ is.1)))
