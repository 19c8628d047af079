-- Searches, step by step.
use Rattle.std.proofs.Common.{◌≡◌, ℕ, zero, suc, ◌+◌, ◌-◌, ◌<◌, ◌≤◌, true, false, cond, length, refl, ap, sym, ◌∙◌, arith, Option, None, ⊎_elim, inl, inr}
use Rattle.std.specs.Prelude.{◌⊎◌, slice_index}
use Rattle.std.proofs.lemmas.Bool.{cases_lt}
use Rattle.minijinja_syntax.specs.Texts.{Text}
use Rattle.minijinja_syntax.specs.Syntax.{Syntax}
use Rattle.minijinja_syntax.specs.Markers.{stands, is_line_end}
use Rattle.minijinja_syntax.proofs.Walking.{next_place-within, next_place-before, next_place-stops}
use Rattle.minijinja_syntax.proofs.Delimiters.{stands_within}
use Rattle.minijinja_lexer.specs.Cut.{next_delimiter, next_line_end}
use Rattle.minijinja_lexer.specs.Raw.{endraw_at, endraw_from, next_endraw, or_later}
use Rattle.minijinja_lexer.specs.Relation.{IsFirst, IsAbsent}
use Rattle.minijinja_lexer.specs.Controls.{Control}

-- ---- delimiters

pub delimiter-within : (d text : Text) (at : ℕ) → at ≤ length text → (at ≤ next_delimiter d text at) × (next_delimiter d text at ≤ length text)
unfolding next_delimiter
delimiter-within d text at h = let w = next_place-within (stands d text) at (length text - at) in (w.0, omega (arith, w.1))

pub delimiter-before : (d text : Text) (at : ℕ) → IsAbsent d text at (next_delimiter d text at)
unfolding next_delimiter
delimiter-before d text at q l h = next_place-before (stands d text) at (length text - at) q l h

pub delimiter-stops : (d text : Text) (at : ℕ) → at ≤ length text → (next_delimiter d text at ≡ length text) ⊎ (stands d text (next_delimiter d text at) ≡ true)
unfolding next_delimiter
delimiter-stops d text at h = ⊎_elim (λ e. inl (omega (arith, e))) (λ t. inr t) (next_place-stops (stands d text) at (length text - at))

-- the first place is the one that is found
pub delimiter_is : (d text : Text) (at p : ℕ) → 0 < length d → at ≤ length text → IsFirst d text at p → next_delimiter d text at ≡ p
delimiter_is d text at p some h is =
    let n = next_delimiter d text at in
    let w = delimiter-within d text at h in
    let l = stands_within d text p some is.there in
    ⊎_elim
    (λ (a : n < p).
    let f : stands d text n ≡ false = is.first n w.0 a in
    ⊎_elim (λ e. absurd (omega (arith, e, l, a, some))) (λ t. let x : true ≡ false = sym t ∙ f in cc) (delimiter-stops d text at h))
    (λ (b : p ≤ n). ⊎_elim
    (λ (a : p < n). let x : true ≡ false = sym is.there ∙ delimiter-before d text at p is.onwards a in cc)
    (λ (a : n ≤ p). omega (arith, a, b))
    (cases_lt p n))
    (cases_lt n p)

pub no_delimiter_is : (d text : Text) (at : ℕ) → at ≤ length text → IsAbsent d text at (length text) → next_delimiter d text at ≡ length text
no_delimiter_is d text at h none =
    let n = next_delimiter d text at in
    let w = delimiter-within d text at h in
    ⊎_elim
    (λ (a : n < length text). ⊎_elim (λ e. e) (λ t. let x : true ≡ false = sym t ∙ none n w.0 a in cc) (delimiter-stops d text at h))
    (λ (a : length text ≤ n). omega (arith, a, w.1))
    (cases_lt n (length text))

-- ---- line ends

pub line_end-within : (text : Text) (at : ℕ) → at ≤ length text → (at ≤ next_line_end text at) × (next_line_end text at ≤ length text)
unfolding next_line_end
line_end-within text at h = let w = next_place-within (λ p. is_line_end (slice_index text p)) at (length text - at) in (w.0, omega (arith, w.1))

pub line_end-before : (text : Text) (at q : ℕ) → at ≤ q → q < next_line_end text at → is_line_end (slice_index text q) ≡ false
unfolding next_line_end
line_end-before text at q l h = next_place-before (λ p. is_line_end (slice_index text p)) at (length text - at) q l h

pub line_end-stops : (text : Text) (at : ℕ) → at ≤ length text → (next_line_end text at ≡ length text) ⊎ (is_line_end (slice_index text (next_line_end text at)) ≡ true)
unfolding next_line_end
line_end-stops text at h = ⊎_elim (λ e. inl (omega (arith, e))) (λ t. inr t) (next_place-stops (λ p. is_line_end (slice_index text p)) at (length text - at))

pub line_end_is : (text : Text) (at p : ℕ) → at ≤ p → p ≤ length text → ((q : ℕ) → at ≤ q → q < p → is_line_end (slice_index text q) ≡ false) → (p ≡ length text) ⊎ (is_line_end (slice_index text p) ≡ true) → next_line_end text at ≡ p
line_end_is text at p l h before stop =
    let n = next_line_end text at in
    let w = line_end-within text at (omega arith) in
    ⊎_elim
    (λ (a : n < p). ⊎_elim (λ e. absurd (omega (arith, e, a, h))) (λ t. let x : true ≡ false = sym t ∙ before n w.0 a in cc) (line_end-stops text at (omega arith)))
    (λ (b : p ≤ n). ⊎_elim
    (λ (a : p < n). ⊎_elim (λ e. absurd (omega (arith, e, a, w.1))) (λ t. let x : true ≡ false = sym t ∙ line_end-before text at p l a in cc) stop)
    (λ (a : n ≤ p). omega (arith, a, b))
    (cases_lt p n))
    (cases_lt n p)

-- ---- endraw tags

endraw_skip : (s : Syntax) (text : Text) (at skip left : ℕ) → endraw_from s text at skip left ≡ endraw_from s text (at + skip) 0 (left - skip)
endraw_skip s text at zero left = let e : at + 0 ≡ at = omega arith in let f : left - 0 ≡ left = omega arith in rw (e, f) refl
endraw_skip s text at (suc skip) zero = let f : zero - suc skip ≡ 0 = omega arith in ap (endraw_from s text (at + suc skip) 0) (sym f)
endraw_skip s text at (suc skip) (suc left) =
    let e : at + 1 + skip ≡ at + suc skip = omega arith in
    let f : suc left - suc skip ≡ left - skip = omega arith in
    endraw_skip s text (at + 1) skip left ∙ ap (λ n. endraw_from s text n 0 (left - skip)) e ∙ ap (endraw_from s text (at + suc skip) 0) (sym f)

pub endraw-on : (s : Syntax) (text : Text) (at : ℕ) → at < length text → stands s.block_start text at ≡ false → next_endraw s text at ≡ next_endraw s text (at + 1)
unfolding next_endraw
endraw-on s text at h f =
    let n : ℕ = length text - (at + 1) in
    let e : length text - at ≡ suc n = omega arith in
    ap (endraw_from s text at 0) e
    ∙ ap (λ t. cond t (or_later at (endraw_at s text (at + length s.block_start)) (endraw_from s text (at + 1) (length s.block_start - 1) n)) (endraw_from s text (at + 1) 0 n)) f

pub endraw-stands : (s : Syntax) (text : Text) (at : ℕ) → 0 < length s.block_start → at < length text → stands s.block_start text at ≡ true →
    next_endraw s text at ≡ or_later at (endraw_at s text (at + length s.block_start)) (next_endraw s text (at + length s.block_start))
unfolding next_endraw
endraw-stands s text at some h t =
    let n : ℕ = length text - (at + 1) in
    let d : ℕ = length s.block_start in
    let e : length text - at ≡ suc n = omega arith in
    let f : at + 1 + (d - 1) ≡ at + d = omega arith in
    let g : n - (d - 1) ≡ length text - (at + d) = omega arith in
    ap (endraw_from s text at 0) e
    ∙ ap (λ t. cond t (or_later at (endraw_at s text (at + d)) (endraw_from s text (at + 1) (d - 1) n)) (endraw_from s text (at + 1) 0 n)) t
    ∙ ap (or_later at (endraw_at s text (at + d))) (endraw_skip s text (at + 1) (d - 1) n ∙ ap (λ m. endraw_from s text m 0 (n - (d - 1))) f ∙ ap (endraw_from s text (at + d) 0) g)

pub endraw-over : (s : Syntax) (text : Text) (at : ℕ) → length text ≤ at → next_endraw s text at ≡ None
unfolding next_endraw
endraw-over s text at h = let e : length text - at ≡ 0 = omega arith in ap (endraw_from s text at 0) e

endraw_to : (n : ℕ) (s : Syntax) (text : Text) (at p : ℕ) → at + n ≡ p → p ≤ length text → IsAbsent s.block_start text at p → next_endraw s text at ≡ next_endraw s text p
endraw_to zero s text at p e h none = let f : at ≡ p = omega arith in ap (next_endraw s text) f
endraw_to (suc n) s text at p e h none =
    endraw-on s text at (omega arith) (none at (omega arith) (omega arith)) ∙ endraw_to n s text (at + 1) p (omega arith) h (λ q l m. none q (omega (arith, l)) m)

pub endraw-to : (s : Syntax) (text : Text) (at p : ℕ) → at ≤ p → p ≤ length text → IsAbsent s.block_start text at p → next_endraw s text at ≡ next_endraw s text p
endraw-to s text at p l h none = endraw_to (p - at) s text at p (omega arith) h none

-- from the next block start on
pub endraw-next : (s : Syntax) (text : Text) (at : ℕ) → at ≤ length text → next_endraw s text at ≡ next_endraw s text (next_delimiter s.block_start text at)
endraw-next s text at h = let w = delimiter-within s.block_start text at h in endraw-to s text at (next_delimiter s.block_start text at) w.0 w.1 (delimiter-before s.block_start text at)

pub endraw-none : (s : Syntax) (text : Text) (at p : ℕ) → at ≤ length text → next_delimiter s.block_start text at ≡ p → p ≡ length text → next_endraw s text at ≡ None
endraw-none s text at p h e q = endraw-next s text at h ∙ endraw-over s text (next_delimiter s.block_start text at) (omega (arith, e, q))

-- a block start that is found ahead
pub endraw-found : (s : Syntax) (text : Text) (at p : ℕ) (x : Option (Control × ℕ)) → 0 < length s.block_start → at ≤ length text → next_delimiter s.block_start text at ≡ p → p < length text → endraw_at s text (p + length s.block_start) ≡ x →
    next_endraw s text at ≡ or_later p x (next_endraw s text (p + length s.block_start))
endraw-found s text at p x some h e l f =
    let there : stands s.block_start text p ≡ true = ⊎_elim (λ q. absurd (omega (arith, q, e, l))) (λ t. ap (stands s.block_start text) (sym e) ∙ t) (delimiter-stops s.block_start text at h) in
    endraw-next s text at h ∙ ap (next_endraw s text) e ∙ endraw-stands s text p some l there ∙ ap (λ x. or_later p x (next_endraw s text (p + length s.block_start))) f
