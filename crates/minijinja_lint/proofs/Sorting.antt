-- Macro statements that a stable sort puts in order.
use Rattle.std.proofs.Common.{◌≡◌, ℕ, ◌≤◌, ◌<◌, refl, sym, ap, ◌∙◌, subst, length, get_or, arith}
use Rattle.std.specs.Prelude.{Bool, true, false, ◌==◌, cond, List, [], ◌∷◌, filter}
use Rattle.std.specs.Borrow.{Bor}
use Rattle.std.specs.List.Sorted.{IsNonDecreasingBy, IsStableByKey, ties}
use Rattle.std.specs.Ordering.{is_lt, nat_cmp}
use Rattle.std.proofs.lemmas.List.{length-map, get_or-map}
use Rattle.std.proofs.lemmas.List.Elements.{filter_agree}
use Rattle.minijinja_syntax.specs.Texts.{Text}
use Rattle.minijinja_syntax.specs.declared.tokens.Span.{Span}
use Rattle.minijinja_meta.specs.Occurrences.{macros_of}
use Rattle.minijinja_lint.specs.Findings.{IsByStart}

abbrev start : Bor Text × Span → ℕ
start d = d.1.start_offset

tie-is : (n m : ℕ) → ties (λ x y. is_lt (nat_cmp x y)) n m ≡ (m == n)
tie-is n m = grind arith

-- those that start at one place, seen as texts and spans
starting : (n : ℕ) (ds : List (Bor Text × Span)) → filter (λ d. d.1.start_offset == n) (macros_of ds) ≡ macros_of (filter (λ d. start d == n) ds)
starting n [] = refl
starting n (d ∷ ds) = go (start d == n) (starting n ds)
  where
    go : (b : Bool) → filter (λ d. d.1.start_offset == n) (macros_of ds) ≡ macros_of (filter (λ d. start d == n) ds) →
        cond b ((d.0.now, d.1) ∷ filter (λ d. d.1.start_offset == n) (macros_of ds)) (filter (λ d. d.1.start_offset == n) (macros_of ds)) ≡ macros_of (cond b (d ∷ filter (λ d. start d == n) ds) (filter (λ d. start d == n) ds))
    go true h = ap (λ l. (d.0.now, d.1) ∷ l) h
    go false h = h

-- something that starts there
abbrev pub starter : ℕ → Bor Text × Span
starter n = (record { ref_ptr = (0, 0); now = [] }, record { start_line = 0; start_col = 0; start_offset = n; end_line = 0; end_col = 0; end_offset = 0 })

same-ties : (n : ℕ) (ds : List (Bor Text × Span)) → filter (λ d. start d == n) ds ≡ filter (ties (λ x y. is_lt (nat_cmp (start x) (start y))) (starter n)) ds
same-ties n ds = filter_agree (λ d. start d == n) (ties (λ x y. is_lt (nat_cmp (start x) (start y))) (starter n)) (λ d. sym (tie-is n (start d))) ds

pub by-start : (ds es : List (Bor Text × Span)) → IsNonDecreasingBy (λ d. d.1.start_offset) es → IsStableByKey (λ d. d.1.start_offset) nat_cmp ds es → IsByStart (macros_of ds) (macros_of es)
by-start ds es up stable = record {
  ordered = λ i j d h k. rising i j (starter 0) d h (subst (λ n. j < n) (length-map es (λ x. (x.0.now, x.1))) k);
  kept = λ n. starting n es ∙ ap macros_of (same-ties n es ∙ stable (starter n) ∙ sym (same-ties n ds)) ∙ sym (starting n ds);
}
  where
    at : (i : ℕ) (d : Bor Text × Span) (e : Text × Span) → i < length es → (get_or (macros_of es) i e).1.start_offset ≡ start (get_or es i d)
    at i d e h = ap (λ x. x.1.start_offset) (get_or-map (λ x. (x.0.now, x.1)) es i d e h)

    rising : (i j : ℕ) (d : Bor Text × Span) (e : Text × Span) → i ≤ j → j < length es → (get_or (macros_of es) i e).1.start_offset ≤ (get_or (macros_of es) j e).1.start_offset
    rising i j d e h k = omega (arith, at i d e (omega (arith, h, k)), at j d e k, up i j d h k)
