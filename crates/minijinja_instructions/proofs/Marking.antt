-- Lines and spans side by side.
use Rattle.std.proofs.Common.{◌≡◌, ℕ, zero, suc, ◌++◌, List, [], ◌∷◌, length, take, refl, sym, ap, ◌∙◌, arith}
use Rattle.std.specs.Prelude.{Option, None}
use Rattle.std.specs.Option.{option_and_then}
use Rattle.minijinja_syntax.specs.declared.tokens.Span.{Span}
use Rattle.minijinja_semantics.specs.Marks.{Mark, last_mark, shown}
use Rattle.minijinja_instructions.specs.Marks.{line_at, marked, span_at}
use Rattle.minijinja_semantics.specs.Marks.{last_or}
use Rattle.minijinja_instructions.specs.Runs.{at_or_last}

abbrev pub mark : Option ℕ → Option Span → Mark
mark l s = record { line = l; span = option_and_then shown s }

pub marked-pushed : (ls : List (Option ℕ)) (ss : List (Option Span)) (l : Option ℕ) (s : Option Span) → length ls ≡ length ss → marked (ls ++ l ∷ []) (ss ++ s ∷ []) ≡ marked ls ss ++ mark l s ∷ []
marked-pushed [] [] l s h = refl
marked-pushed [] (x ∷ ss) l s h = absurd (omega (arith, h))
marked-pushed (x ∷ ls) [] l s h = absurd (omega (arith, h))
marked-pushed (x ∷ ls) (y ∷ ss) l s h = ap (λ ms. mark x y ∷ ms) (marked-pushed ls ss l s (omega (arith, h)))

last-of : (l : Option ℕ) (s : Option Span) (ls : List (Option ℕ)) (ss : List (Option Span)) → length ls ≡ length ss → last_or (mark l s) (marked ls ss) ≡ mark (last_or l ls) (last_or s ss)
last-of l s [] [] h = refl
last-of l s [] (y ∷ ss) h = absurd (omega (arith, h))
last-of l s (x ∷ ls) [] h = absurd (omega (arith, h))
last-of l s (x ∷ ls) (y ∷ ss) h = last-of x y ls ss (omega (arith, h))

at-of : (l : Option ℕ) (s : Option Span) (ls : List (Option ℕ)) (ss : List (Option Span)) (i : ℕ) → length ls ≡ length ss → at_or_last (mark l s) (marked ls ss) i ≡ mark (at_or_last l ls i) (at_or_last s ss i)
at-of l s [] [] i h = refl
at-of l s [] (y ∷ ss) i h = absurd (omega (arith, h))
at-of l s (x ∷ ls) [] i h = absurd (omega (arith, h))
at-of l s (x ∷ ls) (y ∷ ss) zero h = refl
at-of l s (x ∷ ls) (y ∷ ss) (suc i) h = at-of x y ls ss i (omega (arith, h))

module _ (ls : List (Option ℕ)) (ss : List (Option Span)) (h : length ls ≡ length ss) where
  -- the last line and span once more
  pub again-marks : marked (ls ++ last_or None ls ∷ []) (ss ++ last_or None ss ∷ []) ≡ marked ls ss ++ last_mark (marked ls ss) ∷ []
  again-marks = marked-pushed ls ss (last_or None ls) (last_or None ss) h ∙ ap (λ m. marked ls ss ++ m ∷ []) (sym (last-of None None ls ss h))

  -- a line, and a span or nothing that shows the same
  pub more-marks : (l : Option ℕ) (s : Option Span) (p : Option Span) → option_and_then shown s ≡ p → marked (ls ++ l ∷ []) (ss ++ s ∷ []) ≡ marked ls ss ++ (record { line = l; span = p }) ∷ []
  more-marks l s p e = marked-pushed ls ss l s h ∙ ap (λ p. marked ls ss ++ (record { line = l; span = p }) ∷ []) e

  pub line-is : (i : ℕ) → at_or_last None ls i ≡ line_at (marked ls ss) i
  line-is i = sym (ap (λ m. m.line) (at-of None None ls ss i h))

  pub span-is : (i : ℕ) → option_and_then shown (at_or_last None ss i) ≡ span_at (marked ls ss) i
  span-is i = sym (ap (λ m. m.span) (at-of None None ls ss i h))

-- that many first ones of both
pub cut-marks : (n : ℕ) (ls : List (Option ℕ)) (ss : List (Option Span)) → marked (take n ls) (take n ss) ≡ take n (marked ls ss)
cut-marks zero ls ss = refl
cut-marks (suc n) [] ss = refl
cut-marks (suc n) (x ∷ ls) [] = refl
cut-marks (suc n) (x ∷ ls) (y ∷ ss) = ap (λ ms. mark x y ∷ ms) (cut-marks n ls ss)

-- there are as many marks as lines
pub length-marked : (ls : List (Option ℕ)) (ss : List (Option Span)) → length ls ≡ length ss → length (marked ls ss) ≡ length ls
length-marked [] ss h = refl
length-marked (x ∷ ls) [] h = absurd (omega (arith, h))
length-marked (x ∷ ls) (y ∷ ss) h = ap suc (length-marked ls ss (omega (arith, h)))
