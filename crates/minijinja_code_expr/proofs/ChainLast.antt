-- The last comparison of a chain.
use Rattle.std.proofs.Common.{◌≡◌, ◌≤◌, ◌-◌, ℕ, List, [], ◌∷◌, length, drop, Some, sym, ap, ◌∙◌, arith}
use Rattle.std.specs.Prelude.{slice_get}
use Rattle.minijinja_value.specs.Values.{Functions}
use Rattle.minijinja_tree.specs.Erasure.{compare_op, comparisons_of}
use Rattle.minijinja_tree_expr.specs.declared.ast.CompareOp.{CompareOp as Comparison}
use Rattle.minijinja_semantics.specs.Layout.{comparison}
use Rattle.minijinja_semantics.specs.Pieces.{plain, leading_to}
use Rattle.minijinja_code_expr.specs.private.Comparing.{after_two, ahead}
use Rattle.minijinja_emitter.specs.internal.Making.{Made, Adds}
use Rattle.minijinja_emitter.proofs.Adding.{adds_nothing}

module _ {V K C F : Type 0} (f : Functions C F) (c : V → C) where
  only_left : (x : Comparison V K) (xs : List (Comparison V K)) (y : Comparison V K) → slice_get (x ∷ xs) (length xs) ≡ Some y → after_two f (comparisons_of c (drop (length xs) (x ∷ xs))) ≡ plain (comparison (compare_op y.op))
  only_left x [] y h =
      let same : x ≡ y = cc in
      ap (λ (z : Comparison V K). plain (comparison (compare_op z.op))) same
  only_left x (z ∷ zs) y h = only_left z zs y h

  -- after all operands the last comparison is left
  pub last_left : (failed : ℕ) (xs : List (Comparison V K)) (y : Comparison V K) → slice_get xs (length xs - 1) ≡ Some y → leading_to failed (ahead f c xs (length xs)) ≡ comparison (compare_op y.op)
  last_left failed [] y h = absurd (cc)
  last_left failed (x ∷ xs) y h =
      let n : length (x ∷ xs) - 1 ≡ length xs = omega arith in
      ap (leading_to failed) (only_left x xs y (sym (ap (slice_get (x ∷ xs)) n) ∙ h))

  -- and nothing where there is none
  pub none_left : (failed : ℕ) (m : Made C) (xs : List (Comparison V K)) → length xs ≤ 0 → Adds m m (leading_to failed (ahead f c xs (length xs)))
  none_left failed m [] h = adds_nothing m
  none_left failed m (x ∷ xs) h = absurd (omega (arith, h))
