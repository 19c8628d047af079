-- The marks of what ends the arguments of a call, and of the last comparison of a chain.
use Rattle.std.proofs.Common.{◌≡◌, ℕ, zero, suc, ◌+◌, ◌-◌, ◌<◌, List, [], ◌∷◌, length, Some, refl, sym, ap, ◌∙◌, arith}
use Rattle.std.specs.Prelude.{slice_get}
use Rattle.minijinja_tree.specs.Erasure.{args_of}
use Rattle.minijinja_tree.specs.SpannedErasure as node
use Rattle.minijinja_tree.specs.Tree.{Args}
use Rattle.minijinja_tree_expr.specs.declared.ast.CallArg.{CallArg}
use Rattle.minijinja_tree_expr.proofs.Bare.{args_of_are}
use Rattle.minijinja_semantics.specs.Layout.{Count, batch_count, map_count, count_with_caller, count_all_with_caller}
use Rattle.minijinja_semantics.specs.Marks.{Margin, Marking, here, merged, spreading}
use Rattle.minijinja_code_expr.specs.declared.arguments.Counts.{Counts}
use Rattle.minijinja_code_expr.specs.internal.Callers.{AreCounts}
use Rattle.minijinja_code_expr.specs.internal.NodeMarks.{behind_caller}
use Rattle.minijinja_code_expr.specs.private.ChainMarks.{last_of}
use Rattle.minijinja_code_expr.proofs.CallerArguments.{one_more}

-- with no batch before them those that wait are the map
pub merged_alone_marks : (b n : ℕ) (old : Margin) {new : Margin} → b ≡ 0 → new ≡ here (batch_count n) old → new ≡ merged b n old
unfolding merged
merged_alone_marks zero zero old e s = s
merged_alone_marks zero (suc n) old e s = s
merged_alone_marks (suc b) n old e s = absurd (omega arith)

pub merged_marks : (b n : ℕ) (old : Margin) {closed new : Margin} → 0 < b → closed ≡ here (batch_count n) old → new ≡ here 1 closed → new ≡ merged b n old
unfolding merged
merged_marks zero n old h s t = absurd (omega arith)
merged_marks (suc b) n old h s t = t ∙ ap (here 1) s

pub no_spreading_marks : (b n : ℕ) (t : Margin) → b ≡ 0 → t ≡ spreading b n t
unfolding spreading
no_spreading_marks zero n t e = refl
no_spreading_marks (suc b) n t e = absurd (omega arith)

pub spreading_marks : (b n : ℕ) (old : Margin) {closed new : Margin} → 0 < b → closed ≡ here (batch_count n) old → new ≡ here 1 closed → new ≡ spreading b n old
unfolding spreading
spreading_marks zero n old h s t = absurd (omega arith)
spreading_marks (suc b) n old h s t = t ∙ ap (here 1) s

-- what ends the arguments after a macro, as their counts say
abbrev ended : {C : Type 0} → Args C → (front : ℕ) → Marking
ended args front t =
    let k = count_with_caller args in
    let c = count_all_with_caller args front in
    spreading c.batches c.waiting (merged k.batches k.waiting t)

module _ {V K C : Type 0} (c : V → C) (xs : List (CallArg V K)) (front : ℕ) (cs : Counts) (are : AreCounts (args_of c xs) front cs) (maps : ℕ) (is : maps ≡ map_count cs.keyword.batches cs.keyword.waiting) where
  pub end_marks : (old : Margin) {a new : Margin} → a ≡ merged cs.keyword.batches cs.keyword.waiting old → new ≡ spreading cs.positional.batches (cs.positional.waiting + maps) a → new ≡ behind_caller (node.args_of c xs) front old
  end_marks old {a} s t =
      let args = args_of c xs in
      let all = count_all_with_caller args front in
      t
      ∙ ap (λ n. spreading cs.positional.batches n a) (one_more args front cs are maps is)
      ∙ ap (λ (k : Count). spreading k.batches (suc k.waiting) a) are.positional
      ∙ ap (spreading all.batches all.waiting) (s ∙ ap (λ (k : Count). merged k.batches k.waiting old) are.keyword)
      ∙ ap (λ given. ended given front old) (sym (args_of_are c xs))

-- the last of a list
only_last : {X : Type 0} (g : X → Marking) (x : X) (xs : List X) (y : X) → slice_get (x ∷ xs) (length xs) ≡ Some y → last_of g (x ∷ xs) ≡ g y
only_last g x [] y h =
    let same : x ≡ y = cc in
    ap g same
only_last g x (z ∷ zs) y h = only_last g z zs y h

pub last_marks : {X : Type 0} (g : X → Marking) (xs : List X) (y : X) (t : Margin) → slice_get xs (length xs - 1) ≡ Some y → g y t ≡ last_of g xs t
last_marks g [] y t h = absurd (cc)
last_marks g (x ∷ xs) y t h =
    let n : length (x ∷ xs) - 1 ≡ length xs = omega arith in
    sym (ap (λ (m : Marking). m t) (only_last g x xs y (sym (ap (slice_get (x ∷ xs)) n) ∙ h)))
