-- Arguments that are all positional, and none a `*` argument: nothing is added for keyword arguments, and nothing is spread.
use Rattle.std.proofs.Common.{◌≡◌, ℕ, ◌+◌, ◌≤◌, Some, None, Result, Ok, [], false, arith, refl, sym, ap, ◌∙◌, subst}
use Rattle.minijinja_value.specs.Values.{Functions}
use Rattle.minijinja_tree.specs.Folding.{constant_keywords, fold_keywords}
use Rattle.minijinja_tree.specs.SpannedTrees as spanned
use Rattle.minijinja_tree.specs.SpannedTrees.{bare_args}
use Rattle.minijinja_tree.specs.Tree.{Args, no_args, pos, pos_splat, kwarg, kwarg_splat}
use Rattle.minijinja_tree.specs.WellFormed.{arg_count}
use Rattle.minijinja_semantics.specs.Layout.{Count, argument_count, count_batch, count_keyword, count_one, count_positional, counted, keyword, map_count, positional}
use Rattle.minijinja_semantics.specs.Marks as marks
use Rattle.minijinja_semantics.specs.Marks.{Margin}
use Rattle.minijinja_semantics.specs.Pieces.{nothing}
use Rattle.minijinja_emitter.specs.internal.Making.{Made, Adds}
use Rattle.minijinja_code_expr.specs.internal.NodeMarks.{given_marks}
use Rattle.minijinja_code_expr.specs.internal.Parts.{given, operands}
use Rattle.minijinja_emitter.proofs.Adding.{adds_as, adds_nothing}
use Rattle.minijinja_code_expr.proofs.ArgumentMarks.{no_spreading_marks}
use Rattle.minijinja_code_expr.proofs.CallArguments.{adds_given, adds_no_spreading, counted_all, counted_alone, keywords_merged, merged_alone}
use Rattle.minijinja_code_expr.proofs.LoadedMarks.{given_merged}

-- each argument is a positional one
abbrev ArePositional : {C : Type 0} → Args C → Type 0
ArePositional no_args = Unit {0}
ArePositional (pos e args) = ArePositional args
ArePositional _ = ⊥

-- no more arguments wait than there are
waiting_few : {C : Type 0} (args : Args C) (k : Count) → (count_positional args k).waiting ≤ k.waiting + arg_count args
waiting_few no_args k = omega arith
waiting_few (pos e args) k = omega (arith, waiting_few args (count_one k))
waiting_few (pos_splat e args) k = omega (arith, waiting_few args (count_batch k))
waiting_few (kwarg x e args) k = omega (arith, waiting_few args k)
waiting_few (kwarg_splat e args) k = omega (arith, waiting_few args k)

-- as many only where each is a positional one
all_positional : {C : Type 0} (args : Args C) (k : Count) → (count_positional args k).waiting ≡ k.waiting + arg_count args → ArePositional args
all_positional no_args k e = tt
all_positional (pos x args) k e = all_positional args (count_one k) (omega (arith, e))
all_positional (pos_splat x args) k e = absurd (omega (arith, e, waiting_few args (count_batch k)))
all_positional (kwarg x y args) k e = absurd (omega (arith, e, waiting_few args k))
all_positional (kwarg_splat x args) k e = absurd (omega (arith, e, waiting_few args k))

one_batch : {C : Type 0} (args : Args C) (k : Count) → ArePositional args → (count_positional args k).batches ≡ k.batches
one_batch no_args k are = refl
one_batch (pos e args) k are = one_batch args (count_one k) are
one_batch (pos_splat e args) k are = absurd are
one_batch (kwarg x e args) k are = absurd are
one_batch (kwarg_splat e args) k are = absurd are

no_keywords : {C : Type 0} (args : Args C) (k : Count) → ArePositional args → k ≡ count_keyword args k
no_keywords no_args k are = refl
no_keywords (pos e args) k are = no_keywords args k are
no_keywords (pos_splat e args) k are = absurd are
no_keywords (kwarg x e args) k are = absurd are
no_keywords (kwarg_splat e args) k are = absurd are

module _ {C F : Type 0} (f : Functions C F) where
  no_constants : (args : Args C) → ArePositional args → constant_keywords f args ≡ Some []
  no_constants no_args are = refl
  no_constants (pos e args) are = no_constants args are
  no_constants (pos_splat e args) are = absurd are
  no_constants (kwarg x e args) are = absurd are
  no_constants (kwarg_splat e args) are = absurd are

  no_map : (args : Args C) → ArePositional args → fold_keywords f (constant_keywords f args) ≡ None
  unfolding fold_keywords
  no_map args are = ap (fold_keywords f) (no_constants args are)

  no_pairs : (args : Args C) (n : ℕ) → ArePositional args → nothing ≡ keyword f args n
  no_pairs no_args n are = refl
  no_pairs (pos e args) n are = no_pairs args n are
  no_pairs (pos_splat e args) n are = absurd are
  no_pairs (kwarg x e args) n are = absurd are
  no_pairs (kwarg_splat e args) n are = absurd are

  pairs_unmarked : (args : spanned.Args C) (n : ℕ) (t : Margin) → ArePositional (bare_args args) → t ≡ marks.keyword f args n t
  pairs_unmarked spanned.no_args n t are = refl
  pairs_unmarked (spanned.pos e args) n t are = pairs_unmarked args n t are
  pairs_unmarked (spanned.pos_splat e args) n t are = absurd are
  pairs_unmarked (spanned.kwarg x e args) n t are = absurd are
  pairs_unmarked (spanned.kwarg_splat e args) n t are = absurd are

  no_maps : (args : Args C) → ArePositional args → 0 ≡ map_count (count_keyword args (operands 0)).batches (count_keyword args (operands 0)).waiting
  unfolding map_count
  no_maps args are = ap (λ (k : Count). map_count k.batches k.waiting) (no_keywords args (operands 0) are)

  merges_unmarked : (t : Margin) → t ≡ marks.merged 0 0 t
  unfolding marks.merged
  merges_unmarked t = refl

  module _ (args : Args C) (front : ℕ) (k : Count) (is : k ≡ count_positional args (operands front)) (many : k.waiting ≡ front + arg_count args) where
    -- all went well
    abbrev ended : Result (Unit {0}) (Unit {0})
    ended = Ok tt

    are : ArePositional args
    are = all_positional args (operands front) (omega (arith, many, ap (λ (k : Count). k.waiting) is))

    one : k.batches ≡ 0
    one = ap (λ (k : Count). k.batches) is ∙ one_batch args (operands front) are

    -- such arguments have that many operands
    pub positional_count : Some k.waiting ≡ argument_count args front
    positional_count = sym (counted_alone k.batches k.waiting one) ∙ ap (counted k.batches) (omega arith) ∙ counted_all f args front k 0 is (no_maps args are)

    -- their code is that of the positional ones
    pub adds_positional : {a b : Made C} → Adds a b (positional f args front) → Adds a b (given f args front)
    adds_positional {a} {b} s =
        let map = keywords_merged f {a = b} {b = b} args false (operands 0) refl (no_map args are, refl) (no_keywords args (operands 0) are) (adds_as (no_pairs args 0 are) (adds_nothing b)) (adds_as (sym (merged_alone 0 0 refl)) (adds_nothing b)) in
        adds_given f args front k 0 is (no_maps args are) b ended s map (adds_no_spreading b k.batches (k.waiting + 0) one)

    -- and so are their marks
    pub marks_positional : (nodes : spanned.Args C) → bare_args nodes ≡ args → (old new : Margin) → new ≡ marks.positional f nodes front old → new ≡ given_marks f nodes front old
    marks_positional nodes bare old new s =
        given_merged f nodes args bare front k 0 is (no_maps args are) old new new new ended false refl (no_map args are) (operands 0) (no_keywords args (operands 0) are) new new s refl
        (pairs_unmarked nodes 0 new (subst ArePositional (sym bare) are)) (merges_unmarked new) (no_spreading_marks k.batches (k.waiting + 0) new one)
