-- A call without arguments adds nothing for them.
use Rattle.std.proofs.Common.{◌≡◌, ℕ, List, [], ◌∷◌, length, Some, arith, refl, sym, ap}
use Rattle.minijinja_value.specs.Values.{Functions}
use Rattle.minijinja_tree.specs.Erasure.{args_of}
use Rattle.minijinja_tree.specs.Folding.{fold_keywords}
use Rattle.minijinja_tree.specs.SpannedErasure as node
use Rattle.minijinja_tree.specs.SpannedTrees as spanned
use Rattle.minijinja_tree.specs.Tree.{no_args}
use Rattle.minijinja_tree_expr.specs.declared.ast.CallArg.{CallArg}
use Rattle.minijinja_semantics.specs.Layout.{argument_count, counted, folded, map_count, merged, spreading}
use Rattle.minijinja_semantics.specs.Marks as marks
use Rattle.minijinja_semantics.specs.Marks.{Margin}
use Rattle.minijinja_emitter.specs.internal.Making.{Made, Adds}
use Rattle.minijinja_code_expr.specs.internal.NodeMarks.{given_marks}
use Rattle.minijinja_code_expr.specs.internal.Parts.{given}
use Rattle.minijinja_semantics.proofs.Runs.{append_nil}

nothing_given : {C F : Type 0} (f : Functions C F) (m : Made C) (front : ℕ) → Adds m m (given f no_args front)
unfolding folded fold_keywords merged map_count spreading
nothing_given f m front = record { code = sym (append_nil m.code); past = refl }

none_marked : {C F : Type 0} (f : Functions C F) (front : ℕ) (t : Margin) → given_marks f spanned.no_args front t ≡ t
unfolding marks.loaded marks.merged marks.spreading fold_keywords map_count
none_marked f front t = refl

none_counted : (C : Type 0) (front : ℕ) → argument_count {C = C} no_args front ≡ Some front
unfolding counted map_count
none_counted C front = ap Some (omega arith)

module _ {V K C F : Type 0} (f : Functions C F) (v : V → C) where
  pub adds_none : (args : List (CallArg V K)) (m : Made C) (front : ℕ) → length args ≡ 0 → Adds m m (given f (args_of v args) front)
  adds_none [] m front e = nothing_given f m front
  adds_none (arg ∷ args) m front e = absurd (omega (arith, e))

  pub marks_none : (args : List (CallArg V K)) (front : ℕ) (t : Margin) → length args ≡ 0 → t ≡ given_marks f (node.args_of v args) front t
  marks_none [] front t e = sym (none_marked f front t)
  marks_none (arg ∷ args) front t e = absurd (omega (arith, e))

  pub counts_none : (args : List (CallArg V K)) (front : ℕ) → length args ≡ 0 → Some front ≡ argument_count (args_of v args) front
  counts_none [] front e = sym (none_counted C front)
  counts_none (arg ∷ args) front e = absurd (omega (arith, e))
