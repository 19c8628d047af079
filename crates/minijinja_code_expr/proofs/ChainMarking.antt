-- The marks of chains of comparisons.
use Rattle.std.proofs.Common.{◌≡◌, ℕ, zero, suc, ◌+◌, ◌<◌, List, [], ◌∷◌, length, drop, get_or, Option, Some, None, refl, sym, ap, ◌∙◌, subst, arith, add-one}
use Rattle.std.proofs.lemmas.List.{at_drop_more}
use Rattle.minijinja_syntax.specs.declared.tokens.Span.{Span}
use Rattle.minijinja_value.specs.Values.{Functions}
use Rattle.minijinja_tree.specs.Folding.{fold}
use Rattle.minijinja_tree.specs.Tree as tree
use Rattle.minijinja_tree.specs.Erasure as bare
use Rattle.minijinja_tree.specs.Erasure.{compare_op, compare_tree, expr_tree}
use Rattle.minijinja_tree.specs.SpannedErasure.{all_compared, compare_node, expr_node}
use Rattle.minijinja_tree.specs.SpannedTrees as spanned
use Rattle.minijinja_tree.specs.SpannedTrees.{Comparisons, compared, against, bare_expr, comparisons_of}
use Rattle.minijinja_tree.specs.WellFormed.{IsChain}
use Rattle.minijinja_tree_expr.specs.declared.ast.Compare.{Compare, out-Compare}
use Rattle.minijinja_tree_expr.specs.declared.ast.CompareOp.{CompareOp as Comparison}
use Rattle.minijinja_tree_expr.proofs.Bare as Bare
use Rattle.minijinja_tree_expr.proofs.NodeRows as NodeRows
use Rattle.minijinja_tree_expr.proofs.SpannedNodes as SpannedNodes
use Rattle.minijinja_semantics.specs.Layout as layout
use Rattle.minijinja_semantics.specs.Marks.{Margin, Marking, chain, comparisons, expr, here, nowhere_else, ◌⟫◌}
use Rattle.minijinja_emitter.specs.internal.Making.{Made}
use Rattle.minijinja_emitter.specs.internal.Margins.{closed, replaced}
use Rattle.minijinja_code_expr.specs.internal.Leading.{After, Ready}
use Rattle.minijinja_code_expr.specs.internal.NodeMarks.{FinishesMarks, finished, site_of, taken_back}
use Rattle.minijinja_code_expr.specs.private.ChainMarks.{after_comparison, chain_end}
use Rattle.minijinja_semantics.proofs.Runs.{append_nil}
use Rattle.minijinja_code_expr.proofs.CycleMarks.{place_within, taken_none, taken_some}
use Rattle.minijinja_code_expr.proofs.NodeMarking.{Later, later_here, later_then, replaced_later}

-- a comparison adds marks
pub later_comparison : (i : ℕ) (t : Margin) → Later t (after_comparison i t)
later_comparison zero t = record { more = []; marks = sym (append_nil t.marks) }
later_comparison (suc i) t = later_then (later_here t) (later_here (here 1 t))

-- comparisons after their first two operands
abbrev pub after_two : {C F : Type 0} → Functions C F → Comparisons C → Marking
after_two f compared = nowhere_else
after_two f (against o e cs) = comparisons f o cs ⟫ here 3

module _ {V K C F : Type 0} (f : Functions C F) (c : V → C) where
  -- what is left of comparisons after the operand of the given number of them
  abbrev pub ahead_marks : List (Comparison V K) → ℕ → Marking
  ahead_marks xs zero = chain f (comparisons_of (all_compared c xs))
  ahead_marks xs (suc i) = after_two f (comparisons_of (all_compared c (drop i xs)))

  ahead_step : (xs : List (Comparison V K)) (i : ℕ) (x : Comparison V K) (t : Margin) → i < length xs → x ≡ get_or xs i x → ahead_marks xs i t ≡ ahead_marks xs (suc i) (expr f (expr_node c x.expr) (after_comparison i t))
  ahead_step xs zero x t within at =
      let rest = drop (zero + 1) xs in
      at_drop_more (λ ys. chain f (comparisons_of (all_compared c ys)) t) xs zero x within
      ∙ ap (λ (y : Comparison V K). here 3 (comparisons f (compare_op y.op) (comparisons_of (all_compared c rest)) (expr f (expr_node c y.expr) t))) (sym at)
      ∙ ap (λ (y : Comparison V K). here 3 (comparisons f (compare_op y.op) (comparisons_of (all_compared c rest)) (expr f (expr_node c x.expr) t))) at
      ∙ sym (at_drop_more (λ ys. after_two f (comparisons_of (all_compared c ys)) (expr f (expr_node c x.expr) t)) xs zero x within)
  ahead_step xs (suc j) x t within at =
      let y = get_or xs j x in
      let rest = drop (suc j + 1) xs in
      let u = expr f (expr_node c x.expr) (here 2 t) in
      at_drop_more (λ ys. after_two f (comparisons_of (all_compared c ys)) t) xs j x (omega (arith, within))
      ∙ ap (λ n. here 3 (comparisons f (compare_op y.op) (comparisons_of (all_compared c (drop n xs))) t)) (add-one j)
      ∙ at_drop_more (λ ys. here 3 (comparisons f (compare_op y.op) (comparisons_of (all_compared c ys)) t)) xs (suc j) x within
      ∙ ap (λ (z : Comparison V K). here 3 (comparisons f (compare_op z.op) (comparisons_of (all_compared c rest)) (expr f (expr_node c z.expr) (here 2 t)))) (sym at)
      ∙ ap (λ (z : Comparison V K). here 3 (comparisons f (compare_op z.op) (comparisons_of (all_compared c rest)) u)) at
      ∙ sym (at_drop_more (λ ys. after_two f (comparisons_of (all_compared c ys)) u) xs (suc j) x within)

  pub ahead_next : (xs : List (Comparison V K)) (i : ℕ) (x : Comparison V K) (t : Margin) → i < length xs → x ≡ get_or xs i x → ahead_marks xs i t ≡ ahead_marks xs (i + 1) (expr f (expr_node c x.expr) (after_comparison i t))
  ahead_next xs i x t within at = ahead_step xs i x t within at ∙ ap (λ n. ahead_marks xs n (expr f (expr_node c x.expr) (after_comparison i t))) (sym (add-one i))

  -- a chain has a comparison
  pub compared_some : (xs : List (Comparison V K)) → IsChain (bare.comparisons_of c xs) → 0 < length xs
  compared_some [] h = absurd h
  compared_some (x ∷ xs) h = omega arith

  last_left : (x : Comparison V K) (xs : List (Comparison V K)) (t : Margin) → after_two f (comparisons_of (all_compared c (drop (length xs) (x ∷ xs)))) t ≡ chain_end c (x ∷ xs) t
  last_left x [] t = refl
  last_left x (y ∷ xs) t = last_left y xs t

  -- the end of a chain
  pub ahead_end : (xs : List (Comparison V K)) (n : ℕ) (t : Margin) → n ≡ length xs → 0 < n → ahead_marks xs n t ≡ chain_end c xs t
  ahead_end [] n t e some = absurd (omega (arith, e, some))
  ahead_end (x ∷ xs) n t e some = ap (λ k. ahead_marks (x ∷ xs) k t) e ∙ last_left x xs t

  module _ (q : Compare V K) (s outer : Span) (start : ℕ) (made : Made C) (old new : Margin) where
    abbrev first : tree.Expr C
    first = expr_tree c (out-Compare V K q).expr

    abbrev ops : List (Comparison V K)
    ops = (out-Compare V K q).ops.items

    abbrev node : spanned.Expr C
    node = spanned.compare (expr_node c (out-Compare V K q).expr) (comparisons_of (all_compared c ops)) s

    abbrev value : Option C
    value = fold f (tree.compare first (bare.comparisons_of c ops))

    value_is : fold f (bare_expr node) ≡ value
    value_is = ap (fold f) (ap bare_expr (sym (NodeRows.compare_is c q s)) ∙ Bare.compare_is c q s ∙ SpannedNodes.compare_is c q)

    ready : {a : Made C} → Ready f (compare_tree c q) start a made → After (layout.expr f first) start a made
    ready {a} r = subst (λ e. Ready f e start a made) (SpannedNodes.compare_is c q) r

    finishes : closed outer new ≡ taken_back value start (site_of s outer) (chain f (comparisons_of (all_compared c ops)) ⟫ closed outer) old → closed outer new ≡ finished f (compare_node c q s) start outer old
    finishes e =
        e ∙ ap (λ v. taken_back v start (site_of s outer) (chain f (comparisons_of (all_compared c ops)) ⟫ closed outer) old) (sym value_is)
        ∙ ap (λ x. finished f x start outer old) (sym (NodeRows.compare_is c q s))

    -- a chain that folds
    pub chain_taken : {m : Margin} (b : C) → ((a : Made C) → After (layout.expr f first) start a made → value ≡ Some b) → Later old m → length old.marks ≡ length made.code → new ≡ replaced start (site_of s outer) m → FinishesMarks f (compare_tree c q) (compare_node c q s) start outer made old new
    chain_taken b folds later many k a r =
        finishes (ap (closed outer) (k ∙ replaced_later start (site_of s outer) later (place_within f old (ready r) many))
        ∙ sym (taken_some value b start (site_of s outer) (chain f (comparisons_of (all_compared c ops)) ⟫ closed outer) old (folds a (ready r))))

    -- and one that does not
    pub chain_added : ((a : Made C) → After (layout.expr f first) start a made → value ≡ None) → new ≡ chain f (comparisons_of (all_compared c ops)) old → FinishesMarks f (compare_tree c q) (compare_node c q s) start outer made old new
    chain_added folds k a r =
        finishes (ap (closed outer) k ∙ sym (taken_none value start (site_of s outer) (chain f (comparisons_of (all_compared c ops)) ⟫ closed outer) old (folds a (ready r))))
