-- The constant of a chain of comparisons, one comparison after another.
use Rattle.std.proofs.Common.{◌≡◌, ℕ, ◌+◌, ◌<◌, ◌≤◌, List, length, drop, get_or, true, false, sym, ap, ◌∙◌}
use Rattle.std.specs.Prelude.{Bool, Option, Some, None}
use Rattle.std.proofs.lemmas.List.{at_drop_more, at_drop_all}
use Rattle.minijinja_value.specs.Values.{Functions}
use Rattle.minijinja_tree_expr.specs.Comparisons.{compares}
use Rattle.minijinja_tree_expr.specs.CompareOps.{CompareOp}
use Rattle.minijinja_tree_expr.specs.Tree.{Expr, Comparisons, against}
use Rattle.minijinja_tree_expr.specs.Erasure.{compare_op, expr_tree, compare_tree, comparisons_of}
use Rattle.minijinja_tree_expr.specs.Folding.{if_some, unless_fault, fold, fold_chain, fold_on}
use Rattle.minijinja_tree_expr.specs.private.FoldingSteps.{fold_node}
use Rattle.minijinja_tree_expr.specs.declared.ast.Compare.{Compare, out-Compare}
use Rattle.minijinja_tree_expr.specs.declared.ast.CompareOp.{CompareOp as Comparison}
use Rattle.minijinja_tree_expr.proofs.SpannedNodes.{compare_is}

module _ {C F : Type 0} (f : Functions C F) (l : C) (o : CompareOp) (e : Expr C) (cs : Comparisons C) where
  abbrev chain : Option C → Option C
  chain v = if_some v (λ u. if_some (unless_fault (compares f o l u)) (λ holds. fold_on f holds (fold_chain f u cs)))

  abbrev chain_at : C → Option Bool → Option C
  chain_at u b = if_some b (λ holds. fold_on f holds (fold_chain f u cs))

  -- the chain goes on where the comparison holds
  pub chain-holds : (u : C) → Some u ≡ fold f e → Some true ≡ unless_fault (compares f o l u) → fold_chain f l (against o e cs) ≡ fold_chain f u cs
  unfolding fold_chain if_some fold_on
  chain-holds u h k = ap chain (sym h) ∙ ap (chain_at u) (sym k)

  -- and ends in false where it does not
  pub chain-fails : (u : C) → Some u ≡ fold f e → Some false ≡ unless_fault (compares f o l u) → fold_chain f l (against o e cs) ≡ Some (f.of_bool false)
  unfolding fold_chain if_some fold_on
  chain-fails u h k = ap chain (sym h) ∙ ap (chain_at u) (sym k)

  -- a comparison that faults has no constant
  pub chain-faults : (u : C) → Some u ≡ fold f e → None ≡ unless_fault (compares f o l u) → fold_chain f l (against o e cs) ≡ None
  unfolding fold_chain if_some
  chain-faults u h k = ap chain (sym h) ∙ ap (chain_at u) (sym k)

  -- nor has one with an operand that is not known
  pub chain-unknown : None ≡ fold f e → fold_chain f l (against o e cs) ≡ None
  unfolding fold_chain if_some
  chain-unknown h = ap chain (sym h)

-- the comparison at a place, and the rest
pub next-comparison : {V K C F : Type 0} (f : Functions C F) (c : V → C) (l : C) (xs : List (Comparison V K)) (i : ℕ) (x : Comparison V K) → i < length xs → x ≡ get_or xs i x →
    fold_chain f l (comparisons_of c (drop i xs)) ≡ fold_chain f l (against (compare_op x.op) (expr_tree c x.expr) (comparisons_of c (drop (i + 1) xs)))
next-comparison f c l xs i x within h =
    at_drop_more (λ ys. fold_chain f l (comparisons_of c ys)) xs i x within
    ∙ ap (λ y. fold_chain f l (against (compare_op y.op) (expr_tree c y.expr) (comparisons_of c (drop (i + 1) xs)))) (sym h)

-- a chain of no more comparisons holds
pub chain-ends : {V K C F : Type 0} (f : Functions C F) (c : V → C) (l : C) (xs : List (Comparison V K)) (i : ℕ) → length xs ≤ i → fold_chain f l (comparisons_of c (drop i xs)) ≡ Some (f.of_bool true)
unfolding fold_chain
chain-ends f c l xs i past = at_drop_all (λ ys. fold_chain f l (comparisons_of c ys)) xs i past

-- a chain on a known first operand, and one without
pub compare-known : {V K C F : Type 0} (f : Functions C F) (c : V → C) (q : Compare V K) (v : C) → fold_chain f v (comparisons_of c (out-Compare V K q).ops.items) ≡ fold_node f (compare_tree c q) (Some v)
unfolding if_some
compare-known f c q v = ap (λ e. fold_node f e (Some v)) (sym (compare_is c q))

pub compare-unknown : {V K C F : Type 0} (f : Functions C F) (c : V → C) (q : Compare V K) → None ≡ fold_node f (compare_tree c q) None
unfolding if_some
compare-unknown f c q = ap (λ e. fold_node f e None) (sym (compare_is c q))
