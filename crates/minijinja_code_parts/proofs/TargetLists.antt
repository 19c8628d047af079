-- Targets in order, and lists of them, while their code is being made.
use Rattle.std.proofs.Common.{◌≡◌, ℕ, ◌+◌, ◌<◌, ◌≤◌, List, length, drop, get_or, sym, ap, ◌∙◌, subst}
use Rattle.std.proofs.lemmas.List.{at_drop_more, at_drop_all}
use Rattle.minijinja_value.specs.Values.{Functions}
use Rattle.minijinja_tree.specs.Erasure.{expr_tree, exprs_of}
use Rattle.minijinja_tree.specs.Nodes.{node_of}
use Rattle.minijinja_tree.specs.WellFormed.{IsTarget, AreTargets, expr_count}
use Rattle.minijinja_tree_expr.specs.declared.ast.Expr.{Expr}
use Rattle.minijinja_tree_expr.specs.declared.ast.Expr.TheVariants as expr
use Rattle.minijinja_tree_expr.specs.declared.ast.List.{List as ListNode}
use Rattle.minijinja_tree_expr.specs.declared.ast.Spanned.{Spanned}
use Rattle.minijinja_semantics.specs.Code.{UnpackList}
use Rattle.minijinja_semantics.specs.Layout.{target, targets}
use Rattle.minijinja_semantics.specs.Pieces.{nothing, one, ◌▸◌}
use Rattle.minijinja_emitter.specs.internal.Making.{Made, Adds}
use Rattle.minijinja_emitter.proofs.Adding.{adds_then}
use Rattle.minijinja_code_expr.proofs.Arms.{list_arm}
use Rattle.minijinja_code_expr.proofs.InOrder.{count_length}

module _ {V K C : Type 0} (c : V → C) where
  -- a target in its place, and those after it
  pub target_here : (xs : List (Expr V K)) (i : ℕ) (x : Expr V K) → i < length xs → x ≡ get_or xs i x → AreTargets (exprs_of c (drop i xs)) → IsTarget (expr_tree c x)
  target_here xs i x within at w =
      let more = subst AreTargets (at_drop_more (λ ys. exprs_of c ys) xs i x within) w in
      subst (λ y. IsTarget (expr_tree c y)) (sym at) more.0

  pub targets_after : (xs : List (Expr V K)) (i : ℕ) (x : Expr V K) → i < length xs → AreTargets (exprs_of c (drop i xs)) → AreTargets (exprs_of c (drop (i + 1) xs))
  targets_after xs i x within w = (subst AreTargets (at_drop_more (λ ys. exprs_of c ys) xs i x within) w).1

  -- a list of targets
  pub list_targets : (e : Expr V K) (s : Spanned (ListNode V K)) (n : ListNode V K) (xs : List (Expr V K)) → e ≡ expr.List s → n ≡ node_of s → xs ≡ n.items.items → IsTarget (expr_tree c e) → AreTargets (exprs_of c xs)
  list_targets e s n xs is at same w =
      let inner : AreTargets (exprs_of c n.items.items) = subst IsTarget (list_arm c e s n is at) w in
      subst (λ ys. AreTargets (exprs_of c ys)) (sym same) inner

module _ {V K C F : Type 0} (f : Functions C F) (c : V → C) where
  pub targets_next : (xs : List (Expr V K)) (i : ℕ) (x : Expr V K) → i < length xs → x ≡ get_or xs i x →
      targets f (exprs_of c (drop i xs)) ≡ target f (expr_tree c x) ▸ targets f (exprs_of c (drop (i + 1) xs))
  targets_next xs i x within at = at_drop_more (λ ys. targets f (exprs_of c ys)) xs i x within ∙ ap (λ y. target f (expr_tree c y) ▸ targets f (exprs_of c (drop (i + 1) xs))) (sym at)

  pub targets_end : (xs : List (Expr V K)) (i : ℕ) → length xs ≤ i → targets f (exprs_of c (drop i xs)) ≡ nothing
  targets_end xs i past = at_drop_all (λ ys. targets f (exprs_of c ys)) xs i past

  pub list_assigned : (e : Expr V K) (s : Spanned (ListNode V K)) (n : ListNode V K) (xs : List (Expr V K)) (count : ℕ) {old taken new : Made C} → e ≡ expr.List s → n ≡ node_of s → xs ≡ n.items.items → count ≡ length n.items.items →
      Adds old taken (one (UnpackList count)) → Adds taken new (targets f (exprs_of c xs)) → Adds old new (target f (expr_tree c e))
  list_assigned e s n xs count {old} {taken} {new} is at same counts first rest =
      let es = exprs_of c n.items.items in
      let count_is : count ≡ expr_count es = counts ∙ sym (count_length c n.items.items) in
      let first' = subst (λ (k : ℕ). Adds old taken (one (UnpackList k))) count_is first in
      let rest' = subst (λ (ys : List (Expr V K)). Adds taken new (targets f (exprs_of c ys))) same rest in
      subst (λ t. Adds old new (target f t)) (sym (list_arm c e s n is at)) (adds_then first' rest')
