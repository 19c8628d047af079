-- Nodes that wait for their leading operand, while the code of an expression is being made.
use Rattle.std.proofs.Common.{◌≡◌, ℕ, ◌≤◌, List, [], ◌∷◌, ◌++◌, length, Option, Some, None, false, sym, ap, subst}
use Rattle.std.specs.Prelude.{is_some, reverse}
use Rattle.std.proofs.lemmas.List.{reverse-append}
use Rattle.minijinja_value.specs.Values.{Functions}
use Rattle.minijinja_tree.specs.Erasure.{expr_tree}
use Rattle.minijinja_tree.specs.Tree.{Expr, if_expr}
use Rattle.minijinja_tree.specs.WellFormed.{IsWhole}
use Rattle.minijinja_tree_expr.specs.declared.ast.Expr.{size-Expr}
use Rattle.minijinja_semantics.specs.Layout.{expr}
use Rattle.minijinja_semantics.specs.Pieces.{one}
use Rattle.minijinja_emitter.specs.internal.Making.{Made, Adds, hole}
use Rattle.minijinja_code_expr.specs.internal.Leading.{leading, piece_of, test_in, Ready, Finishes}
use Rattle.minijinja_code_expr.specs.declared.pending.PendingNode.{PendingNode}
use Rattle.minijinja_emitter.proofs.Adding.{adds_as, adds_nothing}

module _ {C F : Type 0} (f : Functions C F) where
  none_added : (m : Made C) (o : Option (Expr C)) → is_some o ≡ false → Adds m m (piece_of f o)
  none_added m None e = adds_nothing m
  none_added m (Some x) e = absurd (cc)

  -- a node without a leading operand begins wherever it stands
  pub leaf_ready : (e : Expr C) (m : Made C) (place : ℕ) → is_some (leading e) ≡ false → place ≡ length m.code → Ready f e place m m
  leaf_ready (if_expr t a b) m place h at = absurd (cc)
  leaf_ready e m place h at = record { at = at; added = none_added m (leading e) h }

  -- what comes before the leading operand was added
  abbrev pub Begins : Expr C → (place : ℕ) (old new : Made C) → Type 0
  Begins e place old new = (later : Made C) → Adds new later (piece_of f (leading e)) → Ready f e place old later

  -- and then the leading operand
  pub begins_ready : (e operand : Expr C) (place : ℕ) (old held now : Made C) → Begins e place old held → leading e ≡ Some operand → Adds held now (expr f operand) → Ready f e place old now
  begins_ready e operand place old held now begins leads s = begins now (subst (λ o. Adds held now (piece_of f o)) (sym leads) s)

  -- of an if expression its test, and a hole for the jump of the test
  pub begun_test : (e t : Expr C) {place : ℕ} {old tested held : Made C} → test_in e ≡ Some t → Adds old tested (expr f t) → place ≡ length tested.code → Adds tested held (one hole) → Begins e place old held
  begun_test (if_expr t' a b) t is s at h later more =
      let same : t ≡ t' = cc in
      record { tested = _; held = _; test_added = adds_as (ap (expr f) same) s; at = at; hole_added = h; added = more }
  begun_test e t is s at h later more = absurd (cc)

  -- of any other nothing
  pub begun_none : (e : Expr C) {place : ℕ} {old : Made C} → test_in e ≡ None → place ≡ length old.code → Begins e place old old
  begun_none (if_expr t a b) is at later more = absurd (cc)
  begun_none e is at later more = record { at = at; added = more }

module _ {V K C F : Type 0} (f : Functions C F) (c : V → C) (old : Made C) (whole : Expr C) (bound : ℕ) where
  -- with this made, what is left of the nodes that wait, the last one first, makes the whole
  abbrev pub Rest : List (PendingNode V K) → Made C → Type 0
  Rest [] now = Adds old now (expr f whole)
  Rest (w ∷ ws) now =
      (start : Made C) × Ready f (expr_tree c w.node.now) w.place start now × IsWhole (expr_tree c w.node.now) × (size-Expr V K w.node.now ≤ bound) ×
      ((later : Made C) → Adds start later (expr f (expr_tree c w.node.now)) → Rest ws later)

  -- one node more waits
  pub rest_more : (ws : List (PendingNode V K)) (w : PendingNode V K) (operand : Expr C) (now held : Made C) → Begins f (expr_tree c w.node.now) w.place now held → leading (expr_tree c w.node.now) ≡ Some operand → IsWhole (expr_tree c w.node.now) → size-Expr V K w.node.now ≤ bound →
      ((later : Made C) → Adds now later (expr f (expr_tree c w.node.now)) → Rest (reverse ws) later) → (later : Made C) → Adds held later (expr f operand) → Rest (reverse (ws ++ w ∷ [])) later
  rest_more ws w operand now held begins leads is_whole small rest later s =
      subst (λ l. Rest l later) (sym (reverse-append ws (w ∷ [])))
      (now, begins_ready f (expr_tree c w.node.now) operand w.place now held later begins leads s, is_whole, small, rest)

  -- the one that waited least is made
  pub rest_less : (ws : List (PendingNode V K)) (w : PendingNode V K) (now next : Made C) → Finishes f (expr_tree c w.node.now) w.place now next → Rest (reverse (ws ++ w ∷ [])) now → Rest (reverse ws) next
  rest_less ws w now next finishes r =
      let k = subst (λ l. Rest l now) (reverse-append ws (w ∷ [])) r in
      k.4 next (finishes k.0 k.1)

  -- its leading operand was added
  pub rest_ready : (ws : List (PendingNode V K)) (w : PendingNode V K) (now : Made C) → Rest (reverse (ws ++ w ∷ [])) now → (start : Made C) × Ready f (expr_tree c w.node.now) w.place start now
  rest_ready ws w now r = let k = subst (λ l. Rest l now) (reverse-append ws (w ∷ [])) r in (k.0, k.1)

  -- what is known of it
  pub rest_whole : (ws : List (PendingNode V K)) (w : PendingNode V K) (now : Made C) → Rest (reverse (ws ++ w ∷ [])) now → IsWhole (expr_tree c w.node.now)
  rest_whole ws w now r = let k = subst (λ l. Rest l now) (reverse-append ws (w ∷ [])) r in k.2

  pub rest_size : (ws : List (PendingNode V K)) (w : PendingNode V K) (now : Made C) → Rest (reverse (ws ++ w ∷ [])) now → size-Expr V K w.node.now ≤ bound
  rest_size ws w now r = let k = subst (λ l. Rest l now) (reverse-append ws (w ∷ [])) r in k.3
