-- The marks of nodes that wait for their leading operand, while an expression is marked.
use Rattle.std.proofs.Common.{◌≡◌, ℕ, List, [], ◌∷◌, ◌++◌, length, Some, None, refl, ap, ap₂, ◌∙◌}
use Rattle.std.specs.Prelude.{false, is_some, reverse}
use Rattle.std.proofs.lemmas.List.{reverse-append}
use Rattle.std.specs.Borrow.{Bor}
use Rattle.minijinja_syntax.specs.declared.tokens.Span.{Span}
use Rattle.minijinja_value.specs.Values.{Functions}
use Rattle.minijinja_tree.specs.SpannedErasure.{expr_node}
use Rattle.minijinja_tree_expr.specs.declared.ast.Expr.{Expr}
use Rattle.minijinja_semantics.specs.Marks.{Margin, expr, here}
use Rattle.minijinja_tree.specs.Callees.{Callee, function, method, block, object, callee}
use Rattle.minijinja_tree.specs.Erasure.{expr_tree}
use Rattle.minijinja_tree.specs.SpannedTrees as spanned
use Rattle.minijinja_tree.specs.SpannedTrees.{variable, constant, slice, unary, binary, compare, if_expr, filter, test, attribute, item, call, list, tuple, map, absent, present, bare_expr}
use Rattle.minijinja_tree_expr.proofs.Bare.{expr_is}
use Rattle.minijinja_code_expr.specs.internal.Leading.{called_on, leading}
use Rattle.minijinja_code_expr.specs.internal.NodeMarks.{begun, called_on_node, finished, leading_node, test_node}
use Rattle.minijinja_code_expr.specs.declared.pending.PendingNode.{PendingNode}
use Rattle.minijinja_code_expr.proofs.NodeMarking.{whole_plain, whole_tested}

module _ {V K C F : Type 0} (f : Functions C F) (c : V → C) where
  -- what the nodes that wait make of the marks, the last one first
  abbrev pub after : List (PendingNode V K) → Margin → Margin
  after [] t = t
  after (w ∷ ws) t = after ws (finished f (expr_node c w.node.now) w.place w.outer t)

  -- one node more waits
  pub after_more : (ws : List (PendingNode V K)) (w : PendingNode V K) (t : Margin) → after (reverse (ws ++ w ∷ [])) t ≡ after (reverse ws) (finished f (expr_node c w.node.now) w.place w.outer t)
  after_more ws w t = ap (λ l. after l t) (reverse-append ws (w ∷ []))

  -- what is left with one more node that waits
  abbrev pub with_one_more : List (PendingNode V K) → Bor (Expr V K) → (place : ℕ) (outer : Span) → Margin → Margin
  with_one_more ws node place outer t =
      let w : PendingNode V K = record { node = node; place = place; outer = outer } in
      after (reverse (ws ++ w ∷ [])) t

  module _ (e operand : Expr V K) (place : ℕ) (outer : Span) (t u : Margin) where
    -- a node whose operand comes next
    pub one_plain : test_node (expr_node c e) ≡ None → leading_node (expr_node c e) ≡ Some (expr_node c operand) → place ≡ length t.marks → outer ≡ t.span → u ≡ begun (expr_node c e) t →
        finished f (expr_node c e) place outer (expr f (expr_node c operand) u) ≡ expr f (expr_node c e) t
    one_plain n h at eo eu =
        ap₂ (λ o v. finished f (expr_node c e) place o (expr f (expr_node c operand) v)) eo eu ∙ whole_plain f (expr_node c e) (expr_node c operand) t place n h at

    -- or its test and the test's jump before that
    pub one_tested : (condition : Expr V K) → test_node (expr_node c e) ≡ Some (expr_node c condition) → leading_node (expr_node c e) ≡ Some (expr_node c operand) → outer ≡ t.span → u ≡ here 1 (expr f (expr_node c condition) (begun (expr_node c e) t)) →
        finished f (expr_node c e) place outer (expr f (expr_node c operand) u) ≡ expr f (expr_node c e) t
    one_tested condition n h eo eu =
        ap₂ (λ o v. finished f (expr_node c e) place o (expr f (expr_node c operand) v)) eo eu ∙ whole_tested f (expr_node c e) (expr_node c condition) (expr_node c operand) t place n h

  module _ (ws : List (PendingNode V K)) (w : PendingNode V K) (operand : Expr V K) (t u whole : Margin) where
    -- one more waits
    pub waits_plain : test_node (expr_node c w.node.now) ≡ None → leading_node (expr_node c w.node.now) ≡ Some (expr_node c operand) → w.place ≡ length t.marks → w.outer ≡ t.span → u ≡ begun (expr_node c w.node.now) t →
        after (reverse ws) (expr f (expr_node c w.node.now) t) ≡ whole → after (reverse (ws ++ w ∷ [])) (expr f (expr_node c operand) u) ≡ whole
    waits_plain n h at eo eu rest =
        after_more ws w (expr f (expr_node c operand) u)
        ∙ ap (after (reverse ws)) (one_plain w.node.now operand w.place w.outer t u n h at eo eu)
        ∙ rest

    pub waits_tested : (condition : Expr V K) → test_node (expr_node c w.node.now) ≡ Some (expr_node c condition) → leading_node (expr_node c w.node.now) ≡ Some (expr_node c operand) → w.outer ≡ t.span → u ≡ here 1 (expr f (expr_node c condition) (begun (expr_node c w.node.now) t)) →
        after (reverse ws) (expr f (expr_node c w.node.now) t) ≡ whole → after (reverse (ws ++ w ∷ [])) (expr f (expr_node c operand) u) ≡ whole
    waits_tested condition n h eo eu rest =
        after_more ws w (expr f (expr_node c operand) u)
        ∙ ap (after (reverse ws)) (one_tested w.node.now operand w.place w.outer t u condition n h eo eu)
        ∙ rest

pub bare_called : {C : Type 0} (k : Callee C) (e : spanned.Expr C) → is_some (called_on k) ≡ false → called_on_node k e ≡ None
bare_called (function x) e h = refl
bare_called (block x) e h = refl
bare_called (method o x) e h = absurd (cc)
bare_called (object o) e h = absurd (cc)

-- a node has a leading operand where its tree has one
bare_leading : {C : Type 0} (e : spanned.Expr C) → is_some (leading (bare_expr e)) ≡ false → leading_node e ≡ None
bare_leading (variable x s) h = refl
bare_leading (constant c s) h = refl
bare_leading (slice e i j k s) h = absurd (cc)
bare_leading (unary o e s) h = absurd (cc)
bare_leading (binary o a b s) h = absurd (cc)
bare_leading (compare e cs s) h = absurd (cc)
bare_leading (if_expr t a b s) h = absurd (cc)
bare_leading (filter absent x args s) h = refl
bare_leading (filter (present e) x args s) h = absurd (cc)
bare_leading (test e x args s) h = absurd (cc)
bare_leading (attribute e x s) h = absurd (cc)
bare_leading (item e k s) h = absurd (cc)
bare_leading (call e args s) h = bare_called (callee (bare_expr e)) e h
bare_leading (list es s) h = refl
bare_leading (tuple es s) h = refl
bare_leading (map ks vs s) h = refl

pub no_leading : {V K C : Type 0} (c : V → C) (e : Expr V K) → is_some (leading (expr_tree c e)) ≡ false → leading_node (expr_node c e) ≡ None
no_leading c e h = bare_leading (expr_node c e) (ap (λ x. is_some (leading x)) (expr_is c e) ∙ h)
