-- The marks of calls, by what is called.
use Rattle.std.proofs.Common.{◌≡◌, ℕ, sym, ap, ◌∙◌}
use Rattle.minijinja_syntax.specs.Texts.{Text}
use Rattle.minijinja_value.specs.Values.{Functions}
use Rattle.minijinja_tree.specs.Callees.{Callee, method, object}
use Rattle.minijinja_tree.specs.Nodes.{node_of}
use Rattle.minijinja_tree.specs.SpannedErasure.{expr_node}
use Rattle.minijinja_tree_expr.specs.declared.ast.Expr.{Expr as Node}
use Rattle.minijinja_tree.specs.Tree.{Expr}
use Rattle.minijinja_tree_expr.specs.declared.ast.Expr.TheVariants as expr
use Rattle.minijinja_semantics.specs.Marks as marks
use Rattle.minijinja_semantics.specs.Marks.{Margin, Marking}
use Rattle.minijinja_code_expr.specs.internal.NodeMarks.{call_begin}

module _ {V K C F : Type 0} (f : Functions C F) (c : V → C) where
  -- the object of a method is the operand of an attribute
  pub method_object : (called operand : Node V K) → (a : _) × (called ≡ expr.GetAttr a) × (operand ≡ (node_of a).expr) → marks.expr f (expr_node c operand) ≡ marks.base f (expr_node c called)
  method_object called operand h = ap (λ e. marks.expr f (expr_node c e)) h.2 ∙ sym (ap (λ e. marks.base f (expr_node c e)) h.1)

  pub called_object : (called operand : Node V K) → operand ≡ called → marks.expr f (expr_node c operand) ≡ marks.expr f (expr_node c called)
  called_object called operand h = ap (λ e. marks.expr f (expr_node c e)) h

-- a call of this up to the macro that it takes along, whose arguments are these
module _ {C Y : Type 0} (k : Callee C) (base value : Marking) (given : Y → ℕ → Marking) (args : Y) (old : Margin) where
  pub method_begun_marks : (o : Expr C) (x : Text) (ys : Y) (on : Marking) {a new : Margin} → method o x ≡ k → ys ≡ args → on ≡ base → a ≡ on old → new ≡ given ys 1 a → new ≡ call_begin k base value (given args) old
  method_begun_marks o x ys on {a} is same same_on r s =
      s ∙ ap (λ zs. given zs 1 a) same ∙ ap (given args 1) (r ∙ ap (λ (g : Marking). g old) same_on) ∙ ap (λ j. call_begin j base value (given args) old) is

  pub object_begun_marks : (o : Expr C) (ys : Y) (on : Marking) {a new : Margin} → object o ≡ k → ys ≡ args → on ≡ value → a ≡ on old → new ≡ given ys 1 a → new ≡ call_begin k base value (given args) old
  object_begun_marks o ys on {a} is same same_on r s =
      s ∙ ap (λ zs. given zs 1 a) same ∙ ap (given args 1) (r ∙ ap (λ (g : Marking). g old) same_on) ∙ ap (λ j. call_begin j base value (given args) old) is
