-- The children of expressions with parts that may be absent.
use Rattle.std.proofs.Common.{◌≡◌, ◌++◌, refl, ap, ap₂, ◌∙◌}
use Rattle.std.specs.Prelude.{◌∷◌, Option, Some, None}
use Rattle.minijinja_tree_expr.specs.Nodes.{node_of}
use Rattle.minijinja_tree.specs.SpannedErasure.{expr_node, optional_node, optional_of}
use Rattle.minijinja_tree_expr.specs.declared.ast.Expr.{Expr, back-Filter-expr}
use Rattle.minijinja_tree_expr.specs.declared.ast.Expr.TheVariants as expr_of
use Rattle.minijinja_tree_expr.specs.declared.ast.IfExpr.{IfExpr}
use Rattle.minijinja_tree_expr.specs.declared.ast.Slice.{Slice}
use Rattle.minijinja_tree_expr.specs.declared.ast.Spanned.{Spanned}
use Rattle.minijinja_walk.specs.Children.{expr, expr_children, if_any}

module _ {V F C : Type 0} (c : V → C) where
  held_is : (o : Option (Expr V F)) → optional_node c (back-Filter-expr V F o) ≡ optional_of c o
  held_is None = refl
  held_is (Some e) = refl

  pub slice_is : (s : Spanned (Slice V F)) → expr_children (expr_node c (expr_of.Slice s)) ≡
      expr (expr_node c (node_of s).expr) ∷ if_any (optional_of c (node_of s).start) ++ if_any (optional_of c (node_of s).stop) ++ if_any (optional_of c (node_of s).step)
  slice_is s =
      let n = node_of s in
      ap₂ (λ a b. expr (expr_node c n.expr) ∷ if_any a ++ if_any b ++ if_any (optional_node c (back-Filter-expr V F n.step))) (held_is n.start) (held_is n.stop)
      ∙ ap (λ o. expr (expr_node c n.expr) ∷ if_any (optional_of c n.start) ++ if_any (optional_of c n.stop) ++ if_any o) (held_is n.step)

  pub if_expr_is : (s : Spanned (IfExpr V F)) → expr_children (expr_node c (expr_of.IfExpr s)) ≡
      expr (expr_node c (node_of s).test_expr) ∷ expr (expr_node c (node_of s).true_expr) ∷ if_any (optional_of c (node_of s).false_expr)
  if_expr_is s = ap (λ o. expr (expr_node c (node_of s).test_expr) ∷ expr (expr_node c (node_of s).true_expr) ∷ if_any o) (held_is (node_of s).false_expr)
