-- Expressions that are stored to, by the kinds of nodes.
use Rattle.std.proofs.Common.{◌≡◌, refl, sym, ap, ◌∙◌, false}
use Rattle.minijinja_tree_expr.specs.declared.ast.CallArg.TheBlock as block
use Rattle.minijinja_tree_expr.specs.declared.ast.Expr.{Expr as Node, roll-Expr, roll-out-Expr}
use Rattle.minijinja_tree_expr.specs.declared.ast.Expr.TheVariants as expr
use Rattle.minijinja_tree_expr.specs.declared.ast.Expr.TheVariants.{Compare', GetAttr', List', outs-GetAttr', rolls-GetAttr}
use Rattle.minijinja_tree_expr.specs.declared.ast.GetAttr.{GetAttr}
use Rattle.minijinja_tree_expr.specs.declared.ast.List.{List}
use Rattle.minijinja_tree_expr.specs.declared.ast.Spanned.{Spanned}
use Rattle.minijinja_tree_expr.specs.declared.ast.Var.{Var}
use Rattle.minijinja_tree_expr.proofs.Lists.{listed}
use Rattle.minijinja_tree.specs.SpannedErasure.{expr_node}
use Rattle.minijinja_grammar.specs.internal.StmtForms.{is_storable}

-- what is no variable, attribute or list may not be stored to
pub not-storable : {V F C : Type 0} (c : V → C) (e : Node V F) → ((s : Spanned Var) → e ≡ expr.Var s → ⊥) → ((s : Spanned (GetAttr V F)) → e ≡ expr.GetAttr s → ⊥) → ((s : Spanned (List V F)) → e ≡ expr.List s → ⊥) → false ≡ is_storable (expr_node c e)
not-storable c (expr.Var s) h k l = absurd (h s refl)
not-storable {V} {F} c (GetAttr' p e x s) h k l = absurd (k _ (sym (roll-out-Expr V F (GetAttr' p e x s)) ∙ ap (roll-Expr V F) (outs-GetAttr' p e x s) ∙ rolls-GetAttr _))
not-storable c (List' p k items s) h i l = let w = listed p k items s in absurd (l w.0 w.1)
not-storable c (Compare' p (block.struct-Compare e k ops) s) h i l = refl
not-storable c _ h k l = refl
