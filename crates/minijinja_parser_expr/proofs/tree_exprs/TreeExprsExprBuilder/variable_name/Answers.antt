use Rattle.std.proofs.Common.{◌≡◌, None, refl}
use Rattle.minijinja_tree_expr.specs.declared.ast.Spanned.{Spanned}
use Rattle.minijinja_tree_expr.specs.declared.ast.Var.{Var}
use Rattle.minijinja_tree_expr.specs.declared.ast.CallArg.TheBlock as block
use Rattle.minijinja_tree_expr.specs.declared.ast.Expr.{Expr}
use Rattle.minijinja_tree_expr.specs.declared.ast.Expr.TheVariants as expr
use Rattle.minijinja_tree_expr.specs.declared.ast.Expr.TheVariants.{Compare'}
use Rattle.minijinja_tree.specs.SpannedErasure.{expr_node}
use Rattle.minijinja_grammar.specs.internal.ExprForms.{name_of_variable}
use Rattle.minijinja_parser_expr.proofs.tree_exprs.TreeExprsExprBuilder.variable_name.Goals as goal

no_name : {V F C : Type 0} (c : V → C) (e : Expr V F) → ((s : Spanned Var) → e ≡ expr.Var s → ⊥) → ◌≡◌ {A = _} None (name_of_variable (expr_node c e))
no_name c (expr.Var s) h = absurd (h s refl)
no_name c (Compare' p (block.struct-Compare e k ops) s) h = refl
no_name c _ h = refl

pub returns-in_default : goal.returns-in_default
returns-in_default g c = no_name g.V.TemplateValue.contents c.args.expr.now c.in_default.not-Var
