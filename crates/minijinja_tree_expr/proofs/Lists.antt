-- Expressions that are lists.
use Rattle.std.proofs.Common.{◌≡◌, sym, ◌∙◌}
use Rattle.minijinja_tree_expr.specs.declared.ast.CallArg.TheOpen as layer
use Rattle.minijinja_tree_expr.specs.declared.ast.Spanned.{Spanned}
use Rattle.minijinja_tree_expr.specs.declared.ast.List.{List}
use Rattle.minijinja_tree_expr.specs.declared.ast.Expr.{Expr, out-Expr, roll-Expr, roll-out-Expr}
use Rattle.minijinja_tree_expr.specs.declared.ast.Expr.TheVariants as expr
use Rattle.minijinja_tree_expr.specs.declared.ast.Expr.TheVariants.{List'}

-- the list that an expression is, if it is one
abbrev Listed : {V F : Type 0} → Expr V F → Type 0
Listed {V} {F} e = (s : Spanned (List V F)) × (e ≡ expr.List s)

from-layer : {V F : Type 0} (e : Expr V F) (s : Spanned (List V F)) → roll-Expr V F (layer.List s) ≡ e → Listed e
from-layer e s h = (s, sym h ∙ expr.rolls-List s)

pub listed : {V F : Type 0} (p : _) (k : _) (items : _) (s : _) → Listed {V = V} {F = F} (List' p k items s)
unfolding out-Expr denote.Hole.Carrier.out
listed {V} {F} p k items s = from-layer (List' p k items s) _ (roll-out-Expr V F (List' p k items s))
