-- What is no list, no tuple and no map is no literal.
use Rattle.std.proofs.Common.{◌≡◌, sym, ◌∙◌}
use Rattle.minijinja_tree.specs.Erasure.{expr_tree}
use Rattle.minijinja_tree_expr.specs.declared.ast.CallArg.TheBlock as block
use Rattle.minijinja_tree_expr.specs.declared.ast.CallArg.TheOpen as layer
use Rattle.minijinja_tree_expr.specs.declared.ast.Expr.{Expr, out-Expr, roll-Expr, roll-out-Expr}
use Rattle.minijinja_tree_expr.specs.declared.ast.Expr.TheVariants as expr
use Rattle.minijinja_tree_expr.specs.declared.ast.Expr.TheVariants.{Compare', List', Tuple', Map'}
use Rattle.minijinja_tree_expr.specs.declared.ast.List.{List}
use Rattle.minijinja_tree_expr.specs.declared.ast.Map.{Map}
use Rattle.minijinja_tree_expr.specs.declared.ast.Spanned.{Spanned}
use Rattle.minijinja_tree_expr.specs.declared.ast.Tuple.{Tuple}
use Rattle.minijinja_code_expr.specs.internal.Leading.{IsLiteral}

abbrev Listed : {V F : Type 0} → Expr V F → Type 0
Listed {V} {F} e = (s : Spanned (List V F)) × (e ≡ expr.List s)

abbrev Tupled : {V F : Type 0} → Expr V F → Type 0
Tupled {V} {F} e = (s : Spanned (Tuple V F)) × (e ≡ expr.Tuple s)

abbrev Mapped : {V F : Type 0} → Expr V F → Type 0
Mapped {V} {F} e = (s : Spanned (Map V F)) × (e ≡ expr.Map s)

from_list : {V F : Type 0} (e : Expr V F) (s : Spanned (List V F)) → roll-Expr V F (layer.List s) ≡ e → Listed e
from_list e s h = (s, sym h ∙ expr.rolls-List s)

from_tuple : {V F : Type 0} (e : Expr V F) (s : Spanned (Tuple V F)) → roll-Expr V F (layer.Tuple s) ≡ e → Tupled e
from_tuple e s h = (s, sym h ∙ expr.rolls-Tuple s)

from_map : {V F : Type 0} (e : Expr V F) (s : Spanned (Map V F)) → roll-Expr V F (layer.Map s) ≡ e → Mapped e
from_map e s h = (s, sym h ∙ expr.rolls-Map s)

listed : {V F : Type 0} (p k items s : _) → Listed {V = V} {F = F} (List' p k items s)
unfolding out-Expr denote.Hole.Carrier.out
listed {V} {F} p k items s = from_list (List' p k items s) _ (roll-out-Expr V F (List' p k items s))

tupled : {V F : Type 0} (p k items s : _) → Tupled {V = V} {F = F} (Tuple' p k items s)
unfolding out-Expr denote.Hole.Carrier.out
tupled {V} {F} p k items s = from_tuple (Tuple' p k items s) _ (roll-out-Expr V F (Tuple' p k items s))

mapped : {V F : Type 0} (p k keys n values s : _) → Mapped {V = V} {F = F} (Map' p k keys n values s)
unfolding out-Expr denote.Hole.Carrier.out
mapped {V} {F} p k keys n values s = from_map (Map' p k keys n values s) _ (roll-out-Expr V F (Map' p k keys n values s))

module _ {V F C : Type 0} (c : V → C) where
  pub no_literal : (e : Expr V F) → ((s : Spanned (List V F)) → e ≡ expr.List s → ⊥) → ((s : Spanned (Tuple V F)) → e ≡ expr.Tuple s → ⊥) → ((s : Spanned (Map V F)) → e ≡ expr.Map s → ⊥) → IsLiteral (expr_tree c e) → ⊥
  no_literal (List' p k items s) l t m w = let n = listed p k items s in l n.0 n.1
  no_literal (Tuple' p k items s) l t m w = let n = tupled p k items s in t n.0 n.1
  no_literal (Map' p k keys n values s) l t m w = let q = mapped p k keys n values s in m q.0 q.1
  no_literal (Compare' p (block.struct-Compare e k ops) s) l t m w = w
  no_literal _ l t m w = w
