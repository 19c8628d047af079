-- A slice, an operator, a chain of comparisons and an if expression are operations, and nothing else is;
-- only an if expression has a test.
use Rattle.std.proofs.Common.{◌≡◌, ◌⊎◌, inl, inr, None, refl, sym, ◌∙◌, subst}
use Rattle.minijinja_tree.specs.Erasure.{expr_tree}
use Rattle.minijinja_tree.specs.SpannedErasure.{expr_node}
use Rattle.minijinja_tree_expr.specs.declared.ast.BinOp.{BinOp}
use Rattle.minijinja_tree_expr.specs.declared.ast.CallArg.TheBlock as block
use Rattle.minijinja_tree_expr.specs.declared.ast.CallArg.TheOpen as layer
use Rattle.minijinja_tree_expr.specs.declared.ast.Compare.{Compare}
use Rattle.minijinja_tree_expr.specs.declared.ast.Expr.{Expr, out-Expr, roll-Expr, roll-out-Expr}
use Rattle.minijinja_tree_expr.specs.declared.ast.Expr.TheVariants as expr
use Rattle.minijinja_tree_expr.specs.declared.ast.Expr.TheVariants.{Slice', UnaryOp', BinOp', Compare', IfExpr'}
use Rattle.minijinja_tree_expr.specs.declared.ast.IfExpr.{IfExpr}
use Rattle.minijinja_tree_expr.specs.declared.ast.Slice.{Slice}
use Rattle.minijinja_tree_expr.specs.declared.ast.Spanned.{Spanned}
use Rattle.minijinja_tree_expr.specs.declared.ast.UnaryOp.{UnaryOp}
use Rattle.minijinja_tree_expr.proofs.SpannedNodes.{compare_is}
use Rattle.minijinja_tree.specs.Nodes.{node_of}
use Rattle.minijinja_code_expr.specs.internal.Leading.{IsOperation, test_in}
use Rattle.minijinja_code_expr.specs.internal.NodeMarks.{test_node}
use Rattle.minijinja_code_expr.proofs.Arms.{slice_arm, unary_arm, binary_arm, compare_arm, if_arm}

-- what this variant does not hold
abbrev IsNot : {V F N : Type 0} → (Spanned N → Expr V F) → Expr V F → Type 0
IsNot {V} {F} {N} variant e = (s : Spanned N) → e ≡ variant s → ⊥

-- and what it holds
abbrev Is : {V F N : Type 0} → (Spanned N → Expr V F) → Expr V F → Type 0
Is {V} {F} {N} variant e = (s : Spanned N) × (e ≡ variant s)

from_slice : {V F : Type 0} (e : Expr V F) (s : Spanned (Slice V F)) → roll-Expr V F (layer.Slice s) ≡ e → Is expr.Slice e
from_slice e s h = (s, sym h ∙ expr.rolls-Slice s)

from_unary : {V F : Type 0} (e : Expr V F) (s : Spanned (UnaryOp V F)) → roll-Expr V F (layer.UnaryOp s) ≡ e → Is expr.UnaryOp e
from_unary e s h = (s, sym h ∙ expr.rolls-UnaryOp s)

from_binary : {V F : Type 0} (e : Expr V F) (s : Spanned (BinOp V F)) → roll-Expr V F (layer.BinOp s) ≡ e → Is expr.BinOp e
from_binary e s h = (s, sym h ∙ expr.rolls-BinOp s)

from_compare : {V F : Type 0} (e : Expr V F) (s : Spanned (Compare V F)) → roll-Expr V F (layer.Compare s) ≡ e → Is expr.Compare e
from_compare e s h = (s, sym h ∙ expr.rolls-Compare s)

from_if : {V F : Type 0} (e : Expr V F) (s : Spanned (IfExpr V F)) → roll-Expr V F (layer.IfExpr s) ≡ e → Is expr.IfExpr e
from_if e s h = (s, sym h ∙ expr.rolls-IfExpr s)

is_slice : {V F : Type 0} (p e start stop step s : _) → Is {V = V} {F = F} expr.Slice (Slice' p e start stop step s)
unfolding out-Expr denote.Hole.Carrier.out
is_slice {V} {F} p e start stop step s = from_slice (Slice' p e start stop step s) _ (roll-out-Expr V F (Slice' p e start stop step s))

is_unary : {V F : Type 0} (p op e s : _) → Is {V = V} {F = F} expr.UnaryOp (UnaryOp' p op e s)
unfolding out-Expr denote.Hole.Carrier.out
is_unary {V} {F} p op e s = from_unary (UnaryOp' p op e s) _ (roll-out-Expr V F (UnaryOp' p op e s))

is_binary : {V F : Type 0} (p op l r s : _) → Is {V = V} {F = F} expr.BinOp (BinOp' p op l r s)
unfolding out-Expr denote.Hole.Carrier.out
is_binary {V} {F} p op l r s = from_binary (BinOp' p op l r s) _ (roll-out-Expr V F (BinOp' p op l r s))

is_compare : {V F : Type 0} (p q s : _) → Is {V = V} {F = F} expr.Compare (Compare' p q s)
unfolding out-Expr denote.Hole.Carrier.out
is_compare {V} {F} p q s = from_compare (Compare' p q s) _ (roll-out-Expr V F (Compare' p q s))

is_if : {V F : Type 0} (p t e o s : _) → Is {V = V} {F = F} expr.IfExpr (IfExpr' p t e o s)
unfolding out-Expr denote.Hole.Carrier.out
is_if {V} {F} p t e o s = from_if (IfExpr' p t e o s) _ (roll-out-Expr V F (IfExpr' p t e o s))

module _ {V F C : Type 0} (c : V → C) where
  pub is_operation : (e : Expr V F) → Is expr.Slice e ⊎ (Is expr.UnaryOp e ⊎ (Is expr.BinOp e ⊎ (Is expr.Compare e ⊎ Is expr.IfExpr e))) → IsOperation (expr_tree c e)
  is_operation e (inl w) = subst IsOperation (sym (slice_arm c e w.0 _ w.1 refl)) tt
  is_operation e (inr (inl w)) = subst IsOperation (sym (unary_arm c e w.0 _ w.1 refl)) tt
  is_operation e (inr (inr (inl w))) = subst IsOperation (sym (binary_arm c e w.0 _ w.1 refl)) tt
  is_operation e (inr (inr (inr (inl w)))) = subst IsOperation (sym (compare_arm c e w.0 (node_of w.0) w.1 refl ∙ compare_is c (node_of w.0))) tt
  is_operation e (inr (inr (inr (inr w)))) = subst IsOperation (sym (if_arm c e w.0 _ w.1 refl)) tt

  pub no_operation : (e : Expr V F) → IsNot expr.Slice e → IsNot expr.UnaryOp e → IsNot expr.BinOp e → IsNot expr.Compare e → IsNot expr.IfExpr e → IsOperation (expr_tree c e) → ⊥
  no_operation (Slice' p e start stop step s) a b d k i w = let n = is_slice p e start stop step s in a n.0 n.1
  no_operation (UnaryOp' p op e s) a b d k i w = let n = is_unary p op e s in b n.0 n.1
  no_operation (BinOp' p op l r s) a b d k i w = let n = is_binary p op l r s in d n.0 n.1
  no_operation (Compare' p q s) a b d k i w = let n = is_compare p q s in k n.0 n.1
  no_operation (IfExpr' p t e o s) a b d k i w = let n = is_if p t e o s in i n.0 n.1
  no_operation _ a b d k i w = w

  -- what is no if expression has no test
  pub no_test : (e : Expr V F) → IsNot expr.IfExpr e → test_in (expr_tree c e) ≡ None
  no_test (IfExpr' p t e o s) i = let n = is_if p t e o s in absurd (i n.0 n.1)
  no_test (Compare' p (block.struct-Compare e k ops) s) i = refl
  no_test _ i = refl

  pub no_test_node : (e : Expr V F) → IsNot expr.IfExpr e → test_node (expr_node c e) ≡ None
  no_test_node (IfExpr' p t e o s) i = let n = is_if p t e o s in absurd (i n.0 n.1)
  no_test_node (Compare' p (block.struct-Compare e k ops) s) i = refl
  no_test_node _ i = refl
