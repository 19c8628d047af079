-- What may be assigned to, by the kinds of nodes.
use Rattle.std.proofs.Common.{◌≡◌, refl}
use Rattle.std.specs.Prelude.{false}
use Rattle.minijinja_tree_expr.specs.Erasure.{expr_tree, compare_tree}
use Rattle.minijinja_tree_expr.specs.declared.ast.CallArg.TheBlock as block
use Rattle.minijinja_tree_expr.specs.declared.ast.Expr.{Expr}
use Rattle.minijinja_tree_expr.specs.declared.ast.Expr.TheVariants as expr
use Rattle.minijinja_tree_expr.proofs.Lists.{listed}
use Rattle.minijinja_well_formed.specs.private.ExpressionTests.{is_target}

compare-target : {V F C : Type 0} (c : V → C) (q : block.the_data-4 V F) → is_target (compare_tree c q) ≡ false
compare-target c (block.struct-Compare e k ops) = refl

-- what is no variable, attribute or list is no target
pub other-target : {V F C : Type 0} (c : V → C) (e : Expr V F) → ((s : _) → e ≡ expr.Var s → ⊥) → ((s : _) → e ≡ expr.GetAttr s → ⊥) → ((s : _) → e ≡ expr.List s → ⊥) → is_target (expr_tree c e) ≡ false
other-target c (expr.Var s) n m l = absurd (n s refl)
other-target c (expr.GetAttr' p e x s) n m l = absurd (m (record { place = record { value = record { node = record { expr = e; name = x }; span = s }; ptr = p.ptr; alloc = p.alloc } }) refl)
other-target c (expr.List' p k items s) n m l = let w = listed p k items s in absurd (l w.0 w.1)
other-target c (expr.Compare' p q s) n m l = compare-target c q
other-target c _ n m l = refl
