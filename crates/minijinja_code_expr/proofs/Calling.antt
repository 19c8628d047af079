-- What a call is made on is whole.
use Rattle.std.proofs.Common.{◌≡◌, ap}
use Rattle.minijinja_syntax.specs.Texts.{Text}
use Rattle.minijinja_tree.specs.Callees.{method, object, callee}
use Rattle.minijinja_tree.specs.Tree.{Expr, call, Args}
use Rattle.minijinja_tree.specs.WellFormed.{IsWhole}
use Rattle.minijinja_code_expr.specs.internal.Leading.{called_on}
use Rattle.minijinja_code_expr.proofs.Finishing.{leading_whole}

module _ {C : Type 0} (e : Expr C) (args : Args C) where
  pub method_whole : (d : Expr C) (x : Text) → callee e ≡ method d x → IsWhole (call e args) → IsWhole d
  method_whole d x is w = leading_whole (call e args) d (ap called_on is) w

  pub object_whole : (d : Expr C) → callee e ≡ object d → IsWhole (call e args) → IsWhole d
  object_whole d is w = leading_whole (call e args) d (ap called_on is) w
