-- The start of a call that takes a macro along: what it is made on, and its arguments.
use Rattle.std.proofs.Common.{◌≡◌, sym, ap, subst}
use Rattle.minijinja_syntax.specs.Texts.{Text}
use Rattle.minijinja_value.specs.Values.{Functions}
use Rattle.minijinja_tree.specs.Callees.{Callee, method, object, callee}
use Rattle.minijinja_tree.specs.Tree.{Expr, Args}
use Rattle.minijinja_semantics.specs.Layout.{expr, up_to_caller}
use Rattle.minijinja_semantics.specs.Places.{before_caller}
use Rattle.minijinja_emitter.specs.internal.Making.{Made, Adds}
use Rattle.minijinja_emitter.proofs.Adding.{adds_as, adds_then}
use Rattle.minijinja_code_expr.proofs.Finishing.{method_base, object_is}

module _ {C F : Type 0} (f : Functions C F) (e : Expr C) (args : Args C) {a o b : Made C} where
  pub method_begun : (d : Expr C) (x : Text) → callee e ≡ method d x → Adds a o (expr f d) → Adds o b (up_to_caller f args 1) → Adds a b (before_caller f (callee e) e args)
  method_begun d x is s t = subst (λ (k : Callee C). Adds a b (before_caller f k e args)) (sym is) (adds_then (adds_as (sym (method_base f e d x is)) s) t)

  pub object_begun : (d : Expr C) → callee e ≡ object d → Adds a o (expr f d) → Adds o b (up_to_caller f args 1) → Adds a b (before_caller f (callee e) e args)
  object_begun d is s t = subst (λ (k : Callee C). Adds a b (before_caller f k e args)) (sym is) (adds_then (adds_as (ap (expr f) (sym (object_is f e d is))) s) t)
