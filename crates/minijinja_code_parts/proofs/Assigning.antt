-- Assignments in order, while their code is being made.
use Rattle.std.proofs.Common.{◌≡◌, ℕ, ◌+◌, ◌<◌, List, length, drop, get_or, refl, sym, ap, ◌∙◌, subst}
use Rattle.std.proofs.lemmas.List.{at_drop_more}
use Rattle.minijinja_value.specs.Values.{Functions}
use Rattle.minijinja_tree.specs.Erasure.{expr_tree, assignments_of}
use Rattle.minijinja_tree.specs.WellFormed.{IsTarget, IsWhole, AreAssignments}
use Rattle.minijinja_tree_expr.specs.declared.ast.Expr.{Expr}
use Rattle.minijinja_semantics.specs.Layout.{expr, target, assignments}
use Rattle.minijinja_semantics.specs.Pieces.{◌▸◌}
use Rattle.minijinja_emitter.specs.internal.Making.{Made, Adds}
use Rattle.minijinja_code_expr.proofs.InOrder.{Leads, leads_on}

module _ {V K C : Type 0} (c : V → C) (xs : List (Expr V K × Expr V K)) (i : ℕ) (x : Expr V K × Expr V K) where
  here : i < length xs → x ≡ get_or xs i x → AreAssignments (assignments_of c (drop i xs)) → IsTarget (expr_tree c x.0) × IsWhole (expr_tree c x.1) × AreAssignments (assignments_of c (drop (i + 1) xs))
  here within at w =
      let more = subst AreAssignments (at_drop_more (λ ys. assignments_of c ys) xs i x within) w in
      subst (λ (y : Expr V K × Expr V K). IsTarget (expr_tree c y.0) × IsWhole (expr_tree c y.1) × AreAssignments (assignments_of c (drop (i + 1) xs))) (sym at) more

  pub assignments_after : i < length xs → x ≡ get_or xs i x → AreAssignments (assignments_of c (drop i xs)) → AreAssignments (assignments_of c (drop (i + 1) xs))
  assignments_after within at w = (here within at w).2

  pub assigned_next : {F : Type 0} (f : Functions C F) {old now value next : Made C} → i < length xs → x ≡ get_or xs i x → Adds now value (expr f (expr_tree c x.1)) → Adds value next (target f (expr_tree c x.0)) →
      Leads old now (assignments f (assignments_of c (drop i xs))) (assignments f (assignments_of c xs)) → Leads old next (assignments f (assignments_of c (drop (i + 1) xs))) (assignments f (assignments_of c xs))
  assigned_next f within at s t l =
      let rest = assignments f (assignments_of c (drop (i + 1) xs)) in
      let is = at_drop_more (λ ys. assignments f (assignments_of c ys)) xs i x within
      ∙ ap (λ (y : Expr V K × Expr V K). expr f (expr_tree c y.1) ▸ target f (expr_tree c y.0) ▸ rest) (sym at) in
      leads_on (target f (expr_tree c x.0)) rest refl t (leads_on (expr f (expr_tree c x.1)) (target f (expr_tree c x.0) ▸ rest) is s l)
