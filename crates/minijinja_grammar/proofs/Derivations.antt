-- The trees of the tokens at a place are those that the forms derive there, without their spans.
use Rattle.std.proofs.Common.{◌≡◌, [], refl, sym, ap, subst, ◌∙◌}
use Rattle.minijinja_syntax.specs.Streams.{finished}
use Rattle.minijinja_value.specs.Values.{Functions}
use Rattle.minijinja_tree.specs.Tree as bare
use Rattle.minijinja_tree.specs.SpannedTrees.{Expr, Stmt, bare_expr, bare_stmt}
use Rattle.minijinja_grammar.specs.Places.{Place}
use Rattle.minijinja_grammar.specs.Expressions.{IsExpr}
use Rattle.minijinja_grammar.specs.SpannedExpressions.{spanned_expr}
use Rattle.minijinja_grammar.specs.Derived.{max_depth, IsTemplateTree, template_tree, IsExprTree, spanned_template, IsSpannedTemplate, IsSpannedExpr, FitsSoFar, continued}
use Rattle.minijinja_grammar.specs.internal.ExprForms.{expr_at}
use Rattle.minijinja_grammar.specs.internal.TemplateForms.{template_at}
use Rattle.minijinja_grammar.specs.internal.Whole.{IsWholeOf}
use Rattle.minijinja_grammar.proofs.TokenReading.{at}
use Rattle.minijinja_grammar.proofs.Reading.{expr_is_derived}
use Rattle.minijinja_grammar.proofs.StmtReading.{template_is_derived}
use Rattle.minijinja_grammar.proofs.BackWhole.{derived_is_expr}
use Rattle.minijinja_grammar.proofs.BackTemplates.{derived_is_template}
use Rattle.minijinja_tree.specs.WellFormed.{IsWellFormed, IsWhole}
use Rattle.minijinja_grammar.proofs.Trees.{one_whole}
use Rattle.minijinja_grammar.proofs.Trees.{template_formed as formed, expression_whole as whole}

module _ {C F : Type 0} (f : Functions C F) (p : Place) where
  -- ---- templates

  unrefused : (t : bare.Stmt C (Unit {0})) → IsTemplateTree f p t → p.ending ≡ finished
  unrefused t (template_tree e b i j) = e

  -- of each tree the form derives the one with spans
  pub template_derived : (t : bare.Stmt C (Unit {0})) → (a : IsTemplateTree f p t) → (y : Stmt C) × IsWholeOf (template_at f max_depth) p y × (bare_stmt y ≡ t) × (spanned_template f p a ≡ y)
  template_derived t a =
      let u = template_is_derived f p.source p.ending p.names p.tokens p.last t a in
      (u.0, record { unrefused = unrefused t a; stop = at f p.source p.ending u.2 [] u.1; derived = u.3; none_left = refl }, u.4, u.5)

  -- and what it derives is one
  pub derived_template : (y : Stmt C) → IsWholeOf (template_at f max_depth) p y → IsTemplateTree f p (bare_stmt y)
  derived_template y a = derived_is_template f p a.stop y a.unrefused a.derived a.none_left

  pub one_template : (t u : bare.Stmt C (Unit {0})) → IsTemplateTree f p t → IsTemplateTree f p u → t ≡ u
  one_template t u a b =
      let v = template_derived t a in
      let w = template_derived u b in
      sym v.2 ∙ ap bare_stmt (one_whole (template_at f max_depth) p v.0 w.0 v.1 w.1) ∙ w.2

  -- what the form derives stands where the derivation has it, and nothing else does
  pub template_spanned : (y : Stmt C) → IsWholeOf (template_at f max_depth) p y → IsSpannedTemplate f p y
  template_spanned y a =
      let b = derived_template y a in
      let v = template_derived (bare_stmt y) b in
      record { derivation = b; spans = v.3 ∙ one_whole (template_at f max_depth) p v.0 y v.1 a }

  spanned_is_whole : (y : Stmt C) → IsSpannedTemplate f p y → IsWholeOf (template_at f max_depth) p y
  spanned_is_whole y a =
      let v = template_derived (bare_stmt y) a.derivation in
      subst (IsWholeOf (template_at f max_depth) p) (sym v.3 ∙ a.spans) v.1

  pub one_spanned_template : (t u : Stmt C) → IsSpannedTemplate f p t → IsSpannedTemplate f p u → t ≡ u
  one_spanned_template t u a b = one_whole (template_at f max_depth) p t u (spanned_is_whole t a) (spanned_is_whole u b)

  -- of each tree there is one with spans
  pub template_placed : (t : bare.Stmt C (Unit {0})) → IsTemplateTree f p t → (y : Stmt C) × IsSpannedTemplate f p y × (bare_stmt y ≡ t)
  template_placed t a = let v = template_derived t a in (v.0, template_spanned v.0 v.1, v.2)

  -- ---- expressions

  pub expr_derived : (e : bare.Expr C) → (a : IsExprTree f p e) →
      (y : Expr C) × IsWholeOf (expr_at f max_depth) p y × (bare_expr y ≡ e) × ((spanned_expr f p.source p.last a.derived).0 ≡ y)
  expr_derived e a =
      let u = expr_is_derived f p.source p.ending p.names max_depth p.tokens [] e a.derived p.last in
      (u.0, record { unrefused = a.unrefused; stop = at f p.source p.ending p.names [] u.1; derived = u.2; none_left = refl }, u.3, ap (λ x. x.0) u.4)

  pub derived_expr : (y : Expr C) → IsWholeOf (expr_at f max_depth) p y → IsExprTree f p (bare_expr y)
  derived_expr y a = record {
    unrefused = a.unrefused;
    derived = subst (λ ts. IsExpr f p.source max_depth p.tokens ts (bare_expr y)) a.none_left (derived_is_expr f p.source max_depth p a.stop y refl a.derived);
  }

  pub one_expr : (e x : bare.Expr C) → IsExprTree f p e → IsExprTree f p x → e ≡ x
  one_expr e x a b =
      let v = expr_derived e a in
      let w = expr_derived x b in
      sym v.2 ∙ ap bare_expr (one_whole (expr_at f max_depth) p v.0 w.0 v.1 w.1) ∙ w.2

  pub expr_spanned : (y : Expr C) → IsWholeOf (expr_at f max_depth) p y → IsSpannedExpr f p y
  expr_spanned y a =
      let b = derived_expr y a in
      let v = expr_derived (bare_expr y) b in
      record { derivation = b; spans = v.3 ∙ one_whole (expr_at f max_depth) p v.0 y v.1 a }

  spanned_expr_is_whole : (y : Expr C) → IsSpannedExpr f p y → IsWholeOf (expr_at f max_depth) p y
  spanned_expr_is_whole y a =
      let v = expr_derived (bare_expr y) a.derivation in
      subst (IsWholeOf (expr_at f max_depth) p) (sym v.3 ∙ a.spans) v.1

  pub one_spanned_expr : (e x : Expr C) → IsSpannedExpr f p e → IsSpannedExpr f p x → e ≡ x
  one_spanned_expr e x a b = one_whole (expr_at f max_depth) p e x (spanned_expr_is_whole e a) (spanned_expr_is_whole x b)

  pub expr_placed : (e : bare.Expr C) → IsExprTree f p e → (y : Expr C) × IsSpannedExpr f p y × (bare_expr y ≡ e)
  expr_placed e a = let v = expr_derived e a in (v.0, expr_spanned v.0 v.1, v.2)

  -- ---- what holds of the trees

  pub template_formed : (t : bare.Stmt C (Unit {0})) → IsTemplateTree f p t → IsWellFormed t
  template_formed t a = let v = template_derived t a in subst IsWellFormed v.2 (formed f p v.0 v.1)

  pub expr_whole : (e : bare.Expr C) → IsExprTree f p e → IsWhole e
  expr_whole e a = let v = expr_derived e a in subst IsWhole v.2 (whole f p v.0 v.1)

-- ---- tokens that are the beginning of what has a tree

module _ {C F : Type 0} (f : Functions C F) (p : Place) where
  pub template_fits : FitsSoFar (IsTemplateTree f) p → FitsSoFar (IsWholeOf (template_at f max_depth)) p
  template_fits h = let v = template_derived f (continued h.more p) h.tree h.whole in record { more = h.more; tree = v.0; whole = v.1 }

  pub expr_fits : FitsSoFar (IsExprTree f) p → FitsSoFar (IsWholeOf (expr_at f max_depth)) p
  expr_fits h = let v = expr_derived f (continued h.more p) h.tree h.whole in record { more = h.more; tree = v.0; whole = v.1 }
