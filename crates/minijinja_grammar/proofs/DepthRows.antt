-- The depth of 300, at its edge.
use Rattle.std.proofs.Common.{◌≡◌, List, refl}
use Rattle.minijinja_syntax.specs.Texts.{Text}
use Rattle.minijinja_syntax.specs.Tokens.{Tok}
use Rattle.minijinja_syntax.specs.declared.tokens.Span.{Span}
use Rattle.minijinja_value.specs.Values.{Functions}
use Rattle.minijinja_tree.specs.Tree as bare
use Rattle.minijinja_tree.specs.SpannedTrees.{Expr, Stmt, bare_expr, bare_stmt}
use Rattle.minijinja_grammar.specs.Places.{Place}
use Rattle.minijinja_grammar.specs.Derived.{max_depth, IsExprTree, IsTemplateTree}
use Rattle.minijinja_grammar.specs.Examples.{text_place}
use Rattle.minijinja_grammar.specs.DepthRows as row
use Rattle.minijinja_grammar.specs.DepthRows.{ExprRows, StmtRows}
use Rattle.minijinja_grammar.specs.internal.Forms.{Read, got, short, wrong, reads}
use Rattle.minijinja_grammar.specs.internal.ExprForms as g
use Rattle.minijinja_grammar.specs.internal.ExprForms.{expr_at}
use Rattle.minijinja_grammar.specs.internal.TargetForms as t
use Rattle.minijinja_grammar.specs.internal.StmtForms as form
use Rattle.minijinja_grammar.specs.internal.TemplateForms.{template_at}
use Rattle.minijinja_grammar.proofs.Forms.{sound, complete}
use Rattle.minijinja_grammar.proofs.Derivations.{derived_expr, derived_template, expr_derived, template_derived}
use Rattle.minijinja_grammar.proofs.ExprRefusals.{Stops}

module _ {C F : Type 0} (f : Functions C F) (src : Text) (o : Span) where
  abbrev place : List Tok → Place
  place ts = text_place src o ts

  -- what reads whole is derived
  expr_accepted : (ts : List Tok) → Stops (reads (expr_at f max_depth) (place ts)) → (e : bare.Expr C) × IsExprTree f (place ts) e
  expr_accepted ts i = go (reads (expr_at f max_depth) (place ts)) refl i
    where
      go : (r : Read (Expr C)) → reads (expr_at f max_depth) (place ts) ≡ r → Stops r → (e : bare.Expr C) × IsExprTree f (place ts) e
      go (got x q) j k = (bare_expr x, derived_expr f (place ts) x (record { unrefused = refl; stop = q; derived = sound (expr_at f max_depth) (place ts) q x j; none_left = k }))
      go (short q) j k = absurd k
      go (wrong q) j k = absurd k

  stmt_accepted : (ts : List Tok) → Stops (reads (template_at f max_depth) (place ts)) → (x : bare.Stmt C (Unit {0})) × IsTemplateTree f (place ts) x
  stmt_accepted ts i = go (reads (template_at f max_depth) (place ts)) refl i
    where
      go : (r : Read (Stmt C)) → reads (template_at f max_depth) (place ts) ≡ r → Stops r → (x : bare.Stmt C (Unit {0})) × IsTemplateTree f (place ts) x
      go (got x q) j k = (bare_stmt x, derived_template f (place ts) x (record { unrefused = refl; stop = q; derived = sound (template_at f max_depth) (place ts) q x j; none_left = k }))
      go (short q) j k = absurd k
      go (wrong q) j k = absurd k

  -- and what is derived reads whole
  expr_stops : (ts : List Tok) (e : bare.Expr C) → IsExprTree f (place ts) e → Stops (reads (expr_at f max_depth) (place ts))
  expr_stops ts e a =
      let u = expr_derived f (place ts) e a in
      let k : reads (expr_at f max_depth) (place ts) ≡ got u.0 u.1.stop = complete (expr_at f max_depth) (place ts) u.1.stop u.0 u.1.derived in
      rw k u.1.none_left

  stmt_stops : (ts : List Tok) (x : bare.Stmt C (Unit {0})) → IsTemplateTree f (place ts) x → Stops (reads (template_at f max_depth) (place ts))
  stmt_stops ts x a =
      let u = template_derived f (place ts) x a in
      let k : reads (template_at f max_depth) (place ts) ≡ got u.0 u.1.stop = complete (template_at f max_depth) (place ts) u.1.stop u.0 u.1.derived in
      rw k u.1.none_left

  most_parentheses : Stops (reads (expr_at f max_depth) (place (row.parentheses 149)))
  unfolding reads g.below g.cond g.level g.pow_level g.not_level g.compared_level g.unary_level g.operand g.postfixed g.primary g.word g.group g.rest_of_group
  most_parentheses = refl

  too_many_parentheses : Stops (reads (expr_at f max_depth) (place (row.parentheses 150))) → ⊥
  unfolding reads g.below g.cond g.level g.pow_level g.not_level g.compared_level g.unary_level g.operand g.postfixed g.primary g.word g.group g.rest_of_group
  too_many_parentheses a = a

  most_subscripts : Stops (reads (expr_at f max_depth) (place (row.subscripts 298)))
  unfolding reads g.below g.cond g.level g.pow_level g.not_level g.compared_level g.unary_level g.operand g.postfixed g.primary g.word g.subscript g.rest_of_subscript
  most_subscripts = refl

  too_many_subscripts : Stops (reads (expr_at f max_depth) (place (row.subscripts 299))) → ⊥
  unfolding reads g.below g.cond g.level g.pow_level g.not_level g.compared_level g.unary_level g.operand g.postfixed g.primary g.word g.subscript g.rest_of_subscript
  too_many_subscripts a = a

  most_nots : Stops (reads (expr_at f max_depth) (place (row.nots 298)))
  unfolding reads g.below g.cond g.level g.pow_level g.not_level g.compared_level g.unary_level g.operand g.postfixed g.primary g.word
  most_nots = refl

  too_many_nots : Stops (reads (expr_at f max_depth) (place (row.nots 299))) → ⊥
  unfolding reads g.below g.cond g.level g.pow_level g.not_level g.compared_level g.unary_level g.operand g.postfixed g.primary g.word
  too_many_nots a = a

  most_minuses : Stops (reads (expr_at f max_depth) (place (row.minuses 298)))
  unfolding reads g.below g.cond g.level g.pow_level g.not_level g.compared_level g.unary_level g.operand g.postfixed g.primary g.word
  most_minuses = refl

  too_many_minuses : Stops (reads (expr_at f max_depth) (place (row.minuses 299))) → ⊥
  unfolding reads g.below g.cond g.level g.pow_level g.not_level g.compared_level g.unary_level g.operand g.postfixed g.primary g.word
  too_many_minuses a = a

  most_powers : Stops (reads (expr_at f max_depth) (place (row.powers 298)))
  unfolding reads g.below g.cond g.level g.pow_level g.not_level g.compared_level g.unary_level g.operand g.postfixed g.primary g.word
  most_powers = refl

  too_many_powers : Stops (reads (expr_at f max_depth) (place (row.powers 299))) → ⊥
  unfolding reads g.below g.cond g.level g.pow_level g.not_level g.compared_level g.unary_level g.operand g.postfixed g.primary g.word
  too_many_powers a = a

  most_elses : Stops (reads (expr_at f max_depth) (place (row.elses 298)))
  unfolding reads g.below g.cond g.level g.pow_level g.not_level g.compared_level g.unary_level g.operand g.postfixed g.primary g.word g.if_turn
  most_elses = refl

  too_many_elses : Stops (reads (expr_at f max_depth) (place (row.elses 299))) → ⊥
  unfolding reads g.below g.cond g.level g.pow_level g.not_level g.compared_level g.unary_level g.operand g.postfixed g.primary g.word g.if_turn
  too_many_elses a = a

  most_ifs : Stops (reads (template_at f max_depth) (place (row.ifs 299)))
  unfolding reads template_at form.body form.within form.stmt_level form.tag form.if_level form.otherwise form.else_body g.below g.level g.pow_level g.not_level g.compared_level g.unary_level g.operand g.postfixed g.primary g.word
  most_ifs = refl

  too_many_ifs : Stops (reads (template_at f max_depth) (place (row.ifs 300))) → ⊥
  unfolding reads template_at form.body form.within form.stmt_level form.tag form.if_level form.otherwise form.else_body g.below g.level g.pow_level g.not_level g.compared_level g.unary_level g.operand g.postfixed g.primary g.word
  too_many_ifs a = a

  most_elifs : Stops (reads (template_at f max_depth) (place (row.elifs 298)))
  unfolding reads template_at form.body form.within form.stmt_level form.tag form.if_level form.otherwise form.else_body g.below g.level g.pow_level g.not_level g.compared_level g.unary_level g.operand g.postfixed g.primary g.word
  most_elifs = refl

  too_many_elifs : Stops (reads (template_at f max_depth) (place (row.elifs 299))) → ⊥
  unfolding reads template_at form.body form.within form.stmt_level form.tag form.if_level form.otherwise form.else_body g.below g.level g.pow_level g.not_level g.compared_level g.unary_level g.operand g.postfixed g.primary g.word
  too_many_elifs a = a

  most_targets : Stops (reads (template_at f max_depth) (place (row.targets 299)))
  unfolding reads template_at form.body form.within form.stmt_level form.tag form.set_stmt form.rest_of_set form.value t.any_targets t.targets t.target_in t.named_target t.attributes g.below g.cond g.level g.pow_level g.not_level g.compared_level g.unary_level g.operand g.postfixed g.primary g.word
  most_targets = refl

  too_many_targets : Stops (reads (template_at f max_depth) (place (row.targets 300))) → ⊥
  unfolding reads template_at form.body form.within form.stmt_level form.tag form.set_stmt form.rest_of_set form.value t.any_targets t.targets t.target_in t.named_target t.attributes g.below g.cond g.level g.pow_level g.not_level g.compared_level g.unary_level g.operand g.postfixed g.primary g.word
  too_many_targets a = a

pub expr_rows : {C F : Type 0} (f : Functions C F) → ExprRows f
expr_rows f = record {
  in_parentheses = (λ s o. expr_accepted f s o (row.parentheses 149) (most_parentheses f s o), λ s o e a. too_many_parentheses f s o (expr_stops f s o (row.parentheses 150) e a));
  in_subscripts = (λ s o. expr_accepted f s o (row.subscripts 298) (most_subscripts f s o), λ s o e a. too_many_subscripts f s o (expr_stops f s o (row.subscripts 299) e a));
  after_not = (λ s o. expr_accepted f s o (row.nots 298) (most_nots f s o), λ s o e a. too_many_nots f s o (expr_stops f s o (row.nots 299) e a));
  after_minus = (λ s o. expr_accepted f s o (row.minuses 298) (most_minuses f s o), λ s o e a. too_many_minuses f s o (expr_stops f s o (row.minuses 299) e a));
  after_power = (λ s o. expr_accepted f s o (row.powers 298) (most_powers f s o), λ s o e a. too_many_powers f s o (expr_stops f s o (row.powers 299) e a));
  after_else = (λ s o. expr_accepted f s o (row.elses 298) (most_elses f s o), λ s o e a. too_many_elses f s o (expr_stops f s o (row.elses 299) e a));
}

pub stmt_rows : {C F : Type 0} (f : Functions C F) → StmtRows f
stmt_rows f = record {
  in_if = (λ s o. stmt_accepted f s o (row.ifs 299) (most_ifs f s o), λ s o x a. too_many_ifs f s o (stmt_stops f s o (row.ifs 300) x a));
  after_elif = (λ s o. stmt_accepted f s o (row.elifs 298) (most_elifs f s o), λ s o x a. too_many_elifs f s o (stmt_stops f s o (row.elifs 299) x a));
  in_targets = (λ s o. stmt_accepted f s o (row.targets 299) (most_targets f s o), λ s o x a. too_many_targets f s o (stmt_stops f s o (row.targets 300) x a));
}
