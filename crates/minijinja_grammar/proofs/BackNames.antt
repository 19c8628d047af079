-- Which forms give no names: all but those of blocks, and of what has statements in it.
use Rattle.std.proofs.Common.{◌≡◌, inl, inr, ℕ, zero, suc, Bool, true, false, List, [], ◌∷◌, Option, Some, None, refl, sym, ap, ◌∙◌}
use Rattle.minijinja_syntax.specs.Texts.{Text}
use Rattle.minijinja_value.specs.Values.{Functions}
use Rattle.minijinja_syntax.specs.declared.tokens.Span.{Span}
use Rattle.minijinja_syntax.specs.Streams.{SpannedTok}
use Rattle.minijinja_syntax.specs.Tokens.{Tok}
use Rattle.minijinja_tree.specs.SpannedTrees.{Expr, Arg, Args, bare_expr}
use Rattle.minijinja_grammar.specs.Places.{Place}
use Rattle.minijinja_grammar.specs.internal.Forms.{Turn, go_on, over, Form, pure, nothing, one, source, start, last, and_then, either, many, Turns, no_turn, last_turn, turn, Derives}
use Rattle.minijinja_grammar.specs.internal.ExprForms as g
use Rattle.minijinja_grammar.specs.internal.ExprForms.{below}
use Rattle.minijinja_grammar.specs.internal.TargetForms as t
use Rattle.minijinja_grammar.specs.internal.StmtForms as form
use Rattle.minijinja_grammar.proofs.FormNames.{param_items, params_if_any, word_if_any}
use Rattle.minijinja_grammar.proofs.Forms.{complete, same_read}
use Rattle.minijinja_grammar.proofs.Reading.{expr_is_derived, all_nested}
use Rattle.minijinja_grammar.proofs.Reading as reading
use Rattle.minijinja_grammar.proofs.TargetReading.{any_targets_read}
use Rattle.minijinja_grammar.proofs.BackWhole.{derived_is_expr, or_all, all_backed}
use Rattle.minijinja_grammar.proofs.BackTargets.{any_targets_back}

-- ---- forms that give no name

pub record Quiet {A : Type 0} (f : Form A) : Type 0 where
  pub same : (p q : Place) (x : A) → Derives f p q x → q.names ≡ p.names

pub pure_quiet : {A : Type 0} {x : A} → Quiet (pure x)
pure_quiet = record { same = λ p q y d. sym (ap (λ (r : Place). r.names) d.0) }

pub nothing_quiet : {A : Type 0} → Quiet (nothing {A = A})
nothing_quiet = record { same = λ p q y d. absurd d }

pub one_quiet : {A : Type 0} {held : SpannedTok → Option A} → Quiet (one held)
one_quiet = record { same = λ p q x d. ap (λ (r : Place). r.names) d.behind }

source_quiet : Quiet source
source_quiet = record { same = λ p q x d. sym (ap (λ (r : Place). r.names) d.0) }

start_quiet : Quiet start
start_quiet = record { same = λ p q x d. sym (ap (λ (r : Place). r.names) d.0) }

pub last_quiet : Quiet last
last_quiet = record { same = λ p q x d. sym (ap (λ (r : Place). r.names) d.0) }

pub then_quiet : {A B : Type 0} {f : Form A} {h : A → Form B} → Quiet f → ((x : A) → Quiet (h x)) → Quiet (and_then f h)
then_quiet i k = record { same = λ p q y d. (k d.0).same d.1 q y d.3 ∙ i.same p d.1 d.0 d.2 }

pub either_quiet : {A : Type 0} {begins : Tok → Bool} {f h : Form A} → Quiet f → Quiet h → Quiet (either begins f h)
either_quiet {A} {begins = begins} {f = f} {h = h} i k = record { same = go }
  where
    go : (p q : Place) (y : A) → Derives (either begins f h) p q y → q.names ≡ p.names
    go p q y (inl d) = i.same p q y d.1
    go p q y (inr d) = k.same p q y d.1

many_quiet : {A B : Type 0} {held : SpannedTok → Option B} {t : A → B → Form (Turn A)} {x : A} → ((y : A) (h : B) → Quiet (t y h)) → Quiet (many held t x)
many_quiet {A} {B} {held = held} {t = t} {x = z} k = record { same = λ p q y d. go z p q y d }
  where
    go : (x : A) (p q : Place) (y : A) → Turns held (λ y h. Derives (t y h)) x p q y → q.names ≡ p.names
    go x p q y (no_turn e) = refl
    go x p r y (last_turn {h = h} {q = q} v d) = (k x h).same q r (over y) d ∙ ap (λ (r : Place). r.names) v.behind
    go x p s y (turn {y = w} {h = h} {q = q} {r = r} v d m) = go w r s y m ∙ (k x h).same q r (go_on w) d ∙ ap (λ (r : Place). r.names) v.behind

-- one token, and what follows
pub after_quiet : {A B : Type 0} {held : SpannedTok → Option A} {h : A → Form B} → ((x : A) → Quiet (h x)) → Quiet (and_then (one held) h)
after_quiet k = then_quiet one_quiet k

pub when_quiet : {A : Type 0} (b : Bool) {f : Form A} → Quiet f → Quiet (g.when b f)
when_quiet true i = i
when_quiet false i = nothing_quiet

-- ---- parts of statements

pub flag_quiet : (m : Tok) → Quiet (word_if_any m)
flag_quiet m = either_quiet (after_quiet (λ s. pure_quiet)) pure_quiet

pub scoped_quiet : Quiet form.scoped_if_any
scoped_quiet = either_quiet (after_quiet (λ s. pure_quiet)) pure_quiet

name_quiet : Quiet g.name
unfolding g.name g.name_parts g.name_part
name_quiet = after_quiet (λ x. either_quiet (then_quiet (many_quiet (λ y h. after_quiet (λ z. pure_quiet))) (λ to. then_quiet source_quiet (λ s. pure_quiet))) pure_quiet)

pub context_quiet : Quiet form.context_if_any
unfolding form.context_if_any
context_quiet = either_quiet (then_quiet (after_quiet (λ s. one_quiet)) (λ s. pure_quiet)) pure_quiet

pub unless_quiet : (had : Bool) → Quiet (form.context_unless had)
unless_quiet true = pure_quiet
unless_quiet false = context_quiet

pub end_name_quiet : (x : Text) → Quiet (form.end_name x)
unfolding form.end_name
end_name_quiet x = either_quiet (after_quiet (λ s. pure_quiet)) pure_quiet

module _ {C : Type 0} where
  stored_quiet : Quiet (t.stored_name {C = C})
  unfolding t.stored_name
  stored_quiet = after_quiet (λ x. pure_quiet)

  imported_quiet : Quiet (form.imported {C = C})
  unfolding form.imported
  imported_quiet = after_quiet (λ x. then_quiet (either_quiet (after_quiet (λ s. then_quiet stored_quiet (λ e. pure_quiet))) pure_quiet) (λ a. pure_quiet))

  pub imports_quiet : Quiet (form.imports {C = C})
  unfolding form.imports form.next_imported
  imports_quiet = either_quiet pure_quiet (then_quiet imported_quiet (λ n. many_quiet (λ ns s. either_quiet pure_quiet (then_quiet imported_quiet (λ m. pure_quiet)))))

  module _ (expr : Form (Expr C)) (i : Quiet expr) where
    also_quiet : (es : List (Expr C)) → Quiet (g.also expr es)
    unfolding g.also
    also_quiet es = then_quiet i (λ e. pure_quiet)

    exprs_quiet : (es : List (Expr C)) → Quiet (g.exprs expr es)
    unfolding g.exprs
    exprs_quiet es = either_quiet (then_quiet (also_quiet es) (λ y. many_quiet (λ y s. either_quiet (then_quiet (also_quiet y) (λ z. pure_quiet)) pure_quiet))) pure_quiet

    keyword_quiet : (x : Option Text) → Quiet (g.named expr x)
    keyword_quiet None = nothing_quiet
    keyword_quiet (Some x) = then_quiet i (λ e. pure_quiet)

    arg_quiet : Quiet (g.arg expr)
    unfolding g.arg
    arg_quiet = either_quiet (after_quiet (λ s. then_quiet i (λ e. pure_quiet))) (either_quiet (after_quiet (λ s. then_quiet i (λ e. pure_quiet)))
        (then_quiet i (λ e. either_quiet (after_quiet (λ s. keyword_quiet (g.name_of_variable e))) pure_quiet)))

    also_arg_quiet : (xs : List (Arg C)) → Quiet (g.also_arg expr xs)
    unfolding g.also_arg
    also_arg_quiet xs = then_quiet arg_quiet (λ x. when_quiet (g.is_allowed xs x) pure_quiet)

    arg_items_quiet : (xs : List (Arg C)) → Quiet (g.arg_items expr xs)
    unfolding g.arg_items
    arg_items_quiet xs = either_quiet (then_quiet (also_arg_quiet xs) (λ y. many_quiet (λ y s. either_quiet (then_quiet (also_arg_quiet y) (λ z. pure_quiet)) pure_quiet))) pure_quiet

    in_parentheses_quiet : Quiet (g.args expr)
    unfolding g.args
    in_parentheses_quiet = then_quiet (arg_items_quiet []) (λ xs. after_quiet (λ r. pure_quiet))

    args_quiet : Quiet (g.maybe_args expr)
    args_quiet = either_quiet (after_quiet (λ s. in_parentheses_quiet)) pure_quiet

    pub value_quiet : Quiet (form.value expr)
    unfolding form.value
    value_quiet = then_quiet i (λ e. either_quiet (after_quiet (λ s. then_quiet start_quiet (λ from. then_quiet (exprs_quiet (e ∷ [])) (λ es. then_quiet last_quiet (λ to. pure_quiet))))) pure_quiet)

    chained_quiet : (o : Option (Expr C)) → Quiet (form.chained expr o)
    unfolding form.chained
    chained_quiet o = then_quiet start_quiet (λ from. then_quiet name_quiet (λ x. then_quiet args_quiet (λ xs. then_quiet last_quiet (λ to. pure_quiet))))

    pub chain_quiet : Quiet (form.chain expr)
    unfolding form.chain
    chain_quiet = then_quiet (chained_quiet None) (λ e. many_quiet (λ x s. then_quiet (chained_quiet (Some x)) (λ y. pure_quiet)))

    pub filters_quiet : Quiet (form.filters_if_any expr)
    unfolding form.filters_if_any
    filters_quiet = either_quiet (after_quiet (λ s. then_quiet i (λ e. pure_quiet))) pure_quiet

    pub loop_filter_quiet : Quiet (form.loop_filter expr)
    unfolding form.loop_filter
    loop_filter_quiet = either_quiet (after_quiet (λ s. then_quiet i (λ e. pure_quiet))) pure_quiet

    pub bindings_quiet : (bound : Form (Expr C)) → Quiet bound → Quiet (form.bindings bound expr)
    unfolding form.bindings form.binding
    bindings_quiet bound k = either_quiet pure_quiet (then_quiet one_binding (λ b. many_quiet (λ bs s. then_quiet one_binding (λ c. pure_quiet))))
      where
        one_binding : Quiet (form.binding bound expr)
        one_binding = then_quiet k (λ x. after_quiet (λ s. then_quiet i (λ e. pure_quiet)))

    default_quiet : (b : Bool) → Quiet (form.default_of expr b)
    default_quiet true = then_quiet (after_quiet (λ s. i)) (λ e. pure_quiet)
    default_quiet false = either_quiet (after_quiet (λ s. then_quiet i (λ e. pure_quiet))) pure_quiet

    param_quiet : (ps : List (Expr C × Option (Expr C))) → Quiet (form.param expr ps)
    unfolding form.param
    param_quiet ps = then_quiet stored_quiet (λ e. then_quiet (default_quiet (form.have_default ps)) (λ d. pure_quiet))

    param_items_quiet : (ps : List (Expr C × Option (Expr C))) → Quiet (param_items expr ps)
    param_items_quiet ps = either_quiet (then_quiet (param_quiet ps) (λ y. many_quiet (λ y s. either_quiet (then_quiet (param_quiet y) (λ z. pure_quiet)) pure_quiet))) pure_quiet

    pub params_quiet : Quiet (form.params expr)
    unfolding form.params
    params_quiet = then_quiet (param_items_quiet []) (λ ps. after_quiet (λ s. pure_quiet))

    pub params_if_any_quiet : Quiet (params_if_any expr)
    params_if_any_quiet = either_quiet (after_quiet (λ s. params_quiet)) pure_quiet

    pub called_quiet : Quiet (form.called expr)
    unfolding form.called
    called_quiet = then_quiet i (λ e. go (form.call_of e))
      where
        go : (o : Option (Expr C × Args C × Span)) → Quiet (form.call_in o)
        go None = nothing_quiet
        go (Some c) = pure_quiet

  -- ---- expressions and targets: what is derived is read, and what is read from the same place
  -- with the same names is the same

  names_stay : (form : Form (Expr C)) (p q : Place) (x y : Expr C) (r : Span) → Derives form p q x → Derives form p (record { source = p.source; tokens = q.tokens; ending = p.ending; last = r; names = p.names }) y → q.names ≡ p.names
  names_stay form p q x y r d c =
      let s : (q ≡ record { source = p.source; tokens = q.tokens; ending = p.ending; last = r; names = p.names }) × (x ≡ y) = same_read x y q _ (sym (complete form p q x d) ∙ complete form p _ y c) in
      ap (λ (z : Place). z.names) s.0

  pub targets_quiet : (dotted : Bool) (d : ℕ) → Quiet (t.any_targets {C = C} dotted d)
  targets_quiet dotted d = record {
    same = λ p q x u.
        let v = any_targets_read p.source p.ending p.names dotted d p.tokens q.tokens (bare_expr x) (any_targets_back dotted d p q x u) p.last in
        names_stay (t.any_targets dotted d) p q x v.0 v.1 u v.2;
  }

  pub bound_quiet : (d : ℕ) → Quiet (form.bound_target {C = C} d)
  unfolding form.bound_target
  bound_quiet zero = stored_quiet
  bound_quiet (suc d) = either_quiet (after_quiet (λ s. then_quiet (targets_quiet false d) (λ x. after_quiet (λ r. pure_quiet)))) stored_quiet

  module _ {F : Type 0} (f : Functions C F) (d : ℕ) where
    pub expr_quiet : Quiet (g.expr_at f d)
    expr_quiet = record {
      same = λ p q x u.
          let v = expr_is_derived f p.source p.ending p.names d p.tokens q.tokens (bare_expr x) (derived_is_expr f p.source d p q x refl u) p.last in
          names_stay (g.expr_at f d) p q x v.0 v.1 u v.2;
    }

    pub or_quiet : Quiet (g.or_level f (below f d))
    or_quiet = record {
      same = λ p q x u.
          let v = reading.or_all f p.source p.ending p.names (below f d) d (all_nested f p.source p.ending p.names d) p.tokens q.tokens (bare_expr x) (or_all f p.source d (below f d) (all_backed f p.source d) p q x refl u) p.last in
          names_stay (g.or_level f (below f d)) p q x v.0 v.1 u v.2;
    }
