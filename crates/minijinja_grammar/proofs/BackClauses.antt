-- What the forms of the parts of statements derive is what the relations say: those parts in which
-- expressions stand.
use Rattle.std.proofs.Common.{◌≡◌, inl, inr, ℕ, Bool, true, false, List, [], ◌∷◌, ◌++◌, Option, Some, None, refl, sym, ap, ◌∙◌, subst, append_assoc}
use Rattle.std.specs.Prelude.{◌||◌}
use Rattle.minijinja_syntax.specs.Texts.{Text}
use Rattle.minijinja_value.specs.Values.{Functions}
use Rattle.minijinja_syntax.specs.declared.tokens.Span.{Span}
use Rattle.minijinja_syntax.specs.Streams.{SpannedTok}
use Rattle.minijinja_syntax.specs.Tokens.{ident, assign, comma, pipe, paren_open, paren_close}
use Rattle.minijinja_tree.specs.Tree as bare
use Rattle.minijinja_tree.specs.SpannedTrees as tree
use Rattle.minijinja_tree.specs.SpannedTrees.{Expr, bare_expr, bare_exprs, bare_optional, bare_args, bare_bindings, optional_of, exprs_of, args_of}
use Rattle.minijinja_grammar.specs.Words.{is, is_identifier, is_reserved, if_word}
use Rattle.minijinja_grammar.specs.Places.{Place}
use Rattle.minijinja_grammar.specs.internal.Forms.{go_on, over, Form, pure, either, Takes, Turns, no_turn, last_turn, turn, Derives, ◌>>=◌}
use Rattle.minijinja_grammar.specs.Ahead.{comes, IsName}
use Rattle.minijinja_grammar.specs.internal.ExprForms as g
use Rattle.minijinja_grammar.specs.internal.ExprForms.{Below}
use Rattle.minijinja_grammar.specs.internal.TargetForms as t
use Rattle.minijinja_grammar.specs.Expressions.{IsExpr, AreArgsIfAny}
use Rattle.minijinja_grammar.specs.Targets.{IsBound}
use Rattle.minijinja_grammar.specs.Statements.{defaults_come_last, IsValue, one_value, values, IsChainRow, first_filter, also_filter, IsChain, chain, IsChainIfAny, no_chain, one_chain, IsFilterIfAny, no_filter, one_filter, AreBindings, no_bindings, bindings, AreSomeBindings, last_binding, more_bindings, AreParams, no_params, param, param_with_default, AreMoreParams, no_more_params, more_params, AreParamsIfAny, no_parentheses, params_in_parentheses}
use Rattle.minijinja_grammar.specs.internal.StmtForms as form
use Rattle.minijinja_grammar.proofs.FormNames.{binding_turn, chain_turn, param_items, params_if_any}
use Rattle.minijinja_grammar.proofs.TokenReading.{append_nil}
use Rattle.minijinja_grammar.proofs.StmtPartReading.{Param, bare_params, defaults_from, default_append}
use Rattle.minijinja_grammar.proofs.Back.{kept, mark_was, turned, Says, Backed}
use Rattle.minijinja_grammar.proofs.BackParts.{none_of_mark, name_back, exprs_back}
use Rattle.minijinja_grammar.proofs.BackWhole.{args_if_any_back}
use Rattle.minijinja_grammar.proofs.BackTargets.{Here}
use Rattle.minijinja_grammar.proofs.BackPieces.{stored_was}

-- the source stays where a place is another
pub same_source : {src : Text} (p q : Place) → p ≡ q → p.source ≡ src → q.source ≡ src
same_source p q i e = ap (λ (z : Place). z.source) (sym i) ∙ e

-- and where a token is taken
pub taken_source : {A : Type 0} {src : Text} (held : SpannedTok → Option A) (p q : Place) (x : A) → Takes held p q x → p.source ≡ src → q.source ≡ src
taken_source held p q x v e = ap (λ (z : Place). z.source) v.behind ∙ e

-- and along a form
pub form_source : {A : Type 0} {src : Text} (form : Form A) (p q : Place) (x : A) → Derives form p q x → p.source ≡ src → q.source ≡ src
form_source form p q x d e = kept form p q x d ∙ e

-- an argument of a macro, with its default
abbrev bare_param : {C : Type 0} → Param C → bare.Expr C × bare.Optional C
bare_param x = (bare_expr x.0, bare_optional (optional_of x.1))

none_come : (C : Type 0) (b : Bool) → defaults_from {C = C} b [] ≡ true
none_come C true = refl
none_come C false = refl

one_comes : {C : Type 0} (b : Bool) (y : Expr C) (v : Expr C) (zs : List (bare.Expr C × bare.Optional C)) → defaults_from (b || true) zs ≡ true → defaults_from b ((bare_expr y, bare.present (bare_expr v)) ∷ zs) ≡ true
one_comes true y v zs e = e
one_comes false y v zs e = e

module _ {C F : Type 0} (f : Functions C F) (src : Text) where
  -- all that the form derives is such, where there may be none
  abbrev pub SaysIfAny : (List SpannedTok → List SpannedTok → bare.Optional C → Type 0) → Form (Option (Expr C)) → Type 0
  SaysIfAny X form = (p q : Place) (x : Option (Expr C)) → p.source ≡ src → Derives form p q x → X p.tokens q.tokens (bare_optional (optional_of x))

  pub loop_filter_back : (d : ℕ) (expr : Form (Expr C)) → Says f src (IsExpr f src d) expr → SaysIfAny (IsFilterIfAny f src d) (form.loop_filter expr)
  unfolding form.loop_filter
  loop_filter_back d expr i p q x e (inr (n, (k, m))) = rw (sym k, sym m) (no_filter n)
  loop_filter_back d expr i p q x e (inl (n, (s, q₁, v, (y, q₂, u, (k, m))))) = rw (mark_was if_word p q₁ s v, sym k, sym m) (one_filter (i q₁ q₂ y (taken_source (g.span_of_mark if_word) p q₁ s v e) u))

  pub filters_back : (d : ℕ) (chain' : Form (Expr C)) → Says f src (IsChain f src d) chain' → SaysIfAny (IsChainIfAny f src d) (form.filters_if_any chain')
  unfolding form.filters_if_any
  filters_back d chain' i p q x e (inr (n, (k, m))) = rw (sym k, sym m) (no_chain n)
  filters_back d chain' i p q x e (inl (n, (s, q₁, v, (y, q₂, u, (k, m))))) = rw (mark_was pipe p q₁ s v, sym k, sym m) (one_chain (i q₁ q₂ y (taken_source (g.span_of_mark pipe) p q₁ s v e) u))

  -- ---- what a `with` binds

  module _ (d : ℕ) (bound expr : Form (Expr C)) (j : Here (IsBound d) bound) (i : Says f src (IsExpr f src d) expr) where
    -- what follows one that is bound: no comma, or a comma and one more
    data BindingTail : List SpannedTok → List SpannedTok → List (bare.Expr C × bare.Expr C) → Type 0 where
      no_tail : {rest : List SpannedTok} → comes (is comma) rest ≡ false → BindingTail rest rest []
      tail : {s : Span} {ts rest : List SpannedTok} {bs : List (bare.Expr C × bare.Expr C)} → AreSomeBindings f src d ts rest bs → BindingTail ((comma, s) ∷ ts) rest bs

    with_binding : {s : Span} {ts us vs rest : List SpannedTok} {x e : bare.Expr C} {bs : List (bare.Expr C × bare.Expr C)} → IsBound d ts ((assign, s) ∷ us) x → IsExpr f src d us vs e → BindingTail vs rest bs →
        AreSomeBindings f src d ts rest ((x, e) ∷ bs)
    with_binding a c (no_tail m) = last_binding a c m
    with_binding a c (tail b) = more_bindings a c b

    binding_back : (p q : Place) (x : Expr C × Expr C) → p.source ≡ src → Derives (form.binding bound expr) p q x → (rest : List SpannedTok) (bs : List (bare.Expr C × bare.Expr C)) → BindingTail q.tokens rest bs →
        AreSomeBindings f src d p.tokens rest ((bare_expr x.0, bare_expr x.1) ∷ bs)
    unfolding form.binding
    binding_back p q x e (y, q₁, u, (s, q₂, v, (z, q₃, w, (k, m)))) rest bs b =
        let e₂ : q₂.source ≡ src = taken_source (g.span_of_mark assign) q₁ q₂ s v (form_source bound p q₁ y u e) in
        rw (sym m) (with_binding (subst (λ us. IsBound d p.tokens us (bare_expr y)) (mark_was assign q₁ q₂ s v) (j p q₁ y u)) (i q₂ q₃ z e₂ w) (subst (λ (c : Place). BindingTail c.tokens rest bs) (sym k) b))

    bindings_tail_back : (sofar : List (Expr C × Expr C)) (p q : Place) (y : List (Expr C × Expr C)) → p.source ≡ src → Turns (g.span_of_mark comma) (λ x h. Derives (binding_turn expr bound x h)) sofar p q y →
        (ys : List (Expr C × Expr C)) × (y ≡ sofar ++ ys) × BindingTail p.tokens q.tokens (bare_bindings ys)
    bindings_tail_back sofar p q y e (no_turn n) = ([], sym (append_nil sofar), no_tail (none_of_mark comma p.tokens n))
    bindings_tail_back sofar p q y e (last_turn v (x, q₂, u, (k, m))) = cc
    bindings_tail_back sofar p q y e (turn {y = z} {h = s} {q = q₁} {r = r} v (x, q₂, u, (k, m)) more) =
        let e₁ : q₁.source ≡ src = taken_source (g.span_of_mark comma) p q₁ s v e in
        let e₂ : r.source ≡ src = same_source q₂ r k (form_source (form.binding bound expr) q₁ q₂ x u e₁) in
        let w = bindings_tail_back z r q y e₂ more in
        let same : sofar ++ x ∷ [] ≡ z = ap turned m in (
          x ∷ w.0,
          w.1 ∙ ap (λ (zs : List (Expr C × Expr C)). zs ++ w.0) (sym same) ∙ append_assoc sofar (x ∷ []) w.0,
          subst (λ us. BindingTail us q.tokens (bare_bindings (x ∷ w.0))) (sym (mark_was comma p q₁ s v)) (tail (binding_back q₁ q₂ x e₁ u q.tokens (bare_bindings w.0) (subst (λ (c : Place). BindingTail c.tokens q.tokens (bare_bindings w.0)) (sym k) w.2))),
        )

    pub bindings_back : (p q : Place) (x : List (Expr C × Expr C)) → p.source ≡ src → Derives (form.bindings bound expr) p q x → AreBindings f src d p.tokens q.tokens (bare_bindings x)
    unfolding form.bindings
    bindings_back p q x e (inl (n, (k, m))) = rw (sym k, sym m) (no_bindings n)
    bindings_back p q x e (inr (n, (y, q₁, u, m))) =
        let v = bindings_tail_back (y ∷ []) q₁ q x (form_source (form.binding bound expr) p q₁ y u e) m in
        let all : bare_bindings x ≡ (bare_expr y.0, bare_expr y.1) ∷ bare_bindings v.0 = ap bare_bindings v.1 in
        rw all (bindings n (binding_back p q₁ y e u q.tokens (bare_bindings v.0) v.2))

  -- ---- the arguments of a macro

  module _ (d : ℕ) (expr : Form (Expr C)) (i : Says f src (IsExpr f src d) expr) where
    -- an argument more
    record OneParam (sofar : List (Param C)) (p q : Place) (z : List (Param C)) : Type 0 where
      more : Param C
      whole : z ≡ sofar ++ more ∷ []
      first : (rest : List SpannedTok) (ps : List (bare.Expr C × bare.Optional C)) → AreMoreParams f src d q.tokens rest ps → AreParams f src d p.tokens rest (bare_param more ∷ ps)
      ordered : (ps : List (bare.Expr C × bare.Optional C)) → defaults_from (form.have_default z) ps ≡ true → defaults_from (form.have_default sofar) (bare_param more ∷ ps) ≡ true

    defaulted : (sofar z : List (Param C)) (y v : Expr C) → z ≡ sofar ++ (y, Some v) ∷ [] → (ps : List (bare.Expr C × bare.Optional C)) → defaults_from (form.have_default z) ps ≡ true →
        defaults_from (form.have_default sofar) ((bare_expr y, bare.present (bare_expr v)) ∷ ps) ≡ true
    defaulted sofar z y v same ps o = one_comes (form.have_default sofar) y v ps (subst (λ b. defaults_from b ps ≡ true) (ap form.have_default same ∙ default_append sofar (y, Some v)) o)

    undefaulted : (sofar z : List (Param C)) (y : Expr C) → form.have_default sofar ≡ false → z ≡ sofar ++ (y, None) ∷ [] → (ps : List (bare.Expr C × bare.Optional C)) → defaults_from (form.have_default z) ps ≡ true →
        defaults_from (form.have_default sofar) ((bare_expr y, bare.absent) ∷ ps) ≡ true
    undefaulted sofar z y none same ps o =
        let b : form.have_default z ≡ false = ap form.have_default same ∙ default_append sofar (y, None) ∙ ap (λ c. c || false) none in
        let o₁ : defaults_from false ps ≡ true = subst (λ c. defaults_from c ps ≡ true) b o in
        rw none o₁

    param_back : (sofar : List (Param C)) (p q : Place) (z : List (Param C)) → p.source ≡ src → Derives (form.param expr sofar) p q z → OneParam sofar p q z
    unfolding form.param
    param_back sofar p q z e (y, q₁, u, (o, q₂, w, (k, m))) = go (form.have_default sofar) refl w (stored_was p q₁ y u)
      where
        e₁ : q₁.source ≡ src
        e₁ = form_source t.stored_name p q₁ y u e

        Stored : Type 0
        Stored = (a : Text × Span) × (p.tokens ≡ (ident a.0, a.1) ∷ q₁.tokens) × (is_reserved a.0 ≡ false) × (tree.variable a.0 a.1 ≡ y)

        with_default : (s : Span) (q₃ q₄ : Place) (v : Expr C) → Takes (g.span_of_mark assign) q₁ q₃ s → Derives expr q₃ q₄ v → q₄ ≡ q₂ → Some v ≡ o → Stored → OneParam sofar p q z
        with_default s q₃ q₄ v c a i₄ j (b, i₁, i₂, i₃) = record {
          more = (y, Some v);
          whole = same;
          first = λ rest ps r. rw (i₁, mark_was assign q₁ q₃ s c, sym i₃) (param_with_default i₂ (i q₃ q₄ v (taken_source (g.span_of_mark assign) q₁ q₃ s c e₁) a) (subst (λ (n : Place). AreMoreParams f src d n.tokens rest ps) (sym (i₄ ∙ k)) r));
          ordered = defaulted sofar z y v same;
        }
          where
            same : z ≡ sofar ++ (y, Some v) ∷ []
            same = sym m ∙ ap (λ (n : Option (Expr C)). sofar ++ (y, n) ∷ []) (sym j)

        without : form.have_default sofar ≡ false → comes (is assign) q₁.tokens ≡ false → q₁ ≡ q₂ → None ≡ o → Stored → OneParam sofar p q z
        without none n i₄ j (b, i₁, i₂, i₃) = record {
          more = (y, None);
          whole = same;
          first = λ rest ps r. rw (i₁, sym i₃) (param i₂ n (subst (λ (n : Place). AreMoreParams f src d n.tokens rest ps) (sym (i₄ ∙ k)) r));
          ordered = undefaulted sofar z y none same;
        }
          where
            same : z ≡ sofar ++ (y, None) ∷ []
            same = sym m ∙ ap (λ (n : Option (Expr C)). sofar ++ (y, n) ∷ []) (sym j)

        go : (b : Bool) → form.have_default sofar ≡ b → Derives (form.default_of expr b) q₁ q₂ o → Stored → OneParam sofar p q z
        go true h (v, q₄, (s, q₃, c, a), (i₄, j)) l = with_default s q₃ q₄ v c a i₄ j l
        go false h (inl (n, (s, q₃, c, (v, q₄, a, (i₄, j))))) l = with_default s q₃ q₄ v c a i₄ j l
        go false h (inr (n, (i₄, j))) l = without h n i₄ j l

    -- those after a comma, so far and from here on
    record Params (Are : List SpannedTok → List SpannedTok → List (bare.Expr C × bare.Optional C) → Type 0) (sofar : List (Param C)) (p q : Place) (y : List (Param C)) : Type 0 where
      further : List (Param C)
      all : y ≡ sofar ++ further
      are : Are p.tokens q.tokens (bare_params further)
      in_order : defaults_from (form.have_default sofar) (bare_params further) ≡ true

    abbrev Items : List (Param C) → Place → Place → List (Param C) → Type 0
    Items = Turns (g.span_of_mark comma) (λ y s. Derives (either is_identifier (form.param expr y >>= (λ z. pure (go_on z))) (pure (over y))))

    -- an argument and those after it
    also_params : (sofar z : List (Param C)) (p r q : Place) (y : List (Param C)) → OneParam sofar p r z → Params (AreMoreParams f src d) z r q y → Params (AreParams f src d) sofar p q y
    also_params sofar z p r q y a v = record {
      further = a.more ∷ v.further;
      all = v.all ∙ ap (λ (zs : List (Param C)). zs ++ v.further) a.whole ∙ append_assoc sofar (a.more ∷ []) v.further;
      are = a.first q.tokens (bare_params v.further) v.are;
      in_order = a.ordered (bare_params v.further) v.in_order;
    }

    after_comma : (sofar : List (Param C)) (p q₁ q : Place) (s : Span) (y : List (Param C)) → Takes (g.span_of_mark comma) p q₁ s → Params (AreParams f src d) sofar q₁ q y → Params (AreMoreParams f src d) sofar p q y
    after_comma sofar p q₁ q s y v a = record { further = a.further; all = a.all; are = rw (mark_was comma p q₁ s v) (more_params a.are); in_order = a.in_order }

    more_params_back : (sofar : List (Param C)) (p q : Place) (y : List (Param C)) → p.source ≡ src → Items sofar p q y → Params (AreMoreParams f src d) sofar p q y
    more_params_back sofar p q y e (no_turn n) = record { further = []; all = sym (append_nil sofar); are = no_more_params (none_of_mark comma p.tokens n); in_order = none_come C (form.have_default sofar) }
    more_params_back sofar p q y e (last_turn {h = s} {q = q₁} v (inr (n, (k, m)))) =
        record { further = []; all = ap turned (sym m) ∙ sym (append_nil sofar); are = rw (mark_was comma p q₁ s v, sym k) (more_params (no_params n)); in_order = none_come C (form.have_default sofar) }
    more_params_back sofar p q y e (last_turn v (inl (n, (x, q₂, u, (k, m))))) = cc
    more_params_back sofar p q y e (turn v (inr (n, (k, m))) more) = cc
    more_params_back sofar p q y e (turn {y = z} {h = s} {q = q₁} {r = r} v (inl (n, (x, q₂, u, (k, m)))) more) =
        let e₁ : q₁.source ≡ src = taken_source (g.span_of_mark comma) p q₁ s v e in
        let a : OneParam sofar q₁ q₂ x = param_back sofar q₁ q₂ x e₁ u in
        let b : OneParam sofar q₁ r z = subst (λ (c : Place). OneParam sofar q₁ c z) k (subst (OneParam sofar q₁ q₂) (ap turned m) a) in
        after_comma sofar p q₁ q s y v (also_params sofar z q₁ r q y b (more_params_back z r q y (same_source q₂ r k (form_source (form.param expr sofar) q₁ q₂ x u e₁)) more))

    items_back : (p q : Place) (y : List (Param C)) → p.source ≡ src → Derives (param_items expr []) p q y → Params (AreParams f src d) [] p q y
    items_back p q y e (inr (n, (k, m))) = record { further = []; all = sym m; are = rw (sym k) (no_params n); in_order = refl }
    items_back p q y e (inl (n, (z, r, u, more))) = also_params [] z p r q y (param_back [] p r z e u) (more_params_back z r q y (form_source (form.param expr []) p r z u e) more)

    -- Params )
    pub params_back : (p q : Place) (y : List (Param C)) → p.source ≡ src → Derives (form.params expr) p q y →
        (s : Span) × AreParams f src d p.tokens ((paren_close, s) ∷ q.tokens) (bare_params y) × (defaults_come_last (bare_params y) ≡ true)
    unfolding form.params
    params_back p q y e (z, q₁, u, (s, q₂, w, (k, m))) =
        let v = items_back p q₁ z e u in
        let same : v.further ≡ y = sym v.all ∙ m in (
          s,
          subst (λ (zs : List (Param C)). AreParams f src d p.tokens ((paren_close, s) ∷ q.tokens) (bare_params zs)) same
              (subst (λ us. AreParams f src d p.tokens us (bare_params v.further)) (mark_was paren_close q₁ q₂ s w ∙ ap (λ (c : Place). (paren_close, s) ∷ c.tokens) k) v.are),
          subst (λ (zs : List (Param C)). defaults_come_last (bare_params zs) ≡ true) same v.in_order,
        )

    pub params_if_any_back : (p q : Place) (y : List (Param C)) → p.source ≡ src → Derives (params_if_any expr) p q y → AreParamsIfAny f src d p.tokens q.tokens (bare_params y)
    params_if_any_back p q y e (inr (n, (k, m))) = rw (sym k, sym m) (no_parentheses n)
    params_if_any_back p q y e (inl (n, (s, q₁, w, u))) =
        let v = params_back q₁ q y (taken_source (g.span_of_mark paren_open) p q₁ s w e) u in
        rw (mark_was paren_open p q₁ s w) (params_in_parentheses v.1 v.2)

  -- ---- values and chains

  module _ (d : ℕ) (b : Below C) (h : Backed f src d b) where
    pub value_back : Says f src (IsValue f src d) (form.value b.expr)
    unfolding form.value
    value_back p q x e (y, q₁, u, inr (n, (k, m))) = rw (sym k, sym m) (one_value (h.expr p q₁ y e u) n)
    value_back p q x e (y, q₁, u, inl (n, (s, q₂, v, (from, q₃, (a, _), (es, q₄, w, (to, q₅, (j, _), (k, m))))))) =
        let e₃ : q₃.source ≡ src = same_source q₂ q₃ a (taken_source (g.span_of_mark comma) q₁ q₂ s v (form_source b.expr p q₁ y u e)) in
        let r = exprs_back f src d b h (y ∷ []) q₃ q₄ es e₃ w in
        let all : bare_exprs (exprs_of es) ≡ bare.more (bare_expr y) (bare_exprs (exprs_of r.0)) = ap (λ (zs : List (Expr C)). bare_exprs (exprs_of zs)) r.1 in
        rw (sym k, sym j, sym m, all) (values (subst (λ us. IsExpr f src d p.tokens us (bare_expr y)) (mark_was comma q₁ q₂ s v ∙ ap (λ (z : Place). (comma, s) ∷ z.tokens) a) (h.expr p q₁ y e u)) r.2)

    -- a filter, its name and its arguments
    record OneFilter (o : Option (Expr C)) (p q : Place) (x : Expr C) : Type 0 where
      name : Text
      args : bare.Args C
      between : List SpannedTok
      named : IsName src p.tokens between name
      given : AreArgsIfAny f src d between q.tokens args
      made : bare_expr x ≡ bare.filter (bare_optional (optional_of o)) name args

    chained_back : (o : Option (Expr C)) (p q : Place) (x : Expr C) → p.source ≡ src → Derives (form.chained b.expr o) p q x → OneFilter o p q x
    unfolding form.chained
    chained_back o p q x e (from, q₀, (a, _), (n, q₁, w, (xs, q₂, v, (to, q₃, (j, _), (k, m))))) =
        let e₀ : q₀.source ≡ src = same_source p q₀ a e in
        let e₁ : q₁.source ≡ src = form_source g.name q₀ q₁ n w e₀ in
        record {
          name = n;
          args = bare_args (args_of xs);
          between = q₁.tokens;
          named = rw a (name_back src q₀ q₁ n e₀ w);
          given = rw (sym k, sym j) (args_if_any_back f src d b h q₁ q₂ xs e₁ v);
          made = ap bare_expr (sym m);
        }

    chain_row_back : (ts : List SpannedTok) (x : Expr C) (p q : Place) (y : Expr C) → p.source ≡ src → IsChainRow f src d ts p.tokens (bare_expr x) → Turns (g.span_of_mark pipe) (λ x s. Derives (chain_turn b.expr x s)) x p q y →
        IsChainRow f src d ts q.tokens (bare_expr y) × (comes (is pipe) q.tokens ≡ false)
    chain_row_back ts x p q y e row (no_turn n) = (row, none_of_mark pipe p.tokens n)
    chain_row_back ts x p q y e row (last_turn v (z, q₂, w, (k, m))) = cc
    chain_row_back ts x p q y e row (turn {y = z} {h = s} {q = q₁} {r = r} v (z₁, q₂, w, (k, m)) more) =
        let e₁ : q₁.source ≡ src = taken_source (g.span_of_mark pipe) p q₁ s v e in
        let c : OneFilter (Some x) q₁ q₂ z₁ = chained_back (Some x) q₁ q₂ z₁ e₁ w in
        let a : IsChainRow f src d ts q₂.tokens (bare_expr z₁) = subst (IsChainRow f src d ts q₂.tokens) (sym c.made) (also_filter (subst (λ us. IsChainRow f src d ts us (bare_expr x)) (mark_was pipe p q₁ s v) row) c.named c.given) in
        chain_row_back ts z r q y (same_source q₂ r k (form_source (form.chained b.expr (Some x)) q₁ q₂ z₁ w e₁))
        (subst (λ (n : Expr C). IsChainRow f src d ts r.tokens (bare_expr n)) (ap turned m) (subst (λ (n : Place). IsChainRow f src d ts n.tokens (bare_expr z₁)) k a)) more

    pub chain_back : Says f src (IsChain f src d) (form.chain b.expr)
    unfolding form.chain
    chain_back p q x e (y, q₁, u, m) =
        let c : OneFilter None p q₁ y = chained_back None p q₁ y e u in
        let v = chain_row_back p.tokens y q₁ q x (form_source (form.chained b.expr None) p q₁ y u e) (subst (IsChainRow f src d p.tokens q₁.tokens) (sym c.made) (first_filter c.named c.given)) m in
        chain v.0 v.1
