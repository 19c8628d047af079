-- What the relations of the parts of statements say is what the forms derive: values, chains,
-- targets of a `with`, parameters, names of an import, options.
use Rattle.std.proofs.Common.{◌≡◌, inl, inr, ℕ, zero, suc, Bool, true, false, List, [], ◌∷◌, ◌++◌, Option, Some, None, refl, sym, ap, ◌∙◌, subst, append_assoc}
use Rattle.std.specs.Prelude.{◌||◌, is_some, map, nat_eq, codes}
use Rattle.std.specs.List.{filter_map, starts_with}
use Rattle.std.specs.Str.{bytes_eq}
use Rattle.std.proofs.lemmas.Slice.Eq.{bytes_eq-Decides}
use Rattle.minijinja_syntax.specs.Texts.{Text}
use Rattle.minijinja_value.specs.Values.{Functions}
use Rattle.minijinja_syntax.specs.declared.tokens.Span.{Span}
use Rattle.minijinja_syntax.specs.Streams.{SpannedTok, Ending}
use Rattle.minijinja_syntax.specs.Tokens.{Tok, ident, comma, assign, pipe, paren_open, paren_close}
use Rattle.minijinja_tree.specs.Tree as bare
use Rattle.minijinja_tree.specs.SpannedTrees as tree
use Rattle.minijinja_tree.specs.SpannedTrees.{Expr, Args, Optional, bare_expr, bare_optional, bare_exprs, bare_args, bare_bindings, bare_names, bare_list, optional_of, exprs_of, args_of}
use Rattle.minijinja_grammar.specs.Words.{is, is_identifier, is_reserved, if_word, scoped_word, as_word, ignore_word, missing_word, with_word, without_word, context_word}
use Rattle.minijinja_grammar.specs.Places.{Place}
use Rattle.minijinja_grammar.specs.internal.Forms.{go_on, over, Form, pure, either, start_at, no_turn, last_turn, turn, Derives, ◌>>=◌, ◌>>◌}
use Rattle.minijinja_grammar.specs.Ahead.{comes, IsName}
use Rattle.minijinja_grammar.specs.internal.ExprForms as g
use Rattle.minijinja_grammar.specs.internal.ExprForms.{Below}
use Rattle.minijinja_syntax.specs.Positions.{expanded}
use Rattle.minijinja_grammar.specs.internal.TargetForms as t
use Rattle.minijinja_grammar.specs.internal.StmtForms as sf
use Rattle.minijinja_grammar.specs.Expressions.{IsExpr, AreArgsIfAny}
use Rattle.minijinja_grammar.specs.Statements as rules
use Rattle.minijinja_grammar.specs.Statements.{begins_context, IsWordIfAny, no_word, one_word, IsContextIfAny, no_context, with_context, without_context, IsIgnoreIfAny, no_ignore, ignore_after_context, ignore, IsEndName, no_end_name, same_name, IsImport, import_name, import_alias, AreImports, no_imports, last_import, imports, all_default, defaults_come_last, defaults_of, IsValue, one_value, values, IsChainRow, first_filter, also_filter, IsChain, chain, IsChainIfAny, no_chain, one_chain, IsFilterIfAny, no_filter, one_filter, AreBindings, no_bindings, bindings, AreSomeBindings, last_binding, more_bindings, AreParams, no_params, param, param_with_default, AreMoreParams, no_more_params, more_params, AreParamsIfAny, no_parentheses, params_in_parentheses}
use Rattle.minijinja_grammar.specs.Targets.{IsBound, bound_targets, bound_name}
use Rattle.minijinja_grammar.specs.TokenSpans.{first_span}
use Rattle.minijinja_grammar.specs.SpannedExpressions.{end_of_name, spanned_expr, spanned_args_if_any}
use Rattle.minijinja_grammar.specs.SpannedTargets.{spanned_bound}
use Rattle.minijinja_grammar.specs.SpannedStatements.{call_parts, end_of_context, end_of_ignore, end_of_end_name, spanned_import, spanned_imports, spanned_value, spanned_chain_row, spanned_chain, spanned_chain_if_any, spanned_filter_if_any, spanned_some_bindings, spanned_bindings, spanned_params, spanned_more_params, spanned_params_if_any}
use Rattle.minijinja_grammar.proofs.FormNames.{binding_turn, chain_turn, param_items, params_if_any, word_if_any}
use Rattle.minijinja_grammar.proofs.TokenReading.{append_nil, TurnsOf, Leads, Nested, taken, mark_taken, kind_taken, no_mark, name_read}
use Rattle.minijinja_grammar.proofs.ListReading.{exprs_read, args_if_any}
use Rattle.minijinja_grammar.proofs.TargetReading.{any_targets_read}

-- a text is itself
pub text_is : (x : Text) → bytes_eq x x ≡ true
text_is x = (bytes_eq-Decides x x).1 refl

pub listed : {A : Type 0} {x y : A} {xs ys : List A} → x ≡ y → xs ≡ ys → x ∷ xs ≡ y ∷ ys
listed e i = rw (e, i) refl

name_held : (x : Text) (s : Span) → is_reserved x ≡ false → t.name_word (ident x, s) ≡ Some (x, s)
name_held x s e = rw e refl

public_held : (x : Text) (s : Span) → starts_with nat_eq x (codes "_") ≡ false → is_reserved x ≡ false → sf.public_word (ident x, s) ≡ Some (x, s)
public_held x s e i = rw (e, i) refl

-- ---- what parameters are without spans

abbrev pub Param : (C : Type 0) → Type 0
Param C = Expr C × Option (Expr C)

abbrev pub bare_params : {C : Type 0} → List (Param C) → List (bare.Expr C × bare.Optional C)
bare_params [] = []
bare_params (p ∷ ps) = (bare_expr p.0, bare_optional (optional_of p.1)) ∷ bare_params ps

-- which may follow those so far
abbrev pub defaults_from : {C : Type 0} → Bool → List (bare.Expr C × bare.Optional C) → Bool
defaults_from true ps = all_default ps
defaults_from false ps = defaults_come_last ps

pub default_append : {C : Type 0} (ps : List (Param C)) (p : Param C) → sf.have_default (ps ++ p ∷ []) ≡ (sf.have_default ps || is_some p.1)
default_append [] p = or_false (is_some p.1)
  where
    or_false : (b : Bool) → (b || false) ≡ b
    or_false true = refl
    or_false false = refl
default_append (q ∷ ps) p = ap (λ b. is_some q.1 || b) (default_append ps p) ∙ or_assoc (is_some q.1) (sf.have_default ps) (is_some p.1)
  where
    or_assoc : (x y z : Bool) → (x || (y || z)) ≡ ((x || y) || z)
    or_assoc true y z = refl
    or_assoc false y z = refl

pub targets_bare : {C : Type 0} (ps : List (Param C)) → bare_list (map (λ p. p.0) ps) ≡ map (λ p. p.0) (bare_params ps)
targets_bare [] = refl
targets_bare (p ∷ ps) = ap (λ es. bare_expr p.0 ∷ es) (targets_bare ps)

pub defaults_bare : {C : Type 0} (ps : List (Param C)) → bare_list (filter_map (λ p. p.1) ps) ≡ defaults_of (bare_params ps)
defaults_bare [] = refl
defaults_bare ((e, None) ∷ ps) = defaults_bare ps
defaults_bare ((e, Some d) ∷ ps) = ap (λ es. bare_expr d ∷ es) (defaults_bare ps)

-- ---- what may be stored to

mutual
  pub storable_bare : {C : Type 0} (e : Expr C) → sf.is_storable e ≡ rules.is_storable (bare_expr e)
  storable_bare (tree.variable x s) = refl
  storable_bare (tree.attribute e x s) = refl
  storable_bare (tree.list es s) = all_storable_bare es
  storable_bare (tree.constant c s) = refl
  storable_bare (tree.slice e a b c s) = refl
  storable_bare (tree.unary o e s) = refl
  storable_bare (tree.binary o l r s) = refl
  storable_bare (tree.compare e cs s) = refl
  storable_bare (tree.if_expr a b c s) = refl
  storable_bare (tree.filter e x xs s) = refl
  storable_bare (tree.test e x xs s) = refl
  storable_bare (tree.item e i s) = refl
  storable_bare (tree.call e xs s) = refl
  storable_bare (tree.tuple es s) = refl
  storable_bare (tree.map ks vs s) = refl

  all_storable_bare : {C : Type 0} (es : tree.Exprs C) → sf.are_storable es ≡ rules.are_storable (bare_exprs es)
  all_storable_bare tree.no_more = refl
  all_storable_bare (tree.more e es) = rw (storable_bare e, all_storable_bare es) refl

-- ---- calls

pub call_known : {C : Type 0} (y : Expr C) (e : bare.Expr C) (xs : bare.Args C) → bare_expr y ≡ bare.call e xs →
    (c : Expr C × Args C × Span) × (sf.call_of y ≡ Some c) × (bare_expr c.0 ≡ e) × (bare_args c.1 ≡ xs)
call_known (tree.call z zs s) e xs h = ((z, zs, s), refl, cc, cc)
call_known _ e xs h = cc

-- its parts are those that the derivation names
pub parts_known : {C : Type 0} (y : Expr C) (r : Span) (c : Expr C × Args C × Span) → sf.call_of y ≡ Some c → call_parts y r ≡ c
parts_known (tree.call z zs s) r c e = cc
parts_known _ r c e = cc

-- ---- what a condition guards

pub when_holds : {A : Type 0} (c : Bool) (f : Form A) (p q : Place) (x : A) → c ≡ true → Derives f p q x → Derives (g.when c f) p q x
when_holds true f p q x e d = d
when_holds false f p q x e d = cc

module _ {C F : Type 0} (f : Functions C F) (src : Text) (en : Ending) (ns : List Text) where
  abbrev at : List SpannedTok → Span → Place
  at ts l = record { source = src; tokens = ts; ending = en; last = l; names = ns }

  -- wherever the token before stands, the form derives what is x without spans, and that is this with
  -- them
  abbrev pub Yields : {A B : Type 0} → Form A → (A → B) → List SpannedTok → List SpannedTok → B → (Span → A × Span) → Type 0
  Yields {A = A} form bared ts rest x v = (k : Span) → (y : A) × (r : Span) × Derives form (at ts k) (at rest r) y × (bared y ≡ x) × (v k ≡ (y, r))

  -- the form derives that, wherever the token before stands
  abbrev pub Passes : {A : Type 0} → Form A → List SpannedTok → List SpannedTok → A → Type 0
  Passes form ts rest x = (k : Span) → (r : Span) × Derives form (at ts k) (at rest r) x

  -- likewise, and the token taken last stands there then
  abbrev pub PassesTo : {A : Type 0} → Form A → List SpannedTok → List SpannedTok → A → (Span → Span) → Type 0
  PassesTo form ts rest x to = (k : Span) → (r : Span) × Derives form (at ts k) (at rest r) x × (to k ≡ r)

  -- ---- options without a tree

  pub word_read : {word : Tok} {ts rest : List SpannedTok} {x : Bool} → IsWordIfAny word ts rest x → is word word ≡ true → Passes (word_if_any word) ts rest x
  word_read (no_word n) e k = (k, inr (n, (refl, refl)))
  word_read {word} (one_word {s = s} {rest = rest}) e k = (s, inl (e, (s, at rest s, mark_taken f src en ns word s rest k e, (refl, refl))))

  pub scoped_read : {ts rest : List SpannedTok} {x : Bool} → IsWordIfAny scoped_word ts rest x → Passes sf.scoped_if_any ts rest tt
  scoped_read (no_word n) k = (k, inr (n, (refl, refl)))
  scoped_read (one_word {s = s} {rest = rest}) k = (s, inl (refl, (s, at rest s, mark_taken f src en ns scoped_word s rest k refl, (refl, refl))))

  pub context_read : {ts rest : List SpannedTok} {had : Bool} → (a : IsContextIfAny ts rest had) → PassesTo sf.context_if_any ts rest had (λ k. end_of_context k a)
  unfolding sf.context_if_any
  context_read (no_context n) k = (k, inr (n, (refl, refl)), refl)
  context_read (with_context {s = s} {r = r} {rest = rest}) k = (
    r,
    inl (
      refl,
      (
        r,
        at rest r,
        (
          (with_word, s),
          at ((context_word, r) ∷ rest) s,
          kind_taken f src en ns begins_context (with_word, s) ((context_word, r) ∷ rest) k refl,
          mark_taken f src en ns context_word r rest s refl,
        ),
        (refl, refl),
      ),
    ),
    refl,
  )
  context_read (without_context {s = s} {r = r} {rest = rest}) k = (
    r,
    inl (
      refl,
      (
        r,
        at rest r,
        (
          (without_word, s),
          at ((context_word, r) ∷ rest) s,
          kind_taken f src en ns begins_context (without_word, s) ((context_word, r) ∷ rest) k refl,
          mark_taken f src en ns context_word r rest s refl,
        ),
        (refl, refl),
      ),
    ),
    refl,
  )

  pub ignore_read : {had x : Bool} {ts rest : List SpannedTok} → (a : IsIgnoreIfAny had ts rest x) →
      PassesTo (g.behind ignore_word (g.next missing_word >> sf.context_unless had >> pure true) (pure false)) ts rest x (λ k. end_of_ignore k a)
  ignore_read (no_ignore n) k = (k, inr (n, (refl, refl)), refl)
  ignore_read (ignore_after_context {s = s} {r = r} {rest = rest}) k = (
    r,
    inl (
      refl,
      (
        s,
        at ((missing_word, r) ∷ rest) s,
        mark_taken f src en ns ignore_word s ((missing_word, r) ∷ rest) k refl,
        (true, at rest r, (r, at rest r, mark_taken f src en ns missing_word r rest s refl, (refl, refl)), (refl, refl)),
      ),
    ),
    refl,
  )
  ignore_read {rest = rest} (ignore {s = s} {r = r} {had = had} {ts = ts} a) k =
      let u = context_read a r in (
        u.0,
        inl (
          refl,
          (
            s,
            at ((missing_word, r) ∷ ts) s,
            mark_taken f src en ns ignore_word s ((missing_word, r) ∷ ts) k refl,
            (had, at rest u.0, (r, at ts r, mark_taken f src en ns missing_word r ts s refl, u.1), (refl, refl)),
          ),
        ),
        u.2,
      )

  pub end_name_read : {x : Text} {ts rest : List SpannedTok} → (a : IsEndName x ts rest) → PassesTo (sf.end_name x) ts rest tt (λ k. end_of_end_name k a)
  unfolding sf.end_name
  end_name_read (no_end_name n) k = (k, inr (n, (refl, refl)), refl)
  end_name_read {x} (same_name {s = s} {rest = rest}) k = (s, inl (refl, (s, at rest s, mark_taken f src en ns (ident x) s rest k (text_is x), (refl, refl))), refl)

  -- ---- names

  pub stored_read : (x : Text) (s : Span) (rest : List SpannedTok) → is_reserved x ≡ false → (k : Span) → Derives (t.stored_name {C = C}) (at ((ident x, s) ∷ rest) k) (at rest s) (tree.variable x s)
  unfolding t.stored_name
  stored_read x s rest e k = ((x, s), at rest s, taken f src en ns t.name_word (ident x, s) rest k (x, s) (name_held x s e), (refl, refl))

  pub bound_read : {d : ℕ} {ts rest : List SpannedTok} {e : bare.Expr C} → (a : IsBound d ts rest e) → Yields (sf.bound_target d) bare_expr ts rest e (λ k. spanned_bound a)
  unfolding sf.bound_target
  bound_read {d = zero} (bound_name {x = x} {s = s} {rest = rest} e) k = (tree.variable x s, s, stored_read x s rest e k, refl, refl)
  bound_read {d = suc d} (bound_name {x = x} {s = s} {rest = rest} e) k = (tree.variable x s, s, inr (refl, stored_read x s rest e k), refl, refl)
  bound_read {d = suc d} {rest = rest} (bound_targets {s = s} {r = r} {ts = ts} a) k =
      let u = any_targets_read src en ns false d _ _ _ a s in (
        u.0,
        r,
        inl (
          refl,
          (
            s,
            at ts s,
            mark_taken f src en ns paren_open s ts k refl,
            (u.0, at ((paren_close, r) ∷ rest) u.1, u.2, (r, at rest r, mark_taken f src en ns paren_close r rest u.1 refl, (refl, refl))),
          ),
        ),
        u.3,
        rw u.4 refl,
      )

  abbrev pub bare_import : Expr C × Optional C → bare.Expr C × bare.Optional C
  bare_import n = (bare_expr n.0, bare_optional n.1)

  import_read : {ts rest : List SpannedTok} {e : bare.Expr C} {a : bare.Optional C} → (i : IsImport ts rest e a) → Yields sf.imported bare_import ts rest (e, a) (λ k. spanned_import i)
  unfolding sf.imported
  import_read (import_name {x = x} {s = s} {rest = rest} e i n) k = (
    (tree.variable x s, tree.absent),
    s,
    (
      (x, s),
      at rest s,
      taken f src en ns sf.public_word (ident x, s) rest k (x, s) (public_held x s e i),
      (tree.absent, at rest s, inr (n, (refl, refl)), (refl, refl)),
    ),
    refl,
    refl,
  )
  import_read (import_alias {x = x} {y = y} {s = s} {r = r} {q = q} {rest = rest} e i j) k = (
    (tree.variable x s, tree.present (tree.variable y q)),
    q,
    (
      (x, s),
      at ((as_word, r) ∷ (ident y, q) ∷ rest) s,
      taken f src en ns sf.public_word (ident x, s) _ k (x, s) (public_held x s e i),
      (
        tree.present (tree.variable y q),
        at rest q,
        inl (
          refl,
          (
            r,
            at ((ident y, q) ∷ rest) r,
            mark_taken f src en ns as_word r ((ident y, q) ∷ rest) s refl,
            (
              tree.variable y q,
              at rest q,
              stored_read y q rest j r,
              (refl, refl),
            ),
          ),
        ),
        (refl, refl),
      ),
    ),
    refl,
    refl,
  )

  abbrev Imports : List (Expr C × Optional C) → Place → Place → List (Expr C × Optional C) → Type 0
  Imports = TurnsOf (g.span_of_mark comma) sf.next_imported

  -- after a comma
  more_imports_read : {ts rest : List SpannedTok} {ms : List (bare.Expr C × bare.Optional C)} → (a : AreImports ts rest ms) → (sofar : List (Expr C × Optional C)) (c k : Span) →
      (ys : List (Expr C × Optional C)) × (r : Span) × Imports sofar (at ((comma, c) ∷ ts) k) (at rest r) (sofar ++ ys) × (bare_names ys ≡ ms) × (spanned_imports c a ≡ (ys, r))
  unfolding sf.next_imported
  more_imports_read (no_imports {rest = rest} n) sofar c k =
      ([], c, subst (λ z. Imports sofar (at ((comma, c) ∷ rest) k) (at rest c) z) (sym (append_nil sofar)) (last_turn (mark_taken f src en ns comma c rest k refl) (inl (n, (refl, refl)))), refl, refl)
  more_imports_read {ts = ts} {rest = rest} (last_import n a m) sofar c k =
      let u = import_read a c in
      (u.0 ∷ [], u.1, turn (mark_taken f src en ns comma c ts k refl) (inr (n, (u.0, at rest u.1, u.2, (refl, refl)))) (no_turn (no_mark f src en ns comma rest m)), ap (λ z. z ∷ []) u.3, rw u.4 refl)
  more_imports_read {ts = ts} {rest = rest} (imports {s = q} {us = us} n a m) sofar c k =
      let u = import_read a c in
      let w = more_imports_read m (sofar ++ u.0 ∷ []) q u.1 in (
        u.0 ∷ w.0,
        w.1,
        turn (mark_taken f src en ns comma c ts k refl) (inr (n, (u.0, at ((comma, q) ∷ us) u.1, u.2, (refl, refl))))
            (subst (λ z. Imports (sofar ++ u.0 ∷ []) (at ((comma, q) ∷ us) u.1) (at rest w.1) z) (append_assoc sofar (u.0 ∷ []) w.0) w.2),
        listed u.3 w.3,
        rw (u.4, w.4) refl,
      )

  pub imports_read : {ts rest : List SpannedTok} {ms : List (bare.Expr C × bare.Optional C)} → (a : AreImports ts rest ms) → Yields sf.imports bare_names ts rest ms (λ k. spanned_imports k a)
  unfolding sf.imports
  imports_read (no_imports n) k = ([], k, inl (n, (refl, refl)), refl, refl)
  imports_read {rest = rest} (last_import n a m) k =
      let u = import_read a k in
      (u.0 ∷ [], u.1, inr (n, (u.0, at rest u.1, u.2, no_turn (no_mark f src en ns comma rest m))), ap (λ z. z ∷ []) u.3, rw u.4 refl)
  imports_read {rest = rest} (imports {s = q} {us = us} n a m) k =
      let u = import_read a k in
      let w = more_imports_read m (u.0 ∷ []) q u.1 in
      (u.0 ∷ w.0, w.1, inr (n, (u.0, at ((comma, q) ∷ us) u.1, u.2, w.2)), listed u.3 w.3, rw (u.4, w.4) refl)

  -- ---- over expressions

  module _ (d : ℕ) (b : Below C) (h : Nested f src en ns d b) where
    pub value_read : {ts rest : List SpannedTok} {e : bare.Expr C} → (a : IsValue f src d ts rest e) → Yields (sf.value b.expr) bare_expr ts rest e (λ k. spanned_value f src k a)
    unfolding sf.value
    value_read {rest = rest} (one_value a n) k =
        let u = h.expr _ _ _ a k in
        (u.0, u.1, (u.0, at rest u.1, u.2, inr (n, (refl, refl))), u.3, u.4)
    value_read {rest = rest} (values {s = c} {us = us} a m) k =
        let u = h.expr _ _ _ a k in
        let w = exprs_read f src en ns b m h (u.0 ∷ []) c in (
          tree.tuple (exprs_of (u.0 ∷ w.0)) (expanded (start_at (at us c)) w.1),
          w.1,
          (
            u.0,
            at ((comma, c) ∷ us) u.1,
            u.2,
            inl (
              refl,
              (
                c,
                at us c,
                mark_taken f src en ns comma c us u.1 refl,
                (start_at (at us c), at us c, (refl, refl), (u.0 ∷ w.0, at rest w.1, w.2, (w.1, at rest w.1, (refl, refl), (refl, refl)))),
              ),
            ),
          ),
          rw (u.3, w.3) refl,
          rw (u.4, w.4) refl,
        )

    -- a filter on that operand
    abbrev spanned_filter : {ts us rest : List SpannedTok} {x : Text} {xs : bare.Args C} → IsName src ts us x → AreArgsIfAny f src d us rest xs → Option (Expr C) → Span → Expr C × Span
    spanned_filter {ts = ts} {x = x} n a e k =
        let ys = spanned_args_if_any f src (end_of_name n) a in
        (tree.filter (optional_of e) x (args_of ys.0) (expanded (first_span k ts) ys.1), ys.1)

    chained_read : {ts us rest : List SpannedTok} {x : Text} {xs : bare.Args C} → (n : IsName src ts us x) → (a : AreArgsIfAny f src d us rest xs) → (e : Option (Expr C)) →
        Yields (sf.chained b.expr e) bare_expr ts rest (bare.filter (bare_optional (optional_of e)) x xs) (spanned_filter n a e)
    unfolding sf.chained
    chained_read {ts = ts} {us = us} {rest = rest} {x = x} n a e k =
        let u = name_read f src en ns n k in
        let w = args_if_any f src en ns b a h u.0 in (
          tree.filter (optional_of e) x (args_of w.0) (expanded (start_at (at ts k)) w.1),
          w.1,
          (start_at (at ts k), at ts k, (refl, refl), (x, at us u.0, u.1, (w.0, at rest w.1, w.2, (w.1, at rest w.1, (refl, refl), (refl, refl))))),
          rw w.3 refl,
          rw (u.2, w.4) refl,
        )

    abbrev GivesChain : List SpannedTok → List SpannedTok → bare.Expr C → (Span → Expr C × Span) → Type 0
    GivesChain ts rest e v = (k : Span) → (x₀ : Expr C) × (q₀ : Place) × Derives (sf.chained b.expr None) (at ts k) q₀ x₀ ×
        (x : Expr C) × (r : Span) × (bare_expr x ≡ e) × Leads (g.span_of_mark pipe) (chain_turn b.expr) x₀ q₀ x (at rest r) × (v k ≡ (x, r))

    chain_row_read : {ts rest : List SpannedTok} {e : bare.Expr C} → (a : IsChainRow f src d ts rest e) → GivesChain ts rest e (λ k. spanned_chain_row f src k a)
    chain_row_read {rest = rest} (first_filter n a) k = let u = chained_read n a None k in (u.0, at rest u.1, u.2, u.0, u.1, u.3, (λ z r m. m), u.4)
    chain_row_read {rest = rest} (also_filter {s = c} {us = us} a n i) k =
        let u = chain_row_read a k in
        let w = chained_read n i (Some u.3) c in (
          u.0,
          u.1,
          u.2,
          w.0,
          w.1,
          w.3 ∙ rw u.5 refl,
          λ z r m. u.6 z r (turn (mark_taken f src en ns pipe c us u.4 refl) (w.0, at rest w.1, w.2, (refl, refl)) m),
          rw u.7 w.4,
        )

    pub chain_read : {ts rest : List SpannedTok} {e : bare.Expr C} → (a : IsChain f src d ts rest e) → Yields (sf.chain b.expr) bare_expr ts rest e (λ k. spanned_chain f src k a)
    unfolding sf.chain
    chain_read {rest = rest} (chain a n) k =
        let u = chain_row_read a k in
        (u.3, u.4, (u.0, u.1, u.2, u.6 u.3 (at rest u.4) (no_turn (no_mark f src en ns pipe rest n))), u.5, u.7)

    abbrev pub bare_option : Option (Expr C) → bare.Optional C
    bare_option e = bare_optional (optional_of e)

    pub chain_if_any_read : {ts rest : List SpannedTok} {e : bare.Optional C} → (a : IsChainIfAny f src d ts rest e) → Yields (sf.filters_if_any (sf.chain b.expr)) bare_option ts rest e (λ k. spanned_chain_if_any f src k a)
    unfolding sf.filters_if_any
    chain_if_any_read (no_chain n) k = (None, k, inr (n, (refl, refl)), refl, refl)
    chain_if_any_read {rest = rest} (one_chain {s = c} {ts = ts} a) k =
        let u = chain_read a c in
        (Some u.0, u.1, inl (refl, (c, at ts c, mark_taken f src en ns pipe c ts k refl, (u.0, at rest u.1, u.2, (refl, refl)))), ap bare.present u.3, rw u.4 refl)

    pub filter_read : {ts rest : List SpannedTok} {e : bare.Optional C} → (a : IsFilterIfAny f src d ts rest e) → Yields (sf.loop_filter b.expr) bare_option ts rest e (λ k. spanned_filter_if_any f src k a)
    unfolding sf.loop_filter
    filter_read (no_filter n) k = (None, k, inr (n, (refl, refl)), refl, refl)
    filter_read {rest = rest} (one_filter {s = c} {ts = ts} a) k =
        let u = h.expr _ _ _ a c in
        (Some u.0, u.1, inl (refl, (c, at ts c, mark_taken f src en ns if_word c ts k refl, (u.0, at rest u.1, u.2, (refl, refl)))), ap bare.present u.3, rw u.4 refl)

    -- ---- bindings

    abbrev bare_binding : Expr C × Expr C → bare.Expr C × bare.Expr C
    bare_binding v = (bare_expr v.0, bare_expr v.1)

    binding_read : {ts us rest : List SpannedTok} {c : Span} {e i : bare.Expr C} → (a : IsBound d ts ((assign, c) ∷ us) e) → (m : IsExpr f src d us rest i) →
        Yields (sf.binding (sf.bound_target d) b.expr) bare_binding ts rest (e, i) (λ k. (((spanned_bound a).0, (spanned_expr f src c m).0), (spanned_expr f src c m).1))
    unfolding sf.binding
    binding_read {us = us} {rest = rest} {c = c} a m k =
        let u = bound_read a k in
        let w = h.expr _ _ _ m c in
        ((u.0, w.0), w.1, (u.0, at ((assign, c) ∷ us) u.1, u.2, (c, at us c, mark_taken f src en ns assign c us u.1 refl, (w.0, at rest w.1, w.2, (refl, refl)))), rw (u.3, w.3) refl, rw (u.4, w.4) refl)

    abbrev Bindings : List (Expr C × Expr C) → Place → Place → List (Expr C × Expr C) → Type 0
    Bindings = TurnsOf (g.span_of_mark comma) (binding_turn b.expr (sf.bound_target d))

    some_read : {ts rest : List SpannedTok} {bs : List (bare.Expr C × bare.Expr C)} → (a : AreSomeBindings f src d ts rest bs) → (k : Span) →
        (y : Expr C × Expr C) × (m : Place) × Derives (sf.binding (sf.bound_target d) b.expr) (at ts k) m y × (ys : List (Expr C × Expr C)) × (r : Span) × (bare_bindings (y ∷ ys) ≡ bs) ×
        ((sofar : List (Expr C × Expr C)) → Bindings (sofar ++ y ∷ []) m (at rest r) (sofar ++ y ∷ ys)) × (spanned_some_bindings f src a ≡ (y ∷ ys, r))
    some_read {rest = rest} (last_binding a m n) k =
        let u = binding_read a m k in
        (u.0, at rest u.1, u.2, [], u.1, ap (λ z. z ∷ []) u.3, (λ sofar. no_turn (no_mark f src en ns comma rest n)), rw (ap (λ v. v.0.0) u.4, ap (λ v. v.0.1) u.4, ap (λ v. v.1) u.4) refl)
    some_read {rest = rest} (more_bindings {r = c} {vs = vs} a m i) k =
        let u = binding_read a m k in
        let w = some_read i c in (
          u.0,
          at ((comma, c) ∷ vs) u.1,
          u.2,
          w.0 ∷ w.3,
          w.4,
          listed u.3 w.5,
          λ sofar. turn (mark_taken f src en ns comma c vs u.1 refl) (w.0, w.1, w.2, (refl, refl))
              (subst (λ z. Bindings ((sofar ++ u.0 ∷ []) ++ w.0 ∷ []) w.1 (at rest w.4) z) (append_assoc sofar (u.0 ∷ []) (w.0 ∷ w.3)) (w.6 (sofar ++ u.0 ∷ []))),
          rw (ap (λ v. v.0.0) u.4, ap (λ v. v.0.1) u.4, w.7) refl,
        )

    pub bindings_read : {ts rest : List SpannedTok} {bs : List (bare.Expr C × bare.Expr C)} → (a : AreBindings f src d ts rest bs) → Yields (sf.bindings (sf.bound_target d) b.expr) bare_bindings ts rest bs (λ k. spanned_bindings f src k a)
    unfolding sf.bindings
    bindings_read (no_bindings n) k = ([], k, inl (n, (refl, refl)), refl, refl)
    bindings_read (bindings n a) k =
        let w = some_read a k in
        (w.0 ∷ w.3, w.4, inr (n, (w.0, w.1, w.2, w.6 [])), w.5, w.7)

    -- ---- parameters

    abbrev ParamTurns : List (Param C) → Place → Place → List (Param C) → Type 0
    ParamTurns = TurnsOf (g.span_of_mark comma) (λ y _. either is_identifier (sf.param b.expr y >>= (λ z. pure (go_on z))) (pure (over y)))

    more_params_of : {ts rest : List SpannedTok} (c k : Span) (sofar ys : List (Param C)) (r : Span) → Derives (param_items b.expr sofar) (at ts c) (at rest r) ys → ParamTurns sofar (at ((
      comma,
      c,
    ) ∷ ts) k) (at rest r) ys
    more_params_of {ts = ts} c k sofar ys r (inl (e, (z, q, m, w))) = turn (mark_taken f src en ns comma c ts k refl) (inl (e, (z, q, m, (refl, refl)))) w
    more_params_of {ts = ts} c k sofar ys r (inr (e, (i, j))) = last_turn (mark_taken f src en ns comma c ts k refl) (inr (e, (i, ap over j)))

    -- no default, where none has to be
    no_default : (n : Bool) (ts : List SpannedTok) (e : bare.Expr C) (ps : List (bare.Expr C × bare.Optional C)) → comes (is assign) ts ≡ false → defaults_from n ((e, bare.absent) ∷ ps) ≡ true →
        (k : Span) →
        Derives (sf.default_of b.expr n) (at ts k) (at ts k) None
    no_default false ts e ps i j k = inr (i, (refl, refl))
    no_default true ts e ps i j k = cc

    from_no_default : (n : Bool) (e : bare.Expr C) (ps : List (bare.Expr C × bare.Optional C)) → defaults_from n ((e, bare.absent) ∷ ps) ≡ true → defaults_from (n || false) ps ≡ true
    from_no_default false e ps i = i
    from_no_default true e ps i = cc

    some_default : (n : Bool) (c : Span) (ts rest : List SpannedTok) (k r : Span) (y : Expr C) → Derives b.expr (at ts c) (at rest r) y → Derives (sf.default_of b.expr n) (at ((
      assign,
      c,
    ) ∷ ts) k) (at rest r) (Some y)
    some_default true c ts rest k r y m = (y, at rest r, (c, at ts c, mark_taken f src en ns assign c ts k refl, m), (refl, refl))
    some_default false c ts rest k r y m = inl (refl, (c, at ts c, mark_taken f src en ns assign c ts k refl, (y, at rest r, m, (refl, refl))))

    from_default : (n : Bool) (e v : bare.Expr C) (ps : List (bare.Expr C × bare.Optional C)) → defaults_from n ((e, bare.present v) ∷ ps) ≡ true → defaults_from (n || true) ps ≡ true
    from_default false e v ps i = i
    from_default true e v ps i = i

    -- the defaults of those so far and of one more
    with_one_more : (sofar : List (Param C)) (y : Param C) (ps : List (bare.Expr C × bare.Optional C)) → defaults_from (sf.have_default sofar || is_some y.1) ps ≡ true →
        defaults_from (sf.have_default (sofar ++ y ∷ [])) ps ≡ true
    with_one_more sofar y ps e = subst (λ n. defaults_from n ps ≡ true) (sym (default_append sofar y)) e

    -- one more, and those after it
    one_param : (ts us rest : List SpannedTok) (x : Text) (c : Span) (sofar ys : List (Param C)) (y : Option (Expr C)) (k r q : Span) → is_reserved x ≡ false →
        Derives (sf.default_of b.expr (sf.have_default sofar)) (at ts c) (at us r) y →
        ParamTurns (sofar ++ (tree.variable x c, y) ∷ []) (at us r) (at rest q) ((sofar ++ (tree.variable x c, y) ∷ []) ++ ys) →
        Derives (param_items b.expr sofar) (at ((ident x, c) ∷ ts) k) (at rest q) (sofar ++ (tree.variable x c, y) ∷ ys)
    unfolding sf.param
    one_param ts us rest x c sofar ys y k r q e m w =
        inl (
          refl,
          (
            sofar ++ (tree.variable x c, y) ∷ [],
            at us r,
            (tree.variable x c, at ts c, stored_read x c ts e k, (y, at us r, m, (refl, refl))),
            subst (λ z. ParamTurns (sofar ++ (tree.variable x c, y) ∷ []) (at us r) (at rest q) z) (append_assoc sofar ((tree.variable x c, y) ∷ []) ys) w,
          ),
        )

    mutual
      params_read : {ts rest : List SpannedTok} {ps : List (bare.Expr C × bare.Optional C)} → (a : AreParams f src d ts rest ps) → (sofar : List (Param C)) (k : Span) →
          defaults_from (sf.have_default sofar) ps ≡ true →
          (ys : List (Param C)) × (r : Span) × Derives (param_items b.expr sofar) (at ts k) (at rest r) (sofar ++ ys) × (bare_params ys ≡ ps) × (spanned_params f src k a ≡ (ys, r))
      params_read (no_params n) sofar k i = ([], k, inr (n, (refl, sym (append_nil sofar))), refl, refl)
      params_read {rest = rest} (param {x = x} {s = c} {ts = ts} {ps = ps} e n m) sofar k i =
          let y : Param C = (tree.variable x c, None) in
          let w = more_params_read m (sofar ++ y ∷ []) c (with_one_more sofar y ps (from_no_default (sf.have_default sofar) (bare.variable x) ps i)) in
          (y ∷ w.0, w.1, one_param ts ts rest x c sofar w.0 None k c w.1 e (no_default (sf.have_default sofar) ts (bare.variable x) ps n i c) w.2, rw w.3 refl, rw w.4 refl)
      params_read {rest = rest} (param_with_default {x = x} {s = c} {r = q} {ts = ts} {us = us} {e = v} {ps = ps} e a m) sofar k i =
          let u = h.expr _ _ _ a q in
          let y : Param C = (tree.variable x c, Some u.0) in
          let w = more_params_read m (sofar ++ y ∷ []) u.1 (with_one_more sofar y ps (from_default (sf.have_default sofar) (bare.variable x) v ps i)) in
          (y ∷ w.0, w.1, one_param ((assign, q) ∷ ts) us rest x c sofar w.0 (Some u.0) k u.1 w.1 e (some_default (sf.have_default sofar) q ts us c u.1 u.0 u.2) w.2, rw (u.3, w.3) refl, rw (u.4, w.4) refl)

      more_params_read : {ts rest : List SpannedTok} {ps : List (bare.Expr C × bare.Optional C)} → (a : AreMoreParams f src d ts rest ps) → (sofar : List (Param C)) (k : Span) →
          defaults_from (sf.have_default sofar) ps ≡ true →
          (ys : List (Param C)) × (r : Span) × ParamTurns sofar (at ts k) (at rest r) (sofar ++ ys) × (bare_params ys ≡ ps) × (spanned_more_params f src k a ≡ (ys, r))
      more_params_read {rest = rest} (no_more_params n) sofar k i = (
        [],
        k,
        subst (λ z. ParamTurns sofar (at rest k) (at rest k) z) (sym (append_nil sofar)) (no_turn (no_mark f src en ns comma rest n)),
        refl,
        refl,
      )
      more_params_read (more_params {s = c} a) sofar k i =
          let u = params_read a sofar c i in
          (u.0, u.1, more_params_of c k sofar (sofar ++ u.0) u.1 u.2, u.3, u.4)

    -- after (
    pub params_after : {ts rest : List SpannedTok} {c : Span} {ps : List (bare.Expr C × bare.Optional C)} → (a : AreParams f src d ts ((paren_close, c) ∷ rest) ps) → defaults_come_last ps ≡ true →
        Yields (sf.params b.expr) bare_params ts rest ps (λ k. ((spanned_params f src k a).0, c))
    unfolding sf.params
    params_after {rest = rest} {c = c} a e k =
        let u = params_read a [] k e in
        (u.0, c, (u.0, at ((paren_close, c) ∷ rest) u.1, u.2, (c, at rest c, mark_taken f src en ns paren_close c rest u.1 refl, (refl, refl))), u.3, rw u.4 refl)

    pub params_if_any_read : {ts rest : List SpannedTok} {ps : List (bare.Expr C × bare.Optional C)} → (a : AreParamsIfAny f src d ts rest ps) → Yields (params_if_any b.expr) bare_params ts rest ps (λ k. spanned_params_if_any f src k a)
    params_if_any_read (no_parentheses n) k = ([], k, inr (n, (refl, refl)), refl, refl)
    params_if_any_read {rest = rest} (params_in_parentheses {s = c} {ts = ts} a e) k =
        let u = params_after a e c in
        (u.0, u.1, inl (refl, (c, at ts c, mark_taken f src en ns paren_open c ts k refl, u.2)), u.3, u.4)
