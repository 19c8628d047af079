-- What the forms of statements derive is what the relations say.
use Rattle.std.proofs.Common.{◌≡◌, ◌⊎◌, inl, inr, ℕ, zero, suc, Bool, true, false, List, [], ◌∷◌, refl, sym, ap, ◌∙◌, subst}
use Rattle.std.specs.Prelude.{not, codes}
use Rattle.minijinja_syntax.specs.Texts.{Text}
use Rattle.minijinja_value.specs.Values.{Functions}
use Rattle.minijinja_syntax.specs.declared.tokens.Span.{Span}
use Rattle.minijinja_syntax.specs.Streams.{SpannedTok}
use Rattle.minijinja_syntax.specs.Tokens.{Tok, ident, block_end, assign, paren_open, paren_close}
use Rattle.minijinja_tree.specs.Tree as bare
use Rattle.minijinja_tree.specs.SpannedTrees.{bare_expr, bare_optional, bare_args, bare_bindings, optional_of, Stmt, bare_stmt, bare_stmts, bare_macro, stmts_of}
use Rattle.minijinja_tree.specs.SpannedTrees as stmt
use Rattle.minijinja_grammar.specs.Words.{in_word, else_word, elif_word, recursive_word, as_word, import_word, required_word, endfor_word, endif_word, endwith_word, endset_word, endautoescape_word, endfilter_word, endblock_word, endmacro_word, endcall_word}
use Rattle.minijinja_grammar.specs.internal.Keywords.{for_keyword, if_keyword, with_keyword, set_keyword, autoescape_keyword, filter_keyword, block_keyword, extends_keyword, include_keyword, import_keyword, from_keyword, macro_keyword, call_keyword, do_keyword, break_keyword, continue_keyword}
use Rattle.minijinja_grammar.specs.Places.{Place}
use Rattle.minijinja_grammar.specs.internal.Forms.{Form, pure, Derives, ◌>>=◌, ◌>>◌}
use Rattle.minijinja_grammar.specs.internal.ExprForms as g
use Rattle.minijinja_grammar.specs.internal.ExprForms.{Below, below}
use Rattle.minijinja_grammar.specs.Ahead.{or_level}
use Rattle.minijinja_grammar.specs.Expressions.{IsExpr, IsLevel}
use Rattle.minijinja_grammar.specs.Statements.{Ends, at_endfor_or_else, at_endfor, at_endif_else_or_elif, at_endif, at_endwith, at_endset, at_endautoescape, at_endfilter, at_endblock, at_endmacro, at_endcall, Context, inside_loop, inside_block, inside_macro, IsWordIfAny, IsChain, IsChainIfAny, AreBindings, AreParams, IsBlank, IsBody, IsElse, no_else, else_part, IsIf, if_alone, if_else, if_elif, IsStmt, for_stmt, if_stmt, with_stmt, set_stmt, set_block_stmt, autoescape_stmt, filter_stmt, block_stmt, required_block_stmt, extends_stmt, include_stmt, import_stmt, from_stmt, macro_stmt, call_stmt, do_stmt, break_stmt, continue_stmt}
use Rattle.minijinja_grammar.specs.Targets.{AreTargets}
use Rattle.minijinja_grammar.specs.internal.StmtForms as form
use Rattle.minijinja_grammar.specs.internal.StmtForms.{Parts, Within, within}
use Rattle.minijinja_grammar.proofs.FormNames.{params_if_any, word_if_any}
use Rattle.minijinja_grammar.proofs.StmtPartReading.{bare_params, storable_bare}
use Rattle.minijinja_grammar.proofs.StmtReading.{macro_bare}
use Rattle.minijinja_grammar.proofs.Back.{mark_was, Backed}
use Rattle.minijinja_grammar.proofs.BackWhole.{when_is, or_all, all_backed}
use Rattle.minijinja_grammar.proofs.BackTargets.{ident_was, any_targets_back}
use Rattle.minijinja_grammar.proofs.BackPieces.{flag_back, scoped_back, context_back, ignore_back, end_name_back, bound_back, imports_back, blank_back}
use Rattle.minijinja_grammar.proofs.BackClauses.{same_source, taken_source, form_source, loop_filter_back, filters_back, bindings_back, params_back, params_if_any_back, value_back, chain_back}
use Rattle.minijinja_grammar.proofs.BackBodies.{SaysStmt, Ended, body_back, body_before, Closed, closed_back, else_back}
use Rattle.minijinja_grammar.proofs.BackWords.{keyword_was, call_was, call_done}

not_is : (b : Bool) → not b ≡ true → b ≡ false
not_is true e = cc
not_is false e = refl

module _ {C F : Type 0} (f : Functions C F) (src : Text) where
  -- the If after an elif
  abbrev pub UnderIf : Context → ℕ → List SpannedTok → List SpannedTok → bare.Stmt C (Unit {0}) → Type 0
  UnderIf c zero ts rest x = ⊥
  UnderIf c (suc d) ts rest x = IsIf f src c d ts rest x

  -- all that nests so is such
  pub record Inside (d : ℕ) (w : Within C) : Type 0 where
    pub stmt : (c : Context) → SaysStmt f src (IsStmt f src c d) (w.stmt c)
    pub if_ : (c : Context) (from : Span) → SaysStmt f src (UnderIf c d) (w.if_ c from)

  elif_of : (c : Context) (d : ℕ) {s r : Span} {ts us vs rest : List SpannedTok} {e : bare.Expr C} {ss : bare.Stmts C (Unit {0})} {x : bare.Stmt C (Unit {0})} → IsLevel f src or_level d ts ((block_end, s) ∷ us) e →
      IsBody f src c at_endif_else_or_elif d us ((elif_word, r) ∷ vs) ss → UnderIf c d vs rest x → IsIf f src c d ts rest (bare.if_cond e ss (bare.also x bare.done))
  elif_of c zero a b i = absurd i
  elif_of c (suc d) a b i = if_elif a b i

  -- some token comes where an else part may
  else_begins : {c : Context} {w : Ends} {word : Tok} {d : ℕ} {ts rest : List SpannedTok} {ss : bare.Stmts C (Unit {0})} → IsElse f src c w word d ts rest ss → (t : SpannedTok) × (us : List SpannedTok) × (ts ≡ t ∷ us)
  else_begins (no_else {word = word} {s = s} {rest = rest} n) = ((word, s), rest, refl)
  else_begins (else_part {s = s} {r = r} {ts = ts} b) = ((else_word, s), (block_end, r) ∷ ts, refl)

  module _ (d : ℕ) (b : Below C) (w : Within C) (h : Backed f src d b) (n : Inside d w) where
    abbrev parts : Context → Parts C
    parts c = form.parts_of f d b w c

    -- what the form derives after the word is such a statement
    abbrev After : Context → Text → Span → Form (Stmt C) → Type 0
    After c word from form = (p q : Place) (x : Stmt C) → p.source ≡ src → Derives form p q x → IsStmt f src c (suc d) ((ident word, from) ∷ p.tokens) q.tokens (bare_stmt x)

    -- bodies of this depth, up to a word
    ended : (c : Context) (ends : Ends) (p q : Place) (ss : List (Stmt C)) → p.source ≡ src → Derives (form.body b.expr (w.stmt c) ends) p q ss → (t : SpannedTok) (ts : List SpannedTok) → q.tokens ≡ t ∷ ts →
        IsBody f src c ends d p.tokens (t ∷ ts) (bare_stmts (stmts_of ss))
    ended c ends = body_before f src c d ends b.expr h.expr (w.stmt c) (n.stmt c)

    ended_some : (c : Context) (ends : Ends) (p q : Place) (ss : List (Stmt C)) → p.source ≡ src → Derives (form.body b.expr (w.stmt c) ends) p q ss → ((t : SpannedTok) × (ts : List SpannedTok) × (q.tokens ≡ t ∷ ts)) →
        IsBody f src c ends d p.tokens q.tokens (bare_stmts (stmts_of ss))
    ended_some c ends p q ss e u (t, ts, k) = subst (λ us. IsBody f src c ends d p.tokens us (bare_stmts (stmts_of ss))) (sym k) (ended c ends p q ss e u t ts k)

    until : (c : Context) (ends : Ends) (word : Tok) (p q : Place) (ss : List (Stmt C)) → p.source ≡ src →
        Derives (g.next block_end >>= (λ _. form.body b.expr (w.stmt c) ends >>= (λ ss. g.next word >>= (λ _. pure ss)))) p q ss → Closed f src c d ends b.expr h.expr (w.stmt c) (n.stmt c) word p q ss
    until c ends word = closed_back f src c d ends b.expr h.expr (w.stmt c) (n.stmt c) word

    for_back : (c : Context) (from : Span) → After c (codes "for") from (form.for_stmt (parts c) from)
    unfolding form.for_stmt form.loop_body form.else_body form.closed_body
    for_back c from p q x e (t, q₁, a, (s, q₂, v, (y, q₃, u, (only, q₄, o, (again, q₅, r, (ss, q₇, (s', q₆, v', z), (other, q₈, l, (to, q₉, (j, _), (k, m))))))))) =
        let e₂ : q₂.source ≡ src = taken_source (g.span_of_mark in_word) q₁ q₂ s v (form_source ((parts c).targets false) p q₁ t a e) in
        let e₃ : q₃.source ≡ src = form_source ((parts c).or) q₂ q₃ y u e₂ in
        let e₄ : q₄.source ≡ src = form_source (form.loop_filter b.expr) q₃ q₄ only o e₃ in
        let e₅ : q₅.source ≡ src = form_source (word_if_any recursive_word) q₄ q₅ again r e₄ in
        let e₆ : q₆.source ≡ src = taken_source (g.span_of_mark block_end) q₅ q₆ s' v' e₅ in
        let e₇ : q₇.source ≡ src = form_source (form.body b.expr (w.stmt (inside_loop c)) at_endfor_or_else) q₆ q₇ ss z e₆ in
        let i₁ : AreTargets false d p.tokens ((in_word, s) ∷ q₂.tokens) (bare_expr t) = subst (λ us. AreTargets false d p.tokens us (bare_expr t)) (mark_was in_word q₁ q₂ s v) (any_targets_back false d p q₁ t a) in
        let i₂ : IsLevel f src or_level d q₂.tokens q₃.tokens (bare_expr y) = or_all f src d b h q₂ q₃ y e₂ u in
        let i₄ : IsWordIfAny recursive_word q₄.tokens ((block_end, s') ∷ q₆.tokens) again = subst (λ us. IsWordIfAny recursive_word q₄.tokens us again) (mark_was block_end q₅ q₆ s' v') (flag_back recursive_word q₄ q₅ again r) in
        let i₆ : IsElse f src c at_endfor endfor_word d q₇.tokens q₈.tokens (bare_stmts (stmts_of other)) = else_back f src c d at_endfor b.expr h.expr (w.stmt c) (n.stmt c) endfor_word q₇ q₈ other e₇ l in
        let i₅ : IsBody f src (inside_loop c) at_endfor_or_else d q₆.tokens q₇.tokens (bare_stmts (stmts_of ss)) = ended_some (inside_loop c) at_endfor_or_else q₆ q₇ ss e₆ z (else_begins i₆) in
        rw (sym k, sym j, sym m) (for_stmt i₁ i₂ (loop_filter_back f src d b.expr h.expr q₃ q₄ only e₃ o) i₄ i₅ i₆)

    otherwise_back : (c : Context) {ts us : List SpannedTok} {s : Span} {e : bare.Expr C} {ss : bare.Stmts C (Unit {0})} (p q : Place) (other : List (Stmt C)) → p.source ≡ src → IsLevel f src or_level d ts ((block_end, s) ∷ us) e →
        ((t : SpannedTok) (vs : List SpannedTok) → p.tokens ≡ t ∷ vs → IsBody f src c at_endif_else_or_elif d us (t ∷ vs) ss) → Derives (form.otherwise (parts c)) p q other →
        IsIf f src c d ts q.tokens (bare.if_cond e ss (bare_stmts (stmts_of other)))
    unfolding form.otherwise form.else_body form.closed_body
    otherwise_back c p q other e a i (inl (o, (x, q₂, (at, q₁, v, u), (k, m)))) =
        rw (sym k, sym m) (elif_of c d a (i (elif_word, at) q₁.tokens (mark_was elif_word p q₁ at v)) (n.if_ c at q₁ q₂ x (taken_source (g.span_of_mark elif_word) p q₁ at v e) u))
    otherwise_back c p q other e a i (inr (o, inl (o₂, (s, q₁, v, u)))) =
        let r = until c at_endif endif_word q₁ q other (taken_source (g.span_of_mark else_word) p q₁ s v e) u in
        if_else a (i (else_word, s) ((block_end, r.opened) ∷ r.inside) (mark_was else_word p q₁ s v ∙ ap (λ us. (else_word, s) ∷ us) r.opens)) r.body
    otherwise_back c p q other e a i (inr (o, inr (o₂, (s, q₁, v, (k, m))))) =
        rw (sym k, sym m) (if_alone a (i (endif_word, s) q₁.tokens (mark_was endif_word p q₁ s v)))

    if_back : (c : Context) (from : Span) → SaysStmt f src (IsIf f src c d) (form.if_level (parts c) from)
    unfolding form.if_level
    if_back c from p q x e (y, q₁, u, (s, q₂, v, (ss, q₃, z, (other, q₄, o, (to, q₅, (j, _), (k, m)))))) =
        let e₂ : q₂.source ≡ src = taken_source (g.span_of_mark block_end) q₁ q₂ s v (form_source ((parts c).or) p q₁ y u e) in
        let e₃ : q₃.source ≡ src = form_source (form.body b.expr (w.stmt c) at_endif_else_or_elif) q₂ q₃ ss z e₂ in
        let i₁ : IsLevel f src or_level d p.tokens ((block_end, s) ∷ q₂.tokens) (bare_expr y) = subst (λ us. IsLevel f src or_level d p.tokens us (bare_expr y)) (mark_was block_end q₁ q₂ s v) (or_all f src d b h p q₁ y e u) in
        rw (sym k, sym j, sym m) (otherwise_back c q₃ q₄ other e₃ i₁ (ended c at_endif_else_or_elif q₂ q₃ ss e₂ z) o)

    with_back : (c : Context) (from : Span) → After c (codes "with") from (form.with_stmt (parts c) from)
    unfolding form.with_stmt form.closed_body
    with_back c from p q x e (bs, q₁, u, (ss, q₂, z, (to, q₃, (j, _), (k, m)))) =
        let r = until c at_endwith endwith_word q₁ q₂ ss (form_source (form.bindings (form.bound_target d) b.expr) p q₁ bs u e) z in
        rw (sym k, sym j, sym m) (with_stmt (subst (λ us. AreBindings f src d p.tokens us (bare_bindings bs)) r.opens (bindings_back f src d (form.bound_target d) b.expr (bound_back d) h.expr p q₁ bs e u)) r.body)

    set_back : (c : Context) (from : Span) → After c (codes "set") from (form.set_stmt (parts c) from)
    unfolding form.set_stmt form.rest_of_set form.rest_of_set_block form.closed_body
    set_back c from p q x e (t, q₁, a, inl (o, (y, q₂, u, (ss, q₃, z, (to, q₄, (j, _), (k, m)))))) =
        let e₁ : q₁.source ≡ src = form_source ((parts c).targets true) p q₁ t a e in
        let r = until c at_endset endset_word q₂ q₃ ss (form_source (form.filters_if_any (form.chain b.expr)) q₁ q₂ y u e₁) z in
        rw (sym k, sym j, sym m) (set_block_stmt (any_targets_back true d p q₁ t a)
        (subst (λ us. IsChainIfAny f src d q₁.tokens us (bare_optional (optional_of y))) r.opens (filters_back f src d (form.chain b.expr) (chain_back f src d b h) q₁ q₂ y e₁ u)) r.body)
    set_back c from p q x e (t, q₁, a, inr (o, (s, q₂, v, (y, q₃, u, (to, q₄, (j, _), (k, m)))))) =
        let e₂ : q₂.source ≡ src = taken_source (g.span_of_mark assign) q₁ q₂ s v (form_source ((parts c).targets true) p q₁ t a e) in
        rw (sym k, sym j, sym m) (set_stmt (subst (λ us. AreTargets true d p.tokens us (bare_expr t)) (mark_was assign q₁ q₂ s v) (any_targets_back true d p q₁ t a)) (value_back f src d b h q₂ q₃ y e₂ u))

    autoescape_back : (c : Context) (from : Span) → After c (codes "autoescape") from (form.autoescape_stmt (parts c) from)
    unfolding form.autoescape_stmt form.closed_body
    autoescape_back c from p q x e (y, q₁, u, (ss, q₂, z, (to, q₃, (j, _), (k, m)))) =
        let r = until c at_endautoescape endautoescape_word q₁ q₂ ss (form_source b.expr p q₁ y u e) z in
        rw (sym k, sym j, sym m) (autoescape_stmt (subst (λ us. IsExpr f src d p.tokens us (bare_expr y)) r.opens (h.expr p q₁ y e u)) r.body)

    filter_back : (c : Context) (from : Span) → After c (codes "filter") from (form.filter_stmt (parts c) from)
    unfolding form.filter_stmt form.closed_body
    filter_back c from p q x e (y, q₁, u, (ss, q₂, z, (to, q₃, (j, _), (k, m)))) =
        let r = until c at_endfilter endfilter_word q₁ q₂ ss (form_source (form.chain b.expr) p q₁ y u e) z in
        rw (sym k, sym j, sym m) (filter_stmt (subst (λ us. IsChain f src d p.tokens us (bare_expr y)) r.opens (chain_back f src d b h p q₁ y e u)) r.body)

    -- ---- blocks

    block_name_was : (p q : Place) (x : Text) → Derives form.block_name p q x → (s : Span) × (p.tokens ≡ (ident x, s) ∷ q.tokens)
    unfolding form.block_name
    block_name_was p q x ((y, s), q₁, v, (_, q₂, (o, i), (k, m))) =
        (s, ident_was p q₁ (y, s) v ∙ ap (λ (z : Place). (ident y, s) ∷ z.tokens) (sym i) ∙ ap (λ (z : Place). (ident y, s) ∷ z.tokens) k ∙ ap (λ (z : Text). (ident z, s) ∷ q.tokens) m)

    named_back : (c : Context) (from : Span) → c.in_macro ≡ false → After c (codes "block") from (form.block_stmt (parts c) from)
    unfolding form.block_stmt form.block_body
    named_back c from out p q x e (y, q₁, a, (_, q₂, sc, (false, q₃, rf, (ss, q₅, (s, q₄, v, z), (r, q₆, t, (_, q₇, en, (to, q₈, (j, _), (k, m)))))))) =
        let e₁ : q₁.source ≡ src = form_source form.block_name p q₁ y a e in
        let e₃ : q₃.source ≡ src = form_source (word_if_any required_word) q₂ q₃ false rf (form_source form.scoped_if_any q₁ q₂ tt sc e₁) in
        let e₄ : q₄.source ≡ src = taken_source (g.span_of_mark block_end) q₃ q₄ s v e₃ in
        let name = block_name_was p q₁ y a in
        rw (sym k, sym j, sym m, name.1) (block_stmt out (scoped_back q₁ q₂ tt sc).1 (subst (λ us. IsWordIfAny required_word q₂.tokens us false) (mark_was block_end q₃ q₄ s v) (flag_back required_word q₂ q₃ false rf))
        (ended (inside_block c) at_endblock q₄ q₅ ss e₄ z (endblock_word, r) q₆.tokens (mark_was endblock_word q₅ q₆ r t)) (end_name_back y q₆ q₇ tt en))
    named_back c from out p q x e (y, q₁, a, (_, q₂, sc, (true, q₃, rf, (ss, q₅, (s, q₄, v, z), (r, q₆, t, (_, q₇, en, (to, q₈, (j, _), (k, m)))))))) =
        let name = block_name_was p q₁ y a in
        rw (sym k, sym j, sym m, name.1) (required_block_stmt out (scoped_back q₁ q₂ tt sc).1 (subst (λ us. IsWordIfAny required_word q₂.tokens us true) (mark_was block_end q₃ q₄ s v) (flag_back required_word q₂ q₃ true rf))
        (go (blank_back f src q₄ q₅ ss z)) (end_name_back y q₆ q₇ tt en))
      where
        go : (IsBlank f src q₄.tokens q₅.tokens (bare_stmts (stmts_of ss)) ⊎ (q₅.tokens ≡ [])) → IsBlank f src q₄.tokens ((endblock_word, r) ∷ q₆.tokens) (bare_stmts (stmts_of ss))
        go (inl i) = subst (λ us. IsBlank f src q₄.tokens us (bare_stmts (stmts_of ss))) (mark_was endblock_word q₅ q₆ r t) i
        go (inr i) = let lie : [] ≡ (endblock_word, r) ∷ q₆.tokens = sym i ∙ mark_was endblock_word q₅ q₆ r t in cc

    block_back : (c : Context) (from : Span) → After c (codes "block") from (g.when (not c.in_macro) (form.block_stmt (parts c) from))
    block_back c from p q x e u =
        let a = when_is (not c.in_macro) (form.block_stmt (parts c) from) p q x u in
        named_back c from (not_is c.in_macro a.0) p q x e a.1

    -- ---- other templates

    extends_back : (c : Context) (from : Span) → After c (codes "extends") from (form.extends_stmt b.expr from)
    unfolding form.extends_stmt
    extends_back c from p q x e (y, q₁, u, (to, q₂, (j, _), (k, m))) = rw (sym k, sym j, sym m) (extends_stmt (h.expr p q₁ y e u))

    include_back : (c : Context) (from : Span) → After c (codes "include") from (form.include_stmt b.expr from)
    unfolding form.include_stmt
    include_back c from p q x e (y, q₁, u, (had, q₂, v, (missing, q₃, o, (to, q₄, (j, _), (k, m))))) =
        rw (sym k, sym j, sym m) (include_stmt (h.expr p q₁ y e u) (context_back q₁ q₂ had v) (ignore_back had q₂ q₃ missing o))

    import_back : (c : Context) (from : Span) → After c (codes "import") from (form.import_stmt b.expr from)
    unfolding form.import_stmt
    import_back c from p q x e (y, q₁, u, (s, q₂, v, (t, q₃, u₂, o))) = go (when_is (form.is_storable t) (form.context_if_any >> g.spanned from (stmt.import_all y t)) q₃ q x o)
      where
        e₂ : q₂.source ≡ src
        e₂ = taken_source (g.span_of_mark as_word) q₁ q₂ s v (form_source b.expr p q₁ y u e)

        go : (form.is_storable t ≡ true) × Derives (form.context_if_any >> g.spanned from (stmt.import_all y t)) q₃ q x → IsStmt f src c (suc d) ((import_word, from) ∷ p.tokens) q.tokens (bare_stmt x)
        go (i, (had, q₄, a, (to, q₅, (j, _), (k, m)))) =
            rw (sym k, sym j, sym m) (import_stmt (subst (λ us. IsExpr f src d p.tokens us (bare_expr y)) (mark_was as_word q₁ q₂ s v) (h.expr p q₁ y e u)) (h.expr q₂ q₃ t e₂ u₂) (sym (storable_bare t) ∙ i) (context_back q₃ q₄ had a))

    from_back : (c : Context) (from : Span) → After c (codes "from") from (form.from_stmt b.expr from)
    unfolding form.from_stmt
    from_back c from p q x e (y, q₁, u, (s, q₂, v, (ns, q₃, o, (had, q₄, a, (to, q₅, (j, _), (k, m)))))) =
        rw (sym k, sym j, sym m) (from_stmt (subst (λ us. IsExpr f src d p.tokens us (bare_expr y)) (mark_was import_word q₁ q₂ s v) (h.expr p q₁ y e u)) (imports_back q₂ q₃ ns o) (context_back q₃ q₄ had a))

    -- ---- macros

    macro_back : (c : Context) (from : Span) → After c (codes "macro") from (form.macro_stmt (parts c) from)
    unfolding form.macro_stmt form.macro_body
    macro_back c from p q x e ((y, s), q₁, v, (s₂, q₂, v₂, (ps, q₃, u, (ss, q₄, z, (to, q₅, (j, _), (k, m)))))) =
        let e₂ : q₂.source ≡ src = taken_source (g.span_of_mark paren_open) q₁ q₂ s₂ v₂ (taken_source g.ident_and_span p q₁ (y, s) v e) in
        let r = until inside_macro at_endmacro endmacro_word q₃ q₄ ss (form_source (form.params b.expr) q₂ q₃ ps u e₂) z in
        let a = params_back f src d b.expr h.expr q₂ q₃ ps e₂ u in
        let i : AreParams f src d q₂.tokens ((paren_close, a.0) ∷ (block_end, r.opened) ∷ r.inside) (bare_params ps) = subst (λ us. AreParams f src d q₂.tokens ((paren_close, a.0) ∷ us) (bare_params ps)) r.opens a.1 in
        let begins : p.tokens ≡ (ident y, s) ∷ (paren_open, s₂) ∷ q₂.tokens = ident_was p q₁ (y, s) v ∙ ap (λ us. (ident y, s) ∷ us) (mark_was paren_open q₁ q₂ s₂ v₂) in
        rw (sym k, sym j, sym m) (subst (λ us. IsStmt f src c (suc d) ((ident (codes "macro"), from) ∷ us) q₄.tokens (bare.declare (bare_macro (stmt.macro_of y ps ss (g.expanded from to))))) (sym begins)
        (subst (λ (o : bare.Macro C (Unit {0})). IsStmt f src c (suc d) ((ident (codes "macro"), from) ∷ (ident y, s) ∷ (paren_open, s₂) ∷ q₂.tokens) q₄.tokens (bare.declare o)) (sym (macro_bare y ps ss (g.expanded from to)))
        (macro_stmt i a.2 r.body)))

    call_back : (c : Context) (from : Span) → After c (codes "call") from (form.call_stmt (parts c) from)
    unfolding form.call_stmt form.called form.macro_body
    call_back c from p q x e (ps, q₁, u, (o, q₂, (y, q₆, a, l), (ss, q₃, z, (to, q₄, (j, _), (k, m))))) =
        let e₁ : q₁.source ≡ src = form_source (params_if_any b.expr) p q₁ ps u e in
        let i = call_was y q₆ q₂ o l in
        let e₂ : q₂.source ≡ src = same_source q₆ q₂ i.0 (form_source b.expr q₁ q₆ y a e₁) in
        let r = until inside_macro at_endcall endcall_word q₂ q₃ ss e₂ z in
        let called : IsExpr f src d q₁.tokens ((block_end, r.opened) ∷ r.inside) (bare.call (bare_expr o.0) (bare_args o.1)) =
        subst (λ us. IsExpr f src d q₁.tokens us (bare.call (bare_expr o.0) (bare_args o.1))) (ap (λ (n : Place). n.tokens) i.0 ∙ r.opens) (subst (IsExpr f src d q₁.tokens q₆.tokens) i.1 (h.expr q₁ q₆ y e₁ a)) in
        rw (sym k, sym j, sym m) (subst (λ (n : bare.Macro C (Unit {0})). IsStmt f src c (suc d) ((ident (codes "call"), from) ∷ p.tokens) q₃.tokens (bare.call_block (bare_expr o.0) (bare_args o.1) n))
        (sym (macro_bare (codes "caller") ps ss (g.expanded from to))) (call_stmt (params_if_any_back f src d b.expr h.expr p q₁ ps e u) called r.body))

    do_back : (c : Context) (from : Span) → After c (codes "do") from (form.do_stmt b.expr from)
    unfolding form.do_stmt
    do_back c from p q x e (y, q₁, u, o) =
        let i = call_done y from q₁ q x o in
        subst (IsStmt f src c (suc d) ((ident (codes "do"), from) ∷ p.tokens) q.tokens) (sym i.4)
        (do_stmt (subst (λ (n : Place). IsExpr f src d p.tokens n.tokens (bare.call i.0 i.1)) i.2 (subst (IsExpr f src d p.tokens q₁.tokens) i.3 (h.expr p q₁ y e u))))

    -- ---- loops

    break_back : (c : Context) (from : Span) → After c (codes "break") from (form.break_stmt c from)
    unfolding form.break_stmt
    break_back c from p q x e o = go (when_is c.in_loop (g.spanned from stmt.break_loop) p q x o)
      where
        go : (c.in_loop ≡ true) × Derives (g.spanned from stmt.break_loop) p q x → IsStmt f src c (suc d) ((ident (codes "break"), from) ∷ p.tokens) q.tokens (bare_stmt x)
        go (i, (to, q₁, (j, _), (k, m))) = rw (sym k, sym j, sym m) (break_stmt i)

    continue_back : (c : Context) (from : Span) → After c (codes "continue") from (form.continue_stmt c from)
    unfolding form.continue_stmt
    continue_back c from p q x e o = go (when_is c.in_loop (g.spanned from stmt.continue_loop) p q x o)
      where
        go : (c.in_loop ≡ true) × Derives (g.spanned from stmt.continue_loop) p q x → IsStmt f src c (suc d) ((ident (codes "continue"), from) ∷ p.tokens) q.tokens (bare_stmt x)
        go (i, (to, q₁, (j, _), (k, m))) = rw (sym k, sym j, sym m) (continue_stmt i)

    -- ---- every statement

    stmt_back : (c : Context) → SaysStmt f src (IsStmt f src c (suc d)) (form.stmt_level c (parts c))
    unfolding form.stmt_level
    stmt_back c p q x e ((for_keyword, s), q₁, v, u) = rw (keyword_was p q₁ (for_keyword, s) v) (for_back c s q₁ q x (taken_source form.keyword_and_span p q₁ (for_keyword, s) v e) u)
    stmt_back c p q x e ((if_keyword, s), q₁, v, u) = rw (keyword_was p q₁ (if_keyword, s) v) (if_stmt (if_back c s q₁ q x (taken_source form.keyword_and_span p q₁ (if_keyword, s) v e) u))
    stmt_back c p q x e ((with_keyword, s), q₁, v, u) = rw (keyword_was p q₁ (with_keyword, s) v) (with_back c s q₁ q x (taken_source form.keyword_and_span p q₁ (with_keyword, s) v e) u)
    stmt_back c p q x e ((set_keyword, s), q₁, v, u) = rw (keyword_was p q₁ (set_keyword, s) v) (set_back c s q₁ q x (taken_source form.keyword_and_span p q₁ (set_keyword, s) v e) u)
    stmt_back c p q x e ((autoescape_keyword, s), q₁, v, u) = rw (keyword_was p q₁ (autoescape_keyword, s) v) (autoescape_back c s q₁ q x (taken_source form.keyword_and_span p q₁ (autoescape_keyword, s) v e) u)
    stmt_back c p q x e ((filter_keyword, s), q₁, v, u) = rw (keyword_was p q₁ (filter_keyword, s) v) (filter_back c s q₁ q x (taken_source form.keyword_and_span p q₁ (filter_keyword, s) v e) u)
    stmt_back c p q x e ((block_keyword, s), q₁, v, u) = rw (keyword_was p q₁ (block_keyword, s) v) (block_back c s q₁ q x (taken_source form.keyword_and_span p q₁ (block_keyword, s) v e) u)
    stmt_back c p q x e ((extends_keyword, s), q₁, v, u) = rw (keyword_was p q₁ (extends_keyword, s) v) (extends_back c s q₁ q x (taken_source form.keyword_and_span p q₁ (extends_keyword, s) v e) u)
    stmt_back c p q x e ((include_keyword, s), q₁, v, u) = rw (keyword_was p q₁ (include_keyword, s) v) (include_back c s q₁ q x (taken_source form.keyword_and_span p q₁ (include_keyword, s) v e) u)
    stmt_back c p q x e ((import_keyword, s), q₁, v, u) = rw (keyword_was p q₁ (import_keyword, s) v) (import_back c s q₁ q x (taken_source form.keyword_and_span p q₁ (import_keyword, s) v e) u)
    stmt_back c p q x e ((from_keyword, s), q₁, v, u) = rw (keyword_was p q₁ (from_keyword, s) v) (from_back c s q₁ q x (taken_source form.keyword_and_span p q₁ (from_keyword, s) v e) u)
    stmt_back c p q x e ((macro_keyword, s), q₁, v, u) = rw (keyword_was p q₁ (macro_keyword, s) v) (macro_back c s q₁ q x (taken_source form.keyword_and_span p q₁ (macro_keyword, s) v e) u)
    stmt_back c p q x e ((call_keyword, s), q₁, v, u) = rw (keyword_was p q₁ (call_keyword, s) v) (call_back c s q₁ q x (taken_source form.keyword_and_span p q₁ (call_keyword, s) v e) u)
    stmt_back c p q x e ((do_keyword, s), q₁, v, u) = rw (keyword_was p q₁ (do_keyword, s) v) (do_back c s q₁ q x (taken_source form.keyword_and_span p q₁ (do_keyword, s) v e) u)
    stmt_back c p q x e ((break_keyword, s), q₁, v, u) = rw (keyword_was p q₁ (break_keyword, s) v) (break_back c s q₁ q x (taken_source form.keyword_and_span p q₁ (break_keyword, s) v e) u)
    stmt_back c p q x e ((continue_keyword, s), q₁, v, u) = rw (keyword_was p q₁ (continue_keyword, s) v) (continue_back c s q₁ q x (taken_source form.keyword_and_span p q₁ (continue_keyword, s) v e) u)

    also_inside : Inside (suc d) (form.also_within f d b w)
    also_inside = record { stmt = stmt_back; if_ = if_back }

  all_inside : (d : ℕ) → Inside d (within f d)
  unfolding within
  all_inside zero = record { stmt = λ c p q x e u. absurd u; if_ = λ c from p q x e u. absurd u }
  all_inside (suc d) = also_inside d (below f d) (within f d) (all_backed f src d) (all_inside d)

  -- what the form of statements derives is a statement of that depth, with that tree but for spans
  pub derived_is_stmt : (c : Context) (d : ℕ) → SaysStmt f src (IsStmt f src c d) (form.stmt_at f c d)
  derived_is_stmt c d p q x e u = (all_inside d).stmt c p q x e u

  pub derived_is_body : (c : Context) (ends : Ends) (d : ℕ) (p q : Place) (ss : List (Stmt C)) → p.source ≡ src → Derives (form.body (g.expr_at f d) (form.stmt_at f c d) ends) p q ss → Ended f src c d ends p.tokens q.tokens (bare_stmts (stmts_of ss))
  derived_is_body c ends d p q ss e u = body_back f src c d ends (g.expr_at f d) ((all_backed f src d).expr) (form.stmt_at f c d) (derived_is_stmt c d) p q ss e u
