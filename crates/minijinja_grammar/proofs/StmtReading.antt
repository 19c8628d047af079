-- What the relations of statements say is what the forms derive: bodies, statements, templates.
use Rattle.std.proofs.Common.{◌≡◌, inl, inr, ℕ, zero, suc, Bool, true, false, List, [], ◌∷◌, ◌++◌, Option, Some, refl, sym, ap, ◌∙◌, subst, append_assoc}
use Rattle.std.specs.Prelude.{not, codes}
use Rattle.minijinja_syntax.specs.Texts.{Text}
use Rattle.minijinja_value.specs.Values.{Functions}
use Rattle.minijinja_syntax.specs.declared.tokens.Span.{Span}
use Rattle.minijinja_syntax.specs.Streams.{SpannedTok, Ending}
use Rattle.minijinja_syntax.specs.Tokens.{Tok, ident, template_data, variable_start, variable_end, block_start, block_end, assign, paren_open, paren_close}
use Rattle.minijinja_tree.specs.Tree as bare
use Rattle.minijinja_tree.specs.Tree.{blocks, all_blocks, names_of_blocks, block_names, all_block_names}
use Rattle.minijinja_tree.specs.SpannedTrees.{Expr, Args, bare_expr, bare_args, optional_of, Stmt, stmts_of, bare_stmt, bare_stmts, bare_macro}
use Rattle.minijinja_tree.specs.SpannedTrees as node
use Rattle.minijinja_grammar.specs.Words.{is, else_word, elif_word, in_word, recursive_word, as_word, import_word, scoped_word, required_word, endfor_word, endif_word, endwith_word, endset_word, endautoescape_word, endfilter_word, endblock_word, endmacro_word, endcall_word}
use Rattle.minijinja_grammar.specs.internal.Keywords.{Keyword, for_keyword, if_keyword, with_keyword, set_keyword, autoescape_keyword, filter_keyword, block_keyword, extends_keyword, include_keyword, import_keyword, from_keyword, macro_keyword, call_keyword, do_keyword, break_keyword, continue_keyword, keyword_of}
use Rattle.minijinja_grammar.specs.Places.{Place}
use Rattle.minijinja_grammar.specs.internal.Forms.{go_on, Form, pure, nothing, Turns, no_turn, last_turn, turn, Derives, ◌>>◌}
use Rattle.minijinja_grammar.specs.Ahead.{comes, or_level}
use Rattle.minijinja_grammar.specs.internal.ExprForms as g
use Rattle.minijinja_grammar.specs.internal.ExprForms.{Below, below}
use Rattle.minijinja_syntax.specs.Positions.{expanded}
use Rattle.minijinja_grammar.specs.Derived.{max_depth, IsTemplateTree, template_tree, spanned_template}
use Rattle.minijinja_grammar.specs.SpannedExpressions.{spanned_expr, spanned_level}
use Rattle.minijinja_grammar.specs.SpannedStatements.{end_of_end_name, call_parts, spanned_blank, spanned_body, spanned_else, spanned_if, spanned_stmt}
use Rattle.minijinja_grammar.specs.internal.StmtForms as form
use Rattle.minijinja_grammar.specs.internal.StmtForms.{Parts, Within, within, parts_of, stmt_at}
use Rattle.minijinja_grammar.specs.internal.TemplateForms.{template_at}
use Rattle.minijinja_grammar.specs.Expressions.{IsExpr, IsLevel}
use Rattle.minijinja_grammar.specs.Statements as rules
use Rattle.minijinja_grammar.specs.Statements.{Ends, at_end_of_text, at_endfor_or_else, at_endfor, at_endif_else_or_elif, at_endif, at_endwith, at_endset, at_endautoescape, at_endfilter, at_endblock, at_endmacro, at_endcall, Context, outside, inside_loop, inside_block, inside_macro, IsWordIfAny, IsContextIfAny, IsIgnoreIfAny, IsEndName, AreImports, defaults_come_last, IsValue, IsChain, IsChainIfAny, no_chain, one_chain, IsFilterIfAny, AreBindings, AreParams, AreParamsIfAny, IsBlank, blank_end, blank_data, IsBody, body_end, text_end, data_part, output_part, stmt_part, IsElse, no_else, else_part, IsIf, if_alone, if_else, if_elif, IsStmt, for_stmt, if_stmt, with_stmt, set_stmt, set_block_stmt, autoescape_stmt, filter_stmt, block_stmt, required_block_stmt, extends_stmt, include_stmt, import_stmt, from_stmt, macro_stmt, call_stmt, do_stmt, break_stmt, continue_stmt}
use Rattle.minijinja_grammar.specs.Targets.{AreTargets}
use Rattle.minijinja_grammar.proofs.TokenReading.{append_nil, Nested, taken, mark_taken}
use Rattle.minijinja_grammar.proofs.Reading.{all_nested, or_all}
use Rattle.minijinja_grammar.proofs.TargetReading.{any_targets_read}
use Rattle.minijinja_grammar.proofs.StmtPartReading.{bare_params, targets_bare, defaults_bare, storable_bare, call_known, parts_known, when_holds, word_read, scoped_read, context_read, ignore_read, end_name_read, imports_read, value_read, chain_read, chain_if_any_read, filter_read, bindings_read, params_after, params_if_any_read}
use Rattle.minijinja_grammar.proofs.GivenNames.{Given, with_one, two_given, distinct_given}

pub macro_bare : {C : Type 0} (x : Text) (ps : List (Expr C × Option (Expr C))) (ss : List (Stmt C)) (s : Span) →
    bare_macro (node.macro_of x ps ss s) ≡ rules.macro_of x (bare_params ps) (bare_stmts (stmts_of ss))
macro_bare x ps ss s = rw (targets_bare ps, defaults_bare ps) refl

module _ {C F : Type 0} (f : Functions C F) (src : Text) (en : Ending) where
  abbrev pub at : List Text → List SpannedTok → Span → Place
  at ns ts l = record { source = src; tokens = ts; ending = en; last = l; names = ns }

  abbrev Bare : Type 0
  Bare = bare.Stmt C (Unit {0})

  abbrev Bares : Type 0
  Bares = bare.Stmts C (Unit {0})

  -- wherever the token before stands, and whatever names were given: where those of the blocks can be
  -- given next, the form derives a tree that is e without spans, and that is this one with them, and
  -- gives the names
  abbrev pub GivesStmtAfter : Span → Form (Stmt C) → List SpannedTok → List SpannedTok → Bare → Stmt C × Span → Type 0
  GivesStmtAfter k form ts rest e v = (ns ms : List Text) → Given ns (block_names e) ms →
      (x : Stmt C) × (r : Span) × Derives form (at ns ts k) (at ms rest r) x × (bare_stmt x ≡ e) × (v ≡ (x, r))

  abbrev pub GivesStmt : Form (Stmt C) → List SpannedTok → List SpannedTok → Bare → Stmt C × Span → Type 0
  GivesStmt form ts rest e v = (k : Span) → GivesStmtAfter k form ts rest e v

  abbrev pub GivesStmts : Form (List (Stmt C)) → List SpannedTok → List SpannedTok → Bares → (Span → List (Stmt C) × Span) → Type 0
  GivesStmts form ts rest ss v = (ns ms : List Text) (k : Span) → Given ns (all_block_names ss) ms → (xs : List (Stmt C)) × (r : Span) × Derives form (at ns ts k) (at ms rest r) xs ×
      (bare_stmts (stmts_of xs) ≡ ss) × (v k ≡ (xs, r))

  -- what has no block gives no name
  quiet : (k : Span) (form : Form (Stmt C)) (ts rest : List SpannedTok) (e : Bare) (v : Stmt C × Span) → block_names e ≡ [] →
      ((ns : List Text) → (x : Stmt C) × (r : Span) × Derives form (at ns ts k) (at ns rest r) x × (bare_stmt x ≡ e) × (v ≡ (x, r))) → GivesStmtAfter k form ts rest e v
  quiet k form ts rest e v i u ns ms j =
      let w = u ns in
      let same : ns ≡ ms = subst (λ xs. Given ns xs ms) i j in
      (w.0, w.1, subst (λ z. Derives form (at ns ts k) (at z rest w.1) w.0) same w.2, w.3, w.4)

  -- ---- bodies of whitespace

  blank_free : {ts rest : List SpannedTok} {ss : Bares} → IsBlank f src ts rest ss → all_blocks ss ≡ []
  blank_free blank_end = refl
  blank_free (blank_data e a) = blank_free a

  abbrev BlankTurns : List (Stmt C) → Place → Place → List (Stmt C) → Type 0
  BlankTurns = Turns form.any_token (λ x h. Derives (form.blank_part x h))

  blank_turns : {ts rest : List SpannedTok} {ss : Bares} → (a : IsBlank f src ts rest ss) → (ns : List Text) (sofar : List (Stmt C)) (k : Span) →
      (ys : List (Stmt C)) × (r : Span) × BlankTurns sofar (at ns ts k) (at ns rest r) (sofar ++ ys) × (bare_stmts (stmts_of ys) ≡ ss) × (spanned_blank f src a ≡ (ys, r))
  blank_turns (blank_end {s = s} {rest = rest}) ns sofar k = (
    [],
    s,
    subst (λ z. BlankTurns sofar (at ns ((block_start, s) ∷ rest) k) (at ns rest s) z) (sym (append_nil sofar)) (last_turn (taken f src en ns form.any_token (
      block_start,
      s,
    ) rest k (block_start, s) refl) (refl, refl)),
    refl,
    refl,
  )
  blank_turns {rest = rest} (blank_data {t = t} {s = s} {ts = ts} e a) ns sofar k =
      let y : Stmt C = node.data_text t s in
      let w = blank_turns a ns (sofar ++ y ∷ []) s in (
        y ∷ w.0,
        w.1,
        turn (taken f src en ns form.any_token (template_data t, s) ts k (template_data t, s) refl)
            (when_holds (rules.is_blank t) (pure (go_on (sofar ++ y ∷ []))) (at ns ts s) (at ns ts s) (go_on (sofar ++ y ∷ [])) e (refl, refl))
            (subst (λ z. BlankTurns (sofar ++ y ∷ []) (at ns ts s) (at ns rest w.1) z) (append_assoc sofar (y ∷ []) w.0) w.2),
        ap (bare.also (bare.data_text t)) w.3,
        rw w.4 refl,
      )

  blank_read : {ts rest : List SpannedTok} {ss : Bares} → (a : IsBlank f src ts rest ss) → GivesStmts form.blank_body ts rest ss (λ k. spanned_blank f src a)
  unfolding form.blank_body
  blank_read {ts = ts} {rest = rest} a ns ms k j =
      let w = blank_turns a ns [] k in
      let same : ns ≡ ms = subst (λ bs. Given ns (names_of_blocks bs) ms) (blank_free a) j in
      (w.0, w.1, subst (λ z. BlankTurns [] (at ns ts k) (at z rest w.1) w.0) same w.2, w.3, w.4)

  -- ---- what nests

  -- the If after an `elif` is of one depth less
  abbrev pub BeneathIf : Context → ℕ → List SpannedTok → List SpannedTok → Bare → Type 0
  BeneathIf c zero ts rest x = ⊥
  BeneathIf c (suc d) ts rest x = IsIf f src c d ts rest x

  -- its tree with spans, from where the `elif` stands
  abbrev spanned_if_beneath : (c : Context) (d : ℕ) (ts rest : List SpannedTok) (x : Bare) → (from : Span) → BeneathIf c d ts rest x → Stmt C × Span
  spanned_if_beneath c zero ts rest x from a = absurd a
  spanned_if_beneath c (suc d) ts rest x from a = spanned_if f src from a

  pub record NestedStmts (d : ℕ) (w : Within C) : Type 0 where
    pub stmt : (c : Context) (ts rest : List SpannedTok) (x : Bare) → (a : IsStmt f src c d ts rest x) → GivesStmt (w.stmt c) ts rest x (spanned_stmt f src a)
    pub if_ : (c : Context) (from : Span) (ts rest : List SpannedTok) (x : Bare) → (a : BeneathIf c d ts rest x) → GivesStmtAfter from (w.if_ c from) ts rest x (spanned_if_beneath c d ts rest x from a)

  module _ (d : ℕ) (b : Below C) (w : Within C) (h : (ns : List Text) → Nested f src en ns d b) (hs : NestedStmts d w) where
    -- ---- bodies

    abbrev BodyTurns : Context → Ends → List (Stmt C) → Place → Place → List (Stmt C) → Type 0
    BodyTurns c e = Turns form.any_token (λ x t. Derives (form.part b.expr (w.stmt c) e x t))

    body_turns : {c : Context} {e : Ends} {ts rest : List SpannedTok} {ss : Bares} → (a : IsBody f src c e d ts rest ss) → (sofar : List (Stmt C)) (ns ms : List Text) (k : Span) →
        Given ns (all_block_names ss) ms →
        (ys : List (Stmt C)) × (r : Span) × BodyTurns c e sofar (at ns ts k) (at ms rest r) (sofar ++ ys) × (bare_stmts (stmts_of ys) ≡ ss) × (spanned_body f src k a ≡ (ys, r))
    unfolding form.shown form.tag
    body_turns (body_end {c = c} {w = e} {s = s} {rest = rest} n) sofar ns ms k j = (
      [],
      s,
      subst (λ z. BodyTurns c e sofar (at ns ((block_start, s) ∷ rest) k) (at ms rest s) z) (sym (append_nil sofar))
          (last_turn (taken f src en ns form.any_token (block_start, s) rest k (block_start, s) refl) (inl (n, (ap (λ z. at z rest s) j, refl)))),
      refl,
      refl,
    )
    body_turns (text_end {c = c}) sofar ns ms k j = (
      [],
      k,
      subst (λ z. BodyTurns c at_end_of_text sofar (at ns [] k) (at z [] k) (sofar ++ [])) j
          (subst (λ z. BodyTurns c at_end_of_text sofar (at ns [] k) (at ns [] k) z) (sym (append_nil sofar)) (no_turn refl)),
      refl,
      refl,
    )
    body_turns {c = c} {e = e} {rest = rest} (data_part {t = t} {s = s} {ts = ts} m) sofar ns ms k j =
        let y : Stmt C = node.data_text t s in
        let v = body_turns m (sofar ++ y ∷ []) ns ms s j in (
          y ∷ v.0,
          v.1,
          turn (taken f src en ns form.any_token (template_data t, s) ts k (template_data t, s) refl) (refl, refl)
              (subst (λ z. BodyTurns c e (sofar ++ y ∷ []) (at ns ts s) (at ms rest v.1) z) (append_assoc sofar (y ∷ []) v.0) v.2),
          ap (bare.also (bare.data_text t)) v.3,
          rw v.4 refl,
        )
    body_turns {c = c} {e = e} {rest = rest} (output_part {s = s} {r = r} {ts = ts} {us = us} a m) sofar ns ms k j =
        let u = (h ns).expr _ _ _ a s in
        let y : Stmt C = node.output u.0 (expanded s u.1) in
        let v = body_turns m (sofar ++ y ∷ []) ns ms r j in (
          y ∷ v.0,
          v.1,
          turn (taken f src en ns form.any_token (variable_start, s) ts k (variable_start, s) refl) (
            y,
            at ns us r,
            (
              u.0,
              at ns ((variable_end, r) ∷ us) u.1,
              u.2,
              (
                y,
                at ns ((variable_end, r) ∷ us) u.1,
                (u.1, at ns ((variable_end, r) ∷ us) u.1, (refl, refl), (refl, refl)),
                (r, at ns us r, mark_taken f src en ns variable_end r us u.1 refl, (refl, refl)),
              ),
            ),
            (refl, refl),
          )
              (subst (λ z. BodyTurns c e (sofar ++ y ∷ []) (at ns us r) (at ms rest v.1) z) (append_assoc sofar (y ∷ []) v.0) v.2),
          rw (u.3, v.3) refl,
          rw (u.4, v.4) refl,
        )
    body_turns {c = c} {e = e} {rest = rest} (stmt_part {s = s} {r = r} {ts = ts} {us = us} {x = x} {ss = ss} n a m) sofar ns ms k j =
        let i = two_given ns (blocks x) (all_blocks ss) ms j in
        let u = hs.stmt c _ _ _ a s ns i.0 i.1 in
        let y : Stmt C = u.0 in
        let v = body_turns m (sofar ++ y ∷ []) i.0 ms r i.2 in (
          y ∷ v.0,
          v.1,
          turn (taken f src en ns form.any_token (block_start, s) ts k (block_start, s) refl)
              (inr (n, (y, at i.0 us r, (y, at i.0 ((block_end, r) ∷ us) u.1, u.2, (r, at i.0 us r, mark_taken f src en i.0 block_end r us u.1 refl, (refl, refl))), (refl, refl))))
              (subst (λ z. BodyTurns c e (sofar ++ y ∷ []) (at i.0 us r) (at ms rest v.1) z) (append_assoc sofar (y ∷ []) v.0) v.2),
          rw (u.3, v.3) refl,
          rw (u.4, v.4) refl,
        )

    pub body_read : {c : Context} {e : Ends} {ts rest : List SpannedTok} {ss : Bares} → (a : IsBody f src c e d ts rest ss) → GivesStmts (form.body b.expr (w.stmt c) e) ts rest ss (λ k. spanned_body f src k a)
    unfolding form.body
    body_read a ns ms k j = body_turns a [] ns ms k j

    -- ---- statements

    module _ (c : Context) where
      abbrev p : Parts C
      p = parts_of f d b w c

      closed_read : (e : Ends) (word : Tok) (s q : Span) (us rest : List SpannedTok) (ss : Bares) (t : Span → List (Stmt C) × Span) → is word word ≡ true → GivesStmts (p.body e) us ((word, q) ∷ rest) ss t →
          GivesStmts (form.closed_body p e word) ((block_end, s) ∷ us) rest ss (λ k. ((t s).0, q))
      unfolding form.closed_body
      closed_read e word s q us rest ss t i u ns ms k j =
          let v = u ns ms s j in (
            v.0,
            q,
            (s, at ns us s, mark_taken f src en ns block_end s us k refl, (v.0, at ms ((word, q) ∷ rest) v.1, v.2, (q, at ms rest q, mark_taken f src en ms word q rest v.1 i, (refl, refl)))),
            v.3,
            rw v.4 refl,
          )

      macro_closed_read : (e : Ends) (word : Tok) (s q : Span) (us rest : List SpannedTok) (ss : Bares) (t : Span → List (Stmt C) × Span) → is word word ≡ true → GivesStmts (p.macro_body e) us ((word, q) ∷ rest) ss t →
          GivesStmts (form.macro_body p e word) ((block_end, s) ∷ us) rest ss (λ k. ((t s).0, q))
      unfolding form.macro_body
      macro_closed_read e word s q us rest ss t i u ns ms k j =
          let v = u ns ms s j in (
            v.0,
            q,
            (s, at ns us s, mark_taken f src en ns block_end s us k refl, (v.0, at ms ((word, q) ∷ rest) v.1, v.2, (q, at ms rest q, mark_taken f src en ms word q rest v.1 i, (refl, refl)))),
            v.3,
            rw v.4 refl,
          )

      else_read : {e : Ends} {word : Tok} {ts rest : List SpannedTok} {zs : Bares} → (a : IsElse f src c e word d ts rest zs) → is word word ≡ true → GivesStmts (form.else_body p e word) ts rest zs (λ k. spanned_else f src a)
      unfolding form.else_body
      else_read (no_else {word = word} {s = s} {rest = rest} n) i ns ms k j =
          ([], s, inr (n, (s, at ns rest s, mark_taken f src en ns word s rest k i, (ap (λ z. at z rest s) j, refl))), refl, refl)
      else_read (else_part {w = e} {word = word} {s = s} {r = r} {q = q} {ts = ts} {rest = rest} {ss = ss} a) i ns ms k j =
          let v = closed_read e word r q ts rest ss (λ l. spanned_body f src l a) i (body_read a) ns ms s j in
          (v.0, v.1, inl (refl, (s, at ns ((block_end, r) ∷ ts) s, mark_taken f src en ns else_word s ((block_end, r) ∷ ts) k refl, v.2)), v.3, v.4)

      -- ---- if

      same_if : {e i : bare.Expr C} {ss ts us vs : Bares} → e ≡ i → ss ≡ ts → us ≡ vs → bare.if_cond e ss us ≡ bare.if_cond i ts vs
      same_if e l o = rw (e, l, o) refl

      if_of : {ts us : List SpannedTok} (vs rest : List SpannedTok) {s : Span} {e : bare.Expr C} {ss zs : Bares} (t : List (Stmt C) × Span) → (a : IsLevel f src or_level d ts ((block_end, s) ∷ us) e) →
          (m : IsBody f src c at_endif_else_or_elif d us vs ss) → GivesStmts (form.otherwise p) vs rest zs (λ _. t) → (k : Span) →
          GivesStmtAfter k (form.if_level p k) ts rest (bare.if_cond e ss zs) (node.if_cond (spanned_level f src k a).0 (stmts_of (spanned_body f src s m).0) (stmts_of t.0) (expanded k t.1), t.1)
      unfolding form.if_level
      if_of {us = us} vs rest {s = s} {ss = ss} {zs = zs} t a m o k ns ms j =
          let i = two_given ns (all_blocks ss) (all_blocks zs) ms j in
          let u = or_all f src en ns b d (h ns) _ _ _ a k in
          let v = body_read m ns i.0 s i.1 in
          let y = o i.0 ms v.1 i.2 in
          let x : Stmt C = node.if_cond u.0 (stmts_of v.0) (stmts_of y.0) (expanded k y.1) in (
            x,
            y.1,
            (
              u.0,
              at ns ((block_end, s) ∷ us) u.1,
              u.2,
              (
                s,
                at ns us s,
                mark_taken f src en ns block_end s us u.1 refl,
                (
                  v.0,
                  at i.0 vs v.1,
                  v.2,
                  (
                    y.0,
                    at ms rest y.1,
                    y.2,
                    (
                      y.1,
                      at ms rest y.1,
                      (refl, refl),
                      (refl, refl {a = x}),
                    ),
                  ),
                ),
              ),
            ),
            same_if u.3 v.3 y.3,
            rw (u.4, v.4, y.4) refl,
          )

      endif_read : (r : Span) (rest : List SpannedTok) → GivesStmts (form.otherwise p) ((endif_word, r) ∷ rest) rest bare.done (λ k. ([], r))
      unfolding form.otherwise form.else_body
      endif_read r rest ns ms k j = ([], r, inr (refl, inr (refl, (r, at ns rest r, mark_taken f src en ns endif_word r rest k refl, (ap (λ z. at z rest r) j, refl)))), refl, refl)

      else_of_if_read : (r q t : Span) (vs rest : List SpannedTok) (zs : Bares) → (a : IsBody f src c at_endif d vs ((endif_word, t) ∷ rest) zs) →
          GivesStmts (form.otherwise p) ((else_word, r) ∷ (block_end, q) ∷ vs) rest zs (λ k. ((spanned_body f src q a).0, t))
      unfolding form.otherwise form.else_body
      else_of_if_read r q t vs rest zs a ns ms k j =
          let v = closed_read at_endif endif_word q t vs rest zs (λ l. spanned_body f src l a) refl (body_read a) ns ms r j in
          (v.0, v.1, inr (refl, inl (refl, (r, at ns ((block_end, q) ∷ vs) r, mark_taken f src en ns else_word r ((block_end, q) ∷ vs) k refl, v.2))), v.3, v.4)

      elif_read : (r : Span) (vs rest : List SpannedTok) (x : Bare) → (a : BeneathIf c d vs rest x) →
          GivesStmts (form.otherwise p) ((elif_word, r) ∷ vs) rest (bare.also x bare.done) (λ k. ((spanned_if_beneath c d vs rest x r a).0 ∷ [], (spanned_if_beneath c d vs rest x r a).1))
      unfolding form.otherwise
      elif_read r vs rest x a ns ms k j =
          let i = two_given ns (blocks x) [] ms j in
          let u = hs.if_ c r vs rest x a ns ms (subst (λ z. Given ns (block_names x) z) i.2 i.1) in
          (u.0 ∷ [], u.1, inl (refl, (u.0, at ms rest u.1, (r, at ns vs r, mark_taken f src en ns elif_word r vs k refl, u.2), (refl, refl))), ap (λ z. bare.also z bare.done) u.3, rw u.4 refl)

      -- ---- blocks of statements

      for_read : {ts us vs ws xs ys rest : List SpannedTok} {r q : Span} {again : Bool} {t e : bare.Expr C} {only : bare.Optional C} {ss zs : Bares} →
          (a : AreTargets false d ts ((in_word, r) ∷ us) t) → (l : IsLevel f src or_level d us vs e) → (o : IsFilterIfAny f src d vs ws only) → (n : IsWordIfAny recursive_word ws ((block_end, q) ∷ xs) again) →
          (m : IsBody f src (inside_loop c) at_endfor_or_else d xs ys ss) → (i : IsElse f src c at_endfor endfor_word d ys rest zs) → (k : Span) →
          GivesStmtAfter k (form.for_stmt p k) ts rest (bare.for_loop tt t e only again ss zs) (spanned_stmt f src (for_stmt {c = c} {s = k} a l o n m i))
      unfolding form.for_stmt form.loop_body
      for_read {us = us} {vs = vs} {ws = ws} {xs = xs} {ys = ys} {rest = rest} {r = r} {q = q} {again = again} {ss = ss} {zs = zs} a l o n m i k ns ms j =
          let names = two_given ns (all_blocks ss) (all_blocks zs) ms j in
          let t = any_targets_read src en ns false d _ _ _ a k in
          let e = or_all f src en ns b d (h ns) _ _ _ l r in
          let only = filter_read f src en ns d b (h ns) o e.1 in
          let flag = word_read f src en ns n refl only.1 in
          let v = body_read m ns names.0 q names.1 in
          let y = else_read i refl names.0 ms v.1 names.2 in (
            node.for_loop t.0 e.0 (optional_of only.0) again (stmts_of v.0) (stmts_of y.0) (expanded k y.1),
            y.1,
            (
              t.0,
              at ns ((in_word, r) ∷ us) t.1,
              t.2,
              (
                r,
                at ns us r,
                mark_taken f src en ns in_word r us t.1 refl,
                (
                  e.0,
                  at ns vs e.1,
                  e.2,
                  (
                    only.0,
                    at ns ws only.1,
                    only.2,
                    (
                      again,
                      at ns ((block_end, q) ∷ xs) flag.0,
                      flag.1,
                      (v.0, at names.0 ys v.1, (q, at ns xs q, mark_taken f src en ns block_end q xs flag.0 refl, v.2), (y.0, at ms rest y.1, y.2, (y.1, at ms rest y.1, (refl, refl), (refl, refl)))),
                    ),
                  ),
                ),
              ),
            ),
            rw (t.3, e.3, only.3, v.3, y.3) refl,
            rw (t.4, e.4, only.4, v.4, y.4) refl,
          )

      with_read : {ts us rest : List SpannedTok} {r q : Span} {bs : List (bare.Expr C × bare.Expr C)} {ss : Bares} → (a : AreBindings f src d ts ((block_end, r) ∷ us) bs) →
          (m : IsBody f src c at_endwith d us ((endwith_word, q) ∷ rest) ss) → (k : Span) →
          GivesStmtAfter k (form.with_stmt p k) ts rest (bare.with_block bs ss) (spanned_stmt f src (with_stmt {c = c} {s = k} a m))
      unfolding form.with_stmt
      with_read {us = us} {rest = rest} {r = r} {q = q} {ss = ss} a m k ns ms j =
          let u = bindings_read f src en ns d b (h ns) a k in
          let v = closed_read at_endwith endwith_word r q us rest ss (λ l. spanned_body f src l m) refl (body_read m) ns ms u.1 j in (
            node.with_block u.0 (stmts_of v.0) (expanded k v.1),
            v.1,
            (u.0, at ns ((block_end, r) ∷ us) u.1, u.2, (v.0, at ms rest v.1, v.2, (v.1, at ms rest v.1, (refl, refl), (refl, refl)))),
            rw (u.3, v.3) refl,
            rw (u.4, ap (λ z. z.0) v.4, sym (ap (λ z. z.1) v.4)) refl,
          )

      set_read : {ts us rest : List SpannedTok} {r : Span} {t e : bare.Expr C} → (a : AreTargets true d ts ((assign, r) ∷ us) t) → (m : IsValue f src d us rest e) → (k : Span) →
          GivesStmtAfter k (form.set_stmt p k) ts rest (bare.assignment t e) (spanned_stmt f src (set_stmt {c = c} {s = k} a m))
      unfolding form.set_stmt form.rest_of_set
      set_read {ts = ts} {us = us} {rest = rest} {r = r} {t = t} {e = e} a m k = quiet k (form.set_stmt p k) ts rest (bare.assignment t e) (spanned_stmt f src (set_stmt {c = c} {s = k} a m)) refl (λ ns.
          let u = any_targets_read src en ns true d _ _ _ a k in
          let v = value_read f src en ns d b (h ns) m r in (
            node.assignment u.0 v.0 (expanded k v.1),
            v.1,
            (
              u.0,
              at ns ((assign, r) ∷ us) u.1,
              u.2,
              inr (
                refl,
                (
                  r,
                  at ns us r,
                  mark_taken f src en ns assign r us u.1 refl,
                  (v.0, at ns rest v.1, v.2, (v.1, at ns rest v.1, (refl, refl), (refl, refl))),
                ),
              ),
            ),
            rw (u.3, v.3) refl,
            rw (u.4, v.4) refl,
          ))

      chain_begins : {us vs : List SpannedTok} {r : Span} {e : bare.Optional C} → IsChainIfAny f src d us ((block_end, r) ∷ vs) e → comes form.begins_set_block us ≡ true
      chain_begins (no_chain n) = refl
      chain_begins (one_chain a) = refl

      set_block_read : {ts us vs rest : List SpannedTok} {r q : Span} {t : bare.Expr C} {e : bare.Optional C} {ss : Bares} → (a : AreTargets true d ts us t) → (i : IsChainIfAny f src d us ((block_end, r) ∷ vs) e) →
          (m : IsBody f src c at_endset d vs ((endset_word, q) ∷ rest) ss) → (k : Span) →
          GivesStmtAfter k (form.set_stmt p k) ts rest (bare.set_block t e ss) (spanned_stmt f src (set_block_stmt {c = c} {s = k} a i m))
      unfolding form.set_stmt form.rest_of_set_block
      set_block_read {us = us} {vs = vs} {rest = rest} {r = r} {q = q} {ss = ss} a i m k ns ms j =
          let u = any_targets_read src en ns true d _ _ _ a k in
          let e = chain_if_any_read f src en ns d b (h ns) i u.1 in
          let v = closed_read at_endset endset_word r q vs rest ss (λ l. spanned_body f src l m) refl (body_read m) ns ms e.1 j in (
            node.set_block u.0 (optional_of e.0) (stmts_of v.0) (expanded k v.1),
            v.1,
            (
              u.0,
              at ns us u.1,
              u.2,
              inl (
                chain_begins i,
                (
                  e.0,
                  at ns ((block_end, r) ∷ vs) e.1,
                  e.2,
                  (v.0, at ms rest v.1, v.2, (v.1, at ms rest v.1, (refl, refl), (refl, refl))),
                ),
              ),
            ),
            rw (u.3, e.3, v.3) refl,
            rw (u.4, e.4, ap (λ z. z.0) v.4, sym (ap (λ z. z.1) v.4)) refl,
          )

      autoescape_read : {ts us rest : List SpannedTok} {r q : Span} {e : bare.Expr C} {ss : Bares} → (a : IsExpr f src d ts ((block_end, r) ∷ us) e) →
          (m : IsBody f src c at_endautoescape d us ((endautoescape_word, q) ∷ rest) ss) → (k : Span) →
          GivesStmtAfter k (form.autoescape_stmt p k) ts rest (bare.auto_escape e ss) (spanned_stmt f src (autoescape_stmt {c = c} {s = k} a m))
      unfolding form.autoescape_stmt
      autoescape_read {us = us} {rest = rest} {r = r} {q = q} {ss = ss} a m k ns ms j =
          let u = (h ns).expr _ _ _ a k in
          let v = closed_read at_endautoescape endautoescape_word r q us rest ss (λ l. spanned_body f src l m) refl (body_read m) ns ms u.1 j in (
            node.auto_escape u.0 (stmts_of v.0) (expanded k v.1),
            v.1,
            (u.0, at ns ((block_end, r) ∷ us) u.1, u.2, (v.0, at ms rest v.1, v.2, (v.1, at ms rest v.1, (refl, refl), (refl, refl)))),
            rw (u.3, v.3) refl,
            rw (u.4, ap (λ z. z.0) v.4, sym (ap (λ z. z.1) v.4)) refl,
          )

      filter_stmt_read : {ts us rest : List SpannedTok} {r q : Span} {e : bare.Expr C} {ss : Bares} → (a : IsChain f src d ts ((block_end, r) ∷ us) e) →
          (m : IsBody f src c at_endfilter d us ((endfilter_word, q) ∷ rest) ss) → (k : Span) →
          GivesStmtAfter k (form.filter_stmt p k) ts rest (bare.filter_block e ss) (spanned_stmt f src (filter_stmt {c = c} {s = k} a m))
      unfolding form.filter_stmt
      filter_stmt_read {us = us} {rest = rest} {r = r} {q = q} {ss = ss} a m k ns ms j =
          let u = chain_read f src en ns d b (h ns) a k in
          let v = closed_read at_endfilter endfilter_word r q us rest ss (λ l. spanned_body f src l m) refl (body_read m) ns ms u.1 j in (
            node.filter_block u.0 (stmts_of v.0) (expanded k v.1),
            v.1,
            (u.0, at ns ((block_end, r) ∷ us) u.1, u.2, (v.0, at ms rest v.1, v.2, (v.1, at ms rest v.1, (refl, refl), (refl, refl)))),
            rw (u.3, v.3) refl,
            rw (u.4, ap (λ z. z.0) v.4, sym (ap (λ z. z.1) v.4)) refl,
          )

      -- ---- named blocks

      block_body_read : (vs ws : List SpannedTok) (r : Span) (ss : Bares) → (a : IsBody f src (inside_block c) at_endblock d vs ws ss) → GivesStmts (form.block_body p false) ((block_end, r) ∷ vs) ws ss (λ k. spanned_body f src r a)
      unfolding form.block_body
      block_body_read vs ws r ss a ns ms k j = let v = body_read a ns ms r j in (v.0, v.1, (r, at ns vs r, mark_taken f src en ns block_end r vs k refl, v.2), v.3, v.4)

      required_body_read : (vs ws : List SpannedTok) (r : Span) (ss : Bares) → (a : IsBlank f src vs ws ss) → GivesStmts (form.block_body p true) ((block_end, r) ∷ vs) ws ss (λ k. spanned_blank f src a)
      unfolding form.block_body
      required_body_read vs ws r ss a ns ms k j = let v = blank_read a ns ms r j in (v.0, v.1, (r, at ns vs r, mark_taken f src en ns block_end r vs k refl, v.2), v.3, v.4)

      block_read : (q t : Span) {ts us vs ws rest : List SpannedTok} {r : Span} {scoped required : Bool} {x : Text} {ss : Bares} (body : List (Stmt C) × Span) → IsWordIfAny scoped_word ts us scoped →
          IsWordIfAny required_word us ((block_end, r) ∷ vs) required → GivesStmts (form.block_body p required) ((block_end, r) ∷ vs) ((endblock_word, q) ∷ ws) ss (λ _. body) →
          (o : IsEndName x ws rest) → (k : Span) →
          GivesStmtAfter k (form.block_stmt p k) ((ident x, t) ∷ ts) rest (bare.named_block x required ss) (node.named_block x required (stmts_of body.0) (expanded k (end_of_end_name q o)), end_of_end_name q o)
      unfolding form.block_stmt form.block_name
      block_read q t {ts = ts} {us = us} {vs = vs} {ws = ws} {rest = rest} {r = r} {required = required} {x = x} body i n m o k ns ms j =
          let ns' : List Text = with_one ns x in
          let u = scoped_read f src en ns' i t in
          let y = word_read f src en ns' n refl u.0 in
          let v = m ns' ms y.0 j.1 in
          let z = end_name_read f src en ms o q in (
            node.named_block x required (stmts_of v.0) (expanded k z.0),
            z.0,
            (
              x,
              at ns' ts t,
              ((x, t), at ns ts t, taken f src en ns g.ident_and_span (ident x, t) ts k (x, t) refl, (tt, at ns' ts t, (j.0, refl), (refl, refl))),
              (
                tt,
                at ns' us u.0,
                u.1,
                (
                  required,
                  at ns' ((block_end, r) ∷ vs) y.0,
                  y.1,
                  (
                    v.0,
                    at ms ((endblock_word, q) ∷ ws) v.1,
                    v.2,
                    (
                      q,
                      at ms ws q,
                      mark_taken f src en ms endblock_word q ws v.1 refl,
                      (tt, at ms rest z.0, z.1, (z.0, at ms rest z.0, (refl, refl), (refl, refl))),
                    ),
                  ),
                ),
              ),
            ),
            ap (bare.named_block x required) v.3,
            rw (v.4, z.2) refl,
          )

      -- ---- other templates

      extends_read : {ts rest : List SpannedTok} {e : bare.Expr C} → (a : IsExpr f src d ts rest e) → (k : Span) →
          GivesStmtAfter k (form.extends_stmt b.expr k) ts rest (bare.extends e) (spanned_stmt f src (extends_stmt {c = c} {s = k} a))
      unfolding form.extends_stmt
      extends_read {ts = ts} {rest = rest} {e = e} a k = quiet k (form.extends_stmt b.expr k) ts rest (bare.extends e) (spanned_stmt f src (extends_stmt {c = c} {s = k} a)) refl (λ ns.
          let u = (h ns).expr _ _ _ a k in
          (node.extends u.0 (expanded k u.1), u.1, (u.0, at ns rest u.1, u.2, (u.1, at ns rest u.1, (refl, refl), (refl, refl))), ap bare.extends u.3, rw u.4 refl))

      include_read : {ts us vs rest : List SpannedTok} {had missing : Bool} {e : bare.Expr C} → (a : IsExpr f src d ts us e) → (i : IsContextIfAny us vs had) → (m : IsIgnoreIfAny had vs rest missing) → (k : Span) →
          GivesStmtAfter k (form.include_stmt b.expr k) ts rest (bare.include e missing) (spanned_stmt f src (include_stmt {c = c} {s = k} a i m))
      unfolding form.include_stmt
      include_read {ts = ts} {us = us} {vs = vs} {rest = rest} {had = had} {missing = missing} {e = e} a i m k = quiet k (form.include_stmt b.expr k) ts rest (bare.include e missing) (spanned_stmt f src (include_stmt {c = c} {s = k} a i m)) refl (λ ns.
          let u = (h ns).expr _ _ _ a k in
          let v = context_read f src en ns i u.1 in
          let y = ignore_read f src en ns m v.0 in (
            node.include u.0 missing (expanded k y.0),
            y.0,
            (u.0, at ns us u.1, u.2, (had, at ns vs v.0, v.1, (missing, at ns rest y.0, y.1, (y.0, at ns rest y.0, (refl, refl), (refl, refl))))),
            ap (λ z. bare.include z missing) u.3,
            rw (u.4, v.2, y.2) refl,
          ))

      import_read : {ts us vs rest : List SpannedTok} {r : Span} {had : Bool} {e t : bare.Expr C} → (a : IsExpr f src d ts ((as_word, r) ∷ us) e) → (i : IsExpr f src d us vs t) → (n : rules.is_storable t ≡ true) →
          (m : IsContextIfAny vs rest had) → (k : Span) →
          GivesStmtAfter k (form.import_stmt b.expr k) ts rest (bare.import_all e t) (spanned_stmt f src (import_stmt {c = c} {s = k} a i n m))
      unfolding form.import_stmt
      import_read {ts = ts} {us = us} {vs = vs} {rest = rest} {r = r} {had = had} {e = e} {t = t} a i n m k = quiet k (form.import_stmt b.expr k) ts rest (bare.import_all e t) (spanned_stmt f src (import_stmt {c = c} {s = k} a i n m)) refl (λ ns.
          let u = (h ns).expr _ _ _ a k in
          let v = (h ns).expr _ _ _ i r in
          let y = context_read f src en ns m v.1 in
          let x : Stmt C = node.import_all u.0 v.0 (expanded k y.0) in (
            x,
            y.0,
            (
              u.0,
              at ns ((as_word, r) ∷ us) u.1,
              u.2,
              (
                r,
                at ns us r,
                mark_taken f src en ns as_word r us u.1 refl,
                (
                  v.0,
                  at ns vs v.1,
                  v.2,
                  when_holds (form.is_storable v.0) (form.context_if_any >> g.spanned k (node.import_all u.0 v.0)) (at ns vs v.1) (at ns rest y.0) x (storable_bare v.0 ∙ ap rules.is_storable v.3 ∙ n)
                      (had, at ns rest y.0, y.1, (y.0, at ns rest y.0, (refl, refl), (refl, refl))),
                ),
              ),
            ),
            rw (u.3, v.3) refl,
            rw (u.4, v.4, y.2) refl,
          ))

      from_read : {ts us vs rest : List SpannedTok} {r : Span} {had : Bool} {e : bare.Expr C} {xs : List (bare.Expr C × bare.Optional C)} → (a : IsExpr f src d ts ((import_word, r) ∷ us) e) →
          (i : AreImports us vs xs) → (m : IsContextIfAny vs rest had) → (k : Span) →
          GivesStmtAfter k (form.from_stmt b.expr k) ts rest (bare.from_import e xs) (spanned_stmt f src (from_stmt {c = c} {s = k} a i m))
      unfolding form.from_stmt
      from_read {ts = ts} {us = us} {vs = vs} {rest = rest} {r = r} {had = had} {e = e} {xs = xs} a i m k = quiet k (form.from_stmt b.expr k) ts rest (bare.from_import e xs) (spanned_stmt f src (from_stmt {c = c} {s = k} a i m)) refl (λ ns.
          let u = (h ns).expr _ _ _ a k in
          let v = imports_read f src en ns i r in
          let y = context_read f src en ns m v.1 in (
            node.from_import u.0 v.0 (expanded k y.0),
            y.0,
            (
              u.0,
              at ns ((import_word, r) ∷ us) u.1,
              u.2,
              (
                r,
                at ns us r,
                mark_taken f src en ns import_word r us u.1 refl,
                (
                  v.0,
                  at ns vs v.1,
                  v.2,
                  (had, at ns rest y.0, y.1, (y.0, at ns rest y.0, (refl, refl), (refl, refl))),
                ),
              ),
            ),
            rw (u.3, v.3) refl,
            rw (u.4, v.4, y.2) refl,
          ))

      -- ---- macros and calls

      macro_read : (o i : Span) {ts us rest : List SpannedTok} {r q t : Span} {x : Text} {ps : List (bare.Expr C × bare.Optional C)} {ss : Bares} → (a : AreParams f src d ts ((paren_close, r) ∷ (block_end, q) ∷ us) ps) → (n : defaults_come_last ps ≡ true) →
          (m : IsBody f src inside_macro at_endmacro d us ((endmacro_word, t) ∷ rest) ss) → (k : Span) →
          GivesStmtAfter k (form.macro_stmt p k) ((ident x, i) ∷ (paren_open, o) ∷ ts) rest (bare.declare (rules.macro_of x ps ss)) (spanned_stmt f src (macro_stmt {c = c} {s = k} {p = i} {o = o} {x = x} a n m))
      unfolding form.macro_stmt
      macro_read o i {ts = ts} {us = us} {rest = rest} {r = r} {q = q} {t = t} {x = x} {ss = ss} a n m k ns ms j =
          let u = params_after f src en ns d b (h ns) a n o in
          let v = macro_closed_read at_endmacro endmacro_word q t us rest ss (λ l. spanned_body f src l m) refl (body_read m) ns ms u.1 j in (
            node.declare (node.macro_of x u.0 v.0 (expanded k v.1)),
            v.1,
            (
              (x, i),
              at ns ((paren_open, o) ∷ ts) i,
              taken f src en ns g.ident_and_span (ident x, i) ((paren_open, o) ∷ ts) k (x, i) refl,
              (
                o,
                at ns ts o,
                mark_taken f src en ns paren_open o ts i refl,
                (u.0, at ns ((block_end, q) ∷ us) u.1, u.2, (v.0, at ms rest v.1, v.2, (v.1, at ms rest v.1, (refl, refl), (refl, refl)))),
              ),
            ),
            ap bare.declare (macro_bare x u.0 v.0 (expanded k v.1) ∙ same_macro u.3 v.3),
            rw (ap (λ z. z.0) u.4, ap (λ z. z.0) v.4, sym (ap (λ z. z.1) v.4)) refl,
          )
        where
          same_macro : {ys zs : List (bare.Expr C × bare.Optional C)} {ss ts : Bares} → ys ≡ zs → ss ≡ ts → rules.macro_of x ys ss ≡ rules.macro_of x zs ts
          same_macro e l = rw (e, l) refl

      abbrev CalledGives : List SpannedTok → List SpannedTok → bare.Expr C → bare.Args C → (Span → Expr C × Span) → Type 0
      CalledGives ts rest e xs v = (ns : List Text) (k : Span) → (y : Expr C × Args C × Span) × (r : Span) × (z : Expr C) × Derives b.expr (at ns ts k) (at ns rest r) z × (form.call_of z ≡ Some y) ×
          (bare_expr y.0 ≡ e) × (bare_args y.1 ≡ xs) × (call_parts (v k).0 (v k).1 ≡ y) × ((v k).1 ≡ r)

      called_read : {ts rest : List SpannedTok} {e : bare.Expr C} {xs : bare.Args C} → (a : IsExpr f src d ts rest (bare.call e xs)) → CalledGives ts rest e xs (λ k. spanned_expr f src k a)
      called_read {e = e} {xs = xs} a ns k =
          let u = (h ns).expr _ _ _ a k in
          let y = call_known u.0 e xs u.3 in
          (y.0, u.1, u.0, u.2, y.1, y.2, y.3, rw u.4 (parts_known u.0 u.1 y.0 y.1), ap (λ v. v.1) u.4)

      call_read : {ts us vs rest : List SpannedTok} {r q : Span} {ps : List (bare.Expr C × bare.Optional C)} {e : bare.Expr C} {xs : bare.Args C} {ss : Bares} → (a : AreParamsIfAny f src d ts us ps) →
          (i : IsExpr f src d us ((block_end, r) ∷ vs) (bare.call e xs)) → (m : IsBody f src inside_macro at_endcall d vs ((endcall_word, q) ∷ rest) ss) → (k : Span) →
          GivesStmtAfter k (form.call_stmt p k) ts rest (bare.call_block e xs (rules.macro_of (codes "caller") ps ss)) (spanned_stmt f src (call_stmt {c = c} {s = k} a i m))
      unfolding form.call_stmt form.called
      call_read {us = us} {vs = vs} {rest = rest} {r = r} {q = q} {ss = ss} a i m k ns ms j =
          let u = params_if_any_read f src en ns d b (h ns) a k in
          let y = called_read i ns u.1 in
          let v = macro_closed_read at_endcall endcall_word r q vs rest ss (λ l. spanned_body f src l m) refl (body_read m) ns ms y.1 j in
          let to : Span = expanded k v.1 in (
            node.call_block y.0.0 y.0.1 y.0.2 (node.macro_of (codes "caller") u.0 v.0 to) to,
            v.1,
            (
              u.0,
              at ns us u.1,
              u.2,
              (
                y.0,
                at ns ((block_end, r) ∷ vs) y.1,
                (
                  y.2,
                  at ns ((block_end, r) ∷ vs) y.1,
                  y.3,
                  subst (λ z. Derives (form.call_in z) (at ns ((block_end, r) ∷ vs) y.1) (at ns ((block_end, r) ∷ vs) y.1) y.0) (sym y.4) (refl, refl),
                ),
                (v.0, at ms rest v.1, v.2, (v.1, at ms rest v.1, (refl, refl), (refl, refl))),
              ),
            ),
            same_call y.5 y.6 (macro_bare (codes "caller") u.0 v.0 to ∙ same_macro u.3 v.3),
            rw (u.4, y.7, ap (λ z. z.0) v.4, sym (ap (λ z. z.1) v.4)) refl,
          )
        where
          same_macro : {ys zs : List (bare.Expr C × bare.Optional C)} {ss ts : Bares} → ys ≡ zs → ss ≡ ts → rules.macro_of (codes "caller") ys ss ≡ rules.macro_of (codes "caller") zs ts
          same_macro e l = rw (e, l) refl

          same_call : {e i : bare.Expr C} {xs ys : bare.Args C} {m n : bare.Macro C (Unit {0})} → e ≡ i → xs ≡ ys → m ≡ n → bare.call_block e xs m ≡ bare.call_block i ys n
          same_call e l o = rw (e, l, o) refl

      do_read : {ts rest : List SpannedTok} {e : bare.Expr C} {xs : bare.Args C} → (a : IsExpr f src d ts rest (bare.call e xs)) → (k : Span) →
          GivesStmtAfter k (form.do_stmt b.expr k) ts rest (bare.do_call e xs) (spanned_stmt f src (do_stmt {c = c} {s = k} a))
      unfolding form.do_stmt
      do_read {ts = ts} {rest = rest} {e = e} {xs = xs} a k = quiet k (form.do_stmt b.expr k) ts rest (bare.do_call e xs) (spanned_stmt f src (do_stmt {c = c} {s = k} a)) refl (λ ns.
          let y = called_read a ns k in
          let x : Stmt C = node.do_call y.0.0 y.0.1 y.0.2 (expanded k y.1) in (
            x,
            y.1,
            (y.2, at ns rest y.1, y.3, subst (λ z. Derives (form.done k z) (at ns rest y.1) (at ns rest y.1) x) (sym y.4) (y.1, at ns rest y.1, (refl, refl), (refl, refl))),
            rw (y.5, y.6) refl,
            rw (y.7, y.8) refl,
          ))

      break_read : (rest : List SpannedTok) → (e : c.in_loop ≡ true) → (k : Span) →
          GivesStmtAfter k (form.break_stmt c k) rest rest bare.break_loop (spanned_stmt f src (break_stmt {c = c} {d = d} {s = k} {rest = rest} e))
      unfolding form.break_stmt
      break_read rest e k = quiet k (form.break_stmt c k) rest rest bare.break_loop (node.break_loop (expanded k k), k) refl (λ ns.
          let y : Stmt C = node.break_loop (expanded k k) in
          (y, k, when_holds c.in_loop (g.spanned k node.break_loop) (at ns rest k) (at ns rest k) y e (k, at ns rest k, (refl, refl), (refl, refl)), refl, refl))

      continue_read : (rest : List SpannedTok) → (e : c.in_loop ≡ true) → (k : Span) →
          GivesStmtAfter k (form.continue_stmt c k) rest rest bare.continue_loop (spanned_stmt f src (continue_stmt {c = c} {d = d} {s = k} {rest = rest} e))
      unfolding form.continue_stmt
      continue_read rest e k = quiet k (form.continue_stmt c k) rest rest bare.continue_loop (node.continue_loop (expanded k k), k) refl (λ ns.
          let y : Stmt C = node.continue_loop (expanded k k) in
          (y, k, when_holds c.in_loop (g.spanned k node.continue_loop) (at ns rest k) (at ns rest k) y e (k, at ns rest k, (refl, refl), (refl, refl)), refl, refl))

      -- ---- all statements

      -- after its first word
      after_word : (x : Text) (word : Keyword) (s : Span) (ts rest : List SpannedTok) {e : Bare} {t : Stmt C × Span} → keyword_of x ≡ Some word → GivesStmtAfter s (form.stmt_of c p (word, s)) ts rest e t →
          GivesStmt (form.stmt_level c p) ((ident x, s) ∷ ts) rest e t
      unfolding form.stmt_level
      after_word x word s ts rest i u k ns ms j =
          let v = u ns ms j in
          (v.0, v.1, ((word, s), at ns ts s, taken f src en ns form.keyword_and_span (ident x, s) ts k (word, s) (rw i refl), v.2), v.3, v.4)

      -- one that stands in that context alone
      only_where : (n : Bool) (form : Form (Stmt C)) (k : Span) (ts rest : List SpannedTok) {e : Bare} {t : Stmt C × Span} → n ≡ true → GivesStmtAfter k form ts rest e t → GivesStmtAfter k (g.when n form) ts rest e t
      only_where n form k ts rest i u ns ms j = let v = u ns ms j in (v.0, v.1, when_holds n form (at ns ts k) (at ms rest v.1) v.0 i v.2, v.3, v.4)

  if_read : (d : ℕ) (b : Below C) (w : Within C) → ((ns : List Text) → Nested f src en ns d b) → NestedStmts d w → (c : Context) (k : Span) (ts rest : List SpannedTok) (x : Bare) →
      (a : IsIf f src c d ts rest x) → GivesStmtAfter k (form.if_level (parts_of f d b w c) k) ts rest x (spanned_if f src k a)
  if_read d b w h hs c k ts rest x (if_alone {r = r} a m) = if_of d b w h hs c ((endif_word, r) ∷ rest) rest ([], r) a m (endif_read d b w h hs c r rest) k
  if_read d b w h hs c k ts rest x (if_else {r = r} {q = q} {p = o} {vs = vs} {zs = zs} a m n) =
      if_of d b w h hs c ((else_word, r) ∷ (block_end, q) ∷ vs) rest ((spanned_body f src q n).0, o) a m (else_of_if_read d b w h hs c r q o vs rest zs n) k
  if_read (suc d) b w h hs c k ts rest x (if_elif {r = r} {vs = vs} {x = y} a m n) =
      if_of (suc d) b w h hs c ((elif_word, r) ∷ vs) rest ((spanned_if f src r n).0 ∷ [], (spanned_if f src r n).1) a m (elif_read (suc d) b w h hs c r vs rest y n) k

  module _ (d : ℕ) (b : Below C) (w : Within C) (h : (ns : List Text) → Nested f src en ns d b) (hs : NestedStmts d w) (c : Context) where
    abbrev all_parts : Parts C
    all_parts = parts_of f d b w c

    not_inside : (n : Bool) → n ≡ false → not n ≡ true
    not_inside false e = refl
    not_inside true e = cc

    stmt_read : (ts rest : List SpannedTok) (x : Bare) → (a : IsStmt f src c (suc d) ts rest x) → GivesStmt (form.stmt_level c all_parts) ts rest x (spanned_stmt f src a)
    stmt_read ts rest x (for_stmt {s = s} {ts = us} a l o n m i) = after_word d b w h hs c (codes "for") for_keyword s us rest refl (for_read d b w h hs c a l o n m i s)
    stmt_read ts rest x (if_stmt {s = s} {ts = us} a) = after_word d b w h hs c (codes "if") if_keyword s us rest refl (if_read d b w h hs c s us rest x a)
    stmt_read ts rest x (with_stmt {s = s} {ts = us} a m) = after_word d b w h hs c (codes "with") with_keyword s us rest refl (with_read d b w h hs c a m s)
    stmt_read ts rest x (set_stmt {s = s} {ts = us} a m) = after_word d b w h hs c (codes "set") set_keyword s us rest refl (set_read d b w h hs c a m s)
    stmt_read ts rest x (set_block_stmt {s = s} {ts = us} a i m) = after_word d b w h hs c (codes "set") set_keyword s us rest refl (set_block_read d b w h hs c a i m s)
    stmt_read ts rest x (autoescape_stmt {s = s} {ts = us} a m) = after_word d b w h hs c (codes "autoescape") autoescape_keyword s us rest refl (autoescape_read d b w h hs c a m s)
    stmt_read ts rest x (filter_stmt {s = s} {ts = us} a m) = after_word d b w h hs c (codes "filter") filter_keyword s us rest refl (filter_stmt_read d b w h hs c a m s)
    stmt_read ts rest x (block_stmt {s = s} {r = r} {q = q} {p = o} {x = y} {ts = us} {vs = vs} {ws = ws} {ss = ss} e i n m z) =
        after_word d b w h hs c (codes "block") block_keyword s ((ident y, o) ∷ us) rest refl (only_where d b w h hs c (not c.in_macro) (form.block_stmt all_parts s) s ((
          ident y,
          o,
        ) ∷ us) rest (not_inside c.in_macro e)
        (block_read d b w h hs c q o (spanned_body f src r m) i n (block_body_read d b w h hs c vs ((endblock_word, q) ∷ ws) r ss m) z s))
    stmt_read ts rest x (required_block_stmt {s = s} {r = r} {q = q} {p = o} {x = y} {ts = us} {vs = vs} {ws = ws} {ss = ss} e i n m z) =
        after_word d b w h hs c (codes "block") block_keyword s ((ident y, o) ∷ us) rest refl (only_where d b w h hs c (not c.in_macro) (form.block_stmt all_parts s) s ((
          ident y,
          o,
        ) ∷ us) rest (not_inside c.in_macro e)
        (block_read d b w h hs c q o (spanned_blank f src m) i n (required_body_read d b w h hs c vs ((endblock_word, q) ∷ ws) r ss m) z s))
    stmt_read ts rest x (extends_stmt {s = s} {ts = us} a) = after_word d b w h hs c (codes "extends") extends_keyword s us rest refl (extends_read d b w h hs c a s)
    stmt_read ts rest x (include_stmt {s = s} {ts = us} a i m) = after_word d b w h hs c (codes "include") include_keyword s us rest refl (include_read d b w h hs c a i m s)
    stmt_read ts rest x (import_stmt {s = s} {ts = us} a i n m) = after_word d b w h hs c (codes "import") import_keyword s us rest refl (import_read d b w h hs c a i n m s)
    stmt_read ts rest x (from_stmt {s = s} {ts = us} a i m) = after_word d b w h hs c (codes "from") from_keyword s us rest refl (from_read d b w h hs c a i m s)
    stmt_read ts rest x (macro_stmt {s = s} {p = i} {o = o} {x = y} {ts = us} a n m) =
        after_word d b w h hs c (codes "macro") macro_keyword s ((ident y, i) ∷ (paren_open, o) ∷ us) rest refl (macro_read d b w h hs c o i a n m s)
    stmt_read ts rest x (call_stmt {s = s} {ts = us} a i m) = after_word d b w h hs c (codes "call") call_keyword s us rest refl (call_read d b w h hs c a i m s)
    stmt_read ts rest x (do_stmt {s = s} {ts = us} a) = after_word d b w h hs c (codes "do") do_keyword s us rest refl (do_read d b w h hs c a s)
    stmt_read ts rest x (break_stmt {s = s} e) = after_word d b w h hs c (codes "break") break_keyword s rest rest refl (break_read d b w h hs c rest e s)
    stmt_read ts rest x (continue_stmt {s = s} e) = after_word d b w h hs c (codes "continue") continue_keyword s rest rest refl (continue_read d b w h hs c rest e s)

  no_stmt_at_zero : (c : Context) (form : Form (Stmt C)) (ts rest : List SpannedTok) (x : Bare) → (a : IsStmt f src c zero ts rest x) → GivesStmt form ts rest x (spanned_stmt f src a)
  no_stmt_at_zero c form ts rest x a = elim a [ ]

  -- at each depth the forms derive what nests
  pub all_stmts : (d : ℕ) → NestedStmts d (within f d)
  unfolding within
  all_stmts zero = record { stmt = λ c. no_stmt_at_zero c nothing; if_ = λ c from ts rest x a. absurd a }
  all_stmts (suc d) = record {
    stmt = λ c. stmt_read d (below f d) (within f d) (λ ns. all_nested f src en ns d) (all_stmts d) c;
    if_ = λ c from ts rest x a. if_read d (below f d) (within f d) (λ ns. all_nested f src en ns d) (all_stmts d) c from ts rest x a;
  }

  -- every body likewise
  pub body_is_derived : (c : Context) (e : Ends) (d : ℕ) (ts rest : List SpannedTok) (ss : Bares) → (a : IsBody f src c e d ts rest ss) → GivesStmts (form.body (g.expr_at f d) (stmt_at f c d) e) ts rest ss (λ k. spanned_body f src k a)
  body_is_derived c e d ts rest ss a = body_read d (below f d) (within f d) (λ ns. all_nested f src en ns d) (all_stmts d) a

  -- every template likewise
  pub template_is_derived : (ns : List Text) (ts : List SpannedTok) (k : Span) (x : Bare) → (a : IsTemplateTree f (at ns ts k) x) →
      (y : Stmt C) × (r : Span) × (ms : List Text) × Derives (template_at f max_depth) (at ns ts k) (at ms [] r) y × (bare_stmt y ≡ x) × (spanned_template f (at ns ts k) a ≡ y)
  unfolding template_at
  template_is_derived ns ts k x (template_tree {ss = ss} e m i j) =
      let names = distinct_given ns (all_block_names ss) i j in
      let u = body_is_derived outside at_end_of_text max_depth ts [] ss m ns names.0 k names.1 in (
        node.template (stmts_of u.0) (expanded k u.1),
        u.1,
        names.0,
        (k, at ns ts k, (refl, refl), (u.0, at names.0 [] u.1, u.2, (u.1, at names.0 [] u.1, (refl, refl), (refl, refl)))),
        ap bare.template u.3,
        rw u.4 refl,
      )
