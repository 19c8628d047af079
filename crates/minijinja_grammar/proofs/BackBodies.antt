-- What the forms of bodies derive is what the relations say.
use Rattle.std.proofs.Common.{◌≡◌, ◌⊎◌, inl, inr, ℕ, Bool, true, false, List, [], ◌∷◌, ◌++◌, refl, sym, ap, ◌∙◌, subst, append_assoc}
use Rattle.minijinja_syntax.specs.Texts.{Text}
use Rattle.minijinja_value.specs.Values.{Functions}
use Rattle.minijinja_syntax.specs.declared.tokens.Span.{Span}
use Rattle.minijinja_syntax.specs.Streams.{SpannedTok}
use Rattle.minijinja_syntax.specs.Tokens.{Tok, template_data, variable_start, variable_end, block_start, block_end}
use Rattle.minijinja_tree.specs.Tree as bare
use Rattle.minijinja_tree.specs.SpannedTrees.{Expr, bare_expr, Stmt, bare_stmt, bare_stmts, stmts_of}
use Rattle.minijinja_tree.specs.SpannedTrees as stmt
use Rattle.minijinja_grammar.specs.Words.{is, else_word}
use Rattle.minijinja_grammar.specs.Places.{Place}
use Rattle.minijinja_grammar.specs.internal.Forms.{Form, pure, Turns, no_turn, last_turn, turn, Derives, ◌>>=◌}
use Rattle.minijinja_grammar.specs.Ahead.{comes}
use Rattle.minijinja_grammar.specs.internal.ExprForms as g
use Rattle.minijinja_grammar.specs.Expressions.{IsExpr}
use Rattle.minijinja_grammar.specs.Statements.{Ends, at_end_of_text, at_endfor_or_else, at_endfor, at_endif_else_or_elif, at_endif, at_endwith, at_endset, at_endautoescape, at_endfilter, at_endblock, at_endmacro, at_endcall, ends_body, Context, IsBody, body_end, text_end, data_part, output_part, stmt_part, IsElse, no_else, else_part, IsStmt}
use Rattle.minijinja_grammar.specs.internal.StmtForms as form
use Rattle.minijinja_grammar.proofs.TokenReading.{append_nil}
use Rattle.minijinja_grammar.proofs.Back.{mark_was, turned, Says}
use Rattle.minijinja_grammar.proofs.BackPieces.{nothing_left, token_was}
use Rattle.minijinja_grammar.proofs.BackClauses.{same_source, taken_source, form_source}

-- whether a body ends before a word, and so not where the text does
abbrev pub before_word : Ends → Bool
before_word at_end_of_text = false
before_word _ = true

module _ {C F : Type 0} (f : Functions C F) (src : Text) where
  -- all that the form derives is such
  abbrev pub SaysStmt : (List SpannedTok → List SpannedTok → bare.Stmt C (Unit {0}) → Type 0) → Form (Stmt C) → Type 0
  SaysStmt X form = (p q : Place) (x : Stmt C) → p.source ≡ src → Derives form p q x → X p.tokens q.tokens (bare_stmt x)

  module _ (c : Context) (d : ℕ) (w : Ends) where
    -- a body, unless the text ends where a word should end it
    abbrev pub Ended : List SpannedTok → List SpannedTok → bare.Stmts C (Unit {0}) → Type 0
    Ended ts rest ss = IsBody f src c w d ts rest ss ⊎ ((rest ≡ []) × (before_word w ≡ true))

    no_part : (ts : List SpannedTok) → ts ≡ [] → Ended ts ts bare.done
    no_part ts e = go w
      where
        go : (v : Ends) → IsBody f src c v d ts ts bare.done ⊎ ((ts ≡ []) × (before_word v ≡ true))
        go at_end_of_text = inl (rw e text_end)
        go at_endfor_or_else = inr (e, refl)
        go at_endfor = inr (e, refl)
        go at_endif_else_or_elif = inr (e, refl)
        go at_endif = inr (e, refl)
        go at_endwith = inr (e, refl)
        go at_endset = inr (e, refl)
        go at_endautoescape = inr (e, refl)
        go at_endfilter = inr (e, refl)
        go at_endblock = inr (e, refl)
        go at_endmacro = inr (e, refl)
        go at_endcall = inr (e, refl)

    -- the parts from here on
    record Further (sofar : List (Stmt C)) (p q : Place) (y : List (Stmt C)) : Type 0 where
      further : List (Stmt C)
      all : y ≡ sofar ++ further
      are : Ended p.tokens q.tokens (bare_stmts (stmts_of further))

    -- a part that stands first
    abbrev First : Stmt C → List SpannedTok → List SpannedTok → Type 0
    First x ts us = (rest : List SpannedTok) (zs : bare.Stmts C (Unit {0})) → IsBody f src c w d us rest zs → IsBody f src c w d ts rest (bare.also (bare_stmt x) zs)

    one_more : (sofar z : List (Stmt C)) (x : Stmt C) (p r q : Place) (y : List (Stmt C)) → sofar ++ x ∷ [] ≡ z → First x p.tokens r.tokens → Further z r q y → Further sofar p q y
    one_more sofar z x p r q y same i v = record {
      further = x ∷ v.further;
      all = v.all ∙ ap (λ (zs : List (Stmt C)). zs ++ v.further) (sym same) ∙ append_assoc sofar (x ∷ []) v.further;
      are = go v.are;
    }
      where
        go : Ended r.tokens q.tokens (bare_stmts (stmts_of v.further)) → Ended p.tokens q.tokens (bare_stmts (stmts_of (x ∷ v.further)))
        go (inl b) = inl (i q.tokens (bare_stmts (stmts_of v.further)) b)
        go (inr e) = inr e

    module _ (expr : Form (Expr C)) (i : Says f src (IsExpr f src d) expr) (stmt' : Form (Stmt C)) (j : SaysStmt (IsStmt f src c d) stmt') where
      shown_back : (from : Span) (p q : Place) (x : Stmt C) → p.source ≡ src → Derives (form.shown expr from) p q x → First x ((variable_start, from) ∷ p.tokens) q.tokens
      unfolding form.shown
      shown_back from p q x e (y, q₁, u, (z, q₂, (to, q₃, (k₁, _), (k₂, m₂)), (s, q₄, v, (k₃, m₃)))) rest zs b =
          let ends : q₁.tokens ≡ (variable_end, s) ∷ q.tokens = ap (λ (n : Place). n.tokens) (k₁ ∙ k₂) ∙ mark_was variable_end q₂ q₄ s v ∙ ap (λ (n : Place). (variable_end, s) ∷ n.tokens) k₃ in
          rw (sym m₃, sym m₂) (output_part (subst (λ us. IsExpr f src d p.tokens us (bare_expr y)) ends (i p q₁ y e u)) b)

      tag_back : (s : Span) (p q : Place) (x : Stmt C) → p.source ≡ src → comes (ends_body w) p.tokens ≡ false → Derives (form.tag stmt') p q x → First x ((block_start, s) ∷ p.tokens) q.tokens
      unfolding form.tag
      tag_back s p q x e n (y, q₁, u, (r, q₂, v, (k, m))) rest zs b =
          let ends : q₁.tokens ≡ (block_end, r) ∷ q.tokens = mark_was block_end q₁ q₂ r v ∙ ap (λ (n : Place). (block_end, r) ∷ n.tokens) k in
          rw (sym m) (stmt_part n (subst (λ us. IsStmt f src c d p.tokens us (bare_stmt y)) ends (j p q₁ y e u)) b)

      abbrev PartTurns : List (Stmt C) → Place → Place → List (Stmt C) → Type 0
      PartTurns = Turns form.any_token (λ ss u. Derives (form.part expr stmt' w ss u))

      parts_back : (sofar : List (Stmt C)) (p q : Place) (y : List (Stmt C)) → p.source ≡ src → PartTurns sofar p q y → Further sofar p q y
      parts_back sofar p q y e (no_turn n) = record { further = []; all = sym (append_nil sofar); are = no_part p.tokens (nothing_left p.tokens n) }
      parts_back sofar p q y e (last_turn {h = (block_start, s)} {q = q₁} v (inl (n, (k, m)))) =
          record { further = []; all = ap turned (sym m) ∙ sym (append_nil sofar); are = inl (rw (token_was p q₁ (block_start, s) v, sym k) (body_end n)) }
      parts_back sofar p q y e (last_turn {h = (block_start, s)} v (inr (n, (x, q₂, u, (k, m))))) = cc
      parts_back sofar p q y e (last_turn {h = (variable_start, s)} v (x, q₂, u, (k, m))) = cc
      parts_back sofar p q y e (last_turn {h = (template_data z, s)} v (k, m)) = cc
      parts_back sofar p q y e (last_turn {h = (_, s)} v u) = absurd u
      parts_back sofar p q y e (turn {h = (block_start, s)} v (inl (n, (k, m))) more) = cc
      parts_back sofar p q y e (turn {y = z} {h = (block_start, s)} {q = q₁} {r = r} v (inr (n, (x, q₂, u, (k, m)))) more) =
          let e₁ : q₁.source ≡ src = taken_source form.any_token p q₁ (block_start, s) v e in
          let e₂ : r.source ≡ src = same_source q₂ r k (form_source (form.tag stmt') q₁ q₂ x u e₁) in
          let a : First x ((block_start, s) ∷ q₁.tokens) r.tokens = subst (λ (n : Place). First x ((block_start, s) ∷ q₁.tokens) n.tokens) k (tag_back s q₁ q₂ x e₁ n u) in
          one_more sofar z x p r q y (ap turned m) (subst (λ us. First x us r.tokens) (sym (token_was p q₁ (block_start, s) v)) a) (parts_back z r q y e₂ more)
      parts_back sofar p q y e (turn {y = z} {h = (variable_start, s)} {q = q₁} {r = r} v (x, q₂, u, (k, m)) more) =
          let e₁ : q₁.source ≡ src = taken_source form.any_token p q₁ (variable_start, s) v e in
          let e₂ : r.source ≡ src = same_source q₂ r k (form_source (form.shown expr s) q₁ q₂ x u e₁) in
          let a : First x ((variable_start, s) ∷ q₁.tokens) r.tokens = subst (λ (n : Place). First x ((variable_start, s) ∷ q₁.tokens) n.tokens) k (shown_back s q₁ q₂ x e₁ u) in
          one_more sofar z x p r q y (ap turned m) (subst (λ us. First x us r.tokens) (sym (token_was p q₁ (variable_start, s) v)) a) (parts_back z r q y e₂ more)
      parts_back sofar p q y e (turn {y = z} {h = (template_data t, s)} {q = q₁} {r = r} v (k, m) more) =
          let e₂ : r.source ≡ src = same_source q₁ r k (taken_source form.any_token p q₁ (template_data t, s) v e) in
          let a : First (stmt.data_text t s) ((template_data t, s) ∷ q₁.tokens) r.tokens = subst (λ (n : Place). First (stmt.data_text t s) ((template_data t, s) ∷ q₁.tokens) n.tokens) k (λ rest zs b. data_part b) in
          one_more sofar z (stmt.data_text t s) p r q y (ap turned m) (subst (λ us. First (stmt.data_text t s) us r.tokens) (sym (token_was p q₁ (template_data t, s) v)) a) (parts_back z r q y e₂ more)
      parts_back sofar p q y e (turn {h = (_, s)} v u more) = absurd u

      pub body_back : (p q : Place) (y : List (Stmt C)) → p.source ≡ src → Derives (form.body expr stmt' w) p q y → Ended p.tokens q.tokens (bare_stmts (stmts_of y))
      unfolding form.body
      body_back p q y e u =
          let v : Further [] p q y = parts_back [] p q y e u in
          subst (λ (zs : List (Stmt C)). Ended p.tokens q.tokens (bare_stmts (stmts_of zs))) (sym v.all) v.are

      -- it is one, where some token follows
      pub body_before : (p q : Place) (y : List (Stmt C)) → p.source ≡ src → Derives (form.body expr stmt' w) p q y → (t : SpannedTok) (ts : List SpannedTok) → q.tokens ≡ t ∷ ts →
          IsBody f src c w d p.tokens (t ∷ ts) (bare_stmts (stmts_of y))
      body_before p q y e u t ts k = go (body_back p q y e u)
        where
          go : Ended p.tokens q.tokens (bare_stmts (stmts_of y)) → IsBody f src c w d p.tokens (t ∷ ts) (bare_stmts (stmts_of y))
          go (inl b) = subst (λ us. IsBody f src c w d p.tokens us (bare_stmts (stmts_of y))) k b
          go (inr b) = let lie : [] ≡ t ∷ ts = sym b.0 ∙ k in cc

      -- %} Body w, and the word that it ends at
      abbrev pub closed_form : Tok → Form (List (Stmt C))
      closed_form word = g.next block_end >>= (λ _. form.body expr stmt' w >>= (λ ss. g.next word >>= (λ _. pure ss)))

      pub record Closed (word : Tok) (p q : Place) (ss : List (Stmt C)) : Type 0 where
        pub opened : Span
        pub closed : Span
        pub inside : List SpannedTok
        pub opens : p.tokens ≡ (block_end, opened) ∷ inside
        pub body : IsBody f src c w d inside ((word, closed) ∷ q.tokens) (bare_stmts (stmts_of ss))

      pub closed_back : (word : Tok) (p q : Place) (ss : List (Stmt C)) → p.source ≡ src → Derives (closed_form word) p q ss → Closed word p q ss
      closed_back word p q ss e (s, q₁, v, (y, q₂, u, (r, q₃, t, (k, m)))) = record {
        opened = s;
        closed = r;
        inside = q₁.tokens;
        opens = mark_was block_end p q₁ s v;
        body = rw (sym k, sym m) (body_before q₁ q₂ y (taken_source (g.span_of_mark block_end) p q₁ s v e) u (word, r) q₃.tokens (mark_was word q₂ q₃ r t));
      }

      pub else_back : (word : Tok) (p q : Place) (ss : List (Stmt C)) → p.source ≡ src → Derives (g.behind else_word (closed_form word) (g.next word >>= (λ _. pure []))) p q ss →
          IsElse f src c w word d p.tokens q.tokens (bare_stmts (stmts_of ss))
      else_back word p q ss e (inr (n, (s, q₁, v, (k, m)))) =
          let i : p.tokens ≡ (word, s) ∷ q.tokens = mark_was word p q₁ s v ∙ ap (λ (z : Place). (word, s) ∷ z.tokens) k in
          let n₁ : comes (is else_word) ((word, s) ∷ q.tokens) ≡ false = subst (λ us. comes (is else_word) us ≡ false) i n in
          rw (i, sym m) (no_else n₁)
      else_back word p q ss e (inl (n, (s, q₁, v, u))) =
          let b : Closed word q₁ q ss = closed_back word q₁ q ss (taken_source (g.span_of_mark else_word) p q₁ s v e) u in
          rw (mark_was else_word p q₁ s v, b.opens) (else_part b.body)
