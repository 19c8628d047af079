-- What the forms derive is what the relations say: the parts of operands.
use Rattle.std.proofs.Common.{◌≡◌, inl, inr, ℕ, Bool, true, false, List, [], ◌∷◌, ◌++◌, Option, Some, None, refl, sym, ap, ◌∙◌, subst, append_assoc}
use Rattle.std.specs.Prelude.{if◌then◌else◌, ◌||◌, is_some}
use Rattle.minijinja_syntax.specs.Texts.{Text}
use Rattle.minijinja_value.specs.Values.{Functions}
use Rattle.minijinja_syntax.specs.Positions.{slice, expanded}
use Rattle.minijinja_syntax.specs.declared.tokens.Span.{Span}
use Rattle.minijinja_syntax.specs.Streams.{SpannedTok}
use Rattle.minijinja_syntax.specs.Tokens.{Tok, ident, dot, comma, colon}
use Rattle.minijinja_tree.specs.CompareOps.{CompareOp}
use Rattle.minijinja_tree.specs.SpannedTrees.{Expr, bare_expr, bare_optional, bare_exprs, bare_comparisons, optional_of, exprs_of, comparisons_of}
use Rattle.minijinja_grammar.specs.Words.{is, not_word, in_word, text_of, compare_op, begins_comparison, begins_expr}
use Rattle.minijinja_grammar.specs.Places.{Place}
use Rattle.minijinja_grammar.specs.internal.Forms.{go_on, over, pure, one, either, Takes, Turns, no_turn, last_turn, turn, Derives, ◌>>=◌}
use Rattle.minijinja_grammar.specs.Ahead.{comes, held_next, IsDots, no_dot, dot_part, IsName, plain_name, dotted_name, IsTexts, no_text, one_text, IsCmpOp, one_token, not_in_words, sum_level}
use Rattle.minijinja_grammar.specs.internal.ExprForms as g
use Rattle.minijinja_grammar.specs.Ahead as ahead
use Rattle.minijinja_grammar.specs.internal.ExprForms.{Below}
use Rattle.minijinja_grammar.specs.Expressions.{comparison_of, IsLevel, IsCmp, comparison, AreComparisons, no_comparison, compared_to, AreExprs, no_exprs, exprs, AreMoreExprs, no_more_exprs, more_exprs, IsExprIfAny, no_expr, one_expr, IsStep, no_step, by_step}
use Rattle.minijinja_grammar.proofs.TokenReading.{append_nil}
use Rattle.minijinja_grammar.proofs.Reading.{bare_all}
use Rattle.minijinja_grammar.proofs.Back.{same_tok, kept, held_was, kind_was, mark_was, turned, Says, Backed}

pub none_of_kind : (kind : Tok → Bool) (us : List SpannedTok) → held_next (g.of_kind kind) us ≡ None → comes kind us ≡ false
none_of_kind kind [] k = refl
none_of_kind kind (u ∷ us) k = go (kind u.0) k
  where
    go : (c : Bool) → (if c then Some u else None) ≡ None → c ≡ false
    go true k = cc
    go false k = refl

pub none_of_mark : (m : Tok) (us : List SpannedTok) → held_next (g.span_of_mark m) us ≡ None → comes (is m) us ≡ false
none_of_mark m [] k = refl
none_of_mark m (u ∷ us) k = go (is m u.0) k
  where
    go : (c : Bool) → (if c then Some u.1 else None) ≡ None → c ≡ false
    go true k = cc
    go false k = refl

pub kind_is : (kind : Tok → Bool) (p q : Place) (u : SpannedTok) → Takes (g.of_kind kind) p q u → kind u.0 ≡ true
kind_is kind p q u d = go (kind d.token.0) refl d.holds
  where
    go : (b : Bool) → kind d.token.0 ≡ b → (if b then Some d.token else None) ≡ Some u → kind u.0 ≡ true
    go false i e = cc
    go true i e = subst (λ (v : SpannedTok). kind v.0 ≡ true) (some_is d.token u e) i
      where
        some_is : (x y : SpannedTok) → Some x ≡ Some y → x ≡ y
        some_is x y e = cc

ident_was : (p q : Place) (x : Text × Span) → Takes g.ident_and_span p q x → p.tokens ≡ (ident x.0, x.1) ∷ q.tokens
ident_was p q x d = go d.token refl d.holds
  where
    some_is : (y z : Text × Span) → Some y ≡ Some z → y ≡ z
    some_is y z e = cc

    go : (u : SpannedTok) → d.token ≡ u → g.ident_and_span u ≡ Some x → p.tokens ≡ (ident x.0, x.1) ∷ q.tokens
    go (ident y, s) i e = let j : (y, s) ≡ x = some_is (y, s) x e in d.next ∙ rw (i, d.behind, sym j) refl
    go (_, s) i e = cc

dots_back : (from : Span) (p q : Place) (to : Span) → Turns (g.span_of_mark dot) (λ x h. Derives (g.name_part x h)) from p q to → IsDots from p.tokens q.tokens to
unfolding g.name_part
dots_back from p q to (no_turn n) = no_dot (none_of_mark dot p.tokens n)
dots_back from p q to (last_turn t (x, q₂, w, (k, m))) = cc
dots_back from p q to (turn {y = y} {h = a} {q = q₁} {r = r} t (x, q₂, w, (k, m)) more) =
    let same : x.1 ≡ y = ap turned m in
    rw (mark_was dot p q₁ a t, ident_was q₁ q₂ x w) (dot_part (subst (λ (z : Place). IsDots x.1 z.tokens q.tokens to) (sym k) (subst (λ s. IsDots s r.tokens q.tokens to) (sym same) (dots_back y r q to more))))

pub name_back : (src : Text) (p q : Place) (x : Text) → p.source ≡ src → Derives g.name p q x → IsName src p.tokens q.tokens x
unfolding g.name g.name_parts
name_back src p q x e (y, q₁, w, inr (n, (j, k))) = rw (ident_was p q₁ y w, sym j, sym k) (plain_name n)
name_back src p q x e (y, q₁, w, inl (n, (to, q₂, d, (text, q₃, (a, b), (j, k))))) =
    let e₁ : q₁.source ≡ src = kept (one g.ident_and_span) p q₁ y w ∙ e in
    let e₂ : q₂.source ≡ src = kept (g.name_parts y.1) q₁ q₂ to d ∙ e₁ in
    let i : slice src y.1.start_offset to.end_offset ≡ x = ap (λ (z : Text). slice z y.1.start_offset to.end_offset) (sym e₂ ∙ b) ∙ k in
    rw (ident_was p q₁ y w, sym j, sym a, sym i) (dotted_name n (dots_back y.1 q₁ q₂ to d))

pub texts_back : (x : Text) (p q : Place) (y : Text) → Turns (ahead.held text_of) (λ t u. Derives (pure (go_on (t ++ u)))) x p q y → (z : Text) × (y ≡ x ++ z) × IsTexts p.tokens q.tokens z
texts_back x p q y (no_turn n) = ([], sym (append_nil x), no_text n)
texts_back x p q y (last_turn t (k, m)) = cc
texts_back x p q y (turn {y = v} {h = u} {q = q₁} {r = r} t (k, m) more) =
    let w = texts_back v r q y more in
    let h = held_was text_of p q₁ u t in
    let same : x ++ u ≡ v = ap turned m in
    (u ++ w.0, w.1 ∙ ap (λ (z : Text). z ++ w.0) (sym same) ∙ append_assoc x u w.0, rw h.2 (one_text h.3 (subst (λ (z : Place). IsTexts z.tokens q.tokens w.0) (sym k) w.2)))

cmp_op_back : (p q₁ q : Place) (u : SpannedTok) (o : CompareOp) → Takes (g.of_kind begins_comparison) p q₁ u → Derives (g.compare_operator (compare_op u.0)) q₁ q o → IsCmpOp p.tokens q.tokens o
cmp_op_back p q₁ q u o t d = go (compare_op u.0) refl d
  where
    go : (w : Option CompareOp) → compare_op u.0 ≡ w → Derives (g.compare_operator w) q₁ q o → IsCmpOp p.tokens q.tokens o
    go (Some c) i (j, k) = rw (kind_was begins_comparison p q₁ u t, sym j, sym k) (one_token i)
    go None i (s, q₂, w, (j, k)) =
        let n : u.0 ≡ not_word = same_tok not_word u.0 (only (is not_word u.0) (subst (λ w. (is not_word u.0 || is_some w) ≡ true) i (kind_is begins_comparison p q₁ u t))) in
        let v : u ≡ (not_word, u.1) = rw (sym n) refl in
        rw (kind_was begins_comparison p q₁ u t, mark_was in_word q₁ q₂ s w, sym j, sym k) (rw v not_in_words)
      where
        only : (b : Bool) → (b || false) ≡ true → b ≡ true
        only true e = refl
        only false e = e

module _ {C F : Type 0} (f : Functions C F) (src : Text) (d : ℕ) (b : Below C) (h : Backed f src d b) where
  comparisons_back : Says f src (IsLevel f src sum_level d) (g.sum_level f b) → (sofar : List (CompareOp × Expr C)) (p q : Place) (y : List (CompareOp × Expr C)) → p.source ≡ src →
      Turns (g.of_kind begins_comparison) (λ x t. Derives (g.comparison (g.sum_level f b) x t)) sofar p q y →
      (ys : List (CompareOp × Expr C)) × (y ≡ sofar ++ ys) × AreComparisons f src d p.tokens q.tokens (bare_comparisons (comparisons_of ys))
  unfolding g.comparison
  comparisons_back i sofar p q y e (no_turn n) = ([], sym (append_nil sofar), no_comparison (none_of_kind begins_comparison p.tokens n))
  comparisons_back i sofar p q y e (last_turn t (o, q₂, w, (x, q₃, u, (k, m)))) = cc
  comparisons_back i sofar p q y e (turn {y = z} {h = t₀} {q = q₁} {r = r} t (o, q₂, w, (x, q₃, u, (k, m))) more) =
      let e₁ : q₁.source ≡ src = ap (λ (z : Place). z.source) t.behind ∙ e in
      let e₂ : q₂.source ≡ src = kept (g.compare_operator (compare_op t₀.0)) q₁ q₂ o w ∙ e₁ in
      let e₃ : r.source ≡ src = ap (λ (z : Place). z.source) (sym k) ∙ kept (g.sum_level f b) q₂ q₃ x u ∙ e₂ in
      let v = comparisons_back i z r q y e₃ more in
      let same : sofar ++ (o, x) ∷ [] ≡ z = ap turned m in (
        (o, x) ∷ v.0,
        v.1 ∙ ap (λ (zs : List (CompareOp × Expr C)). zs ++ v.0) (sym same) ∙ append_assoc sofar ((o, x) ∷ []) v.0,
        compared_to (cmp_op_back p q₁ q₂ t₀ o t w) (i q₂ q₃ x e₂ u) (subst (λ (z : Place). AreComparisons f src d z.tokens q.tokens (bare_comparisons (comparisons_of v.0))) (sym k) v.2),
      )

  pub cmp_back : Says f src (IsLevel f src sum_level d) (g.sum_level f b) → Says f src (IsCmp f src d) (g.compared_level (g.sum_level f b))
  unfolding g.compared_level
  cmp_back i p q x e (from, q₀, (a, _), (y, q₁, u, (cs, q₂, t, (to, q₃, (j, _), (k, m))))) =
      let e₀ : q₀.source ≡ src = ap (λ (z : Place). z.source) (sym a) ∙ e in
      let v = comparisons_back i [] q₁ q₂ cs (kept (g.sum_level f b) q₀ q₁ y u ∙ e₀) t in
      let n : bare_expr x ≡ comparison_of (bare_expr y) (bare_comparisons (comparisons_of v.0)) = ap bare_expr (sym m) ∙ bare_all y cs (expanded from to) ∙ ap (λ (zs : List (CompareOp × Expr C)). comparison_of (bare_expr y) (bare_comparisons (comparisons_of zs))) v.1 in
      rw (a, sym k, sym j, n) (comparison (i q₀ q₁ y e₀ u) v.2)

  -- ---- lists of expressions

  more_exprs_back : (sofar : List (Expr C)) (p q : Place) (y : List (Expr C)) → p.source ≡ src →
      Turns (g.span_of_mark comma) (λ y s. Derives (either begins_expr (g.also b.expr y >>= (λ z. pure (go_on z))) (pure (over y)))) sofar p q y →
      (ys : List (Expr C)) × (y ≡ sofar ++ ys) × AreMoreExprs f src d p.tokens q.tokens (bare_exprs (exprs_of ys))
  unfolding g.also
  more_exprs_back sofar p q y e (no_turn n) = ([], sym (append_nil sofar), no_more_exprs (none_of_mark comma p.tokens n))
  more_exprs_back sofar p q y e (last_turn t (inl (n, (z, q₂, w, (k, m))))) = cc
  more_exprs_back sofar p q y e (last_turn {h = s} {q = q₁} t (inr (n, (k, m)))) =
      ([], ap turned (sym m) ∙ sym (append_nil sofar), rw (mark_was comma p q₁ s t, sym k) (more_exprs (no_exprs n)))
  more_exprs_back sofar p q y e (turn t (inr (n, (k, m))) more) = cc
  more_exprs_back sofar p q y e (turn {y = z} {h = s} {q = q₁} {r = r} t (inl (n, (z₁, q₂, (x, q₃, u, (i, j)), (k, m)))) more) =
      let e₁ : q₁.source ≡ src = ap (λ (z : Place). z.source) t.behind ∙ e in
      let at_r : q₃ ≡ r = i ∙ k in
      let e₃ : r.source ≡ src = ap (λ (z : Place). z.source) (sym at_r) ∙ kept b.expr q₁ q₃ x u ∙ e₁ in
      let v = more_exprs_back z r q y e₃ more in
      let same : sofar ++ x ∷ [] ≡ z = j ∙ ap turned m in (
        x ∷ v.0,
        v.1 ∙ ap (λ (zs : List (Expr C)). zs ++ v.0) (sym same) ∙ append_assoc sofar (x ∷ []) v.0,
        rw (mark_was comma p q₁ s t) (more_exprs (exprs (h.expr q₁ q₃ x e₁ u) (subst (λ (z : Place). AreMoreExprs f src d z.tokens q.tokens (bare_exprs (exprs_of v.0))) (sym at_r) v.2))),
      )

  pub exprs_back : (sofar : List (Expr C)) (p q : Place) (y : List (Expr C)) → p.source ≡ src → Derives (g.exprs b.expr sofar) p q y →
      (ys : List (Expr C)) × (y ≡ sofar ++ ys) × AreExprs f src d p.tokens q.tokens (bare_exprs (exprs_of ys))
  unfolding g.exprs g.also
  exprs_back sofar p q y e (inr (n, (k, m))) = ([], sym m ∙ sym (append_nil sofar), rw (sym k) (no_exprs n))
  exprs_back sofar p q y e (inl (n, (z, r, (x, q₃, u, (i, j)), more))) =
      let e₃ : r.source ≡ src = ap (λ (z : Place). z.source) (sym i) ∙ kept b.expr p q₃ x u ∙ e in
      let v = more_exprs_back z r q y e₃ more in (
        x ∷ v.0,
        v.1 ∙ ap (λ (zs : List (Expr C)). zs ++ v.0) (sym j) ∙ append_assoc sofar (x ∷ []) v.0,
        exprs (h.expr p q₃ x e u) (subst (λ (z : Place). AreMoreExprs f src d z.tokens q.tokens (bare_exprs (exprs_of v.0))) (sym i) v.2),
      )

  pub maybe_back : (p q : Place) (x : Option (Expr C)) → p.source ≡ src → Derives (g.maybe_expr b.expr) p q x → IsExprIfAny f src d p.tokens q.tokens (bare_optional (optional_of x))
  maybe_back p q x e (inr (n, (k, m))) = rw (sym k, sym m) (no_expr n)
  maybe_back p q x e (inl (n, (y, q₁, u, (k, m)))) = rw (sym k, sym m) (one_expr (h.expr p q₁ y e u))

  pub step_back : (p q : Place) (x : Option (Expr C)) → p.source ≡ src → Derives (g.step b.expr) p q x → IsStep f src d p.tokens q.tokens (bare_optional (optional_of x))
  step_back p q x e (inr (n, (k, m))) = rw (sym k, sym m) (no_step n)
  step_back p q x e (inl (n, (s, q₁, t, u))) = rw (mark_was colon p q₁ s t) (by_step (maybe_back q₁ q x (ap (λ (z : Place). z.source) t.behind ∙ e) u))
