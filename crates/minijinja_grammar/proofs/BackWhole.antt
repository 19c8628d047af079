-- What the forms derive is what the relations say: operands, and expressions whole.
use Rattle.std.proofs.Common.{◌≡◌, inl, inr, ℕ, zero, suc, ◌≤◌, Bool, true, false, List, [], ◌∷◌, ◌++◌, length, Option, Some, None, refl, sym, ap, ◌∙◌, subst, append_assoc, length-append, arith}
use Rattle.std.specs.Prelude.{if◌then◌else◌, ◌||◌, ◌&&◌, not, nat_lt}
use Rattle.std.proofs.lemmas.Bool.{ltb-true}
use Rattle.minijinja_syntax.specs.Texts.{Text}
use Rattle.minijinja_value.specs.Values.{Functions}
use Rattle.minijinja_tree.specs.WellFormed.{arg_count, most_arguments}
use Rattle.minijinja_syntax.specs.declared.tokens.Span.{Span}
use Rattle.minijinja_syntax.specs.Streams.{SpannedTok}
use Rattle.minijinja_syntax.specs.Tokens.{Tok, ident, str, string, int, int128, mul, pow, dot, comma, colon, assign, pipe, bracket_open, bracket_close, paren_open, paren_close, brace_open, brace_close}
use Rattle.minijinja_tree.specs.Tree as bare
use Rattle.minijinja_tree.specs.SpannedTrees as tree
use Rattle.minijinja_tree.specs.SpannedTrees.{Expr, Arg, bare_expr, bare_optional, bare_exprs, bare_args, optional_of, exprs_of, args_of}
use Rattle.minijinja_grammar.specs.Words.{is, is_true_word, is_false_word, is_none_word, not_word, is_word, text_of, begins_primary, begins_postfix, begins_suffix, begins_expr, begins_arg}
use Rattle.minijinja_grammar.specs.Places.{Place}
use Rattle.minijinja_grammar.specs.internal.Forms.{go_on, over, Form, pure, either, Takes, Turns, no_turn, last_turn, turn, Derives, ◌>>=◌}
use Rattle.minijinja_grammar.specs.Ahead.{comes, or_level, and_level, sum_level, cat_level, term_level}
use Rattle.minijinja_grammar.specs.internal.ExprForms as g
use Rattle.minijinja_grammar.specs.internal.ExprForms.{Below, below}
use Rattle.minijinja_grammar.specs.Expressions.{IsExpr, expr, IsLevel, side_of_or, side_of_and, side_of_sum, side_of_cat, side_of_term, IsNot, IsPow, IsUnary, suffixed, IsSuffixed, no_suffix, filtered, tested, tested_not, AreArgsIfAny, no_arguments, arguments, AreTestArgs, no_test_args, in_parentheses, bare_arg, IsOperand, no_minus, IsPostfixed, no_postfix, dot_ident, dot_int, dot_int128, subscript, range, called, IsExprIfAny, no_expr, one_expr, IsStep, AreArgs, args, AreArgItems, no_arg, positional, keyword, starred, double_starred, AreMoreArgs, no_more_args, more_args, IsPrimary, true_word, false_word, none_word, name, texts, integer, large_integer, empty_tuple, parentheses, tuple_of, list_of, map_of, AreExprs, AreEntries, no_entries, entries, AreMoreEntries, no_more_entries, more_entries}
use Rattle.minijinja_grammar.proofs.TokenReading.{append_nil}
use Rattle.minijinja_grammar.proofs.ListReading.{order_from, Fit, named_append}
use Rattle.minijinja_grammar.proofs.Back.{same_tok, kept, kind_was, mark_was, turned, Says, Backed, pow_back, level_back, not_back, operand_back, cond_back}
use Rattle.minijinja_grammar.proofs.BackParts.{none_of_kind, none_of_mark, kind_is, name_back, texts_back, cmp_back, exprs_back, maybe_back, step_back}

-- an argument more
abbrev with_arg : {C : Type 0} → Arg C → bare.Args C → bare.Args C
with_arg (tree.positional e) xs = bare.pos (bare_expr e) xs
with_arg (tree.starred e) xs = bare.pos_splat (bare_expr e) xs
with_arg (tree.keyword x e) xs = bare.kwarg x (bare_expr e) xs
with_arg (tree.double_starred e) xs = bare.kwarg_splat (bare_expr e) xs

with_arg_is : {C : Type 0} (x : Arg C) (xs : List (Arg C)) → bare_args (args_of (x ∷ xs)) ≡ with_arg x (bare_args (args_of xs))
with_arg_is (tree.positional e) xs = refl
with_arg_is (tree.starred e) xs = refl
with_arg_is (tree.keyword x e) xs = refl
with_arg_is (tree.double_starred e) xs = refl

counted : {C : Type 0} (x : Arg C) (xs : bare.Args C) → arg_count (with_arg x xs) ≡ suc (arg_count xs)
counted (tree.positional e) xs = refl
counted (tree.starred e) xs = refl
counted (tree.keyword x e) xs = refl
counted (tree.double_starred e) xs = refl

both_left : (p q : Bool) → (p && q) ≡ true → p ≡ true
both_left true q e = refl
both_left false q e = cc

ordered : {C : Type 0} (n : Bool) (x : Arg C) (xs : bare.Args C) → not (g.is_plain x && n) ≡ true → order_from (n || g.is_named x) xs ≡ true → order_from n (with_arg x xs) ≡ true
ordered true (tree.positional e) xs i j = cc
ordered false (tree.positional e) xs i j = j
ordered true (tree.starred e) xs i j = j
ordered false (tree.starred e) xs i j = j
ordered true (tree.keyword x e) xs i j = j
ordered false (tree.keyword x e) xs i j = j
ordered true (tree.double_starred e) xs i j = j
ordered false (tree.double_starred e) xs i j = j

fit_back : {C : Type 0} (sofar : List (Arg C)) (x : Arg C) (xs : bare.Args C) → g.is_allowed sofar x ≡ true → Fit (sofar ++ x ∷ []) xs → Fit sofar (with_arg x xs)
fit_back sofar x xs i j = record {
  order = ordered (g.has_named sofar) x xs (both_left (not (g.is_plain x && g.has_named sofar)) (nat_lt (length sofar) most_arguments) i) (subst (λ n. order_from n xs ≡ true) (named_append sofar x) j.order);
  few = omega (arith, j.few, counted x xs, length-append sofar (x ∷ []));
}

no_args_fit : {C : Type 0} (sofar : List (Arg C)) → length sofar ≤ most_arguments → Fit sofar bare.no_args
no_args_fit {C = C} sofar e = record { order = go (g.has_named sofar); few = omega (arith, e) }
  where
    go : (n : Bool) → order_from {C = C} n bare.no_args ≡ true
    go true = refl
    go false = refl

allowed_few : {C : Type 0} (sofar : List (Arg C)) (x : Arg C) → g.is_allowed sofar x ≡ true → length (sofar ++ x ∷ []) ≤ most_arguments
allowed_few sofar x i = omega (arith, length-append sofar (x ∷ []), ltb-true (length sofar) most_arguments (both_right (not (g.is_plain x && g.has_named sofar)) (nat_lt (length sofar) most_arguments) i))
  where
    both_right : (p q : Bool) → (p && q) ≡ true → q ≡ true
    both_right true q e = e
    both_right false q e = cc

variable_named : {C : Type 0} (y : Expr C) (x : Text) → g.name_of_variable y ≡ Some x → bare_expr y ≡ bare.variable x
variable_named (tree.variable z s) x e = cc
variable_named _ x e = cc

pub when_is : {A : Type 0} (c : Bool) (form : Form A) (p q : Place) (x : A) → Derives (g.when c form) p q x → (c ≡ true) × Derives form p q x
when_is true form p q x w = (refl, w)
when_is false form p q x w = absurd w

src_of : (p q : Place) → p ≡ q → q.source ≡ p.source
src_of p q e = ap (λ (z : Place). z.source) (sym e)

module _ {C F : Type 0} (f : Functions C F) (src : Text) (d : ℕ) (b : Below C) (h : Backed f src d b) where
  -- ---- maps

  more_entries_back : (sofar : List (Expr C) × List (Expr C)) (p q : Place) (y : List (Expr C) × List (Expr C)) → p.source ≡ src →
      Turns (g.span_of_mark comma) (λ y s. Derives (either begins_expr (g.entry b.expr y >>= (λ z. pure (go_on z))) (pure (over y)))) sofar p q y →
      (ys zs : List (Expr C)) × (y.0 ≡ sofar.0 ++ ys) × (y.1 ≡ sofar.1 ++ zs) × AreMoreEntries f src d p.tokens q.tokens (bare_exprs (exprs_of ys)) (bare_exprs (exprs_of zs))
  unfolding g.entry
  more_entries_back sofar p q y e (no_turn n) = ([], [], sym (append_nil sofar.0), sym (append_nil sofar.1), no_more_entries (none_of_mark comma p.tokens n))
  more_entries_back sofar p q y e (last_turn t (inl (n, (z, q₂, w, (k, m))))) = cc
  more_entries_back sofar p q y e (last_turn {h = s} {q = q₁} t (inr (n, (k, m)))) =
      let same : sofar ≡ y = ap turned m in (
        [],
        [],
        ap (λ (z : List (Expr C) × List (Expr C)). z.0) (sym same) ∙ sym (append_nil sofar.0),
        ap (λ (z : List (Expr C) × List (Expr C)). z.1) (sym same) ∙ sym (append_nil sofar.1),
        rw (mark_was comma p q₁ s t, sym k) (more_entries (no_entries n)),
      )
  more_entries_back sofar p q y e (turn t (inr (n, (k, m))) more) = cc
  more_entries_back sofar p q y e (turn {y = z} {h = s} {q = q₁} {r = r} t (inl (n, (z₁, q₂, (x, q₃, u, (s', q₄, t', (v, q₅, u', (i, j)))), (k, m)))) more) =
      let e₁ : q₁.source ≡ src = ap (λ (z : Place). z.source) t.behind ∙ e in
      let e₃ : q₃.source ≡ src = kept b.expr q₁ q₃ x u ∙ e₁ in
      let e₄ : q₄.source ≡ src = ap (λ (z : Place). z.source) t'.behind ∙ e₃ in
      let at_r : q₅ ≡ r = i ∙ k in
      let e₅ : r.source ≡ src = src_of q₅ r at_r ∙ kept b.expr q₄ q₅ v u' ∙ e₄ in
      let w = more_entries_back z r q y e₅ more in
      let same : (sofar.0 ++ x ∷ [], sofar.1 ++ v ∷ []) ≡ z = j ∙ ap turned m in (
        x ∷ w.0,
        v ∷ w.1,
        w.2 ∙ ap (λ (zs : List (Expr C) × List (Expr C)). zs.0 ++ w.0) (sym same) ∙ append_assoc sofar.0 (x ∷ []) w.0,
        w.3 ∙ ap (λ (zs : List (Expr C) × List (Expr C)). zs.1 ++ w.1) (sym same) ∙ append_assoc sofar.1 (v ∷ []) w.1,
        rw (mark_was comma p q₁ s t) (more_entries (entries (subst (λ us. IsExpr f src d q₁.tokens us (bare_expr x)) (mark_was colon q₃ q₄ s' t') (h.expr q₁ q₃ x e₁ u)) (h.expr q₄ q₅ v e₄ u')
            (subst (λ (z : Place). AreMoreEntries f src d z.tokens q.tokens (bare_exprs (exprs_of w.0)) (bare_exprs (exprs_of w.1))) (sym at_r) w.4))),
      )

  entries_back : (sofar : List (Expr C) × List (Expr C)) (p q : Place) (y : List (Expr C) × List (Expr C)) → p.source ≡ src → Derives (g.entries b.expr sofar) p q y →
      (ys zs : List (Expr C)) × (y.0 ≡ sofar.0 ++ ys) × (y.1 ≡ sofar.1 ++ zs) × AreEntries f src d p.tokens q.tokens (bare_exprs (exprs_of ys)) (bare_exprs (exprs_of zs))
  unfolding g.entries g.entry
  entries_back sofar p q y e (inr (n, (k, m))) = ([], [], ap (λ (z : List (Expr C) × List (Expr C)). z.0) (sym m) ∙ sym (append_nil sofar.0), ap (λ (z : List (Expr C) × List (Expr C)). z.1) (sym m) ∙ sym (append_nil sofar.1), rw (sym k) (no_entries n))
  entries_back sofar p q y e (inl (n, (z, r, (x, q₃, u, (s', q₄, t', (v, q₅, u', (i, j)))), more))) =
      let e₃ : q₃.source ≡ src = kept b.expr p q₃ x u ∙ e in
      let e₄ : q₄.source ≡ src = ap (λ (z : Place). z.source) t'.behind ∙ e₃ in
      let e₅ : r.source ≡ src = src_of q₅ r i ∙ kept b.expr q₄ q₅ v u' ∙ e₄ in
      let w = more_entries_back z r q y e₅ more in (
        x ∷ w.0,
        v ∷ w.1,
        w.2 ∙ ap (λ (zs : List (Expr C) × List (Expr C)). zs.0 ++ w.0) (sym j) ∙ append_assoc sofar.0 (x ∷ []) w.0,
        w.3 ∙ ap (λ (zs : List (Expr C) × List (Expr C)). zs.1 ++ w.1) (sym j) ∙ append_assoc sofar.1 (v ∷ []) w.1,
        entries (subst (λ us. IsExpr f src d p.tokens us (bare_expr x)) (mark_was colon q₃ q₄ s' t') (h.expr p q₃ x e u)) (h.expr q₄ q₅ v e₄ u')
            (subst (λ (z : Place). AreMoreEntries f src d z.tokens q.tokens (bare_exprs (exprs_of w.0)) (bare_exprs (exprs_of w.1))) (sym i) w.4),
      )

  -- ---- primaries

  word_back : (y : Text) (s : Span) (rest : List SpannedTok) → IsPrimary f src (suc d) ((ident y, s) ∷ rest) rest (bare_expr (g.word f y s))
  unfolding g.word
  word_back y s rest = go (is_true_word y) (is_false_word y) (is_none_word y) refl refl refl
    where
      go : (i j k : Bool) → is_true_word y ≡ i → is_false_word y ≡ j → is_none_word y ≡ k →
          IsPrimary f src (suc d) ((ident y, s) ∷ rest) rest (bare_expr (if i then tree.constant (f.of_bool true) s else if j then tree.constant (f.of_bool false) s else if k then tree.constant f.none s else tree.variable y s))
      go true j k a c e = true_word a
      go false true k a c e = false_word c
      go false false true a c e = none_word e
      go false false false a c e = name (rw (a, c, e) refl)

  texts_whole : (t : Tok) (x : Text) (s : Span) (p q : Place) (y : Expr C) → text_of t ≡ Some x → Derives (g.texts f s x) p q y → IsPrimary f src (suc d) ((t, s) ∷ p.tokens) q.tokens (bare_expr y)
  unfolding g.texts
  texts_whole t x s p q y e (whole, q₁, w, (to, q₂, (j, _), (k, m))) =
      let v = texts_back x p q₁ whole w in
      rw (sym k, sym j, sym m, v.1) (texts e v.2)

  primary_back : Says f src (IsPrimary f src (suc d)) (g.primary b.expr f)
  unfolding g.primary g.group g.rest_of_group g.in_brackets g.in_braces
  primary_back p q x e ((ident y, s), q₁, t, (k, m)) = rw (kind_was begins_primary p q₁ (ident y, s) t, sym k, sym m) (word_back y s q₁.tokens)
  primary_back p q x e ((str y, s), q₁, t, w) = rw (kind_was begins_primary p q₁ (str y, s) t) (texts_whole (str y) y s q₁ q x refl w)
  primary_back p q x e ((string y, s), q₁, t, w) = rw (kind_was begins_primary p q₁ (string y, s) t) (texts_whole (string y) y s q₁ q x refl w)
  primary_back p q x e ((int n, s), q₁, t, (k, m)) = rw (kind_was begins_primary p q₁ (int n, s) t, sym k, sym m) integer
  primary_back p q x e ((int128 n, s), q₁, t, (k, m)) = rw (kind_was begins_primary p q₁ (int128 n, s) t, sym k, sym m) large_integer
  primary_back p q x e ((paren_open, s), q₁, t, inl (n, (r, q₂, t₂, (to, q₃, (j, _), (k, m))))) = rw (kind_was begins_primary p q₁ (paren_open, s) t, mark_was paren_close q₁ q₂ r t₂, sym k, sym j, sym m) empty_tuple
  primary_back p q x e ((paren_open, s), q₁, t, inr (n, (y, q₂, u, inr (o, (r, q₃, t₂, (k, m)))))) =
      let e₁ : q₁.source ≡ src = ap (λ (z : Place). z.source) t.behind ∙ e in
      rw (kind_was begins_primary p q₁ (paren_open, s) t, sym k, sym m) (parentheses (subst (λ us. IsExpr f src d q₁.tokens us (bare_expr y)) (mark_was paren_close q₂ q₃ r t₂) (h.expr q₁ q₂ y e₁ u)))
  primary_back p q x e ((paren_open, s), q₁, t, inr (n, (y, q₂, u, inl (o, (r, q₃, t₂, (es, q₄, w, (r', q₅, t₃, (to, q₆, (j, _), (k, m))))))))) =
      let e₁ : q₁.source ≡ src = ap (λ (z : Place). z.source) t.behind ∙ e in
      let e₃ : q₃.source ≡ src = ap (λ (z : Place). z.source) t₂.behind ∙ kept b.expr q₁ q₂ y u ∙ e₁ in
      let v = exprs_back f src d b h (y ∷ []) q₃ q₄ es e₃ w in
      rw (kind_was begins_primary p q₁ (paren_open, s) t, sym k, sym j, sym m, v.1) (tuple_of (subst (λ us. IsExpr f src d q₁.tokens us (bare_expr y)) (mark_was comma q₂ q₃ r t₂) (h.expr q₁ q₂ y e₁ u)) (subst (λ us. AreExprs f src d q₃.tokens us (bare_exprs (exprs_of v.0))) (mark_was paren_close q₄ q₅ r' t₃) v.2))
  primary_back p q x e ((bracket_open, s), q₁, t, (es, q₂, w, (r, q₃, t₂, (to, q₄, (j, _), (k, m))))) =
      let e₁ : q₁.source ≡ src = ap (λ (z : Place). z.source) t.behind ∙ e in
      let v = exprs_back f src d b h [] q₁ q₂ es e₁ w in
      rw (kind_was begins_primary p q₁ (bracket_open, s) t, sym k, sym j, sym m, v.1) (list_of (subst (λ us. AreExprs f src d q₁.tokens us (bare_exprs (exprs_of v.0))) (mark_was bracket_close q₂ q₃ r t₂) v.2))
  primary_back p q x e ((brace_open, s), q₁, t, (es, q₂, w, (r, q₃, t₂, (to, q₄, (j, _), (k, m))))) =
      let e₁ : q₁.source ≡ src = ap (λ (z : Place). z.source) t.behind ∙ e in
      let v = entries_back ([], []) q₁ q₂ es e₁ w in
      let ks : bare_exprs (exprs_of es.0) ≡ bare_exprs (exprs_of v.0) = ap (λ (zs : List (Expr C)). bare_exprs (exprs_of zs)) v.2 in
      let vs : bare_exprs (exprs_of es.1) ≡ bare_exprs (exprs_of v.1) = ap (λ (zs : List (Expr C)). bare_exprs (exprs_of zs)) v.3 in
      rw (kind_was begins_primary p q₁ (brace_open, s) t, sym k, sym j, sym m, ks, vs) (map_of (subst (λ us. AreEntries f src d q₁.tokens us (bare_exprs (exprs_of v.0)) (bare_exprs (exprs_of v.1))) (mark_was brace_close q₂ q₃ r t₂) v.4))
  primary_back p q x e ((_, s), q₁, t, w) = absurd w

  -- ---- arguments

  arg_back : (p q : Place) (x : Arg C) → p.source ≡ src → Derives (g.arg b.expr) p q x → (rest : List SpannedTok) (xs : bare.Args C) → AreMoreArgs f src d q.tokens rest xs → AreArgItems f src d p.tokens rest (with_arg x xs)
  unfolding g.arg
  arg_back p q x e (inl (n, (s, q₁, t, (y, q₂, u, (k, m))))) rest xs w =
      let e₁ : q₁.source ≡ src = ap (λ (z : Place). z.source) t.behind ∙ e in
      rw (mark_was mul p q₁ s t, sym m) (starred (h.expr q₁ q₂ y e₁ u) (subst (λ (z : Place). AreMoreArgs f src d z.tokens rest xs) (sym k) w))
  arg_back p q x e (inr (n, inl (o, (s, q₁, t, (y, q₂, u, (k, m)))))) rest xs w =
      let e₁ : q₁.source ≡ src = ap (λ (z : Place). z.source) t.behind ∙ e in
      rw (mark_was pow p q₁ s t, sym m) (double_starred (h.expr q₁ q₂ y e₁ u) (subst (λ (z : Place). AreMoreArgs f src d z.tokens rest xs) (sym k) w))
  arg_back p q x e (inr (n, inr (o, (y, q₁, u, inr (v, (k, m)))))) rest xs w =
      rw (sym m) (positional (h.expr p q₁ y e u) v (subst (λ (z : Place). AreMoreArgs f src d z.tokens rest xs) (sym k) w))
  arg_back p q x e (inr (n, inr (o, (y, q₁, u, inl (v, (s, q₂, t, r)))))) rest xs w = go (g.name_of_variable y) refl r
    where
      e₁ : q₁.source ≡ src
      e₁ = kept b.expr p q₁ y u ∙ e

      e₂ : q₂.source ≡ src
      e₂ = ap (λ (z : Place). z.source) t.behind ∙ e₁

      go : (z : Option Text) → g.name_of_variable y ≡ z → Derives (g.named b.expr z) q₂ q x → AreArgItems f src d p.tokens rest (with_arg x xs)
      go None i c = absurd c
      go (Some z) i (v, q₃, u', (k, m)) =
          rw (sym m) (keyword (subst (IsExpr f src d p.tokens ((assign, s) ∷ q₂.tokens)) (variable_named y z i) (subst (λ us. IsExpr f src d p.tokens us (bare_expr y)) (mark_was assign q₁ q₂ s t) (h.expr p q₁ y e u)))
          (h.expr q₂ q₃ v e₂ u') (subst (λ (z : Place). AreMoreArgs f src d z.tokens rest xs) (sym k) w))

  more_args_back : (sofar : List (Arg C)) (p q : Place) (y : List (Arg C)) → p.source ≡ src → length sofar ≤ most_arguments →
      Turns (g.span_of_mark comma) (λ y s. Derives (either begins_arg (g.also_arg b.expr y >>= (λ z. pure (go_on z))) (pure (over y)))) sofar p q y →
      (ys : List (Arg C)) × (y ≡ sofar ++ ys) × AreMoreArgs f src d p.tokens q.tokens (bare_args (args_of ys)) × Fit sofar (bare_args (args_of ys))
  unfolding g.also_arg
  more_args_back sofar p q y e c (no_turn n) = ([], sym (append_nil sofar), no_more_args (none_of_mark comma p.tokens n), no_args_fit sofar c)
  more_args_back sofar p q y e c (last_turn t (inl (n, (z, q₂, w, (k, m))))) = cc
  more_args_back sofar p q y e c (last_turn {h = s} {q = q₁} t (inr (n, (k, m)))) =
      ([], ap turned (sym m) ∙ sym (append_nil sofar), rw (mark_was comma p q₁ s t, sym k) (more_args (no_arg n)), no_args_fit sofar c)
  more_args_back sofar p q y e c (turn t (inr (n, (k, m))) more) = cc
  more_args_back sofar p q y e c (turn {y = z} {h = s} {q = q₁} {r = r} t (inl (n, (z₁, q₂, (x, q₃, u, w), (k, m)))) more) =
      let e₁ : q₁.source ≡ src = ap (λ (z : Place). z.source) t.behind ∙ e in
      let a = when_is (g.is_allowed sofar x) (pure (sofar ++ x ∷ [])) q₃ q₂ z₁ w in
      let at_r : q₃ ≡ r = a.1.0 ∙ k in
      let same : sofar ++ x ∷ [] ≡ z = a.1.1 ∙ ap turned m in
      let e₃ : r.source ≡ src = src_of q₃ r at_r ∙ kept (g.arg b.expr) q₁ q₃ x u ∙ e₁ in
      let v = more_args_back z r q y e₃ (subst (λ (zs : List (Arg C)). length zs ≤ most_arguments) same (allowed_few sofar x a.0)) more in (
        x ∷ v.0,
        v.1 ∙ ap (λ (zs : List (Arg C)). zs ++ v.0) (sym same) ∙ append_assoc sofar (x ∷ []) v.0,
        rw (mark_was comma p q₁ s t, with_arg_is x v.0) (more_args (arg_back q₁ q₃ x e₁ u q.tokens (bare_args (args_of v.0)) (subst (λ (z : Place). AreMoreArgs f src d z.tokens q.tokens (bare_args (args_of v.0))) (sym at_r) v.2))),
        subst (Fit sofar) (sym (with_arg_is x v.0)) (fit_back sofar x (bare_args (args_of v.0)) a.0 (subst (λ (zs : List (Arg C)). Fit zs (bare_args (args_of v.0))) (sym same) v.3)),
      )

  args_back : (p q : Place) (y : List (Arg C)) → p.source ≡ src → Derives (g.arg_items b.expr []) p q y →
      AreArgItems f src d p.tokens q.tokens (bare_args (args_of y)) × Fit [] (bare_args (args_of y))
  unfolding g.arg_items g.also_arg
  args_back p q y e (inr (n, (k, m))) = (rw (sym k, sym m) (no_arg n), subst (λ (zs : List (Arg C)). Fit [] (bare_args (args_of zs))) m (no_args_fit [] (omega arith)))
  args_back p q y e (inl (n, (z, r, (x, q₃, u, w), more))) =
      let a = when_is (g.is_allowed [] x) (pure (x ∷ [])) q₃ r z w in
      let e₃ : r.source ≡ src = src_of q₃ r a.1.0 ∙ kept (g.arg b.expr) p q₃ x u ∙ e in
      let v = more_args_back z r q y e₃ (subst (λ (zs : List (Arg C)). length zs ≤ most_arguments) a.1.1 (allowed_few [] x a.0)) more in
      let whole : x ∷ v.0 ≡ y = sym (v.1 ∙ ap (λ (zs : List (Arg C)). zs ++ v.0) (sym a.1.1)) in (
        subst (λ (zs : List (Arg C)). AreArgItems f src d p.tokens q.tokens (bare_args (args_of zs))) whole
            (subst (AreArgItems f src d p.tokens q.tokens) (sym (with_arg_is x v.0)) (arg_back p q₃ x e u q.tokens (bare_args (args_of v.0)) (subst (λ (z : Place). AreMoreArgs f src d z.tokens q.tokens (bare_args (args_of v.0))) (sym a.1.0) v.2))),
        subst (λ (zs : List (Arg C)). Fit [] (bare_args (args_of zs))) whole
            (subst (Fit []) (sym (with_arg_is x v.0)) (fit_back [] x (bare_args (args_of v.0)) a.0 (subst (λ (zs : List (Arg C)). Fit zs (bare_args (args_of v.0))) (sym a.1.1) v.3))),
      )

  -- after (
  after_open_back : (s : Span) (p q : Place) (y : List (Arg C)) → p.source ≡ src → Derives (g.args b.expr) p q y → AreArgs f src d ((paren_open, s) ∷ p.tokens) q.tokens (bare_args (args_of y))
  unfolding g.args
  after_open_back s p q y e (xs, q₁, w, (r, q₂, t, (k, m))) =
      let v = args_back p q₁ xs e w in
      rw (sym k, sym m) (args (subst (λ us. AreArgItems f src d p.tokens us (bare_args (args_of xs))) (mark_was paren_close q₁ q₂ r t) v.0) v.1.order (omega (arith, v.1.few)))

  pub args_if_any_back : (p q : Place) (y : List (Arg C)) → p.source ≡ src → Derives (g.maybe_args b.expr) p q y → AreArgsIfAny f src d p.tokens q.tokens (bare_args (args_of y))
  args_if_any_back p q y e (inr (n, (k, m))) = rw (sym k, sym m) (no_arguments n)
  args_if_any_back p q y e (inl (n, (s, q₁, t, w))) = rw (mark_was paren_open p q₁ s t) (arguments (after_open_back s q₁ q y (ap (λ (z : Place). z.source) t.behind ∙ e) w))

  -- ---- operands

  range_back : (ts us : List SpannedTok) (s : Span) (x : Expr C) (from : Span) (a : Option (Expr C)) (p q : Place) (y : Expr C) → p.source ≡ src → (c : Span) → IsPostfixed f src d ts ((bracket_open, s) ∷ us) (bare_expr x) →
      IsExprIfAny f src d us ((colon, c) ∷ p.tokens) (bare_optional (optional_of a)) → Derives (g.range b.expr x from a) p q y → IsPostfixed f src d ts q.tokens (bare_expr y)
  unfolding g.range
  range_back ts us s x from a p q y e c row first (stop, q₁, w, (by, q₂, v, (r, q₃, t, (to, q₄, (j, _), (k, m))))) =
      let e₁ : q₁.source ≡ src = kept (g.maybe_expr b.expr) p q₁ stop w ∙ e in
      rw (sym k, sym j, sym m) (range row first (maybe_back f src d b h p q₁ stop e w) (subst (λ us. IsStep f src d q₁.tokens us (bare_optional (optional_of by))) (mark_was bracket_close q₂ q₃ r t) (step_back f src d b h q₁ q₂ by e₁ v)))

  postfix_back : (ts : List SpannedTok) (x : Expr C × Span) (p q₁ q : Place) (u : SpannedTok) (y : Expr C) → p.source ≡ src → IsPostfixed f src d ts p.tokens (bare_expr x.0) → Takes (g.of_kind begins_postfix) p q₁ u →
      Derives (g.postfix b.expr f x.0 x.1 u.0) q₁ q y → IsPostfixed f src d ts q.tokens (bare_expr y)
  unfolding g.member g.subscript g.rest_of_subscript
  postfix_back ts x p q₁ q (dot, s) y e row t ((ident z, r), q₂, t₂, (to, q₃, (j, _), (k, m))) =
      rw (sym k, sym j, sym m) (dot_ident (subst (λ us. IsPostfixed f src d ts us (bare_expr x.0)) (kind_was begins_postfix p q₁ (dot, s) t ∙ ap (λ us. (dot, s) ∷ us) (kind_was (g.begins_member b.expr) q₁ q₂ (ident z, r) t₂)) row))
  postfix_back ts x p q₁ q (dot, s) y e row t ((int n, r), q₂, t₂, (to, q₃, (j, _), (k, m))) =
      rw (sym k, sym j, sym m) (dot_int (subst (λ us. IsPostfixed f src d ts us (bare_expr x.0)) (kind_was begins_postfix p q₁ (dot, s) t ∙ ap (λ us. (dot, s) ∷ us) (kind_was (g.begins_member b.expr) q₁ q₂ (int n, r) t₂)) row))
  postfix_back ts x p q₁ q (dot, s) y e row t ((int128 n, r), q₂, t₂, (to, q₃, (j, _), (k, m))) =
      rw (sym k, sym j, sym m) (dot_int128 (subst (λ us. IsPostfixed f src d ts us (bare_expr x.0)) (kind_was begins_postfix p q₁ (dot, s) t ∙ ap (λ us. (dot, s) ∷ us) (kind_was (g.begins_member b.expr) q₁ q₂ (int128 n, r) t₂)) row))
  postfix_back ts x p q₁ q (dot, s) y e row t ((_, r), q₂, t₂, w) = absurd w
  postfix_back ts x p q₁ q (bracket_open, s) y e row t (inl (n, (c, q₂, t₂, w))) =
      let e₁ : q₁.source ≡ src = ap (λ (z : Place). z.source) t.behind ∙ e in
      range_back ts q₁.tokens s x.0 x.1 None q₂ q y (ap (λ (z : Place). z.source) t₂.behind ∙ e₁) c (subst (λ us. IsPostfixed f src d ts us (bare_expr x.0)) (kind_was begins_postfix p q₁ (bracket_open, s) t) row)
      (rw (mark_was colon q₁ q₂ c t₂) (no_expr refl)) w
  postfix_back ts x p q₁ q (bracket_open, s) y e row t (inr (n, (i, q₂, u, inl (o, (c, q₃, t₂, w))))) =
      let e₁ : q₁.source ≡ src = ap (λ (z : Place). z.source) t.behind ∙ e in
      let e₂ : q₂.source ≡ src = kept b.expr q₁ q₂ i u ∙ e₁ in
      range_back ts q₁.tokens s x.0 x.1 (Some i) q₃ q y (ap (λ (z : Place). z.source) t₂.behind ∙ e₂) c (subst (λ us. IsPostfixed f src d ts us (bare_expr x.0)) (kind_was begins_postfix p q₁ (bracket_open, s) t) row)
      (one_expr (subst (λ us. IsExpr f src d q₁.tokens us (bare_expr i)) (mark_was colon q₂ q₃ c t₂) (h.expr q₁ q₂ i e₁ u))) w
  postfix_back ts x p q₁ q (bracket_open, s) y e row t (inr (n, (i, q₂, u, inr (o, (r, q₃, t₂, (to, q₄, (j, _), (k, m))))))) =
      let e₁ : q₁.source ≡ src = ap (λ (z : Place). z.source) t.behind ∙ e in
      rw (sym k, sym j, sym m) (subscript (subst (λ us. IsPostfixed f src d ts us (bare_expr x.0)) (kind_was begins_postfix p q₁ (bracket_open, s) t) row)
      (subst (λ us. IsExpr f src d q₁.tokens us (bare_expr i)) (mark_was bracket_close q₂ q₃ r t₂) (h.expr q₁ q₂ i e₁ u)))
  postfix_back ts x p q₁ q (paren_open, s) y e row t (xs, q₂, w, (to, q₃, (j, _), (k, m))) =
      let e₁ : q₁.source ≡ src = ap (λ (z : Place). z.source) t.behind ∙ e in
      rw (sym k, sym j, sym m) (called (subst (λ us. IsPostfixed f src d ts us (bare_expr x.0)) (kind_was begins_postfix p q₁ (paren_open, s) t) row) (after_open_back s q₁ q₂ xs e₁ w))
  postfix_back ts x p q₁ q (u, s) y e row t w = let i = kind_is begins_postfix p q₁ (u, s) t in cc

  postfixes_back : (ts : List SpannedTok) (x : Expr C × Span) (p q : Place) (y : Expr C × Span) → p.source ≡ src → IsPostfixed f src d ts p.tokens (bare_expr x.0) →
      Turns (g.of_kind begins_postfix) (λ x t. Derives (g.postfix_turn b.expr f x t)) x p q y → IsPostfixed f src d ts q.tokens (bare_expr y.0) × (comes begins_postfix q.tokens ≡ false)
  postfixes_back ts x p q y e row (no_turn n) = (row, none_of_kind begins_postfix p.tokens n)
  postfixes_back ts x p q y e row (last_turn t (z, q₂, w, (k, m))) = cc
  postfixes_back ts x p q y e row (turn {y = v} {h = u} {q = q₁} {r = r} t (z, q₂, w, (k, m)) more) =
      let c : IsPostfixed f src d ts q₂.tokens (bare_expr z) = postfix_back ts x p q₁ q₂ u z e row t w in
      let same : (z, u.1) ≡ v = ap turned m in
      let e₂ : r.source ≡ src = src_of q₂ r k ∙ kept (g.postfix b.expr f x.0 x.1 u.0) q₁ q₂ z w ∙ ap (λ (z : Place). z.source) t.behind ∙ e in
      postfixes_back ts v r q y e₂ (subst (λ (z : Expr C × Span). IsPostfixed f src d ts r.tokens (bare_expr z.0)) same (subst (λ (w : Place). IsPostfixed f src d ts w.tokens (bare_expr z)) k c)) more

  postfixed_back : Says f src (IsOperand f src d) (g.postfixed f b)
  unfolding g.postfixed
  postfixed_back p q x e (from, q₀, (a, _), (y, q₁, u, (z, q₂, m, (j, k)))) =
      let e₀ : q₀.source ≡ src = src_of p q₀ a ∙ e in
      let v = postfixes_back q₀.tokens (y, from) q₁ q₂ z (kept b.primary q₀ q₁ y u ∙ e₀) (no_postfix (h.primary q₀ q₁ y e₀ u)) m in
      rw (a, sym j, sym k) (no_minus v.0 v.1)

  operand_all : Says f src (IsOperand f src d) (g.operand f b)
  operand_all = operand_back f src d b h postfixed_back

  -- ---- filters and tests

  test_args_back : (p q : Place) (y : List (Arg C)) → p.source ≡ src → Derives (g.test_args f b) p q y → AreTestArgs f src d p.tokens q.tokens (bare_args (args_of y))
  unfolding g.test_args
  test_args_back p q y e (inl (n, (s, q₁, t, w))) = rw (mark_was paren_open p q₁ s t) (in_parentheses (after_open_back s q₁ q y (ap (λ (z : Place). z.source) t.behind ∙ e) w))
  test_args_back p q y e (inr (n, inl (o, (x, q₁, u, (k, m))))) = rw (sym k, sym m) (bare_arg o (operand_all p q₁ x e u))
  test_args_back p q y e (inr (n, inr (o, (k, m)))) = rw (sym k, sym m) (no_test_args n o)

  suffix_back : (ts : List SpannedTok) (x : Expr C) (p q₁ q : Place) (u : SpannedTok) (y : Expr C) → p.source ≡ src → IsSuffixed f src d ts p.tokens (bare_expr x) → Takes (g.of_kind begins_suffix) p q₁ u →
      Derives (g.suffix f b x u.0) q₁ q y → IsSuffixed f src d ts q.tokens (bare_expr y)
  unfolding g.filtered g.any_test g.named_test
  suffix_back ts x p q₁ q (pipe, s) y e row t (from, q₂, (a, _), (n, q₃, w, (xs, q₄, v, (to, q₅, (j, _), (k, m))))) =
      let e₂ : q₂.source ≡ src = src_of q₁ q₂ a ∙ ap (λ (z : Place). z.source) t.behind ∙ e in
      let e₃ : q₃.source ≡ src = kept g.name q₂ q₃ n w ∙ e₂ in
      rw (sym k, sym j, sym m) (filtered (subst (λ us. IsSuffixed f src d ts us (bare_expr x)) (kind_was begins_suffix p q₁ (pipe, s) t ∙ ap (λ (z : Place). (pipe, s) ∷ z.tokens) a) row) (name_back src q₂ q₃ n e₂ w) (args_if_any_back q₃ q₄ xs e₃ v))
  suffix_back ts x p q₁ q (ident z, s) y e row t (inr (n, (from, q₂, (a, _), (w, q₃, c, (xs, q₄, v, (to, q₅, (j, _), (k, m))))))) =
      let e₂ : q₂.source ≡ src = src_of q₁ q₂ a ∙ ap (λ (z : Place). z.source) t.behind ∙ e in
      let e₃ : q₃.source ≡ src = kept g.name q₂ q₃ w c ∙ e₂ in
      let i : ident z ≡ is_word = same_tok is_word (ident z) (kind_is begins_suffix p q₁ (ident z, s) t) in
      rw (sym k, sym j, sym m) (tested (subst (λ us. IsSuffixed f src d ts us (bare_expr x)) (kind_was begins_suffix p q₁ (ident z, s) t ∙ ap (λ (v : Tok). (v, s) ∷ q₁.tokens) i ∙ ap (λ (z : Place). (is_word, s) ∷ z.tokens) a) row)
      (subst (λ (z : Place). comes (is not_word) z.tokens ≡ false) a n) (name_back src q₂ q₃ w e₂ c) (test_args_back q₃ q₄ xs e₃ v))
  suffix_back ts x p q₁ q (ident z, s) y e row t (inl (n, (r, q₀, t₂, (from', q₇, (a', _), (z₁, q₈, (from, q₂, (a, _), (w, q₃, c, (xs, q₄, v, (to, q₅, (j, _), (k, m))))), (to', q₆, (j', _), (k', m'))))))) =
      let e₀ : q₀.source ≡ src = ap (λ (z : Place). z.source) t₂.behind ∙ ap (λ (z : Place). z.source) t.behind ∙ e in
      let e₂ : q₂.source ≡ src = src_of q₇ q₂ a ∙ src_of q₀ q₇ a' ∙ e₀ in
      let e₃ : q₃.source ≡ src = kept g.name q₂ q₃ w c ∙ e₂ in
      let i : ident z ≡ is_word = same_tok is_word (ident z) (kind_is begins_suffix p q₁ (ident z, s) t) in
      let start : p.tokens ≡ (is_word, s) ∷ (not_word, r) ∷ q₂.tokens = kind_was begins_suffix p q₁ (ident z, s) t ∙ ap (λ (v : Tok). (v, s) ∷ q₁.tokens) i ∙ ap (λ us. (is_word, s) ∷ us) (mark_was not_word q₁ q₀ r t₂) ∙ ap (λ (z : Place). (is_word, s) ∷ (not_word, r) ∷ z.tokens) (a' ∙ a) in
      rw (sym k', sym j', sym m', sym k, sym j, sym m) (tested_not (subst (λ us. IsSuffixed f src d ts us (bare_expr x)) start row) (name_back src q₂ q₃ w e₂ c) (test_args_back q₃ q₄ xs e₃ v))
  suffix_back ts x p q₁ q (u, s) y e row t w = let i = kind_is begins_suffix p q₁ (u, s) t in cc

  suffixes_back : (ts : List SpannedTok) (x : Expr C) (p q : Place) (y : Expr C) → p.source ≡ src → IsSuffixed f src d ts p.tokens (bare_expr x) →
      Turns (g.of_kind begins_suffix) (λ x t. Derives (g.suffix_turn f b x t)) x p q y → IsSuffixed f src d ts q.tokens (bare_expr y) × (comes begins_suffix q.tokens ≡ false)
  suffixes_back ts x p q y e row (no_turn n) = (row, none_of_kind begins_suffix p.tokens n)
  suffixes_back ts x p q y e row (last_turn t (z, q₂, w, (k, m))) = cc
  suffixes_back ts x p q y e row (turn {y = v} {h = u} {q = q₁} {r = r} t (z, q₂, w, (k, m)) more) =
      let c : IsSuffixed f src d ts q₂.tokens (bare_expr z) = suffix_back ts x p q₁ q₂ u z e row t w in
      let e₂ : r.source ≡ src = src_of q₂ r k ∙ kept (g.suffix f b x u.0) q₁ q₂ z w ∙ ap (λ (z : Place). z.source) t.behind ∙ e in
      suffixes_back ts v r q y e₂ (subst (λ (z : Expr C). IsSuffixed f src d ts r.tokens (bare_expr z)) (ap turned m) (subst (λ (w : Place). IsSuffixed f src d ts w.tokens (bare_expr z)) k c)) more

  unary_all : Says f src (IsUnary f src d) (g.unary_level f b)
  unfolding g.unary_level
  unary_all p q x e (y, q₁, u, m) =
      let v = suffixes_back p.tokens y q₁ q x (kept (g.operand f b) p q₁ y u ∙ e) (no_suffix (operand_all p q₁ y e u)) m in
      suffixed v.0 v.1

  -- ---- all levels of a depth

  pow_all : Says f src (IsPow f src d) (g.pow_level f b)
  pow_all = pow_back f src d b h unary_all

  term_all : Says f src (IsLevel f src term_level d) (g.term_level f b)
  term_all = level_back f src d b h term_level (λ p q x e w. side_of_term (pow_all p q x e w))

  cat_all : Says f src (IsLevel f src cat_level d) (g.cat_level f b)
  cat_all = level_back f src d b h cat_level (λ p q x e w. side_of_cat (term_all p q x e w))

  sum_all : Says f src (IsLevel f src sum_level d) (g.sum_level f b)
  sum_all = level_back f src d b h sum_level (λ p q x e w. side_of_sum (cat_all p q x e w))

  not_all : Says f src (IsNot f src d) (g.not_level f b)
  not_all = not_back f src d b h (cmp_back f src d b h sum_all)

  and_all : Says f src (IsLevel f src and_level d) (g.and_level f b)
  and_all = level_back f src d b h and_level (λ p q x e w. side_of_and (not_all p q x e w))

  pub or_all : Says f src (IsLevel f src or_level d) (g.or_level f b)
  or_all = level_back f src d b h or_level (λ p q x e w. side_of_or (and_all p q x e w))

  deeper_back : Backed f src (suc d) (g.deeper f b)
  deeper_back = record {
    expr = λ p q x e w. expr (cond_back f src d b h or_all p q x e w);
    opposite = not_all;
    power = pow_all;
    negated = operand_all;
    primary = primary_back;
  }

module _ {C F : Type 0} (f : Functions C F) (src : Text) where
  pub all_backed : (d : ℕ) → Backed f src d (below f d)
  unfolding below
  all_backed zero = record { expr = λ p q x e w. absurd w; opposite = λ p q x e w. absurd w; power = λ p q x e w. absurd w; negated = λ p q x e w. absurd w; primary = λ p q x e w. absurd w }
  all_backed (suc d) = deeper_back f src d (below f d) (all_backed d)

  -- what the form of expressions derives is an expression of that depth, with that tree but for
  -- spans
  pub derived_is_expr : (d : ℕ) (p q : Place) (x : Expr C) → p.source ≡ src → Derives (g.expr_at f d) p q x → IsExpr f src d p.tokens q.tokens (bare_expr x)
  derived_is_expr d p q x e w = (all_backed d).expr p q x e w
