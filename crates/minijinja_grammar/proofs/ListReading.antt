-- What the relations of lists, maps and arguments say is what the forms derive.
use Rattle.std.proofs.Common.{◌≡◌, inl, inr, ℕ, suc, ◌+◌, ◌<◌, ◌≤◌, Bool, true, false, List, [], ◌∷◌, ◌++◌, length, Some, refl, sym, ap, ◌∙◌, subst, append_assoc, length-append, arith}
use Rattle.std.specs.Prelude.{◌||◌, nat_lt}
use Rattle.minijinja_tree.specs.WellFormed.{arg_count, most_arguments}
use Rattle.std.proofs.lemmas.Bool.{lt-ltb}
use Rattle.minijinja_syntax.specs.Texts.{Text}
use Rattle.minijinja_value.specs.Values.{Functions}
use Rattle.minijinja_syntax.specs.declared.tokens.Span.{Span}
use Rattle.minijinja_syntax.specs.Streams.{SpannedTok, Ending}
use Rattle.minijinja_syntax.specs.Tokens.{mul, pow, comma, colon, assign, paren_open, paren_close}
use Rattle.minijinja_tree.specs.Tree as bare
use Rattle.minijinja_tree.specs.SpannedTrees as tree
use Rattle.minijinja_tree.specs.SpannedTrees.{Expr, Arg, bare_expr, bare_exprs, bare_args, exprs_of, args_of}
use Rattle.minijinja_grammar.specs.Words.{is, begins_expr, begins_arg}
use Rattle.minijinja_grammar.specs.Places.{Place}
use Rattle.minijinja_grammar.specs.internal.Forms.{go_on, over, Form, pure, either, no_turn, last_turn, turn, Derives, ◌>>=◌}
use Rattle.minijinja_grammar.specs.Ahead.{comes}
use Rattle.minijinja_grammar.specs.internal.ExprForms as g
use Rattle.minijinja_grammar.specs.internal.ExprForms.{Below}
use Rattle.minijinja_grammar.specs.Expressions.{none_plain, are_in_order, IsExpr, AreArgsIfAny, no_arguments, arguments, args, AreArgItems, no_arg, positional, keyword, starred, double_starred, AreMoreArgs, no_more_args, more_args, AreExprs, no_exprs, exprs, AreMoreExprs, no_more_exprs, more_exprs, AreEntries, no_entries, entries, AreMoreEntries, no_more_entries, more_entries}
use Rattle.minijinja_grammar.specs.SpannedExpressions.{spanned_expr, spanned_args_if_any, spanned_arg_items, spanned_more_args, spanned_exprs, spanned_more_exprs, spanned_entries, spanned_more_entries}
use Rattle.minijinja_grammar.proofs.Begins.{expr_begins}
use Rattle.minijinja_grammar.proofs.TokenReading.{append_nil, TurnsOf, no_star, no_stars, arg_begins, no_mark, mark_taken, Nested}

abbrev pair : {A B : Type 0} → A → B → A × B
pair x y = (x, y)

joined : {A B : Type 0} {x y : A} {z w : B} → x ≡ y → z ≡ w → pair x z ≡ pair y w
joined e h = rw (e, h) refl

name_is_known : {C : Type 0} (y : Expr C) (x : Text) → bare_expr y ≡ bare.variable x → g.name_of_variable y ≡ Some x
name_is_known (tree.variable z s) x e = cc
name_is_known _ x e = cc

-- which arguments may follow those so far

abbrev pub order_from : {C : Type 0} → Bool → bare.Args C → Bool
order_from true zs = none_plain zs
order_from false zs = are_in_order zs

pub record Fit {C : Type 0} (sofar : List (Arg C)) (zs : bare.Args C) : Type 0 where
  pub order : order_from (g.has_named sofar) zs ≡ true
  pub few : length sofar + arg_count zs ≤ most_arguments

pub named_append : {C : Type 0} (xs : List (Arg C)) (x : Arg C) → g.has_named (xs ++ x ∷ []) ≡ (g.has_named xs || g.is_named x)
named_append [] x = or_false (g.is_named x)
  where
    or_false : (b : Bool) → (b || false) ≡ b
    or_false true = refl
    or_false false = refl
named_append (y ∷ xs) x = ap (λ b. g.is_named y || b) (named_append xs x) ∙ or_assoc (g.is_named y) (g.has_named xs) (g.is_named x)
  where
    or_assoc : (p q r : Bool) → (p || (q || r)) ≡ ((p || q) || r)
    or_assoc true q r = refl
    or_assoc false q r = refl

less : (n m : ℕ) → n < m → nat_lt n m ≡ true
less n m e = lt-ltb n m e

room : {C : Type 0} (sofar : List (Arg C)) (n : ℕ) → length sofar + suc n ≤ most_arguments → nat_lt (length sofar) most_arguments ≡ true
room sofar n e = less (length sofar) most_arguments (omega (arith, e))

longer : {C : Type 0} (sofar : List (Arg C)) (x : Arg C) (n : ℕ) → length sofar + suc n ≤ most_arguments → length (sofar ++ x ∷ []) + n ≤ most_arguments
longer sofar x n e = omega (arith, e, length-append sofar (x ∷ []))

fit_positional : {C : Type 0} (sofar : List (Arg C)) (y : Expr C) (e : bare.Expr C) (zs : bare.Args C) → Fit sofar (bare.pos e zs) → (g.is_allowed sofar (tree.positional y) ≡ true) × Fit (sofar ++ tree.positional y ∷ []) zs
fit_positional sofar y e zs h = go (g.has_named sofar) refl h.order
  where
    go : (n : Bool) → g.has_named sofar ≡ n → order_from n (bare.pos e zs) ≡ true → (g.is_allowed sofar (tree.positional y) ≡ true) × Fit (sofar ++ tree.positional y ∷ []) zs
    go true i k = cc
    go false i k = (rw (i, room sofar (arg_count zs) h.few) refl, record { order = rw (named_append sofar (tree.positional y), i) k; few = longer sofar (tree.positional y) (arg_count zs) h.few })

fit_starred : {C : Type 0} (sofar : List (Arg C)) (y : Expr C) (e : bare.Expr C) (zs : bare.Args C) → Fit sofar (bare.pos_splat e zs) → (g.is_allowed sofar (tree.starred y) ≡ true) × Fit (sofar ++ tree.starred y ∷ []) zs
fit_starred sofar y e zs h = go (g.has_named sofar) refl h.order
  where
    go : (n : Bool) → g.has_named sofar ≡ n → order_from n (bare.pos_splat e zs) ≡ true → (g.is_allowed sofar (tree.starred y) ≡ true) × Fit (sofar ++ tree.starred y ∷ []) zs
    go true i k = (room sofar (arg_count zs) h.few, record { order = rw (named_append sofar (tree.starred y), i) k; few = longer sofar (tree.starred y) (arg_count zs) h.few })
    go false i k = (room sofar (arg_count zs) h.few, record { order = rw (named_append sofar (tree.starred y), i) k; few = longer sofar (tree.starred y) (arg_count zs) h.few })

fit_keyword : {C : Type 0} (sofar : List (Arg C)) (x : Text) (y : Expr C) (e : bare.Expr C) (zs : bare.Args C) → Fit sofar (bare.kwarg x e zs) → (g.is_allowed sofar (tree.keyword x y) ≡ true) × Fit (sofar ++ tree.keyword x y ∷ []) zs
fit_keyword sofar x y e zs h = go (g.has_named sofar) refl h.order
  where
    go : (n : Bool) → g.has_named sofar ≡ n → order_from n (bare.kwarg x e zs) ≡ true → (g.is_allowed sofar (tree.keyword x y) ≡ true) × Fit (sofar ++ tree.keyword x y ∷ []) zs
    go true i k = (room sofar (arg_count zs) h.few, record { order = rw (named_append sofar (tree.keyword x y), i) k; few = longer sofar (tree.keyword x y) (arg_count zs) h.few })
    go false i k = (room sofar (arg_count zs) h.few, record { order = rw (named_append sofar (tree.keyword x y), i) k; few = longer sofar (tree.keyword x y) (arg_count zs) h.few })

fit_double_starred : {C : Type 0} (sofar : List (Arg C)) (y : Expr C) (e : bare.Expr C) (zs : bare.Args C) → Fit sofar (bare.kwarg_splat e zs) → (g.is_allowed sofar (tree.double_starred y) ≡ true) × Fit (sofar ++ tree.double_starred y ∷ []) zs
fit_double_starred sofar y e zs h = go (g.has_named sofar) refl h.order
  where
    go : (n : Bool) → g.has_named sofar ≡ n → order_from n (bare.kwarg_splat e zs) ≡ true → (g.is_allowed sofar (tree.double_starred y) ≡ true) × Fit (sofar ++ tree.double_starred y ∷ []) zs
    go true i k = (room sofar (arg_count zs) h.few, record { order = rw (named_append sofar (tree.double_starred y), i) k; few = longer sofar (tree.double_starred y) (arg_count zs) h.few })
    go false i k = (room sofar (arg_count zs) h.few, record { order = rw (named_append sofar (tree.double_starred y), i) k; few = longer sofar (tree.double_starred y) (arg_count zs) h.few })

module _ {C F : Type 0} (f : Functions C F) (src : Text) (en : Ending) (ns : List Text) where
  abbrev at : List SpannedTok → Span → Place
  at ts l = record { source = src; tokens = ts; ending = en; last = l; names = ns }

  abbrev pub GivesArgs : Form (List (Arg C)) → List SpannedTok → List SpannedTok → bare.Args C → (Span → List (Arg C) × Span) → Type 0
  GivesArgs form ts rest xs v = (k : Span) → (ys : List (Arg C)) × (r : Span) × Derives form (at ts k) (at rest r) ys × (bare_args (args_of ys) ≡ xs) × (v k ≡ (ys, r))

  module _ (b : Below C) where
    -- ---- lists of expressions

    more_exprs_of : {ts rest : List SpannedTok} (s k : Span) (sofar ys : List (Expr C)) (r : Span) → Derives (g.exprs b.expr sofar) (at ts s) (at rest r) ys →
        TurnsOf (g.span_of_mark comma) (λ y _. either begins_expr (g.also b.expr y >>= (λ z. pure (go_on z))) (pure (over y))) sofar (at ((comma, s) ∷ ts) k) (at rest r) ys
    unfolding g.exprs
    more_exprs_of {ts = ts} s k sofar ys r (inl (e, (z, q, m, w))) = turn (mark_taken f src en ns comma s ts k refl) (inl (e, (z, q, m, (refl, refl)))) w
    more_exprs_of {ts = ts} s k sofar ys r (inr (e, (h, i))) = last_turn (mark_taken f src en ns comma s ts k refl) (inr (e, (h, ap over i)))

    mutual
      unfolding g.exprs g.also

      pub exprs_read : {d : ℕ} {ts rest : List SpannedTok} {es : bare.Exprs C} → (a : AreExprs f src d ts rest es) → Nested f src en ns d b → (sofar : List (Expr C)) (k : Span) →
          (ys : List (Expr C)) × (r : Span) × Derives (g.exprs b.expr sofar) (at ts k) (at rest r) (sofar ++ ys) × (bare_exprs (exprs_of ys) ≡ es) × (spanned_exprs f src k a ≡ (ys, r))
      exprs_read (no_exprs e) h sofar k = ([], k, inr (e, (refl, sym (append_nil sofar))), refl, refl)
      exprs_read {rest = rest} (exprs {us = us} a m) h sofar k =
          let u = h.expr _ _ _ a k in
          let w = more_exprs_read m h (sofar ++ u.0 ∷ []) u.1 in (
            u.0 ∷ w.0,
            w.1,
            inl (
              expr_begins f src a,
              (
                sofar ++ u.0 ∷ [],
                at us u.1,
                (u.0, at us u.1, u.2, (refl, refl)),
                subst (λ z. TurnsOf (g.span_of_mark comma) (λ y _. either begins_expr (g.also b.expr y >>= (λ z. pure (go_on z))) (pure (over y))) (sofar ++ u.0 ∷ []) (at us u.1) (at rest w.1) z) (append_assoc sofar (u.0 ∷ []) w.0) w.2,
              ),
            ),
            rw (u.3, w.3) refl,
            rw (u.4, w.4) refl,
          )

      more_exprs_read : {d : ℕ} {ts rest : List SpannedTok} {es : bare.Exprs C} → (a : AreMoreExprs f src d ts rest es) → Nested f src en ns d b → (sofar : List (Expr C)) (k : Span) →
          (ys : List (Expr C)) × (r : Span) × TurnsOf (g.span_of_mark comma) (λ y _. either begins_expr (g.also b.expr y >>= (λ z. pure (go_on z))) (pure (over y))) sofar (at ts k) (at rest r) (sofar ++ ys) ×
          (bare_exprs (exprs_of ys) ≡ es) × (spanned_more_exprs f src k a ≡ (ys, r))
      more_exprs_read {rest = rest} (no_more_exprs e) h sofar k =
          ([], k, subst (λ z. TurnsOf (g.span_of_mark comma) (λ y _. either begins_expr (g.also b.expr y >>= (λ z. pure (go_on z))) (pure (over y))) sofar (at rest k) (at rest k) z) (sym (append_nil sofar)) (no_turn (no_mark f src en ns comma rest e)), refl, refl)
      more_exprs_read (more_exprs {s = s} a) h sofar k =
          let u = exprs_read a h sofar s in
          (u.0, u.1, more_exprs_of s k sofar (sofar ++ u.0) u.1 u.2, u.3, u.4)

    -- ---- maps

    more_entries_of : {ts rest : List SpannedTok} (s k : Span) (sofar ys : List (Expr C) × List (Expr C)) (r : Span) → Derives (g.entries b.expr sofar) (at ts s) (at rest r) ys →
        TurnsOf (g.span_of_mark comma) (λ y _. either begins_expr (g.entry b.expr y >>= (λ z. pure (go_on z))) (pure (over y))) sofar (at ((comma, s) ∷ ts) k) (at rest r) ys
    unfolding g.entries
    more_entries_of {ts = ts} s k sofar ys r (inl (e, (z, q, m, w))) = turn (mark_taken f src en ns comma s ts k refl) (inl (e, (z, q, m, (refl, refl)))) w
    more_entries_of {ts = ts} s k sofar ys r (inr (e, (h, i))) = last_turn (mark_taken f src en ns comma s ts k refl) (inr (e, (h, ap over i)))

    mutual
      unfolding g.entries g.entry

      pub entries_read : {d : ℕ} {ts rest : List SpannedTok} {ks vs : bare.Exprs C} → (a : AreEntries f src d ts rest ks vs) → Nested f src en ns d b → (ls ms : List (Expr C)) (k : Span) →
          (ys zs : List (Expr C)) × (r : Span) × Derives (g.entries b.expr (ls, ms)) (at ts k) (at rest r) (ls ++ ys, ms ++ zs) × (bare_exprs (exprs_of ys) ≡ ks) × (bare_exprs (exprs_of zs) ≡ vs) × (spanned_entries f src k a ≡ ((ys, zs), r))
      entries_read (no_entries e) h ls ms k = ([], [], k, inr (e, (refl, rw (append_nil ls, append_nil ms) refl)), refl, refl, refl)
      entries_read {rest = rest} (entries {s = s} {us = us} {vs = vs} a c m) h ls ms k =
          let u = h.expr _ _ _ a k in
          let v = h.expr _ _ _ c s in
          let w = more_entries_read m h (ls ++ u.0 ∷ []) (ms ++ v.0 ∷ []) v.1 in (
            u.0 ∷ w.0,
            v.0 ∷ w.1,
            w.2,
            inl (
              expr_begins f src a,
              (
                (ls ++ u.0 ∷ [], ms ++ v.0 ∷ []),
                at vs v.1,
                (u.0, at ((colon, s) ∷ us) u.1, u.2, (s, at us s, mark_taken f src en ns colon s us u.1 refl, (v.0, at vs v.1, v.2, (refl, refl)))),
                subst (λ z. TurnsOf (g.span_of_mark comma) (λ y _. either begins_expr (g.entry b.expr y >>= (λ z. pure (go_on z))) (pure (over y))) (ls ++ u.0 ∷ [], ms ++ v.0 ∷ []) (at vs v.1) (at rest w.2) z)
                    (joined (append_assoc ls (u.0 ∷ []) w.0) (append_assoc ms (v.0 ∷ []) w.1)) w.3,
              ),
            ),
            rw (u.3, w.4) refl,
            rw (v.3, w.5) refl,
            rw (u.4, v.4, w.6) refl,
          )

      more_entries_read : {d : ℕ} {ts rest : List SpannedTok} {ks vs : bare.Exprs C} → (a : AreMoreEntries f src d ts rest ks vs) → Nested f src en ns d b → (ls ms : List (Expr C)) (k : Span) →
          (ys zs : List (Expr C)) × (r : Span) × TurnsOf (g.span_of_mark comma) (λ y _. either begins_expr (g.entry b.expr y >>= (λ z. pure (go_on z))) (pure (over y))) (ls, ms) (at ts k) (at rest r) (ls ++ ys, ms ++ zs) ×
          (bare_exprs (exprs_of ys) ≡ ks) × (bare_exprs (exprs_of zs) ≡ vs) × (spanned_more_entries f src k a ≡ ((ys, zs), r))
      more_entries_read {rest = rest} (no_more_entries e) h ls ms k = (
        [],
        [],
        k,
        subst (λ z. TurnsOf (g.span_of_mark comma) (λ y _. either begins_expr (g.entry b.expr y >>= (λ z. pure (go_on z))) (pure (over y))) (ls, ms) (at rest k) (at rest k) z)
            (joined (sym (append_nil ls)) (sym (append_nil ms))) (no_turn (no_mark f src en ns comma rest e)),
        refl,
        refl,
        refl,
      )
      more_entries_read (more_entries {s = s} a) h ls ms k =
          let u = entries_read a h ls ms s in
          (u.0, u.1, u.2, more_entries_of s k (ls, ms) (ls ++ u.0, ms ++ u.1) u.2 u.3, u.4, u.5, u.6)

    -- ---- arguments

    arg_taken : {ts us : List SpannedTok} {e : bare.Expr C} {d : ℕ} → (a : IsExpr f src d ts us e) → Nested f src en ns d b → (k : Span) → comes (is assign) us ≡ false →
        (x : Expr C) × (r : Span) × Derives (g.arg b.expr) (at ts k) (at us r) (tree.positional x) × (bare_expr x ≡ e) × (spanned_expr f src k a ≡ (x, r))
    unfolding g.arg
    arg_taken {ts = ts} {us = us} a h k e =
        let u = h.expr _ _ _ a k in
        (u.0, u.1, inr (no_star ts (expr_begins f src a), inr (no_stars ts (expr_begins f src a), (u.0, at us u.1, u.2, inr (e, (refl, refl))))), u.3, u.4)

    keyword_taken : {ts us vs : List SpannedTok} {s : Span} {x : Text} {e : bare.Expr C} {d : ℕ} → IsExpr f src d ts ((assign, s) ∷ us) (bare.variable x) → (c : IsExpr f src d us vs e) → Nested f src en ns d b → (k : Span) →
        (y : Expr C) × (r : Span) × Derives (g.arg b.expr) (at ts k) (at vs r) (tree.keyword x y) × (bare_expr y ≡ e) × (spanned_expr f src s c ≡ (y, r))
    unfolding g.arg
    keyword_taken {ts = ts} {us = us} {vs = vs} {s = s} {x = x} a c h k =
        let u = h.expr _ _ _ a k in
        let w = h.expr _ _ _ c s in (
          w.0,
          w.1,
          inr (
            no_star ts (expr_begins f src a),
            inr (
              no_stars ts (expr_begins f src a),
              (
                u.0,
                at ((assign, s) ∷ us) u.1,
                u.2,
                inl (
                  refl,
                  (
                    s,
                    at us s,
                    mark_taken f src en ns assign s us u.1 refl,
                    subst (λ z. Derives (g.named b.expr z) (at us s) (at vs w.1) (tree.keyword x w.0)) (sym (name_is_known u.0 x u.3)) (w.0, at vs w.1, w.2, (refl, refl)),
                  ),
                ),
              ),
            ),
          ),
          w.3,
          w.4,
        )

    more_args_of : {ts rest : List SpannedTok} (s k : Span) (sofar ys : List (Arg C)) (r : Span) → Derives (g.arg_items b.expr sofar) (at ts s) (at rest r) ys →
        TurnsOf (g.span_of_mark comma) (λ y _. either begins_arg (g.also_arg b.expr y >>= (λ z. pure (go_on z))) (pure (over y))) sofar (at ((comma, s) ∷ ts) k) (at rest r) ys
    unfolding g.arg_items
    more_args_of {ts = ts} s k sofar ys r (inl (e, (z, q, m, w))) = turn (mark_taken f src en ns comma s ts k refl) (inl (e, (z, q, m, (refl, refl)))) w
    more_args_of {ts = ts} s k sofar ys r (inr (e, (h, i))) = last_turn (mark_taken f src en ns comma s ts k refl) (inr (e, (h, ap over i)))

    -- one argument more
    one_arg : (ts us rest : List SpannedTok) (sofar : List (Arg C)) (x : Arg C) (k r : Span) → comes begins_arg ts ≡ true → Derives (g.arg b.expr) (at ts k) (at us r) x → g.is_allowed sofar x ≡ true →
        (ys : List (Arg C)) (q : Span) → TurnsOf (g.span_of_mark comma) (λ y _. either begins_arg (g.also_arg b.expr y >>= (λ z. pure (go_on z))) (pure (over y))) (sofar ++ x ∷ []) (at us r) (at rest q) ((sofar ++ x ∷ []) ++ ys) →
        Derives (g.arg_items b.expr sofar) (at ts k) (at rest q) (sofar ++ x ∷ ys)
    unfolding g.arg_items g.also_arg
    one_arg ts us rest sofar x k r e m i ys q w =
        inl (
          e,
          (
            sofar ++ x ∷ [],
            at us r,
            (x, at us r, m, subst (λ z. Derives (g.when z (pure (sofar ++ x ∷ []))) (at us r) (at us r) (sofar ++ x ∷ [])) (sym i) (refl, refl)),
            subst (λ z. TurnsOf (g.span_of_mark comma) (λ y _. either begins_arg (g.also_arg b.expr y >>= (λ z. pure (go_on z))) (pure (over y))) (sofar ++ x ∷ []) (at us r) (at rest q) z) (append_assoc sofar (x ∷ []) ys) w,
          ),
        )

    mutual
      unfolding g.arg_items g.arg

      args_read : {d : ℕ} {ts rest : List SpannedTok} {zs : bare.Args C} → (a : AreArgItems f src d ts rest zs) → Nested f src en ns d b → (sofar : List (Arg C)) (k : Span) → Fit sofar zs →
          (ys : List (Arg C)) × (r : Span) × Derives (g.arg_items b.expr sofar) (at ts k) (at rest r) (sofar ++ ys) × (bare_args (args_of ys) ≡ zs) × (spanned_arg_items f src k a ≡ (ys, r))
      args_read (no_arg e) h sofar k i = ([], k, inr (e, (refl, sym (append_nil sofar))), refl, refl)
      args_read {ts = ts} (positional {e = x} {xs = xs} a e m) h sofar k i =
          let u = arg_taken a h k e in
          let j = fit_positional sofar u.0 x xs i in
          let w = more_args_read m h (sofar ++ tree.positional u.0 ∷ []) u.1 j.1 in
          (tree.positional u.0 ∷ w.0, w.1, one_arg _ _ _ sofar (tree.positional u.0) k u.1 (arg_begins ts (expr_begins f src a)) u.2 j.0 w.0 w.1 w.2, rw (u.3, w.3) refl, rw (u.4, w.4) refl)
      args_read {ts = ts} (keyword {x = x} {e = y} {xs = xs} a c m) h sofar k i =
          let u = keyword_taken a c h k in
          let j = fit_keyword sofar x u.0 y xs i in
          let w = more_args_read m h (sofar ++ tree.keyword x u.0 ∷ []) u.1 j.1 in
          (tree.keyword x u.0 ∷ w.0, w.1, one_arg _ _ _ sofar (tree.keyword x u.0) k u.1 (arg_begins ts (expr_begins f src a)) u.2 j.0 w.0 w.1 w.2, rw (u.3, w.3) refl, rw (u.4, w.4) refl)
      args_read (starred {s = s} {ts = ts} {us = us} {e = x} {xs = xs} a m) h sofar k i =
          let u = h.expr _ _ _ a s in
          let j = fit_starred sofar u.0 x xs i in
          let w = more_args_read m h (sofar ++ tree.starred u.0 ∷ []) u.1 j.1 in
          let o : Derives (g.arg b.expr) (at ((mul, s) ∷ ts) k) (at us u.1) (tree.starred u.0) = inl (refl, (s, at ts s, mark_taken f src en ns mul s ts k refl, (u.0, at us u.1, u.2, (refl, refl)))) in
          (tree.starred u.0 ∷ w.0, w.1, one_arg _ _ _ sofar (tree.starred u.0) k u.1 refl o j.0 w.0 w.1 w.2, rw (u.3, w.3) refl, rw (u.4, w.4) refl)
      args_read (double_starred {s = s} {ts = ts} {us = us} {e = x} {xs = xs} a m) h sofar k i =
          let u = h.expr _ _ _ a s in
          let j = fit_double_starred sofar u.0 x xs i in
          let w = more_args_read m h (sofar ++ tree.double_starred u.0 ∷ []) u.1 j.1 in
          let o : Derives (g.arg b.expr) (at ((pow, s) ∷ ts) k) (at us u.1) (tree.double_starred u.0) = inr (refl, inl (refl, (s, at ts s, mark_taken f src en ns pow s ts k refl, (u.0, at us u.1, u.2, (refl, refl))))) in
          (tree.double_starred u.0 ∷ w.0, w.1, one_arg _ _ _ sofar (tree.double_starred u.0) k u.1 refl o j.0 w.0 w.1 w.2, rw (u.3, w.3) refl, rw (u.4, w.4) refl)

      more_args_read : {d : ℕ} {ts rest : List SpannedTok} {zs : bare.Args C} → (a : AreMoreArgs f src d ts rest zs) → Nested f src en ns d b → (sofar : List (Arg C)) (k : Span) → Fit sofar zs →
          (ys : List (Arg C)) × (r : Span) × TurnsOf (g.span_of_mark comma) (λ y _. either begins_arg (g.also_arg b.expr y >>= (λ z. pure (go_on z))) (pure (over y))) sofar (at ts k) (at rest r) (sofar ++ ys) ×
          (bare_args (args_of ys) ≡ zs) × (spanned_more_args f src k a ≡ (ys, r))
      more_args_read {rest = rest} (no_more_args e) h sofar k i =
          ([], k, subst (λ z. TurnsOf (g.span_of_mark comma) (λ y _. either begins_arg (g.also_arg b.expr y >>= (λ z. pure (go_on z))) (pure (over y))) sofar (at rest k) (at rest k) z) (sym (append_nil sofar)) (no_turn (no_mark f src en ns comma rest e)), refl, refl)
      more_args_read (more_args {s = s} a) h sofar k i =
          let u = args_read a h sofar s i in
          (u.0, u.1, more_args_of s k sofar (sofar ++ u.0) u.1 u.2, u.3, u.4)

    -- after (
    pub args_after : {d : ℕ} {ts rest : List SpannedTok} {r : Span} {zs : bare.Args C} → (a : AreArgItems f src d ts ((paren_close, r) ∷ rest) zs) → are_in_order zs ≡ true → arg_count zs ≤ most_arguments →
        Nested f src en ns d b →
        GivesArgs (g.args b.expr) ts rest zs (λ k. ((spanned_arg_items f src k a).0, r))
    unfolding g.args
    args_after {rest = rest} {r = r} a e c h k =
        let u = args_read a h [] k (record { order = e; few = omega (arith, c) }) in
        (u.0, r, (u.0, at ((paren_close, r) ∷ rest) u.1, u.2, (r, at rest r, mark_taken f src en ns paren_close r rest u.1 refl, (refl, refl))), u.3, rw u.4 refl)

    pub args_if_any : {d : ℕ} {ts rest : List SpannedTok} {zs : bare.Args C} → (a : AreArgsIfAny f src d ts rest zs) → Nested f src en ns d b →
        GivesArgs (g.maybe_args b.expr) ts rest zs (λ k. spanned_args_if_any f src k a)
    args_if_any (no_arguments e) h k = ([], k, inr (e, (refl, refl)), refl, refl)
    args_if_any (arguments (args {s = s} {ts = ts} a e c)) h k =
        let u = args_after a e c h s in
        (u.0, u.1, inl (refl, (s, at ts s, mark_taken f src en ns paren_open s ts k refl, u.2)), u.3, u.4)
