-- What the relations of expressions say is what the forms derive. Two files before this one have
-- the parts: TokenReading names and texts, ListReading lists, maps and arguments.
use Rattle.std.proofs.Common.{◌≡◌, inl, inr, ℕ, zero, suc, true, false, List, [], ◌∷◌, ◌++◌, Option, Some, None, refl, sym, ap, ◌∙◌, subst, append_assoc}
use Rattle.minijinja_syntax.specs.Texts.{Text}
use Rattle.minijinja_value.specs.Values.{Functions}
use Rattle.minijinja_syntax.specs.declared.tokens.Span.{Span}
use Rattle.minijinja_syntax.specs.Streams.{SpannedTok, Ending}
use Rattle.minijinja_syntax.specs.Tokens.{Tok, ident, str, string, int, int128, minus, pow, dot, comma, colon, pipe, bracket_open, bracket_close, paren_open, paren_close, brace_open, brace_close}
use Rattle.minijinja_tree.specs.BinOps as bin
use Rattle.minijinja_tree.specs.BinOps.{BinOp}
use Rattle.minijinja_tree.specs.CompareOps as cmp
use Rattle.minijinja_tree.specs.CompareOps.{CompareOp}
use Rattle.minijinja_tree.specs.Tree as bare
use Rattle.minijinja_tree.specs.Tree.{logical_not, negation}
use Rattle.minijinja_tree.specs.SpannedTrees as tree
use Rattle.minijinja_tree.specs.SpannedTrees.{Expr, bare_expr, bare_optional, bare_comparisons, optional_of, exprs_of, comparisons_of, args_of}
use Rattle.minijinja_grammar.specs.Words.{if_word, else_word, not_word, is_word, text_of, begins_primary, begins_postfix, begins_suffix, begins_comparison}
use Rattle.minijinja_grammar.specs.Places.{Place}
use Rattle.minijinja_grammar.specs.internal.Forms.{Turn, go_on, Form, nothing, start_at, Takes, no_turn, turn, Derives, ◌>>=◌}
use Rattle.minijinja_grammar.specs.Ahead.{IsName, Level, or_level, and_level, sum_level, cat_level, term_level, operator}
use Rattle.minijinja_grammar.specs.internal.ExprForms as g
use Rattle.minijinja_grammar.specs.Ahead as ahead
use Rattle.minijinja_grammar.specs.internal.ExprForms.{Below, below}
use Rattle.minijinja_syntax.specs.Positions.{expanded}
use Rattle.minijinja_grammar.specs.Expressions.{comparison_of, IsExpr, expr, IsCond, cond, IsIfs, no_if, if_alone, if_else, IsLevel, level, IsRow, no_operator, operation, IsSide, side_of_or, side_of_and, side_of_sum, side_of_cat, side_of_term, IsNot, opposite, no_not, IsCmp, comparison, AreComparisons, no_comparison, compared_to, IsPow, no_power, power, IsUnary, suffixed, IsSuffixed, no_suffix, filtered, tested, tested_not, AreTestArgs, no_test_args, in_parentheses, bare_arg, IsOperand, negated, no_minus, IsPostfixed, no_postfix, dot_ident, dot_int, dot_int128, subscript, range, called, IsExprIfAny, no_expr, one_expr, IsStep, no_step, by_step, args, IsPrimary, true_word, false_word, none_word, name, texts, integer, large_integer, empty_tuple, parentheses, tuple_of, list_of, map_of}
use Rattle.minijinja_grammar.specs.TokenSpans.{first_span}
use Rattle.minijinja_grammar.specs.SpannedExpressions.{end_of_name, spanned_expr, spanned_cond, spanned_ifs, spanned_level, spanned_row, spanned_side, spanned_not, spanned_cmp, spanned_comparisons, spanned_pow, spanned_unary, spanned_suffixed, spanned_test_args, spanned_operand, spanned_postfixed, spanned_expr_if_any, spanned_step, spanned_primary}
use Rattle.minijinja_grammar.proofs.Begins.{expr_begins, text_begins, postfixed_no_minus}
use Rattle.minijinja_grammar.proofs.TokenReading.{append_nil, TurnsOf, Leads, no_close, no_colon, bare_no_paren, true_is, false_is, none_is, name_is, taken, Gives, name_read, texts_read, cmp_op_read, none_comes, no_mark, kind_held, kind_taken, mark_taken, Sends, Nested}
use Rattle.minijinja_grammar.proofs.ListReading.{GivesArgs, exprs_read, entries_read, args_after, args_if_any}

-- the form of an operator's side
abbrev pub side_form : {C F : Type 0} → Functions C F → Level → Below C → Form (Expr C)
side_form f or_level b = g.and_level f b
side_form f and_level b = g.not_level f b
side_form f sum_level b = g.cat_level f b
side_form f cat_level b = g.term_level f b
side_form f term_level b = g.pow_level f b

abbrev pub level_form : {C F : Type 0} → Functions C F → Level → Below C → Form (Expr C)
level_form f l b = g.level (operator l) (side_form f l b)

abbrev side_turn : {C : Type 0} → Form (Expr C) → Span → Expr C → BinOp → Form (Turn (Expr C))
side_turn form from l o = form >>= (λ r. g.spanned from (λ s. go_on (tree.binary o l r s)))

bare_one : {C : Type 0} (o : CompareOp) (l r : Expr C) (s : Span) → bare_expr (g.compare_two s o l r) ≡ comparison_of (bare_expr l) (bare.against o (bare_expr r) bare.compared)
bare_one cmp.eq l r s = refl
bare_one cmp.ne l r s = refl
bare_one cmp.lt l r s = refl
bare_one cmp.lte l r s = refl
bare_one cmp.gt l r s = refl
bare_one cmp.gte l r s = refl
bare_one cmp.is_in l r s = refl
bare_one cmp.not_in l r s = refl

pub bare_all : {C : Type 0} (e : Expr C) (cs : List (CompareOp × Expr C)) (s : Span) →
    bare_expr (g.compare_all e cs s) ≡ comparison_of (bare_expr e) (bare_comparisons (comparisons_of cs))
bare_all e [] s = refl
bare_all e (c ∷ []) s = bare_one c.0 e c.1 s
bare_all e (c ∷ d ∷ cs) s = refl

same_text : (x y : Text) → Some x ≡ Some y → x ≡ y
same_text x y e = cc

module _ {C F : Type 0} (f : Functions C F) (src : Text) (en : Ending) (ns : List Text) where
  abbrev at : List SpannedTok → Span → Place
  at ts l = record { source = src; tokens = ts; ending = en; last = l; names = ns }

  abbrev GivesOptional : Form (Option (Expr C)) → List SpannedTok → List SpannedTok → bare.Optional C → (Span → Option (Expr C) × Span) → Type 0
  GivesOptional form ts rest e v = (k : Span) → (x : Option (Expr C)) × (r : Span) × Derives form (at ts k) (at rest r) x × (bare_optional (optional_of x) ≡ e) × (v k ≡ (x, r))

  abbrev GivesIfs : Below C → List SpannedTok → List SpannedTok → bare.Expr C → (Span → (Expr C × Span) × Span) → Type 0
  GivesIfs b ts rest e v = (k : Span) → (x₀ : Expr C) × (q₀ : Place) × Derives (g.or_level f b) (at ts k) q₀ x₀ ×
      (x : Expr C × Span) × (r : Span) × (bare_expr x.0 ≡ e) × Leads (g.span_of_mark if_word) (g.if_turn (g.or_level f b) b.expr) (x₀, k) q₀ x (at rest r) × (v k ≡ (x, r))

  abbrev GivesRow : Level → Below C → List SpannedTok → List SpannedTok → bare.Expr C → (Span → Expr C × Span) → Type 0
  GivesRow l b ts rest e v = (k : Span) → (x₀ : Expr C) × (q₀ : Place) × Derives (side_form f l b) (at ts k) q₀ x₀ ×
      (x : Expr C) × (r : Span) × (bare_expr x ≡ e) × Leads (ahead.held (operator l)) (side_turn (side_form f l b) (start_at (at ts k))) x₀ q₀ x (at rest r) × (v k ≡ (x, r))

  abbrev GivesSuffixed : Below C → List SpannedTok → List SpannedTok → bare.Expr C → (Span → Expr C × Span) → Type 0
  GivesSuffixed b ts rest e v = (k : Span) → (x₀ : Expr C) × (q₀ : Place) × Derives (g.operand f b) (at ts k) q₀ x₀ ×
      (x : Expr C) × (r : Span) × (bare_expr x ≡ e) × Leads (g.of_kind begins_suffix) (g.suffix_turn f b) x₀ q₀ x (at rest r) × (v k ≡ (x, r))

  abbrev GivesPostfixed : Below C → List SpannedTok → List SpannedTok → bare.Expr C → (Span → (Expr C × Span) × Span) → Type 0
  GivesPostfixed b ts rest e v = (k : Span) → (x₀ : Expr C) × (q₀ : Place) × Derives b.primary (at ts k) q₀ x₀ ×
      (x : Expr C × Span) × (r : Span) × (bare_expr x.0 ≡ e) × Leads (g.of_kind begins_postfix) (g.postfix_turn b.expr f) (x₀, start_at (at ts k)) q₀ x (at rest r) × (v k ≡ (x, r))

  abbrev GivesComparisons : Below C → List SpannedTok → List SpannedTok → bare.Comparisons C → (Span → List (CompareOp × Expr C) × Span) → Type 0
  GivesComparisons b ts rest cs v = (sofar : List (CompareOp × Expr C)) (k : Span) → (ys : List (CompareOp × Expr C)) × (r : Span) ×
      TurnsOf (g.of_kind begins_comparison) (g.comparison (g.sum_level f b)) sofar (at ts k) (at rest r) (sofar ++ ys) × (bare_comparisons (comparisons_of ys) ≡ cs) × (v k ≡ (ys, r))

  module _ (b : Below C) where
    -- ---- rows of operators

    pow_read : {d : ℕ} {ts rest : List SpannedTok} {e : bare.Expr C} → (a : IsPow f src d ts rest e) → Nested f src en ns d b →
        Sends f src en ns (IsUnary f src d) (g.unary_level f b) (λ ts rest e a k. spanned_unary f src k a) → Gives f src en ns (g.pow_level f b) ts rest e (λ k. spanned_pow f src k a)
    unfolding g.pow_level
    pow_read {ts = ts} {rest = rest} (no_power a e) h i k =
        let u = i _ _ _ a k in
        (u.0, u.1, (start_at (at ts k), at ts k, (refl, refl), (u.0, at rest u.1, u.2, inr (e, (refl, refl)))), u.3, u.4)
    pow_read {ts = ts} {rest = rest} (power {s = s} {us = us} a c) h i k =
        let u = i _ _ _ a k in
        let w = h.power _ _ _ c s in (
          tree.binary bin.pow u.0 w.0 (expanded (start_at (at ts k)) w.1),
          w.1,
          (start_at (at ts k), at ts k, (refl, refl), (u.0, at ((pow, s) ∷ us) u.1, u.2, inl (refl, (s, at us s, mark_taken f src en ns pow s us u.1 refl, (w.0, at rest w.1, w.2, (w.1, at rest w.1, (refl, refl), (refl, refl))))))),
          rw (u.3, w.3) refl,
          rw (u.4, w.4) refl,
        )

    row_read : {l : Level} {d : ℕ} {ts rest : List SpannedTok} {e : bare.Expr C} → (a : IsRow f src l d ts rest e) →
        Sends f src en ns (IsSide f src l d) (side_form f l b) (λ ts rest e a k. spanned_side f src k a) → GivesRow l b ts rest e (λ k. spanned_row f src k a)
    row_read {rest = rest} (no_operator a) i k = let u = i _ _ _ a k in (u.0, at rest u.1, u.2, u.0, u.1, u.3, (λ z r m. m), u.4)
    row_read {l} {ts = ts} {rest = rest} (operation {t = t} {s = s} {o = o} {us = us} a e c) i k =
        let u = row_read a i k in
        let w = i _ _ _ c s in (
          u.0,
          u.1,
          u.2,
          tree.binary o u.3 w.0 (expanded (start_at (at ts k)) w.1),
          w.1,
          rw (u.5, w.3) refl,
          λ z r m. u.6 z r (turn (taken f src en ns (ahead.held (operator l)) (t, s) us u.4 o e) (w.0, at rest w.1, w.2, (w.1, at rest w.1, (refl, refl), (refl, refl))) m),
          rw (u.7, w.4) refl,
        )

    level_read : {l : Level} {d : ℕ} {ts rest : List SpannedTok} {e : bare.Expr C} → (a : IsLevel f src l d ts rest e) →
        Sends f src en ns (IsSide f src l d) (side_form f l b) (λ ts rest e a k. spanned_side f src k a) → Gives f src en ns (level_form f l b) ts rest e (λ k. spanned_level f src k a)
    unfolding g.level
    level_read {l} {ts = ts} {rest = rest} (level a e) i k =
        let u = row_read a i k in
        (u.3, u.4, (start_at (at ts k), at ts k, (refl, refl), (u.0, u.1, u.2, u.6 u.3 (at rest u.4) (no_turn e))), u.5, u.7)

    not_read : {d : ℕ} {ts rest : List SpannedTok} {e : bare.Expr C} → (a : IsNot f src d ts rest e) → Nested f src en ns d b →
        Sends f src en ns (IsCmp f src d) (g.compared_level (g.sum_level f b)) (λ ts rest e a k. spanned_cmp f src k a) → Gives f src en ns (g.not_level f b) ts rest e (λ k. spanned_not f src k a)
    unfolding g.not_level
    not_read {rest = rest} (opposite {s = s} {ts = ts} a) h i k =
        let u = h.opposite _ _ _ a s in
        (tree.unary logical_not u.0 (expanded s u.1), u.1, inl (refl, (s, at ts s, mark_taken f src en ns not_word s ts k refl, (u.0, at rest u.1, u.2, (u.1, at rest u.1, (refl, refl), (refl, refl))))), ap (bare.unary logical_not) u.3, rw u.4 refl)
    not_read (no_not e a) h i k = let u = i _ _ _ a k in (u.0, u.1, inr (e, u.2), u.3, u.4)

    comparisons_read : {d : ℕ} {ts rest : List SpannedTok} {cs : bare.Comparisons C} → (a : AreComparisons f src d ts rest cs) →
        Sends f src en ns (IsLevel f src sum_level d) (g.sum_level f b) (λ ts rest e a k. spanned_level f src k a) → GivesComparisons b ts rest cs (λ k. spanned_comparisons f src k a)
    unfolding g.comparison
    comparisons_read {rest = rest} (no_comparison e) i sofar k =
        ([], k, subst (λ z. TurnsOf (g.of_kind begins_comparison) (g.comparison (g.sum_level f b)) sofar (at rest k) (at rest k) z) (sym (append_nil sofar)) (no_turn (none_comes f src en ns begins_comparison rest e)), refl, refl)
    comparisons_read {ts = ts} {rest = rest} (compared_to {us = us} {vs = vs} {o = o} h a c) i sofar k =
        let j = cmp_op_read f src en ns h k in
        let u = i _ _ _ a j.4 in
        let w = comparisons_read c i (sofar ++ (o, u.0) ∷ []) u.1 in
        let tk : Takes (g.of_kind begins_comparison) (at ts k) (at j.1 j.0.1) j.0 = record { token = j.0; rest = j.1; next = j.2; holds = kind_held f src en ns begins_comparison j.0 j.3; behind = refl } in (
          (o, u.0) ∷ w.0,
          w.1,
          turn tk (o, at us j.4, j.5, (u.0, at vs u.1, u.2, (refl, refl)))
              (subst (λ z. TurnsOf (g.of_kind begins_comparison) (g.comparison (g.sum_level f b)) (sofar ++ (o, u.0) ∷ []) (at vs u.1) (at rest w.1) z) (append_assoc sofar ((o, u.0) ∷ []) w.0) w.2),
          rw (u.3, w.3) refl,
          rw (j.6, u.4, w.4) refl,
        )

    cmp_read : {d : ℕ} {ts rest : List SpannedTok} {e : bare.Expr C} → (a : IsCmp f src d ts rest e) →
        Sends f src en ns (IsLevel f src sum_level d) (g.sum_level f b) (λ ts rest e a k. spanned_level f src k a) → Gives f src en ns (g.compared_level (g.sum_level f b)) ts rest e (λ k. spanned_cmp f src k a)
    unfolding g.compared_level
    cmp_read {ts = ts} {rest = rest} (comparison {us = us} a c) i k =
        let u = i _ _ _ a k in
        let w = comparisons_read c i [] u.1 in (
          g.compare_all u.0 w.0 (expanded k w.1),
          w.1,
          (k, at ts k, (refl, refl), (u.0, at us u.1, u.2, (w.0, at rest w.1, w.2, (w.1, at rest w.1, (refl, refl), (refl, refl))))),
          bare_all u.0 w.0 (expanded k w.1) ∙ rw (u.3, w.3) refl,
          rw (u.4, w.4) refl,
        )

    ifs_read : {d : ℕ} {ts rest : List SpannedTok} {e : bare.Expr C} → (a : IsIfs f src d ts rest e) → Nested f src en ns d b →
        Sends f src en ns (IsLevel f src or_level d) (g.or_level f b) (λ ts rest e a k. spanned_level f src k a) → GivesIfs b ts rest e (λ k. spanned_ifs f src k a)
    unfolding g.if_turn
    ifs_read {rest = rest} (no_if a) h i k = let u = i _ _ _ a k in (u.0, at rest u.1, u.2, (u.0, k), u.1, u.3, (λ z r m. m), rw u.4 refl)
    ifs_read {rest = rest} (if_alone {s = s} {us = us} a c e) h i k =
        let u = ifs_read a h i k in
        let w = i _ _ _ c s in (
          u.0,
          u.1,
          u.2,
          (tree.if_expr w.0 u.3.0 tree.absent (expanded u.3.1 w.1), w.1),
          w.1,
          rw (w.3, u.5) refl,
          λ z r m. u.6 z r (turn (mark_taken f src en ns if_word s us u.4 refl)
              (w.0, at rest w.1, w.2, (None, at rest w.1, inr (e, (refl, refl)), (w.1, at rest w.1, (refl, refl), (refl, refl)))) m),
          rw (u.7, w.4) refl,
        )
    ifs_read {rest = rest} (if_else {s = s} {r = q} {us = us} {vs = vs} a c o) h i k =
        let u = ifs_read a h i k in
        let w = i _ _ _ c s in
        let v = h.expr _ _ _ (expr o) q in (
          u.0,
          u.1,
          u.2,
          (tree.if_expr w.0 u.3.0 (tree.present v.0) (expanded u.3.1 v.1), v.1),
          v.1,
          rw (w.3, u.5, v.3) refl,
          λ z r m. u.6 z r (turn (mark_taken f src en ns if_word s us u.4 refl) (
            w.0,
            at ((else_word, q) ∷ vs) w.1,
            w.2,
            (
              Some v.0,
              at rest v.1,
              inl (refl, (q, at vs q, mark_taken f src en ns else_word q vs w.1 refl, (v.0, at rest v.1, v.2, (refl, refl)))),
              (v.1, at rest v.1, (refl, refl), (refl, refl)),
            ),
          ) m),
          rw (u.7, w.4, v.4) refl,
        )

    cond_read : {d : ℕ} {ts rest : List SpannedTok} {e : bare.Expr C} → (a : IsCond f src d ts rest e) → Nested f src en ns d b →
        Sends f src en ns (IsLevel f src or_level d) (g.or_level f b) (λ ts rest e a k. spanned_level f src k a) → Gives f src en ns (g.cond_level f b) ts rest e (λ k. spanned_cond f src k a)
    unfolding g.cond
    cond_read {ts = ts} {rest = rest} (cond a e) h i k =
        let u = ifs_read a h i k in
        (u.3.0, u.4, (k, at ts k, (refl, refl), (u.0, u.1, u.2, (u.3, at rest u.4, u.6 u.3 (at rest u.4) (no_turn (no_mark f src en ns if_word rest e)), (refl, refl)))), u.5, rw u.7 refl)

    -- ---- what may be absent

    maybe_read : {d : ℕ} {ts rest : List SpannedTok} {e : bare.Optional C} → (a : IsExprIfAny f src d ts rest e) → Nested f src en ns d b → GivesOptional (g.maybe_expr b.expr) ts rest e (λ k. spanned_expr_if_any f src k a)
    maybe_read (no_expr e) h k = (None, k, inr (e, (refl, refl)), refl, refl)
    maybe_read {rest = rest} (one_expr a) h k =
        let u = h.expr _ _ _ a k in
        (Some u.0, u.1, inl (expr_begins f src a, (u.0, at rest u.1, u.2, (refl, refl))), ap bare.present u.3, rw u.4 refl)

    step_read : {d : ℕ} {ts rest : List SpannedTok} {e : bare.Optional C} → (a : IsStep f src d ts rest e) → Nested f src en ns d b → GivesOptional (g.step b.expr) ts rest e (λ k. spanned_step f src k a)
    step_read (no_step e) h k = (None, k, inr (e, (refl, refl)), refl, refl)
    step_read {rest = rest} (by_step {s = s} {ts = ts} a) h k =
        let u = maybe_read a h s in
        (u.0, u.1, inl (refl, (s, at ts s, mark_taken f src en ns colon s ts k refl, u.2)), u.3, u.4)

    -- ---- primaries

    text_begun : (t : Tok) (s : Span) (x : Text) → text_of t ≡ Some x → (q r : Place) (y : Expr C) → Derives (g.texts f s x) q r y → Derives (g.begun b.expr f (t, s)) q r y
    text_begun (str z) s x e q r y m = subst (λ w. Derives (g.texts f s w) q r y) (sym (same_text z x e)) m
    text_begun (string z) s x e q r y m = subst (λ w. Derives (g.texts f s w) q r y) (sym (same_text z x e)) m
    text_begun _ s x e q r y m = cc

    primary_read : {d : ℕ} {ts rest : List SpannedTok} {e : bare.Expr C} → (a : IsPrimary f src (suc d) ts rest e) → Nested f src en ns d b → Gives f src en ns (g.primary b.expr f) ts rest e (λ k. spanned_primary f src k a)
    unfolding g.primary g.word g.texts g.group g.rest_of_group g.in_brackets g.in_braces
    primary_read (true_word {x = x} {s = s} {rest = rest} e) h k = (tree.constant (f.of_bool true) s, s, ((ident x, s), at rest s, kind_taken f src en ns begins_primary (ident x, s) rest k refl, (refl, true_is f x s e)), refl, refl)
    primary_read (false_word {x = x} {s = s} {rest = rest} e) h k = (tree.constant (f.of_bool false) s, s, ((ident x, s), at rest s, kind_taken f src en ns begins_primary (ident x, s) rest k refl, (refl, false_is f x s e)), refl, refl)
    primary_read (none_word {x = x} {s = s} {rest = rest} e) h k = (tree.constant f.none s, s, ((ident x, s), at rest s, kind_taken f src en ns begins_primary (ident x, s) rest k refl, (refl, none_is f x s e)), refl, refl)
    primary_read (name {x = x} {s = s} {rest = rest} e) h k = (tree.variable x s, s, ((ident x, s), at rest s, kind_taken f src en ns begins_primary (ident x, s) rest k refl, (refl, name_is f x s e)), refl, refl)
    primary_read {rest = rest} (texts {t = t} {s = s} {x = x} {y = y} {ts = ts} e w) h k =
        let u = texts_read f src en ns w x s in (
          tree.constant (f.of_str (x ++ y)) (expanded s u.0),
          u.0,
          (
            (t, s),
            at ts s,
            kind_taken f src en ns begins_primary (t, s) ts k (text_begins t x e),
            text_begun t s x e (at ts s) (at rest u.0) (tree.constant (f.of_str (x ++ y)) (expanded s u.0)) (x ++ y, at rest u.0, u.1, (u.0, at rest u.0, (refl, refl), (refl, refl))),
          ),
          refl,
          rw u.2 refl,
        )
    primary_read (integer {n = n} {s = s} {rest = rest}) h k = (tree.constant (f.of_u64 n) s, s, ((int n, s), at rest s, kind_taken f src en ns begins_primary (int n, s) rest k refl, (refl, refl)), refl, refl)
    primary_read (large_integer {n = n} {s = s} {rest = rest}) h k = (tree.constant (f.of_u128 n) s, s, ((int128 n, s), at rest s, kind_taken f src en ns begins_primary (int128 n, s) rest k refl, (refl, refl)), refl, refl)
    primary_read (empty_tuple {s = s} {r = r} {rest = rest}) h k = (
      tree.tuple tree.no_more (expanded s r),
      r,
      (
        (paren_open, s),
        at ((paren_close, r) ∷ rest) s,
        kind_taken f src en ns begins_primary (paren_open, s) _ k refl,
        inl (refl, (r, at rest r, mark_taken f src en ns paren_close r rest s refl, (r, at rest r, (refl, refl), (refl, refl)))),
      ),
      refl,
      refl,
    )
    primary_read {rest = rest} (parentheses {s = s} {r = r} {ts = ts} a) h k =
        let u = h.expr _ _ _ a s in (
          u.0,
          r,
          (
            (paren_open, s),
            at ts s,
            kind_taken f src en ns begins_primary (paren_open, s) ts k refl,
            inr (no_close ts (expr_begins f src a), (u.0, at ((paren_close, r) ∷ rest) u.1, u.2, inr (refl, (r, at rest r, mark_taken f src en ns paren_close r rest u.1 refl, (refl, refl))))),
          ),
          u.3,
          rw u.4 refl,
        )
    primary_read {rest = rest} (tuple_of {s = s} {q = q} {r = r} {ts = ts} {us = us} a c) h k =
        let u = h.expr _ _ _ a s in
        let w = exprs_read f src en ns b c h (u.0 ∷ []) q in (
          tree.tuple (exprs_of (u.0 ∷ w.0)) (expanded s r),
          r,
          (
            (paren_open, s),
            at ts s,
            kind_taken f src en ns begins_primary (paren_open, s) ts k refl,
            inr (
              no_close ts (expr_begins f src a),
              (
                u.0,
                at ((comma, q) ∷ us) u.1,
                u.2,
                inl (
                  refl,
                  (
                    q,
                    at us q,
                    mark_taken f src en ns comma q us u.1 refl,
                    (u.0 ∷ w.0, at ((paren_close, r) ∷ rest) w.1, w.2, (r, at rest r, mark_taken f src en ns paren_close r rest w.1 refl, (r, at rest r, (refl, refl), (refl, refl)))),
                  ),
                ),
              ),
            ),
          ),
          rw (u.3, w.3) refl,
          rw (u.4, w.4) refl,
        )
    primary_read {rest = rest} (list_of {s = s} {r = r} {ts = ts} a) h k =
        let w = exprs_read f src en ns b a h [] s in (
          tree.list (exprs_of w.0) (expanded s r),
          r,
          (
            (bracket_open, s),
            at ts s,
            kind_taken f src en ns begins_primary (bracket_open, s) ts k refl,
            (w.0, at ((bracket_close, r) ∷ rest) w.1, w.2, (r, at rest r, mark_taken f src en ns bracket_close r rest w.1 refl, (r, at rest r, (refl, refl), (refl, refl)))),
          ),
          rw w.3 refl,
          rw w.4 refl,
        )
    primary_read {rest = rest} (map_of {s = s} {r = r} {ts = ts} a) h k =
        let w = entries_read f src en ns b a h [] [] s in (
          tree.map (exprs_of w.0) (exprs_of w.1) (expanded s r),
          r,
          (
            (brace_open, s),
            at ts s,
            kind_taken f src en ns begins_primary (brace_open, s) ts k refl,
            ((w.0, w.1), at ((brace_close, r) ∷ rest) w.2, w.3, (r, at rest r, mark_taken f src en ns brace_close r rest w.2 refl, (r, at rest r, (refl, refl), (refl, refl)))),
          ),
          rw (w.4, w.5) refl,
          rw w.6 refl,
        )

    -- ---- operands

    postfixed_read : {d : ℕ} {ts rest : List SpannedTok} {e : bare.Expr C} → (a : IsPostfixed f src d ts rest e) → Nested f src en ns d b → GivesPostfixed b ts rest e (λ k. spanned_postfixed f src k a)
    unfolding g.member g.subscript g.rest_of_subscript g.range
    postfixed_read {ts = ts} {rest = rest} (no_postfix a) h k = let u = h.primary _ _ _ a k in (u.0, at rest u.1, u.2, (u.0, start_at (at ts k)), u.1, u.3, (λ z r m. m), rw u.4 refl)
    postfixed_read {rest = rest} (dot_ident {s = s} {r = q} {x = x} a) h k =
        let u = postfixed_read a h k in (
          u.0,
          u.1,
          u.2,
          (tree.attribute u.3.0 x (expanded u.3.1 q), s),
          q,
          rw u.5 refl,
          λ z r m. u.6 z r (turn (kind_taken f src en ns begins_postfix (dot, s) ((ident x, q) ∷ rest) u.4 refl) (
            tree.attribute u.3.0 x (expanded u.3.1 q),
            at rest q,
            ((ident x, q), at rest q, kind_taken f src en ns (g.begins_member b.expr) (ident x, q) rest s refl, (q, at rest q, (refl, refl), (refl, refl))),
            (refl, refl),
          ) m),
          rw u.7 refl,
        )
    postfixed_read {rest = rest} (dot_int {s = s} {r = q} {n = n} a) h k =
        let u = postfixed_read a h k in (
          u.0,
          u.1,
          u.2,
          (tree.item u.3.0 (tree.constant (f.of_u64 n) q) (expanded u.3.1 q), s),
          q,
          rw u.5 refl,
          λ z r m. u.6 z r (turn (kind_taken f src en ns begins_postfix (dot, s) ((int n, q) ∷ rest) u.4 refl) (
            tree.item u.3.0 (tree.constant (f.of_u64 n) q) (expanded u.3.1 q),
            at rest q,
            ((int n, q), at rest q, kind_taken f src en ns (g.begins_member b.expr) (int n, q) rest s refl, (q, at rest q, (refl, refl), (refl, refl))),
            (refl, refl),
          ) m),
          rw u.7 refl,
        )
    postfixed_read {rest = rest} (dot_int128 {s = s} {r = q} {n = n} a) h k =
        let u = postfixed_read a h k in (
          u.0,
          u.1,
          u.2,
          (tree.item u.3.0 (tree.constant (f.of_u128 n) q) (expanded u.3.1 q), s),
          q,
          rw u.5 refl,
          λ z r m. u.6 z r (turn (kind_taken f src en ns begins_postfix (dot, s) ((int128 n, q) ∷ rest) u.4 refl) (
            tree.item u.3.0 (tree.constant (f.of_u128 n) q) (expanded u.3.1 q),
            at rest q,
            ((int128 n, q), at rest q, kind_taken f src en ns (g.begins_member b.expr) (int128 n, q) rest s refl, (q, at rest q, (refl, refl), (refl, refl))),
            (refl, refl),
          ) m),
          rw u.7 refl,
        )
    postfixed_read {rest = rest} (subscript {s = s} {r = q} {us = us} a c) h k =
        let u = postfixed_read a h k in
        let w = h.expr _ _ _ c s in (
          u.0,
          u.1,
          u.2,
          (tree.item u.3.0 w.0 (expanded u.3.1 q), s),
          q,
          rw (u.5, w.3) refl,
          λ z r m. u.6 z r (turn (kind_taken f src en ns begins_postfix (bracket_open, s) us u.4 refl) (
            tree.item u.3.0 w.0 (expanded u.3.1 q),
            at rest q,
            inr (no_colon us (expr_begins f src c), (w.0, at ((bracket_close, q) ∷ rest) w.1, w.2, inr (refl, (q, at rest q, mark_taken f src en ns bracket_close q rest w.1 refl, (q, at rest q, (refl, refl), (refl, refl)))))),
            (refl, refl),
          ) m),
          rw (u.7, w.4) refl,
        )
    postfixed_read {rest = rest} (range {s = s} {q = q} {r = o} {vs = vs} {ws = ws} a (no_expr e) c v) h k =
        let u = postfixed_read a h k in
        let w = maybe_read c h q in
        let y = step_read v h w.1 in (
          u.0,
          u.1,
          u.2,
          (tree.slice u.3.0 tree.absent (optional_of w.0) (optional_of y.0) (expanded u.3.1 o), s),
          o,
          rw (u.5, w.3, y.3) refl,
          λ z r m. u.6 z r (turn (kind_taken f src en ns begins_postfix (bracket_open, s) ((colon, q) ∷ vs) u.4 refl) (
            tree.slice u.3.0 tree.absent (optional_of w.0) (optional_of y.0) (expanded u.3.1 o),
            at rest o,
            inl (refl, (q, at vs q, mark_taken f src en ns colon q vs s refl, (w.0, at ws w.1, w.2, (y.0, at ((bracket_close, o) ∷ rest) y.1, y.2, (o, at rest o, mark_taken f src en ns bracket_close o rest y.1 refl, (o, at rest o, (refl, refl), (refl, refl))))))),
            (refl, refl),
          ) m),
          rw (u.7, w.4, y.4) refl,
        )
    postfixed_read {rest = rest} (range {s = s} {q = q} {r = o} {us = us} {vs = vs} {ws = ws} a (one_expr e) c v) h k =
        let u = postfixed_read a h k in
        let x = h.expr _ _ _ e s in
        let w = maybe_read c h q in
        let y = step_read v h w.1 in (
          u.0,
          u.1,
          u.2,
          (tree.slice u.3.0 (tree.present x.0) (optional_of w.0) (optional_of y.0) (expanded u.3.1 o), s),
          o,
          rw (u.5, x.3, w.3, y.3) refl,
          λ z r m. u.6 z r (turn (kind_taken f src en ns begins_postfix (bracket_open, s) us u.4 refl) (
            tree.slice u.3.0 (tree.present x.0) (optional_of w.0) (optional_of y.0) (expanded u.3.1 o),
            at rest o,
            inr (
              no_colon us (expr_begins f src e),
              (
                x.0,
                at ((colon, q) ∷ vs) x.1,
                x.2,
                inl (refl, (q, at vs q, mark_taken f src en ns colon q vs x.1 refl, (w.0, at ws w.1, w.2, (y.0, at ((bracket_close, o) ∷ rest) y.1, y.2, (o, at rest o, mark_taken f src en ns bracket_close o rest y.1 refl, (o, at rest o, (refl, refl), (refl, refl))))))),
              ),
            ),
            (refl, refl),
          ) m),
          rw (u.7, x.4, w.4, y.4) refl,
        )
    postfixed_read {rest = rest} (called a (args {s = s} {ts = vs} c e n)) h k =
        let u = postfixed_read a h k in
        let w = args_after f src en ns b c e n h s in (
          u.0,
          u.1,
          u.2,
          (tree.call u.3.0 (args_of w.0) (expanded u.3.1 w.1), s),
          w.1,
          rw (u.5, w.3) refl,
          λ z r m. u.6 z r (turn (kind_taken f src en ns begins_postfix (paren_open, s) vs u.4 refl) (
            tree.call u.3.0 (args_of w.0) (expanded u.3.1 w.1),
            at rest w.1,
            (w.0, at rest w.1, w.2, (w.1, at rest w.1, (refl, refl), (refl, refl))),
            (refl, refl),
          ) m),
          rw (u.7, ap (λ v. v.0) w.4, sym (ap (λ v. v.1) w.4)) refl,
        )

    operand_read : {d : ℕ} {ts rest : List SpannedTok} {e : bare.Expr C} → (a : IsOperand f src d ts rest e) → Nested f src en ns d b → Gives f src en ns (g.operand f b) ts rest e (λ k. spanned_operand f src k a)
    unfolding g.operand g.postfixed
    operand_read {rest = rest} (negated {s = s} {ts = ts} a) h k =
        let u = h.negated _ _ _ a s in
        (tree.unary negation u.0 (expanded s u.1), u.1, inl (refl, (s, at ts s, mark_taken f src en ns minus s ts k refl, (u.0, at rest u.1, u.2, (u.1, at rest u.1, (refl, refl), (refl, refl))))), ap (bare.unary negation) u.3, rw u.4 refl)
    operand_read {ts = ts} {rest = rest} (no_minus a e) h k =
        let u = postfixed_read a h k in
        (u.3.0, u.4, inr (postfixed_no_minus f src a, (start_at (at ts k), at ts k, (refl, refl), (u.0, u.1, u.2, (u.3, at rest u.4, u.6 u.3 (at rest u.4) (no_turn (none_comes f src en ns begins_postfix rest e)), (refl, refl))))), u.5, rw u.7 refl)

    test_args_read : {d : ℕ} {ts rest : List SpannedTok} {zs : bare.Args C} → (a : AreTestArgs f src d ts rest zs) → Nested f src en ns d b → GivesArgs f src en ns (g.test_args f b) ts rest zs (λ k. spanned_test_args f src k a)
    unfolding g.test_args
    test_args_read (no_test_args e i) h k = ([], k, inr (e, inr (i, (refl, refl))), refl, refl)
    test_args_read (in_parentheses (args {s = s} {ts = ts} a e c)) h k =
        let u = args_after f src en ns b a e c h s in
        (u.0, u.1, inl (refl, (s, at ts s, mark_taken f src en ns paren_open s ts k refl, u.2)), u.3, u.4)
    test_args_read {ts = ts} {rest = rest} (bare_arg e a) h k =
        let u = operand_read a h k in
        (tree.positional u.0 ∷ [], u.1, inr (bare_no_paren ts e, inl (e, (u.0, at rest u.1, u.2, (refl, refl)))), rw u.3 refl, rw u.4 refl)

    -- ---- filters and tests

    named_test_read : {d : ℕ} {us vs rest : List SpannedTok} {x : Text} {zs : bare.Args C} → (n : IsName src us vs x) → (a : AreTestArgs f src d vs rest zs) → Nested f src en ns d b → (e : Expr C) →
        Gives f src en ns (g.named_test f b e) us rest (bare.test (bare_expr e) x zs)
        (λ k. (tree.test e x (args_of (spanned_test_args f src (end_of_name n) a).0) (expanded (first_span k us) (spanned_test_args f src (end_of_name n) a).1), (spanned_test_args f src (end_of_name n) a).1))
    unfolding g.named_test
    named_test_read {us = us} {vs = vs} {rest = rest} {x = x} n a h e k =
        let u = name_read f src en ns n k in
        let w = test_args_read a h u.0 in
        (tree.test e x (args_of w.0) (expanded (start_at (at us k)) w.1), w.1, (start_at (at us k), at us k, (refl, refl), (x, at vs u.0, u.1, (w.0, at rest w.1, w.2, (w.1, at rest w.1, (refl, refl), (refl, refl))))), rw w.3 refl, rw (u.2, w.4) refl)

    suffixed_read : {d : ℕ} {ts rest : List SpannedTok} {e : bare.Expr C} → (a : IsSuffixed f src d ts rest e) → Nested f src en ns d b → GivesSuffixed b ts rest e (λ k. spanned_suffixed f src k a)
    unfolding g.filtered g.any_test
    suffixed_read {rest = rest} (no_suffix a) h k = let u = operand_read a h k in (u.0, at rest u.1, u.2, u.0, u.1, u.3, (λ z r m. m), u.4)
    suffixed_read {rest = rest} (filtered {s = s} {us = us} {vs = vs} {x = x} a n c) h k =
        let u = suffixed_read a h k in
        let y = name_read f src en ns n s in
        let w = args_if_any f src en ns b c h y.0 in (
          u.0,
          u.1,
          u.2,
          tree.filter (tree.present u.3) x (args_of w.0) (expanded (start_at (at us s)) w.1),
          w.1,
          rw (u.5, w.3) refl,
          λ z r m. u.6 z r (turn (kind_taken f src en ns begins_suffix (pipe, s) us u.4 refl) (
            tree.filter (tree.present u.3) x (args_of w.0) (expanded (start_at (at us s)) w.1),
            at rest w.1,
            (start_at (at us s), at us s, (refl, refl), (x, at vs y.0, y.1, (w.0, at rest w.1, w.2, (w.1, at rest w.1, (refl, refl), (refl, refl))))),
            (refl, refl),
          ) m),
          rw (u.7, y.2, w.4) refl,
        )
    suffixed_read {rest = rest} (tested {s = s} {us = us} a e n c) h k =
        let u = suffixed_read a h k in
        let w = named_test_read n c h u.3 s in (
          u.0,
          u.1,
          u.2,
          w.0,
          w.1,
          w.3 ∙ rw u.5 refl,
          λ z r m. u.6 z r (turn (kind_taken f src en ns begins_suffix (is_word, s) us u.4 refl) (w.0, at rest w.1, inr (e, w.2), (refl, refl)) m),
          rw u.7 w.4,
        )
    suffixed_read {rest = rest} (tested_not {s = s} {r = q} {us = us} a n c) h k =
        let u = suffixed_read a h k in
        let w = named_test_read n c h u.3 q in (
          u.0,
          u.1,
          u.2,
          tree.unary logical_not w.0 (expanded (start_at (at us q)) w.1),
          w.1,
          ap (bare.unary logical_not) (w.3 ∙ rw u.5 refl),
          λ z r m. u.6 z r (turn (kind_taken f src en ns begins_suffix (is_word, s) ((not_word, q) ∷ us) u.4 refl) (
            tree.unary logical_not w.0 (expanded (start_at (at us q)) w.1),
            at rest w.1,
            inl (refl, (q, at us q, mark_taken f src en ns not_word q us s refl, (start_at (at us q), at us q, (refl, refl), (w.0, at rest w.1, w.2, (w.1, at rest w.1, (refl, refl), (refl, refl)))))),
            (refl, refl),
          ) m),
          rw (u.7, ap (λ v. v.0) w.4, ap (λ v. v.1) w.4) refl,
        )

    unary_read : {d : ℕ} {ts rest : List SpannedTok} {e : bare.Expr C} → (a : IsUnary f src d ts rest e) → Nested f src en ns d b → Gives f src en ns (g.unary_level f b) ts rest e (λ k. spanned_unary f src k a)
    unfolding g.unary_level
    unary_read {rest = rest} (suffixed a e) h k =
        let u = suffixed_read a h k in
        (u.3, u.4, (u.0, u.1, u.2, u.6 u.3 (at rest u.4) (no_turn (none_comes f src en ns begins_suffix rest e))), u.5, u.7)

    -- ---- all levels of a depth

    module _ (d : ℕ) (h : Nested f src en ns d b) where
      pow_all : Sends f src en ns (IsPow f src d) (g.pow_level f b) (λ ts rest e a k. spanned_pow f src k a)
      pow_all ts rest e a = pow_read a h (λ us vs x c. unary_read c h)

      term_side : Sends f src en ns (IsSide f src term_level d) (g.pow_level f b) (λ ts rest e a k. spanned_side f src k a)
      term_side ts rest e (side_of_term a) = pow_all ts rest e a

      cat_side : Sends f src en ns (IsSide f src cat_level d) (g.term_level f b) (λ ts rest e a k. spanned_side f src k a)
      cat_side ts rest e (side_of_cat a) = level_read a term_side

      sum_side : Sends f src en ns (IsSide f src sum_level d) (g.cat_level f b) (λ ts rest e a k. spanned_side f src k a)
      sum_side ts rest e (side_of_sum a) = level_read a cat_side

      sum_all : Sends f src en ns (IsLevel f src sum_level d) (g.sum_level f b) (λ ts rest e a k. spanned_level f src k a)
      sum_all ts rest e a = level_read a sum_side

      not_all : Sends f src en ns (IsNot f src d) (g.not_level f b) (λ ts rest e a k. spanned_not f src k a)
      not_all ts rest e a = not_read a h (λ us vs x c. cmp_read c sum_all)

      and_side : Sends f src en ns (IsSide f src and_level d) (g.not_level f b) (λ ts rest e a k. spanned_side f src k a)
      and_side ts rest e (side_of_and a) = not_all ts rest e a

      or_side : Sends f src en ns (IsSide f src or_level d) (g.and_level f b) (λ ts rest e a k. spanned_side f src k a)
      or_side ts rest e (side_of_or a) = level_read a and_side

      pub or_all : Sends f src en ns (IsLevel f src or_level d) (g.or_level f b) (λ ts rest e a k. spanned_level f src k a)
      or_all ts rest e a = level_read a or_side

      cond_all : Sends f src en ns (IsCond f src d) (g.cond_level f b) (λ ts rest e a k. spanned_cond f src k a)
      cond_all ts rest e a = cond_read a h or_all

      expr_all : Sends f src en ns (IsExpr f src (suc d)) (g.cond_level f b) (λ ts rest e a k. spanned_expr f src k a)
      expr_all ts rest e (expr a) = cond_all ts rest e a

      primary_all : Sends f src en ns (IsPrimary f src (suc d)) (g.primary b.expr f) (λ ts rest e a k. spanned_primary f src k a)
      primary_all ts rest e a = primary_read a h

      deeper_all : Nested f src en ns (suc d) (g.deeper f b)
      deeper_all = record { expr = expr_all; opposite = not_all; power = pow_all; negated = λ ts rest e a. operand_read a h; primary = primary_all }

  no_expr_at_zero : (form : Form (Expr C)) → Sends f src en ns (IsExpr f src zero) form (λ ts rest e a k. spanned_expr f src k a)
  no_expr_at_zero form ts rest e a = elim a [ ]

  no_primary_at_zero : (form : Form (Expr C)) → Sends f src en ns (IsPrimary f src zero) form (λ ts rest e a k. spanned_primary f src k a)
  no_primary_at_zero form ts rest e a = elim a [ ]

  pub all_nested : (d : ℕ) → Nested f src en ns d (below f d)
  unfolding below
  all_nested zero = record { expr = no_expr_at_zero nothing; opposite = λ ts rest e a. absurd a; power = λ ts rest e a. absurd a; negated = λ ts rest e a. absurd a; primary = no_primary_at_zero nothing }
  all_nested (suc d) = deeper_all (below f d) d (all_nested d)

  -- every expression that the relations give is derived by the form of its depth, with the tree of
  -- its derivation
  pub expr_is_derived : (d : ℕ) (ts rest : List SpannedTok) (e : bare.Expr C) → (a : IsExpr f src d ts rest e) → Gives f src en ns (g.expr_at f d) ts rest e (λ k. spanned_expr f src k a)
  expr_is_derived d ts rest e a = (all_nested d).expr ts rest e a
