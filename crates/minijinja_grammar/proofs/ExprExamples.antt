-- Expressions that the grammar derives.
use Rattle.std.proofs.Common.{◌≡◌, ℕ, suc, false, List, [], ◌∷◌, None, refl, arith}
use Rattle.std.specs.Prelude.{codes}
use Rattle.minijinja_syntax.specs.Texts.{Text}
use Rattle.minijinja_value.specs.Values.{Functions}
use Rattle.minijinja_syntax.specs.declared.tokens.Span.{Span}
use Rattle.minijinja_syntax.specs.Streams.{SpannedTok}
use Rattle.minijinja_syntax.specs.Tokens.{ident, str, int, plus, minus, mul, pow, dot, comma, colon, assign, pipe, lt, bracket_open, bracket_close, paren_open, paren_close, brace_open, brace_close}
use Rattle.minijinja_tree.specs.BinOps as bin
use Rattle.minijinja_tree.specs.CompareOps as cmp
use Rattle.minijinja_tree.specs.Tree.{logical_not, negation, Expr, variable, constant, slice, unary, binary, compare, if_expr, filter, test, attribute, call, list, tuple, map, absent, present, no_more, more, compared, against, no_args, pos, pos_splat, kwarg}
use Rattle.minijinja_grammar.specs.Words.{is, if_word, else_word, not_word, in_word, is_word, begins_postfix, begins_suffix, begins_comparison}
use Rattle.minijinja_grammar.specs.Ahead.{comes, held_next, held, plain_name, no_text, one_text, one_token, not_in_words, or_level, and_level, sum_level, cat_level, term_level, operator}
use Rattle.minijinja_grammar.specs.Expressions.{IsExpr, expr, cond, no_if, if_alone, if_else, IsLevel, level, no_operator, operation, side_of_or, side_of_and, side_of_sum, side_of_cat, side_of_term, IsNot, opposite, no_not, comparison, no_comparison, compared_to, IsPow, no_power, power, IsUnary, suffixed, no_suffix, filtered, tested_not, no_arguments, no_test_args, negated, no_minus, no_postfix, dot_ident, range, called, no_expr, one_expr, no_step, args, positional, keyword, starred, no_more_args, more_args, IsPrimary, name, texts, integer, empty_tuple, tuple_of, list_of, map_of, no_exprs, exprs, more_exprs, entries, no_more_entries}
use Rattle.minijinja_grammar.specs.Examples.{ExprExamples}

-- no operator, and nothing else that an expression could go on with, comes next
pub record Closes (ts : List SpannedTok) : Type 0 where
  pub postfix : comes begins_postfix ts ≡ false
  pub suffix : comes begins_suffix ts ≡ false
  pub power : comes (is pow) ts ≡ false
  pub term : held_next (held (operator term_level)) ts ≡ None
  pub cat : held_next (held (operator cat_level)) ts ≡ None
  pub sum : held_next (held (operator sum_level)) ts ≡ None
  pub compared : comes begins_comparison ts ≡ false
  pub «and» : held_next (held (operator and_level)) ts ≡ None
  pub «or» : held_next (held (operator or_level)) ts ≡ None
  pub «if» : comes (is if_word) ts ≡ false

at_end : Closes []
at_end = record { postfix = refl; suffix = refl; power = refl; term = refl; cat = refl; sum = refl; compared = refl; «and» = refl; «or» = refl; «if» = refl }

module _ {C F : Type 0} (f : Functions C F) (src : Text) where
  pub one : {d : ℕ} {ts rest : List SpannedTok} {e : Expr C} → IsPrimary f src d ts rest e → comes begins_postfix rest ≡ false → comes begins_suffix rest ≡ false → IsUnary f src d ts rest e
  one a e h = suffixed (no_suffix (no_minus (no_postfix a) e)) h

  term_of : {d : ℕ} {ts rest : List SpannedTok} {e : Expr C} → IsPow f src d ts rest e → held_next (held (operator term_level)) rest ≡ None → IsLevel f src term_level d ts rest e
  term_of a h = level (no_operator (side_of_term a)) h

  cat_of : {d : ℕ} {ts rest : List SpannedTok} {e : Expr C} → IsLevel f src term_level d ts rest e → held_next (held (operator cat_level)) rest ≡ None → IsLevel f src cat_level d ts rest e
  cat_of a h = level (no_operator (side_of_cat a)) h

  sum_of : {d : ℕ} {ts rest : List SpannedTok} {e : Expr C} → IsLevel f src cat_level d ts rest e → held_next (held (operator sum_level)) rest ≡ None → IsLevel f src sum_level d ts rest e
  sum_of a h = level (no_operator (side_of_sum a)) h

  -- a unary, as a whole sum
  pub small : {d : ℕ} {ts rest : List SpannedTok} {e : Expr C} → IsUnary f src d ts rest e → comes (is pow) rest ≡ false → held_next (held (operator term_level)) rest ≡ None →
      held_next (held (operator cat_level)) rest ≡ None → held_next (held (operator sum_level)) rest ≡ None → IsLevel f src sum_level d ts rest e
  small a p t c s = sum_of (cat_of (term_of (no_power a p) t) c) s

  pub or_of : {d : ℕ} {ts rest : List SpannedTok} {e : Expr C} → IsNot f src d ts rest e → held_next (held (operator and_level)) rest ≡ None → held_next (held (operator or_level)) rest ≡ None → IsLevel f src or_level d ts rest e
  or_of a h k = level (no_operator (side_of_or (level (no_operator (side_of_and a)) h))) k

  whole : {d : ℕ} {ts rest : List SpannedTok} {e : Expr C} → IsNot f src d ts rest e → Closes rest → IsExpr f src (suc d) ts rest e
  whole a h = expr (cond (no_if (or_of a h.«and» h.«or»)) h.«if»)

  of_sum : {d : ℕ} {ts rest : List SpannedTok} {e : Expr C} → comes (is not_word) ts ≡ false → IsLevel f src sum_level d ts rest e → Closes rest → IsExpr f src (suc d) ts rest e
  of_sum n a h = whole (no_not n (comparison a (no_comparison h.compared))) h

  of_pow : {d : ℕ} {ts rest : List SpannedTok} {e : Expr C} → comes (is not_word) ts ≡ false → IsPow f src d ts rest e → Closes rest → IsExpr f src (suc d) ts rest e
  of_pow n a h = of_sum n (sum_of (cat_of (term_of a h.term) h.cat) h.sum) h

  pub of_unary : {d : ℕ} {ts rest : List SpannedTok} {e : Expr C} → comes (is not_word) ts ≡ false → IsUnary f src d ts rest e → Closes rest → IsExpr f src (suc d) ts rest e
  of_unary n a h = of_pow n (no_power a h.power) h

  pub of_primary : {d : ℕ} {ts rest : List SpannedTok} {e : Expr C} → comes (is not_word) ts ≡ false → IsPrimary f src d ts rest e → Closes rest → IsExpr f src (suc d) ts rest e
  of_primary n a h = of_unary n (one a h.postfix h.suffix) h

  module _ (o : Span) where
    abbrev vx : Expr C
    vx = variable (codes "x")

    abbrev vy : Expr C
    vy = variable (codes "y")

    abbrev vz : Expr C
    vz = variable (codes "z")

    abbrev c : ℕ → Expr C
    c k = constant (f.of_u64 k)

    at_close : (ts : List SpannedTok) → Closes ((paren_close, o) ∷ ts)
    at_close ts = record { postfix = refl; suffix = refl; power = refl; term = refl; cat = refl; sum = refl; compared = refl; «and» = refl; «or» = refl; «if» = refl }

    at_bracket : (ts : List SpannedTok) → Closes ((bracket_close, o) ∷ ts)
    at_bracket ts = record { postfix = refl; suffix = refl; power = refl; term = refl; cat = refl; sum = refl; compared = refl; «and» = refl; «or» = refl; «if» = refl }

    at_comma : (ts : List SpannedTok) → Closes ((comma, o) ∷ ts)
    at_comma ts = record { postfix = refl; suffix = refl; power = refl; term = refl; cat = refl; sum = refl; compared = refl; «and» = refl; «or» = refl; «if» = refl }

    at_colon : (ts : List SpannedTok) → Closes ((colon, o) ∷ ts)
    at_colon ts = record { postfix = refl; suffix = refl; power = refl; term = refl; cat = refl; sum = refl; compared = refl; «and» = refl; «or» = refl; «if» = refl }

    at_assign : (ts : List SpannedTok) → Closes ((assign, o) ∷ ts)
    at_assign ts = record { postfix = refl; suffix = refl; power = refl; term = refl; cat = refl; sum = refl; compared = refl; «and» = refl; «or» = refl; «if» = refl }

    at_brace : (ts : List SpannedTok) → Closes ((brace_close, o) ∷ ts)
    at_brace ts = record { postfix = refl; suffix = refl; power = refl; term = refl; cat = refl; sum = refl; compared = refl; «and» = refl; «or» = refl; «if» = refl }

    -- `x`
    a_name : (d : ℕ) → IsExpr f src (suc (suc d)) ((ident (codes "x"), o) ∷ []) [] vx
    a_name d = of_primary refl (name refl) at_end

    -- `2 ** 3 ** 2` is 2 ** (3 ** 2), from depth 4 on
    powers : (d : ℕ) → IsExpr f src (suc (suc (suc (suc d)))) ((int 2, o) ∷ (pow, o) ∷ (int 3, o) ∷ (pow, o) ∷ (int 2, o) ∷ []) []
        (binary bin.pow (c 2) (binary bin.pow (c 3) (c 2)))
    powers d = of_pow refl (power (one integer refl refl) (power (one integer refl refl) (no_power (one integer refl refl) refl))) at_end

    -- `-2 ** 2` is (-2) ** 2
    negated_power : (d : ℕ) → IsExpr f src (suc (suc (suc d))) ((minus, o) ∷ (int 2, o) ∷ (pow, o) ∷ (int 2, o) ∷ []) [] (binary bin.pow (unary negation (c 2)) (c 2))
    negated_power d = of_pow refl (power (suffixed (no_suffix (negated (no_minus (no_postfix integer) refl))) refl) (no_power (one integer refl refl) refl)) at_end

    -- `not not x`
    not_not : (d : ℕ) → IsExpr f src (suc (suc (suc (suc d)))) ((not_word, o) ∷ (not_word, o) ∷ (ident (codes "x"), o) ∷ []) [] (unary logical_not (unary logical_not vx))
    not_not d = whole (opposite (opposite (no_not refl (comparison (small (one (name refl) refl refl) refl refl refl refl) (no_comparison refl))))) at_end

    -- `x - y - z` groups to the left
    differences : (d : ℕ) → IsExpr f src (suc (suc d)) ((ident (codes "x"), o) ∷ (minus, o) ∷ (ident (codes "y"), o) ∷ (minus, o) ∷ (ident (codes "z"), o) ∷ []) [] (binary bin.sub (binary bin.sub vx vy) vz)
    differences d = of_sum refl (level (operation (operation (no_operator (side_of_sum (cat_of (term_of (no_power (one (name refl) refl refl) refl) refl) refl))) refl
        (side_of_sum (cat_of (term_of (no_power (one (name refl) refl refl) refl) refl) refl))) refl (side_of_sum (cat_of (term_of (no_power (one (name refl) refl refl) refl) refl) refl))) refl) at_end

    -- `x + 1 * 2`
    sum_and_product : (d : ℕ) → IsExpr f src (suc (suc d)) ((ident (codes "x"), o) ∷ (plus, o) ∷ (int 1, o) ∷ (mul, o) ∷ (int 2, o) ∷ []) [] (binary bin.add vx (binary bin.mul (c 1) (c 2)))
    sum_and_product d = of_sum refl (level (operation (no_operator (side_of_sum (cat_of (term_of (no_power (one (name refl) refl refl) refl) refl) refl))) refl
        (side_of_sum (cat_of (level (operation (no_operator (side_of_term (no_power (one integer refl refl) refl))) refl (side_of_term (no_power (one integer refl refl) refl))) refl) refl))) refl) at_end

    -- `x if y if z else 1` is (x if y) if z else 1
    two_ifs : (d : ℕ) → IsExpr f src (suc (suc (suc d))) ((ident (codes "x"), o) ∷ (if_word, o) ∷ (ident (codes "y"), o) ∷ (if_word, o) ∷ (ident (codes "z"), o) ∷ (else_word, o) ∷ (int 1, o) ∷ []) []
        (if_expr vz (if_expr vy vx absent) (present (c 1)))
    two_ifs d = expr (cond (if_else (if_alone (no_if (plain (one (name refl) refl refl) refl refl refl refl refl refl refl refl)) (plain (one (name refl) refl refl) refl refl refl refl refl refl refl refl) refl)
        (plain (one (name refl) refl refl) refl refl refl refl refl refl refl refl) (cond (no_if (plain (one integer refl refl) refl refl refl refl refl refl refl refl)) refl)) refl)
      where
        plain : {k : ℕ} {ts rest : List SpannedTok} {e : Expr C} → IsUnary f src k ts rest e → comes (is not_word) ts ≡ false → comes (is pow) rest ≡ false → held_next (held (operator term_level)) rest ≡ None →
            held_next (held (operator cat_level)) rest ≡ None → held_next (held (operator sum_level)) rest ≡ None → comes begins_comparison rest ≡ false →
            held_next (held (operator and_level)) rest ≡ None → held_next (held (operator or_level)) rest ≡ None → IsLevel f src or_level k ts rest e
        plain a n p t q s m i j = or_of (no_not n (comparison (small a p t q s) (no_comparison m))) i j

    -- `x < y < z`
    chain : (d : ℕ) → IsExpr f src (suc (suc d)) ((ident (codes "x"), o) ∷ (lt, o) ∷ (ident (codes "y"), o) ∷ (lt, o) ∷ (ident (codes "z"), o) ∷ []) [] (compare vx (against cmp.lt vy (against cmp.lt vz compared)))
    chain d = whole (no_not refl (comparison (small (one (name refl) refl refl) refl refl refl refl) (compared_to (one_token refl) (small (one (name refl) refl refl) refl refl refl refl)
        (compared_to (one_token refl) (small (one (name refl) refl refl) refl refl refl refl) (no_comparison refl))))) at_end

    -- `x not in y` is not (x in y)
    not_in_example : (d : ℕ) → IsExpr f src (suc (suc d)) ((ident (codes "x"), o) ∷ (not_word, o) ∷ (in_word, o) ∷ (ident (codes "y"), o) ∷ []) [] (unary logical_not (binary bin.is_in vx vy))
    not_in_example d = whole (no_not refl (comparison (small (one (name refl) refl refl) refl refl refl refl) (compared_to not_in_words (small (one (name refl) refl refl) refl refl refl refl) (no_comparison refl)))) at_end

    -- `(x, 1,)`
    pair_example : (d : ℕ) → IsExpr f src (suc (suc (suc (suc d)))) ((paren_open, o) ∷ (ident (codes "x"), o) ∷ (comma, o) ∷ (int 1, o) ∷ (comma, o) ∷ (paren_close, o) ∷ []) [] (tuple (more vx (more (c 1) no_more)))
    pair_example d = of_primary refl (tuple_of (of_primary refl (name refl) (at_comma _)) (exprs (of_primary refl integer (at_comma _)) (more_exprs (no_exprs refl)))) at_end

    -- `[]` and `()`
    empty_list : (d : ℕ) → IsExpr f src (suc (suc d)) ((bracket_open, o) ∷ (bracket_close, o) ∷ []) [] (list no_more)
    empty_list d = of_primary refl (list_of (no_exprs refl)) at_end

    no_items : (d : ℕ) → IsExpr f src (suc (suc d)) ((paren_open, o) ∷ (paren_close, o) ∷ []) [] (tuple no_more)
    no_items d = of_primary refl empty_tuple at_end

    -- `{x: 1}`
    map_example : (d : ℕ) → IsExpr f src (suc (suc (suc (suc d)))) ((brace_open, o) ∷ (ident (codes "x"), o) ∷ (colon, o) ∷ (int 1, o) ∷ (brace_close, o) ∷ []) [] (map (more vx no_more) (more (c 1) no_more))
    map_example d = of_primary refl (map_of (entries (of_primary refl (name refl) (at_colon _)) (of_primary refl integer (at_brace _)) (no_more_entries refl))) at_end

    -- `x.y[1:]`
    range_example : (d : ℕ) → IsExpr f src (suc (suc (suc (suc d)))) ((ident (codes "x"), o) ∷ (dot, o) ∷ (ident (codes "y"), o) ∷ (bracket_open, o) ∷ (int 1, o) ∷ (colon, o) ∷ (bracket_close, o) ∷ []) []
        (slice (attribute vx (codes "y")) (present (c 1)) absent absent)
    range_example d = of_unary refl (suffixed (no_suffix (no_minus (range (dot_ident (no_postfix (name refl))) (one_expr (of_primary refl integer (at_colon _))) (no_expr refl) (no_step refl)) refl)) refl) at_end

    -- `x(1, *y, z=1)`
    call_example : (d : ℕ) → IsExpr f src (suc (suc (suc (suc d)))) ((ident (codes "x"), o) ∷ (paren_open, o) ∷ (int 1, o) ∷ (comma, o) ∷ (mul, o) ∷ (ident (codes "y"), o) ∷ (comma, o) ∷ (ident (codes "z"), o) ∷ (assign, o) ∷ (int 1, o) ∷ (paren_close, o) ∷ []) []
        (call vx (pos (c 1) (pos_splat vy (kwarg (codes "z") (c 1) no_args))))
    call_example d = of_unary refl (suffixed (no_suffix (no_minus (called (no_postfix (name refl)) (args (positional (of_primary refl integer (at_comma _)) refl (more_args (starred (of_primary refl (name refl) (at_comma _))
        (more_args (keyword (of_primary refl (name refl) (at_assign _)) (of_primary refl integer (at_close _)) (no_more_args refl)))))) refl (omega arith))) refl)) refl) at_end

    -- `x | y is not z`: a filter, then the opposite of a test
    filter_and_test : (d : ℕ) → IsExpr f src (suc (suc d)) ((ident (codes "x"), o) ∷ (pipe, o) ∷ (ident (codes "y"), o) ∷ (is_word, o) ∷ (not_word, o) ∷ (ident (codes "z"), o) ∷ []) []
        (unary logical_not (test (filter (present vx) (codes "y") no_args) (codes "z") no_args))
    filter_and_test d = of_unary refl (suffixed (tested_not (filtered (no_suffix (no_minus (no_postfix (name refl)) refl)) (plain_name refl) (no_arguments refl)) (plain_name refl) (no_test_args refl refl)) refl) at_end

    -- `"a" "b"` is one text
    joined_texts : (d : ℕ) → IsExpr f src (suc (suc d)) ((str (codes "a"), o) ∷ (str (codes "b"), o) ∷ []) [] (constant (f.of_str (codes "ab")))
    joined_texts d = of_primary refl (texts refl (one_text refl (no_text refl))) at_end

pub exprs_derived : {C F : Type 0} (f : Functions C F) → ExprExamples f
exprs_derived f = record {
  variable_alone = λ source o. record { unrefused = refl; derived = a_name f source o 298 };
  power_groups_right = λ source o. record { unrefused = refl; derived = powers f source o 296 };
  minus_before_power = λ source o. record { unrefused = refl; derived = negated_power f source o 297 };
  two_nots = λ source o. record { unrefused = refl; derived = not_not f source o 296 };
  difference_groups_left = λ source o. record { unrefused = refl; derived = differences f source o 298 };
  product_in_sum = λ source o. record { unrefused = refl; derived = sum_and_product f source o 298 };
  if_without_else_first = λ source o. record { unrefused = refl; derived = two_ifs f source o 297 };
  chain_of_comparisons = λ source o. record { unrefused = refl; derived = chain f source o 298 };
  not_in_is_not_of_in = λ source o. record { unrefused = refl; derived = not_in_example f source o 298 };
  tuple_of_none = λ source o. record { unrefused = refl; derived = no_items f source o 298 };
  pair_with_last_comma = λ source o. record { unrefused = refl; derived = pair_example f source o 296 };
  list_of_none = λ source o. record { unrefused = refl; derived = empty_list f source o 298 };
  map_of_one = λ source o. record { unrefused = refl; derived = map_example f source o 296 };
  attribute_and_slice = λ source o. record { unrefused = refl; derived = range_example f source o 296 };
  arguments_of_each_kind = λ source o. record { unrefused = refl; derived = call_example f source o 296 };
  filter_then_opposite_of_test = λ source o. record { unrefused = refl; derived = filter_and_test f source o 298 };
  texts_join = λ source o. record { unrefused = refl; derived = joined_texts f source o 298 };
}
