-- Where the nodes of an expression stand: the tree of its derivation with spans.
--
-- Each function takes where the token before a part stands, and gives the tree of the part and
-- where the token taken last stands then, which is the one before where the part takes none. A node
-- ends with the last token of its part, and begins at the first one, but for these: an if
-- expression and a comparison begin at the token before them, a filter, a test and the `not` of an
-- `is not` at the name, and an attribute, an item, a slice and a call at the postfix before them,
-- or at the operand where there is none.
use Rattle.std.specs.Prelude.{ℕ, true, false, List, [], ◌∷◌, ◌++◌, Option, Some, None}
use Rattle.minijinja_syntax.specs.Texts.{Text}
use Rattle.minijinja_syntax.specs.Positions.{expanded}
use Rattle.minijinja_syntax.specs.declared.tokens.Span.{Span}
use Rattle.minijinja_syntax.specs.Streams.{SpannedTok}
use Rattle.minijinja_value.specs.Values.{Functions}
use Rattle.minijinja_tree.specs.BinOps as bin
use Rattle.minijinja_tree.specs.CompareOps as cmp
use Rattle.minijinja_tree.specs.CompareOps.{CompareOp}
use Rattle.minijinja_tree.specs.Tree as bare
use Rattle.minijinja_tree.specs.Tree.{logical_not, negation}
use Rattle.minijinja_tree.specs.SpannedTrees as tree
use Rattle.minijinja_tree.specs.SpannedTrees.{Expr, variable, constant, slice, unary, binary, compare, if_expr, filter, test, attribute, item, call, list, tuple, absent, present, Arg, optional_of, exprs_of, comparisons_of, args_of}
use Rattle.minijinja_grammar.specs.TokenSpans.{first_span}
use Rattle.minijinja_grammar.specs.Ahead.{IsName, plain_name, dotted_name, IsTexts, no_text, one_text, IsCmpOp, one_token, not_in_words, Level}
use Rattle.minijinja_grammar.specs.Expressions.{IsExpr, expr, IsCond, cond, IsIfs, no_if, if_alone, if_else, IsLevel, level, IsRow, no_operator, operation, IsSide, side_of_or, side_of_and, side_of_sum, side_of_cat, side_of_term, IsNot, opposite, no_not, IsCmp, comparison, AreComparisons, no_comparison, compared_to, IsPow, no_power, power, IsUnary, suffixed, IsSuffixed, no_suffix, filtered, tested, tested_not, AreArgsIfAny, no_arguments, arguments, AreTestArgs, no_test_args, in_parentheses, bare_arg, IsOperand, negated, no_minus, IsPostfixed, no_postfix, dot_ident, dot_int, dot_int128, subscript, range, called, IsExprIfAny, no_expr, one_expr, IsStep, no_step, by_step, AreArgs, args, AreArgItems, no_arg, positional, keyword, starred, double_starred, AreMoreArgs, no_more_args, more_args, IsPrimary, true_word, false_word, none_word, name, texts, integer, large_integer, empty_tuple, parentheses, tuple_of, list_of, map_of, AreExprs, no_exprs, exprs, AreMoreExprs, no_more_exprs, more_exprs, AreEntries, no_entries, entries, AreMoreEntries, no_more_entries, more_entries}

-- ---- the last tokens of parts that have no node

abbrev pub end_of_name : {source : Text} {ts rest : List SpannedTok} {x : Text} → IsName source ts rest x → Span
end_of_name (plain_name {s = s} e) = s
end_of_name (dotted_name {to = to} e d) = to

abbrev pub end_of_texts : {ts rest : List SpannedTok} {x : Text} → (before : Span) → IsTexts ts rest x → Span
end_of_texts before (no_text e) = before
end_of_texts before (one_text {s = s} e w) = end_of_texts s w

abbrev pub end_of_operator : {ts rest : List SpannedTok} {o : CompareOp} → IsCmpOp ts rest o → Span
end_of_operator (one_token {s = s} e) = s
end_of_operator (not_in_words {r = r}) = r

-- ---- comparisons

-- one comparison
abbrev pub compare_two : {C : Type 0} → Span → CompareOp → Expr C → Expr C → Expr C
compare_two s cmp.eq l r = binary bin.eq l r s
compare_two s cmp.ne l r = binary bin.ne l r s
compare_two s cmp.lt l r = binary bin.lt l r s
compare_two s cmp.lte l r = binary bin.lte l r s
compare_two s cmp.gt l r = binary bin.gt l r s
compare_two s cmp.gte l r = binary bin.gte l r s
compare_two s cmp.is_in l r = binary bin.is_in l r s
compare_two s cmp.not_in l r = unary logical_not (binary bin.is_in l r s) s

-- none is the operand, and two or more are a chain
abbrev pub compare_all : {C : Type 0} → Expr C → List (CompareOp × Expr C) → Span → Expr C
compare_all e [] s = e
compare_all e (c ∷ []) s = compare_two s c.0 e c.1
compare_all e (c ∷ d ∷ cs) s = compare e (comparisons_of (c ∷ d ∷ cs)) s

module _ {C F : Type 0} (f : Functions C F) (source : Text) where
  abbrev mutual
    pub spanned_expr : {d : ℕ} {ts rest : List SpannedTok} {e : bare.Expr C} → (before : Span) → IsExpr f source d ts rest e → Expr C × Span
    spanned_expr before (expr a) = spanned_cond before a

    pub spanned_cond : {d : ℕ} {ts rest : List SpannedTok} {e : bare.Expr C} → (before : Span) → IsCond f source d ts rest e → Expr C × Span
    spanned_cond before (cond a i) = let x = spanned_ifs before a in (x.0.0, x.1)

    -- beside the tree, where the node of a further `if` begins
    pub spanned_ifs : {d : ℕ} {ts rest : List SpannedTok} {e : bare.Expr C} → (before : Span) → IsIfs f source d ts rest e → (Expr C × Span) × Span
    spanned_ifs before (no_if a) = let x = spanned_level before a in ((x.0, before), x.1)
    spanned_ifs before (if_alone {s = s} a c i) =
        let x = spanned_ifs before a in
        let t = spanned_level s c in
        ((if_expr t.0 x.0.0 absent (expanded x.0.1 t.1), t.1), t.1)
    spanned_ifs before (if_else {s = s} {r = r} a c o) =
        let x = spanned_ifs before a in
        let t = spanned_level s c in
        let y = spanned_cond r o in
        ((if_expr t.0 x.0.0 (present y.0) (expanded x.0.1 y.1), y.1), y.1)

    pub spanned_level : {l : Level} {d : ℕ} {ts rest : List SpannedTok} {e : bare.Expr C} → (before : Span) → IsLevel f source l d ts rest e → Expr C × Span
    spanned_level before (level a i) = spanned_row before a

    pub spanned_row : {l : Level} {d : ℕ} {ts rest : List SpannedTok} {e : bare.Expr C} → (before : Span) → IsRow f source l d ts rest e → Expr C × Span
    spanned_row before (no_operator a) = spanned_side before a
    spanned_row before (operation {s = s} {o = o} {ts = ts} a i c) =
        let x = spanned_row before a in
        let y = spanned_side s c in
        (binary o x.0 y.0 (expanded (first_span before ts) y.1), y.1)

    pub spanned_side : {l : Level} {d : ℕ} {ts rest : List SpannedTok} {e : bare.Expr C} → (before : Span) → IsSide f source l d ts rest e → Expr C × Span
    spanned_side before (side_of_or a) = spanned_level before a
    spanned_side before (side_of_and a) = spanned_not before a
    spanned_side before (side_of_sum a) = spanned_level before a
    spanned_side before (side_of_cat a) = spanned_level before a
    spanned_side before (side_of_term a) = spanned_pow before a

    pub spanned_not : {d : ℕ} {ts rest : List SpannedTok} {e : bare.Expr C} → (before : Span) → IsNot f source d ts rest e → Expr C × Span
    spanned_not before (opposite {s = s} a) = let x = spanned_not s a in (unary logical_not x.0 (expanded s x.1), x.1)
    spanned_not before (no_not i a) = spanned_cmp before a

    pub spanned_cmp : {d : ℕ} {ts rest : List SpannedTok} {e : bare.Expr C} → (before : Span) → IsCmp f source d ts rest e → Expr C × Span
    spanned_cmp before (comparison a c) =
        let x = spanned_level before a in
        let cs = spanned_comparisons x.1 c in
        (compare_all x.0 cs.0 (expanded before cs.1), cs.1)

    pub spanned_comparisons : {d : ℕ} {ts rest : List SpannedTok} {cs : bare.Comparisons C} → (before : Span) → AreComparisons f source d ts rest cs → List (CompareOp × Expr C) × Span
    spanned_comparisons before (no_comparison i) = ([], before)
    spanned_comparisons before (compared_to {o = o} h a c) =
        let x = spanned_level (end_of_operator h) a in
        let cs = spanned_comparisons x.1 c in
        ((o, x.0) ∷ cs.0, cs.1)

    pub spanned_pow : {d : ℕ} {ts rest : List SpannedTok} {e : bare.Expr C} → (before : Span) → IsPow f source d ts rest e → Expr C × Span
    spanned_pow before (no_power a i) = spanned_unary before a
    spanned_pow before (power {s = s} {ts = ts} a c) =
        let x = spanned_unary before a in
        let y = spanned_pow s c in
        (binary bin.pow x.0 y.0 (expanded (first_span before ts) y.1), y.1)

    pub spanned_unary : {d : ℕ} {ts rest : List SpannedTok} {e : bare.Expr C} → (before : Span) → IsUnary f source d ts rest e → Expr C × Span
    spanned_unary before (suffixed a i) = spanned_suffixed before a

    pub spanned_suffixed : {d : ℕ} {ts rest : List SpannedTok} {e : bare.Expr C} → (before : Span) → IsSuffixed f source d ts rest e → Expr C × Span
    spanned_suffixed before (no_suffix a) = spanned_operand before a
    spanned_suffixed before (filtered {s = s} {us = us} {x = x} a n c) =
        let e = spanned_suffixed before a in
        let xs = spanned_args_if_any (end_of_name n) c in
        (filter (present e.0) x (args_of xs.0) (expanded (first_span s us) xs.1), xs.1)
    spanned_suffixed before (tested {s = s} {us = us} {x = x} a i n c) =
        let e = spanned_suffixed before a in
        let xs = spanned_test_args (end_of_name n) c in
        (test e.0 x (args_of xs.0) (expanded (first_span s us) xs.1), xs.1)
    spanned_suffixed before (tested_not {r = r} {us = us} {x = x} a n c) =
        let e = spanned_suffixed before a in
        let xs = spanned_test_args (end_of_name n) c in
        let at = expanded (first_span r us) xs.1 in
        (unary logical_not (test e.0 x (args_of xs.0) at) at, xs.1)

    pub spanned_args_if_any : {d : ℕ} {ts rest : List SpannedTok} {xs : bare.Args C} → (before : Span) → AreArgsIfAny f source d ts rest xs → List (Arg C) × Span
    spanned_args_if_any before (no_arguments i) = ([], before)
    spanned_args_if_any before (arguments a) = spanned_args a

    pub spanned_test_args : {d : ℕ} {ts rest : List SpannedTok} {xs : bare.Args C} → (before : Span) → AreTestArgs f source d ts rest xs → List (Arg C) × Span
    spanned_test_args before (no_test_args i j) = ([], before)
    spanned_test_args before (in_parentheses a) = spanned_args a
    spanned_test_args before (bare_arg i a) = let x = spanned_operand before a in (tree.positional x.0 ∷ [], x.1)

    pub spanned_operand : {d : ℕ} {ts rest : List SpannedTok} {e : bare.Expr C} → (before : Span) → IsOperand f source d ts rest e → Expr C × Span
    spanned_operand before (negated {s = s} a) = let x = spanned_operand s a in (unary negation x.0 (expanded s x.1), x.1)
    spanned_operand before (no_minus a i) = let x = spanned_postfixed before a in (x.0.0, x.1)

    -- beside the tree, where the node of a further postfix begins
    pub spanned_postfixed : {d : ℕ} {ts rest : List SpannedTok} {e : bare.Expr C} → (before : Span) → IsPostfixed f source d ts rest e → (Expr C × Span) × Span
    spanned_postfixed before (no_postfix {ts = ts} a) = let x = spanned_primary before a in ((x.0, first_span before ts), x.1)
    spanned_postfixed before (dot_ident {s = s} {r = r} {x = x} a) = let e = spanned_postfixed before a in ((attribute e.0.0 x (expanded e.0.1 r), s), r)
    spanned_postfixed before (dot_int {s = s} {r = r} {n = n} a) =
        let e = spanned_postfixed before a in
        ((item e.0.0 (constant (f.of_u64 n) r) (expanded e.0.1 r), s), r)
    spanned_postfixed before (dot_int128 {s = s} {r = r} {n = n} a) =
        let e = spanned_postfixed before a in
        ((item e.0.0 (constant (f.of_u128 n) r) (expanded e.0.1 r), s), r)
    spanned_postfixed before (subscript {s = s} {r = r} a c) =
        let e = spanned_postfixed before a in
        let i = spanned_expr s c in
        ((item e.0.0 i.0 (expanded e.0.1 r), s), r)
    spanned_postfixed before (range {s = s} {q = q} {r = r} a start stop step) =
        let e = spanned_postfixed before a in
        let x = spanned_expr_if_any s start in
        let y = spanned_expr_if_any q stop in
        let z = spanned_step y.1 step in
        ((slice e.0.0 (optional_of x.0) (optional_of y.0) (optional_of z.0) (expanded e.0.1 r), s), r)
    spanned_postfixed before (called {us = us} a c) =
        let e = spanned_postfixed before a in
        let xs = spanned_args c in
        ((call e.0.0 (args_of xs.0) (expanded e.0.1 xs.1), first_span e.1 us), xs.1)

    pub spanned_expr_if_any : {d : ℕ} {ts rest : List SpannedTok} {e : bare.Optional C} → (before : Span) → IsExprIfAny f source d ts rest e → Option (Expr C) × Span
    spanned_expr_if_any before (no_expr i) = (None, before)
    spanned_expr_if_any before (one_expr a) = let x = spanned_expr before a in (Some x.0, x.1)

    pub spanned_step : {d : ℕ} {ts rest : List SpannedTok} {e : bare.Optional C} → (before : Span) → IsStep f source d ts rest e → Option (Expr C) × Span
    spanned_step before (no_step i) = (None, before)
    spanned_step before (by_step {s = s} a) = spanned_expr_if_any s a

    pub spanned_args : {d : ℕ} {ts rest : List SpannedTok} {xs : bare.Args C} → AreArgs f source d ts rest xs → List (Arg C) × Span
    spanned_args (args {s = s} {r = r} a i j) = let xs = spanned_arg_items s a in (xs.0, r)

    pub spanned_arg_items : {d : ℕ} {ts rest : List SpannedTok} {xs : bare.Args C} → (before : Span) → AreArgItems f source d ts rest xs → List (Arg C) × Span
    spanned_arg_items before (no_arg i) = ([], before)
    spanned_arg_items before (positional a i m) =
        let x = spanned_expr before a in
        let xs = spanned_more_args x.1 m in
        (tree.positional x.0 ∷ xs.0, xs.1)
    spanned_arg_items before (keyword {s = s} {x = word} a c m) =
        let x = spanned_expr s c in
        let xs = spanned_more_args x.1 m in
        (tree.keyword word x.0 ∷ xs.0, xs.1)
    spanned_arg_items before (starred {s = s} a m) =
        let x = spanned_expr s a in
        let xs = spanned_more_args x.1 m in
        (tree.starred x.0 ∷ xs.0, xs.1)
    spanned_arg_items before (double_starred {s = s} a m) =
        let x = spanned_expr s a in
        let xs = spanned_more_args x.1 m in
        (tree.double_starred x.0 ∷ xs.0, xs.1)

    pub spanned_more_args : {d : ℕ} {ts rest : List SpannedTok} {xs : bare.Args C} → (before : Span) → AreMoreArgs f source d ts rest xs → List (Arg C) × Span
    spanned_more_args before (no_more_args i) = ([], before)
    spanned_more_args before (more_args {s = s} a) = spanned_arg_items s a

    -- a variable stands where its identifier does
    pub spanned_primary : {d : ℕ} {ts rest : List SpannedTok} {e : bare.Expr C} → (before : Span) → IsPrimary f source d ts rest e → Expr C × Span
    spanned_primary before (true_word {s = s} i) = (constant (f.of_bool true) s, s)
    spanned_primary before (false_word {s = s} i) = (constant (f.of_bool false) s, s)
    spanned_primary before (none_word {s = s} i) = (constant f.none s, s)
    spanned_primary before (name {x = x} {s = s} i) = (variable x s, s)
    spanned_primary before (texts {s = s} {x = x} {y = y} i w) =
        let to = end_of_texts s w in
        (constant (f.of_str (x ++ y)) (expanded s to), to)
    spanned_primary before (integer {n = n} {s = s}) = (constant (f.of_u64 n) s, s)
    spanned_primary before (large_integer {n = n} {s = s}) = (constant (f.of_u128 n) s, s)
    spanned_primary before (empty_tuple {s = s} {r = r}) = (tuple tree.no_more (expanded s r), r)
    spanned_primary before (parentheses {s = s} {r = r} a) = let x = spanned_expr s a in (x.0, r)
    spanned_primary before (tuple_of {s = s} {q = q} {r = r} a c) =
        let x = spanned_expr s a in
        let xs = spanned_exprs q c in
        (tuple (exprs_of (x.0 ∷ xs.0)) (expanded s r), r)
    spanned_primary before (list_of {s = s} {r = r} a) = let xs = spanned_exprs s a in (list (exprs_of xs.0) (expanded s r), r)
    spanned_primary before (map_of {s = s} {r = r} a) = let xs = spanned_entries s a in (tree.map (exprs_of xs.0.0) (exprs_of xs.0.1) (expanded s r), r)

    pub spanned_exprs : {d : ℕ} {ts rest : List SpannedTok} {es : bare.Exprs C} → (before : Span) → AreExprs f source d ts rest es → List (Expr C) × Span
    spanned_exprs before (no_exprs i) = ([], before)
    spanned_exprs before (exprs a m) =
        let x = spanned_expr before a in
        let xs = spanned_more_exprs x.1 m in
        (x.0 ∷ xs.0, xs.1)

    pub spanned_more_exprs : {d : ℕ} {ts rest : List SpannedTok} {es : bare.Exprs C} → (before : Span) → AreMoreExprs f source d ts rest es → List (Expr C) × Span
    spanned_more_exprs before (no_more_exprs i) = ([], before)
    spanned_more_exprs before (more_exprs {s = s} a) = spanned_exprs s a

    -- keys and values
    pub spanned_entries : {d : ℕ} {ts rest : List SpannedTok} {ks vs : bare.Exprs C} → (before : Span) → AreEntries f source d ts rest ks vs → (List (Expr C) × List (Expr C)) × Span
    spanned_entries before (no_entries i) = (([], []), before)
    spanned_entries before (entries {s = s} a c m) =
        let k = spanned_expr before a in
        let v = spanned_expr s c in
        let xs = spanned_more_entries v.1 m in
        ((k.0 ∷ xs.0.0, v.0 ∷ xs.0.1), xs.1)

    pub spanned_more_entries : {d : ℕ} {ts rest : List SpannedTok} {ks vs : bare.Exprs C} → (before : Span) → AreMoreEntries f source d ts rest ks vs → (List (Expr C) × List (Expr C)) × Span
    spanned_more_entries before (no_more_entries i) = (([], []), before)
    spanned_more_entries before (more_entries {s = s} a) = spanned_entries s a
