-- What is derived at a depth is derived at each larger one.
use Rattle.std.proofs.Common.{ℕ, suc, List}
use Rattle.minijinja_syntax.specs.Texts.{Text}
use Rattle.minijinja_value.specs.Values.{Functions}
use Rattle.minijinja_syntax.specs.Streams.{SpannedTok}
use Rattle.minijinja_tree.specs.Tree.{Expr, Optional, Exprs, Comparisons, Args}
use Rattle.minijinja_grammar.specs.Ahead.{Level}
use Rattle.minijinja_grammar.specs.Expressions.{IsExpr, IsCond, IsIfs, IsLevel, IsRow, IsSide, IsNot, IsCmp, AreComparisons, IsPow, IsUnary, IsSuffixed, AreArgsIfAny, AreTestArgs, IsOperand, IsPostfixed, IsExprIfAny, IsStep, AreArgs, AreArgItems, AreMoreArgs, IsPrimary, AreExprs, AreMoreExprs, AreEntries, AreMoreEntries, expr, cond, no_if, if_alone, if_else, level, no_operator, operation, side_of_or, side_of_and, side_of_sum, side_of_cat, side_of_term, opposite, no_not, comparison, no_comparison, compared_to, no_power, power, suffixed, no_suffix, filtered, tested, tested_not, no_arguments, arguments, no_test_args, in_parentheses, bare_arg, negated, no_minus, no_postfix, dot_ident, dot_int, dot_int128, subscript, range, called, no_expr, one_expr, no_step, by_step, args, no_arg, positional, keyword, starred, double_starred, no_more_args, more_args, true_word, false_word, none_word, name, texts, integer, large_integer, empty_tuple, parentheses, tuple_of, list_of, map_of, no_exprs, exprs, no_more_exprs, more_exprs, no_entries, entries, no_more_entries, more_entries}

module _ {C F : Type 0} (f : Functions C F) (src : Text) where
  mutual
    pub deeper_IsExpr : {d : ℕ} {ts : List SpannedTok} {rest : List SpannedTok} {e3 : Expr C} → IsExpr f src d ts rest e3 → IsExpr f src (suc d) ts rest e3
    deeper_IsExpr (expr a0) = expr (deeper_IsCond a0)

    deeper_IsCond : {d : ℕ} {ts : List SpannedTok} {rest : List SpannedTok} {e3 : Expr C} → IsCond f src d ts rest e3 → IsCond f src (suc d) ts rest e3
    deeper_IsCond (cond a0 a1) = cond (deeper_IsIfs a0) a1

    deeper_IsIfs : {d : ℕ} {ts : List SpannedTok} {rest : List SpannedTok} {e3 : Expr C} → IsIfs f src d ts rest e3 → IsIfs f src (suc d) ts rest e3
    deeper_IsIfs (no_if a0) = no_if (deeper_IsLevel a0)
    deeper_IsIfs (if_alone a0 a1 a2) = if_alone (deeper_IsIfs a0) (deeper_IsLevel a1) a2
    deeper_IsIfs (if_else a0 a1 a2) = if_else (deeper_IsIfs a0) (deeper_IsLevel a1) (deeper_IsCond a2)

    pub deeper_IsLevel : {l : Level} {d : ℕ} {ts : List SpannedTok} {rest : List SpannedTok} {e4 : Expr C} → IsLevel f src l d ts rest e4 → IsLevel f src l (suc d) ts rest e4
    deeper_IsLevel (level a0 a1) = level (deeper_IsRow a0) a1

    deeper_IsRow : {l : Level} {d : ℕ} {ts : List SpannedTok} {rest : List SpannedTok} {e4 : Expr C} → IsRow f src l d ts rest e4 → IsRow f src l (suc d) ts rest e4
    deeper_IsRow (no_operator a0) = no_operator (deeper_IsSide a0)
    deeper_IsRow (operation a0 a1 a2) = operation (deeper_IsRow a0) a1 (deeper_IsSide a2)

    deeper_IsSide : {l : Level} {d : ℕ} {ts : List SpannedTok} {rest : List SpannedTok} {e4 : Expr C} → IsSide f src l d ts rest e4 → IsSide f src l (suc d) ts rest e4
    deeper_IsSide (side_of_or a0) = side_of_or (deeper_IsLevel a0)
    deeper_IsSide (side_of_and a0) = side_of_and (deeper_IsNot a0)
    deeper_IsSide (side_of_sum a0) = side_of_sum (deeper_IsLevel a0)
    deeper_IsSide (side_of_cat a0) = side_of_cat (deeper_IsLevel a0)
    deeper_IsSide (side_of_term a0) = side_of_term (deeper_IsPow a0)

    deeper_IsNot : {d : ℕ} {ts : List SpannedTok} {rest : List SpannedTok} {e3 : Expr C} → IsNot f src d ts rest e3 → IsNot f src (suc d) ts rest e3
    deeper_IsNot (opposite a0) = opposite (deeper_IsNot a0)
    deeper_IsNot (no_not a0 a1) = no_not a0 (deeper_IsCmp a1)

    deeper_IsCmp : {d : ℕ} {ts : List SpannedTok} {rest : List SpannedTok} {e3 : Expr C} → IsCmp f src d ts rest e3 → IsCmp f src (suc d) ts rest e3
    deeper_IsCmp (comparison a0 a1) = comparison (deeper_IsLevel a0) (deeper_AreComparisons a1)

    deeper_AreComparisons : {d : ℕ} {ts : List SpannedTok} {rest : List SpannedTok} {e3 : Comparisons C} → AreComparisons f src d ts rest e3 → AreComparisons f src (suc d) ts rest e3
    deeper_AreComparisons (no_comparison a0) = no_comparison a0
    deeper_AreComparisons (compared_to a0 a1 a2) = compared_to a0 (deeper_IsLevel a1) (deeper_AreComparisons a2)

    deeper_IsPow : {d : ℕ} {ts : List SpannedTok} {rest : List SpannedTok} {e3 : Expr C} → IsPow f src d ts rest e3 → IsPow f src (suc d) ts rest e3
    deeper_IsPow (no_power a0 a1) = no_power (deeper_IsUnary a0) a1
    deeper_IsPow (power a0 a1) = power (deeper_IsUnary a0) (deeper_IsPow a1)

    deeper_IsUnary : {d : ℕ} {ts : List SpannedTok} {rest : List SpannedTok} {e3 : Expr C} → IsUnary f src d ts rest e3 → IsUnary f src (suc d) ts rest e3
    deeper_IsUnary (suffixed a0 a1) = suffixed (deeper_IsSuffixed a0) a1

    deeper_IsSuffixed : {d : ℕ} {ts : List SpannedTok} {rest : List SpannedTok} {e3 : Expr C} → IsSuffixed f src d ts rest e3 → IsSuffixed f src (suc d) ts rest e3
    deeper_IsSuffixed (no_suffix a0) = no_suffix (deeper_IsOperand a0)
    deeper_IsSuffixed (filtered a0 a1 a2) = filtered (deeper_IsSuffixed a0) a1 (deeper_AreArgsIfAny a2)
    deeper_IsSuffixed (tested a0 a1 a2 a3) = tested (deeper_IsSuffixed a0) a1 a2 (deeper_AreTestArgs a3)
    deeper_IsSuffixed (tested_not a0 a1 a2) = tested_not (deeper_IsSuffixed a0) a1 (deeper_AreTestArgs a2)

    pub deeper_AreArgsIfAny : {d : ℕ} {ts : List SpannedTok} {rest : List SpannedTok} {e3 : Args C} → AreArgsIfAny f src d ts rest e3 → AreArgsIfAny f src (suc d) ts rest e3
    deeper_AreArgsIfAny (no_arguments a0) = no_arguments a0
    deeper_AreArgsIfAny (arguments a0) = arguments (deeper_AreArgs a0)

    deeper_AreTestArgs : {d : ℕ} {ts : List SpannedTok} {rest : List SpannedTok} {e3 : Args C} → AreTestArgs f src d ts rest e3 → AreTestArgs f src (suc d) ts rest e3
    deeper_AreTestArgs (no_test_args a0 a1) = no_test_args a0 a1
    deeper_AreTestArgs (in_parentheses a0) = in_parentheses (deeper_AreArgs a0)
    deeper_AreTestArgs (bare_arg a0 a1) = bare_arg a0 (deeper_IsOperand a1)

    deeper_IsOperand : {d : ℕ} {ts : List SpannedTok} {rest : List SpannedTok} {e3 : Expr C} → IsOperand f src d ts rest e3 → IsOperand f src (suc d) ts rest e3
    deeper_IsOperand (negated a0) = negated (deeper_IsOperand a0)
    deeper_IsOperand (no_minus a0 a1) = no_minus (deeper_IsPostfixed a0) a1

    deeper_IsPostfixed : {d : ℕ} {ts : List SpannedTok} {rest : List SpannedTok} {e3 : Expr C} → IsPostfixed f src d ts rest e3 → IsPostfixed f src (suc d) ts rest e3
    deeper_IsPostfixed (no_postfix a0) = no_postfix (deeper_IsPrimary a0)
    deeper_IsPostfixed (dot_ident a0) = dot_ident (deeper_IsPostfixed a0)
    deeper_IsPostfixed (dot_int a0) = dot_int (deeper_IsPostfixed a0)
    deeper_IsPostfixed (dot_int128 a0) = dot_int128 (deeper_IsPostfixed a0)
    deeper_IsPostfixed (subscript a0 a1) = subscript (deeper_IsPostfixed a0) (deeper_IsExpr a1)
    deeper_IsPostfixed (range a0 a1 a2 a3) = range (deeper_IsPostfixed a0) (deeper_IsExprIfAny a1) (deeper_IsExprIfAny a2) (deeper_IsStep a3)
    deeper_IsPostfixed (called a0 a1) = called (deeper_IsPostfixed a0) (deeper_AreArgs a1)

    deeper_IsExprIfAny : {d : ℕ} {ts : List SpannedTok} {rest : List SpannedTok} {e3 : Optional C} → IsExprIfAny f src d ts rest e3 → IsExprIfAny f src (suc d) ts rest e3
    deeper_IsExprIfAny (no_expr a0) = no_expr a0
    deeper_IsExprIfAny (one_expr a0) = one_expr (deeper_IsExpr a0)

    deeper_IsStep : {d : ℕ} {ts : List SpannedTok} {rest : List SpannedTok} {e3 : Optional C} → IsStep f src d ts rest e3 → IsStep f src (suc d) ts rest e3
    deeper_IsStep (no_step a0) = no_step a0
    deeper_IsStep (by_step a0) = by_step (deeper_IsExprIfAny a0)

    deeper_AreArgs : {d : ℕ} {ts : List SpannedTok} {rest : List SpannedTok} {e3 : Args C} → AreArgs f src d ts rest e3 → AreArgs f src (suc d) ts rest e3
    deeper_AreArgs (args a0 a1 a2) = args (deeper_AreArgItems a0) a1 a2

    deeper_AreArgItems : {d : ℕ} {ts : List SpannedTok} {rest : List SpannedTok} {e3 : Args C} → AreArgItems f src d ts rest e3 → AreArgItems f src (suc d) ts rest e3
    deeper_AreArgItems (no_arg a0) = no_arg a0
    deeper_AreArgItems (positional a0 a1 a2) = positional (deeper_IsExpr a0) a1 (deeper_AreMoreArgs a2)
    deeper_AreArgItems (keyword a0 a1 a2) = keyword (deeper_IsExpr a0) (deeper_IsExpr a1) (deeper_AreMoreArgs a2)
    deeper_AreArgItems (starred a0 a1) = starred (deeper_IsExpr a0) (deeper_AreMoreArgs a1)
    deeper_AreArgItems (double_starred a0 a1) = double_starred (deeper_IsExpr a0) (deeper_AreMoreArgs a1)

    deeper_AreMoreArgs : {d : ℕ} {ts : List SpannedTok} {rest : List SpannedTok} {e3 : Args C} → AreMoreArgs f src d ts rest e3 → AreMoreArgs f src (suc d) ts rest e3
    deeper_AreMoreArgs (no_more_args a0) = no_more_args a0
    deeper_AreMoreArgs (more_args a0) = more_args (deeper_AreArgItems a0)

    deeper_IsPrimary : {d : ℕ} {ts : List SpannedTok} {rest : List SpannedTok} {e3 : Expr C} → IsPrimary f src d ts rest e3 → IsPrimary f src (suc d) ts rest e3
    deeper_IsPrimary (true_word a0) = true_word a0
    deeper_IsPrimary (false_word a0) = false_word a0
    deeper_IsPrimary (none_word a0) = none_word a0
    deeper_IsPrimary (name a0) = name a0
    deeper_IsPrimary (texts a0 a1) = texts a0 a1
    deeper_IsPrimary integer = integer
    deeper_IsPrimary large_integer = large_integer
    deeper_IsPrimary empty_tuple = empty_tuple
    deeper_IsPrimary (parentheses a0) = parentheses (deeper_IsExpr a0)
    deeper_IsPrimary (tuple_of a0 a1) = tuple_of (deeper_IsExpr a0) (deeper_AreExprs a1)
    deeper_IsPrimary (list_of a0) = list_of (deeper_AreExprs a0)
    deeper_IsPrimary (map_of a0) = map_of (deeper_AreEntries a0)

    pub deeper_AreExprs : {d : ℕ} {ts : List SpannedTok} {rest : List SpannedTok} {e3 : Exprs C} → AreExprs f src d ts rest e3 → AreExprs f src (suc d) ts rest e3
    deeper_AreExprs (no_exprs a0) = no_exprs a0
    deeper_AreExprs (exprs a0 a1) = exprs (deeper_IsExpr a0) (deeper_AreMoreExprs a1)

    deeper_AreMoreExprs : {d : ℕ} {ts : List SpannedTok} {rest : List SpannedTok} {e3 : Exprs C} → AreMoreExprs f src d ts rest e3 → AreMoreExprs f src (suc d) ts rest e3
    deeper_AreMoreExprs (no_more_exprs a0) = no_more_exprs a0
    deeper_AreMoreExprs (more_exprs a0) = more_exprs (deeper_AreExprs a0)

    deeper_AreEntries : {d : ℕ} {ts : List SpannedTok} {rest : List SpannedTok} {e3 : Exprs C} {e4 : Exprs C} → AreEntries f src d ts rest e3 e4 → AreEntries f src (suc d) ts rest e3 e4
    deeper_AreEntries (no_entries a0) = no_entries a0
    deeper_AreEntries (entries a0 a1 a2) = entries (deeper_IsExpr a0) (deeper_IsExpr a1) (deeper_AreMoreEntries a2)

    deeper_AreMoreEntries : {d : ℕ} {ts : List SpannedTok} {rest : List SpannedTok} {e3 : Exprs C} {e4 : Exprs C} → AreMoreEntries f src d ts rest e3 e4 → AreMoreEntries f src (suc d) ts rest e3 e4
    deeper_AreMoreEntries (no_more_entries a0) = no_more_entries a0
    deeper_AreMoreEntries (more_entries a0) = more_entries (deeper_AreEntries a0)
