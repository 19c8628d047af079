-- Where the nodes of a tree stand, and that it is whole, in one.
use Rattle.std.specs.Prelude.{◌≡◌, ◌≤◌}
use Rattle.minijinja_syntax.specs.Tokens.{ident}
use Rattle.minijinja_syntax.specs.declared.tokens.Span.{Span}
use Rattle.minijinja_syntax.specs.Streams.{SpannedTok}
use Rattle.minijinja_tree.specs.SpannedTrees.{Expr, variable, constant, slice, unary, binary, compare, if_expr, filter, test, attribute, item, call, list, tuple, map, Optional, absent, present, Exprs, no_more, more, Comparisons, compared, against, Args, no_args, pos, pos_splat, kwarg, kwarg_splat, bare_exprs, bare_comparisons, bare_args}
use Rattle.minijinja_tree.specs.WellFormed.{IsChain, arg_count, expr_count, most_arguments}

module _ {C : Type 0} (T : SpannedTok → Type 0) (S : Span → Type 0) where
  abbrev mutual
    -- as where nodes stand; chains have two comparisons or more, maps as many keys as values, calls
    -- at most 2000 arguments, and filters an operand
    pub IsSound : Expr C → Type 0
    IsSound (variable x s) = T (ident x, s)
    IsSound (constant c s) = S s
    IsSound (slice e start stop step s) = S s × IsSound e × IsSoundIfAny start × IsSoundIfAny stop × IsSoundIfAny step
    IsSound (unary o e s) = S s × IsSound e
    IsSound (binary o l r s) = S s × IsSound l × IsSound r
    IsSound (compare e cs s) = S s × IsSound e × AreComparedSound cs × IsChain (bare_comparisons cs)
    IsSound (if_expr t e o s) = S s × IsSound t × IsSound e × IsSoundIfAny o
    IsSound (filter absent x args s) = ⊥
    IsSound (filter (present e) x args s) = S s × IsSound e × AreArgsSound args × (arg_count (bare_args args) ≤ most_arguments)
    IsSound (test e x args s) = S s × IsSound e × AreArgsSound args × (arg_count (bare_args args) ≤ most_arguments)
    IsSound (attribute e x s) = S s × IsSound e
    IsSound (item e i s) = S s × IsSound e × IsSound i
    IsSound (call e args s) = S s × IsSound e × AreArgsSound args × (arg_count (bare_args args) ≤ most_arguments)
    IsSound (list es s) = S s × AreSound es
    IsSound (tuple es s) = S s × AreSound es
    IsSound (map ks vs s) = S s × AreSound ks × AreSound vs × (expr_count (bare_exprs ks) ≡ expr_count (bare_exprs vs))

    pub IsSoundIfAny : Optional C → Type 0
    IsSoundIfAny absent = Unit {0}
    IsSoundIfAny (present e) = IsSound e

    pub AreSound : Exprs C → Type 0
    AreSound no_more = Unit {0}
    AreSound (more e es) = IsSound e × AreSound es

    pub AreComparedSound : Comparisons C → Type 0
    AreComparedSound compared = Unit {0}
    AreComparedSound (against o e cs) = IsSound e × AreComparedSound cs

    pub AreArgsSound : Args C → Type 0
    AreArgsSound no_args = Unit {0}
    AreArgsSound (pos e xs) = IsSound e × AreArgsSound xs
    AreArgsSound (pos_splat e xs) = IsSound e × AreArgsSound xs
    AreArgsSound (kwarg x e xs) = IsSound e × AreArgsSound xs
    AreArgsSound (kwarg_splat e xs) = IsSound e × AreArgsSound xs
