-- Which expressions are well formed, so that code can be generated from them.
use Rattle.std.specs.Prelude.{◌≡◌, ℕ, suc, ◌≤◌, List, [], ◌∷◌}
use Rattle.minijinja_tree_expr.specs.Tree.{Expr, variable, constant, slice, unary, binary, compare, if_expr, filter, test, attribute, item, call, list, tuple, map, Optional, absent, present, Exprs, no_more, more, Comparisons, compared, against, Args, no_args, pos, pos_splat, kwarg, kwarg_splat}

-- how many arguments a call may have
abbrev pub most_arguments : ℕ
most_arguments = 2000

-- how many expressions there are
abbrev pub expr_count : {C : Type 0} → Exprs C → ℕ
expr_count no_more = 0
expr_count (more e es) = suc (expr_count es)

-- how many arguments there are
abbrev pub arg_count : {C : Type 0} → Args C → ℕ
arg_count no_args = 0
arg_count (pos e args) = suc (arg_count args)
arg_count (pos_splat e args) = suc (arg_count args)
arg_count (kwarg x e args) = suc (arg_count args)
arg_count (kwarg_splat e args) = suc (arg_count args)

-- two comparisons or more
abbrev pub IsChain : {C : Type 0} → Comparisons C → Type 0
IsChain compared = ⊥
IsChain (against o e compared) = ⊥
IsChain (against o e (against o' e' cs)) = Unit {0}

-- Chains have two comparisons or more, maps as many keys as values, calls at most 2000 arguments,
-- and filters an operand.
abbrev mutual
  pub IsWhole : {C : Type 0} → Expr C → Type 0
  IsWhole (variable x) = Unit {0}
  IsWhole (constant c) = Unit {0}
  IsWhole (slice e start stop step) = IsWhole e × IsWholeIfAny start × IsWholeIfAny stop × IsWholeIfAny step
  IsWhole (unary o e) = IsWhole e
  IsWhole (binary o a b) = IsWhole a × IsWhole b
  IsWhole (compare e cs) = IsWhole e × IsChain cs × AreCompared cs
  IsWhole (if_expr t a b) = IsWhole t × IsWhole a × IsWholeIfAny b
  IsWhole (filter absent x args) = ⊥
  IsWhole (filter (present e) x args) = IsWhole e × AreArguments args × (arg_count args ≤ most_arguments)
  IsWhole (test e x args) = IsWhole e × AreArguments args × (arg_count args ≤ most_arguments)
  IsWhole (attribute e x) = IsWhole e
  IsWhole (item e k) = IsWhole e × IsWhole k
  IsWhole (call e args) = IsWhole e × AreArguments args × (arg_count args ≤ most_arguments)
  IsWhole (list es) = AreWhole es
  IsWhole (tuple es) = AreWhole es
  IsWhole (map ks vs) = AreWhole ks × AreWhole vs × (expr_count ks ≡ expr_count vs)

  -- an expression that may be absent
  pub IsWholeIfAny : {C : Type 0} → Optional C → Type 0
  IsWholeIfAny absent = Unit {0}
  IsWholeIfAny (present e) = IsWhole e

  -- each of these expressions
  pub AreWhole : {C : Type 0} → Exprs C → Type 0
  AreWhole no_more = Unit {0}
  AreWhole (more e es) = IsWhole e × AreWhole es

  -- each operand of these comparisons
  pub AreCompared : {C : Type 0} → Comparisons C → Type 0
  AreCompared compared = Unit {0}
  AreCompared (against o e cs) = IsWhole e × AreCompared cs

  -- the value of each argument
  pub AreArguments : {C : Type 0} → Args C → Type 0
  AreArguments no_args = Unit {0}
  AreArguments (pos e args) = IsWhole e × AreArguments args
  AreArguments (pos_splat e args) = IsWhole e × AreArguments args
  AreArguments (kwarg x e args) = IsWhole e × AreArguments args
  AreArguments (kwarg_splat e args) = IsWhole e × AreArguments args

-- names, attributes and lists of targets may be assigned to
abbrev mutual
  pub IsTarget : {C : Type 0} → Expr C → Type 0
  IsTarget (variable x) = Unit {0}
  IsTarget (attribute e x) = IsWhole e
  IsTarget (list es) = AreTargets es
  IsTarget _ = ⊥

  pub AreTargets : {C : Type 0} → Exprs C → Type 0
  AreTargets no_more = Unit {0}
  AreTargets (more e es) = IsTarget e × AreTargets es

-- targets with their values
abbrev pub AreAssignments : {C : Type 0} → List (Expr C × Expr C) → Type 0
AreAssignments [] = Unit {0}
AreAssignments (a ∷ rest) = IsTarget a.0 × IsWhole a.1 × AreAssignments rest

-- filters alone, of which the innermost has no operand
abbrev pub IsChainOfFilters : {C : Type 0} → Expr C → Type 0
IsChainOfFilters (filter absent x args) = AreArguments args × (arg_count args ≤ most_arguments)
IsChainOfFilters (filter (present e) x args) = IsChainOfFilters e × AreArguments args × (arg_count args ≤ most_arguments)
IsChainOfFilters _ = ⊥

-- a chain that may be absent
abbrev pub IsChainIfAny : {C : Type 0} → Optional C → Type 0
IsChainIfAny absent = Unit {0}
IsChainIfAny (present e) = IsChainOfFilters e

-- a variable
abbrev pub IsVariable : {C : Type 0} → Expr C → Type 0
IsVariable (variable x) = Unit {0}
IsVariable _ = ⊥

abbrev pub AreVariables : {C : Type 0} → List (Expr C) → Type 0
AreVariables [] = Unit {0}
AreVariables (e ∷ es) = IsVariable e × AreVariables es

-- each of these expressions
abbrev pub AreAllWhole : {C : Type 0} → List (Expr C) → Type 0
AreAllWhole [] = Unit {0}
AreAllWhole (e ∷ es) = IsWhole e × AreAllWhole es

abbrev pub IsVariableIfAny : {C : Type 0} → Optional C → Type 0
IsVariableIfAny absent = Unit {0}
IsVariableIfAny (present e) = IsVariable e

-- names that are taken from a template, with their aliases
abbrev pub AreNames : {C : Type 0} → List (Expr C × Optional C) → Type 0
AreNames [] = Unit {0}
AreNames (n ∷ rest) = IsVariable n.0 × IsVariableIfAny n.1 × AreNames rest
