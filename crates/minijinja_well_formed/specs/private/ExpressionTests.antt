-- Tests that decide which expressions are well formed.
use Rattle.std.specs.Prelude.{Bool, true, false, ◌&&◌, ◌==◌, List, [], ◌∷◌, Option, Some, None, nat_le}
use Rattle.minijinja_tree_expr.specs.Tree.{Expr, variable, constant, slice, unary, binary, compare, if_expr, filter, test, attribute, item, call, list, tuple, map, Optional, absent, present, Exprs, no_more, more, Comparisons, compared, against, Args, no_args, pos, pos_splat, kwarg, kwarg_splat}
use Rattle.minijinja_tree_expr.specs.WellFormed.{most_arguments, expr_count, arg_count}

-- two comparisons or more
abbrev pub is_chain : {C : Type 0} → Comparisons C → Bool
is_chain compared = false
is_chain (against o e compared) = false
is_chain (against o e (against o' e' cs)) = true

abbrev mutual
  pub is_whole : {C : Type 0} → Expr C → Bool
  is_whole (variable x) = true
  is_whole (constant c) = true
  is_whole (slice e start stop step) = is_whole e && (is_whole_if_any start && (is_whole_if_any stop && is_whole_if_any step))
  is_whole (unary o e) = is_whole e
  is_whole (binary o a b) = is_whole a && is_whole b
  is_whole (compare e cs) = is_chain cs && (is_whole e && are_compared cs)
  is_whole (if_expr t a b) = is_whole t && (is_whole a && is_whole_if_any b)
  is_whole (filter e x args) = is_whole_operand e && (nat_le (arg_count args) most_arguments && are_arguments args)
  is_whole (test e x args) = is_whole e && (nat_le (arg_count args) most_arguments && are_arguments args)
  is_whole (attribute e x) = is_whole e
  is_whole (item e k) = is_whole e && is_whole k
  is_whole (call e args) = is_whole e && (nat_le (arg_count args) most_arguments && are_arguments args)
  is_whole (list es) = are_whole es
  is_whole (tuple es) = are_whole es
  is_whole (map ks vs) = (expr_count ks == expr_count vs) && (are_whole ks && are_whole vs)

  -- an expression that may be absent
  pub is_whole_if_any : {C : Type 0} → Optional C → Bool
  is_whole_if_any absent = true
  is_whole_if_any (present e) = is_whole e

  -- an expression that is to be there
  pub is_whole_operand : {C : Type 0} → Optional C → Bool
  is_whole_operand absent = false
  is_whole_operand (present e) = is_whole e

  -- each of these expressions
  pub are_whole : {C : Type 0} → Exprs C → Bool
  are_whole no_more = true
  are_whole (more e es) = is_whole e && are_whole es

  -- each operand of these comparisons
  pub are_compared : {C : Type 0} → Comparisons C → Bool
  are_compared compared = true
  are_compared (against o e cs) = is_whole e && are_compared cs

  -- the value of each argument
  pub are_arguments : {C : Type 0} → Args C → Bool
  are_arguments no_args = true
  are_arguments (pos e args) = is_whole e && are_arguments args
  are_arguments (pos_splat e args) = is_whole e && are_arguments args
  are_arguments (kwarg x e args) = is_whole e && are_arguments args
  are_arguments (kwarg_splat e args) = is_whole e && are_arguments args

-- the part that rows nest in without a bound
abbrev pub long_side : {C : Type 0} → Expr C → Option (Expr C)
long_side (variable x) = None
long_side (constant c) = None
long_side (slice e start stop step) = Some e
long_side (unary o e) = Some e
long_side (binary o a b) = Some a
long_side (compare e cs) = Some e
long_side (if_expr t a b) = Some a
long_side (filter absent x args) = None
long_side (filter (present e) x args) = Some e
long_side (test e x args) = Some e
long_side (attribute e x) = Some e
long_side (item e k) = Some e
long_side (call e args) = Some e
long_side (list es) = None
long_side (tuple es) = None
long_side (map ks vs) = None

-- not too many arguments, and the value of each
abbrev pub takes_arguments : {C : Type 0} → Args C → Bool
takes_arguments args = nat_le (arg_count args) most_arguments && are_arguments args

-- all but that part
abbrev pub is_whole_beside : {C : Type 0} → Expr C → Bool
is_whole_beside (variable x) = true
is_whole_beside (constant c) = true
is_whole_beside (slice e start stop step) = is_whole_if_any start && (is_whole_if_any stop && is_whole_if_any step)
is_whole_beside (unary o e) = true
is_whole_beside (binary o a b) = is_whole b
is_whole_beside (compare e cs) = is_chain cs && are_compared cs
is_whole_beside (if_expr t a b) = is_whole t && is_whole_if_any b
is_whole_beside (filter absent x args) = false
is_whole_beside (filter (present e) x args) = takes_arguments args
is_whole_beside (test e x args) = takes_arguments args
is_whole_beside (attribute e x) = true
is_whole_beside (item e k) = is_whole k
is_whole_beside (call e args) = takes_arguments args
is_whole_beside (list es) = are_whole es
is_whole_beside (tuple es) = are_whole es
is_whole_beside (map ks vs) = (expr_count ks == expr_count vs) && (are_whole ks && are_whole vs)

-- names, attributes and lists of targets may be assigned to
abbrev mutual
  pub is_target : {C : Type 0} → Expr C → Bool
  is_target (variable x) = true
  is_target (attribute e x) = is_whole e
  is_target (list es) = are_targets es
  is_target _ = false

  pub are_targets : {C : Type 0} → Exprs C → Bool
  are_targets no_more = true
  are_targets (more e es) = is_target e && are_targets es

-- targets with their values
abbrev pub are_assignments : {C : Type 0} → List (Expr C × Expr C) → Bool
are_assignments [] = true
are_assignments (a ∷ rest) = (is_target a.0 && is_whole a.1) && are_assignments rest

-- filters alone, of which the innermost has no operand
abbrev pub is_chain_of_filters : {C : Type 0} → Expr C → Bool
is_chain_of_filters (filter absent x args) = takes_arguments args
is_chain_of_filters (filter (present e) x args) = takes_arguments args && is_chain_of_filters e
is_chain_of_filters _ = false

-- a chain that may be absent
abbrev pub is_chain_if_any : {C : Type 0} → Optional C → Bool
is_chain_if_any absent = true
is_chain_if_any (present e) = is_chain_of_filters e

-- a variable
abbrev pub is_variable : {C : Type 0} → Expr C → Bool
is_variable (variable x) = true
is_variable _ = false

abbrev pub are_variables : {C : Type 0} → List (Expr C) → Bool
are_variables [] = true
are_variables (e ∷ es) = is_variable e && are_variables es

-- each of these expressions
abbrev pub are_all_whole : {C : Type 0} → List (Expr C) → Bool
are_all_whole [] = true
are_all_whole (e ∷ es) = is_whole e && are_all_whole es

abbrev pub is_variable_if_any : {C : Type 0} → Optional C → Bool
is_variable_if_any absent = true
is_variable_if_any (present e) = is_variable e

-- names that are taken from a template, with their aliases
abbrev pub are_names : {C : Type 0} → List (Expr C × Optional C) → Bool
are_names [] = true
are_names (n ∷ rest) = (is_variable n.0 && is_variable_if_any n.1) && are_names rest
