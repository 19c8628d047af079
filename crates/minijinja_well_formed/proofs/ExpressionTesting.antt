-- The tests hold exactly of the expressions that are well formed.
use Rattle.std.proofs.Common.{◌≡◌, ℕ, ◌≤◌, true, false, refl, sym, subst, arith}
use Rattle.std.specs.Prelude.{Bool, ◌&&◌, ◌==◌, ◌↔◌, nat_le, IsTrue, List, [], ◌∷◌}
use Rattle.std.proofs.lemmas.Bool.Decides.{nat_tests}
use Rattle.minijinja_tree_expr.specs.Tree.{Expr, variable, constant, slice, unary, binary, compare, if_expr, filter, test, attribute, item, call, list, tuple, map, Optional, absent, present, Exprs, no_more, more, Comparisons, compared, against, Args, no_args, pos, pos_splat, kwarg, kwarg_splat}
use Rattle.minijinja_tree_expr.specs.WellFormed.{most_arguments, expr_count, arg_count, IsChain, IsWhole, IsWholeIfAny, AreWhole, AreCompared, AreArguments, IsTarget, AreTargets, AreAssignments, IsChainOfFilters, IsChainIfAny, IsVariable, AreVariables, AreAllWhole, IsVariableIfAny, AreNames}
use Rattle.minijinja_well_formed.specs.private.ExpressionTests.{is_chain, is_whole, is_whole_if_any, are_whole, are_compared, are_arguments, takes_arguments, is_target, are_targets, are_assignments, is_chain_of_filters, is_chain_if_any, is_variable, are_variables, are_all_whole, is_variable_if_any, are_names}

-- both hold
pub both : (a b : Bool) → IsTrue a → IsTrue b → IsTrue (a && b)
both true b h k = k
both false b h k = h

pub left : (a b : Bool) → IsTrue (a && b) → IsTrue a
left true b h = refl
left false b h = h

pub right : (a b : Bool) → IsTrue (a && b) → IsTrue b
right true b h = h
right false b h = cc

pub chain-holds : {C : Type 0} (cs : Comparisons C) → IsTrue (is_chain cs) → IsChain cs
chain-holds compared h = cc
chain-holds (against o e compared) h = cc
chain-holds (against o e (against o' e' cs)) h = tt

pub chain-tests : {C : Type 0} (cs : Comparisons C) → IsChain cs → IsTrue (is_chain cs)
chain-tests compared h = absurd h
chain-tests (against o e compared) h = absurd h
chain-tests (against o e (against o' e' cs)) h = refl

pub few-holds : (n : ℕ) → IsTrue (nat_le n most_arguments) → n ≤ most_arguments
few-holds n h = grind (arith, nat_tests)

pub few-tests : (n : ℕ) → n ≤ most_arguments → IsTrue (nat_le n most_arguments)
few-tests n h = grind (arith, nat_tests)

pub same-holds : (m n : ℕ) → IsTrue (m == n) → m ≡ n
same-holds m n h = grind (arith, nat_tests)

pub same-tests : (m n : ℕ) → m ≡ n → IsTrue (m == n)
same-tests m n h = grind (arith, nat_tests)

mutual
  pub whole-holds : {C : Type 0} (e : Expr C) → IsTrue (is_whole e) → IsWhole e
  whole-holds (variable x) h = tt
  whole-holds (constant c) h = tt
  whole-holds (slice e a b c) h = let k = right (is_whole e) _ h in let l = right (is_whole_if_any a) _ k in (
    whole-holds e (left (is_whole e) _ h),
    any-holds a (left (is_whole_if_any a) _ k),
    any-holds b (left (is_whole_if_any b) (is_whole_if_any c) l),
    any-holds c (right (is_whole_if_any b) (is_whole_if_any c) l),
  )
  whole-holds (unary o e) h = whole-holds e h
  whole-holds (binary o a b) h = (whole-holds a (left (is_whole a) (is_whole b) h), whole-holds b (right (is_whole a) (is_whole b) h))
  whole-holds (compare e cs) h = let k = right (is_chain cs) (is_whole e && are_compared cs) h in (
    whole-holds e (left (is_whole e) (are_compared cs) k),
    chain-holds cs (left (is_chain cs) (is_whole e && are_compared cs) h),
    compared-hold cs (right (is_whole e) (are_compared cs) k),
  )
  whole-holds (if_expr t a b) h = let k = right (is_whole t) (is_whole a && is_whole_if_any b) h in (
    whole-holds t (left (is_whole t) (is_whole a && is_whole_if_any b) h),
    whole-holds a (left (is_whole a) (is_whole_if_any b) k),
    any-holds b (right (is_whole a) (is_whole_if_any b) k),
  )
  whole-holds (filter absent x args) h = cc
  whole-holds (filter (present e) x args) h = let k = right (is_whole e) (nat_le (arg_count args) most_arguments && are_arguments args) h in (
    whole-holds e (left (is_whole e) (nat_le (arg_count args) most_arguments && are_arguments args) h),
    arguments-hold args (right (nat_le (arg_count args) most_arguments) (are_arguments args) k),
    few-holds (arg_count args) (left (nat_le (arg_count args) most_arguments) (are_arguments args) k),
  )
  whole-holds (test e x args) h = let k = right (is_whole e) (nat_le (arg_count args) most_arguments && are_arguments args) h in (
    whole-holds e (left (is_whole e) (nat_le (arg_count args) most_arguments && are_arguments args) h),
    arguments-hold args (right (nat_le (arg_count args) most_arguments) (are_arguments args) k),
    few-holds (arg_count args) (left (nat_le (arg_count args) most_arguments) (are_arguments args) k),
  )
  whole-holds (attribute e x) h = whole-holds e h
  whole-holds (item e k) h = (whole-holds e (left (is_whole e) (is_whole k) h), whole-holds k (right (is_whole e) (is_whole k) h))
  whole-holds (call e args) h = let k = right (is_whole e) (nat_le (arg_count args) most_arguments && are_arguments args) h in (
    whole-holds e (left (is_whole e) (nat_le (arg_count args) most_arguments && are_arguments args) h),
    arguments-hold args (right (nat_le (arg_count args) most_arguments) (are_arguments args) k),
    few-holds (arg_count args) (left (nat_le (arg_count args) most_arguments) (are_arguments args) k),
  )
  whole-holds (list es) h = wholes-hold es h
  whole-holds (tuple es) h = wholes-hold es h
  whole-holds (map ks vs) h = let k = right (expr_count ks == expr_count vs) (are_whole ks && are_whole vs) h in (
    wholes-hold ks (left (are_whole ks) (are_whole vs) k),
    wholes-hold vs (right (are_whole ks) (are_whole vs) k),
    same-holds (expr_count ks) (expr_count vs) (left (expr_count ks == expr_count vs) (are_whole ks && are_whole vs) h),
  )

  pub any-holds : {C : Type 0} (e : Optional C) → IsTrue (is_whole_if_any e) → IsWholeIfAny e
  any-holds absent h = tt
  any-holds (present e) h = whole-holds e h

  pub wholes-hold : {C : Type 0} (es : Exprs C) → IsTrue (are_whole es) → AreWhole es
  wholes-hold no_more h = tt
  wholes-hold (more e es) h = (whole-holds e (left (is_whole e) (are_whole es) h), wholes-hold es (right (is_whole e) (are_whole es) h))

  pub compared-hold : {C : Type 0} (cs : Comparisons C) → IsTrue (are_compared cs) → AreCompared cs
  compared-hold compared h = tt
  compared-hold (against o e cs) h = (whole-holds e (left (is_whole e) (are_compared cs) h), compared-hold cs (right (is_whole e) (are_compared cs) h))

  pub arguments-hold : {C : Type 0} (args : Args C) → IsTrue (are_arguments args) → AreArguments args
  arguments-hold no_args h = tt
  arguments-hold (pos e args) h = (whole-holds e (left (is_whole e) (are_arguments args) h), arguments-hold args (right (is_whole e) (are_arguments args) h))
  arguments-hold (pos_splat e args) h = (whole-holds e (left (is_whole e) (are_arguments args) h), arguments-hold args (right (is_whole e) (are_arguments args) h))
  arguments-hold (kwarg x e args) h = (whole-holds e (left (is_whole e) (are_arguments args) h), arguments-hold args (right (is_whole e) (are_arguments args) h))
  arguments-hold (kwarg_splat e args) h = (whole-holds e (left (is_whole e) (are_arguments args) h), arguments-hold args (right (is_whole e) (are_arguments args) h))

mutual
  pub whole-tests : {C : Type 0} (e : Expr C) → IsWhole e → IsTrue (is_whole e)
  whole-tests (variable x) h = refl
  whole-tests (constant c) h = refl
  whole-tests (slice e a b c) h = both (is_whole e) _ (whole-tests e h.0) (both (is_whole_if_any a) _ (any-tests a h.1) (both (is_whole_if_any b) _ (any-tests b h.2) (any-tests c h.3)))
  whole-tests (unary o e) h = whole-tests e h
  whole-tests (binary o a b) h = both (is_whole a) _ (whole-tests a h.0) (whole-tests b h.1)
  whole-tests (compare e cs) h = both (is_chain cs) _ (chain-tests cs h.1) (both (is_whole e) _ (whole-tests e h.0) (compared-test cs h.2))
  whole-tests (if_expr t a b) h = both (is_whole t) _ (whole-tests t h.0) (both (is_whole a) _ (whole-tests a h.1) (any-tests b h.2))
  whole-tests (filter absent x args) h = absurd h
  whole-tests (filter (present e) x args) h = both (is_whole e) _ (whole-tests e h.0) (both (nat_le (arg_count args) most_arguments) _ (few-tests (arg_count args) h.2) (arguments-test args h.1))
  whole-tests (test e x args) h = both (is_whole e) _ (whole-tests e h.0) (both (nat_le (arg_count args) most_arguments) _ (few-tests (arg_count args) h.2) (arguments-test args h.1))
  whole-tests (attribute e x) h = whole-tests e h
  whole-tests (item e k) h = both (is_whole e) _ (whole-tests e h.0) (whole-tests k h.1)
  whole-tests (call e args) h = both (is_whole e) _ (whole-tests e h.0) (both (nat_le (arg_count args) most_arguments) _ (few-tests (arg_count args) h.2) (arguments-test args h.1))
  whole-tests (list es) h = wholes-test es h
  whole-tests (tuple es) h = wholes-test es h
  whole-tests (map ks vs) h = both (expr_count ks == expr_count vs) _ (same-tests (expr_count ks) (expr_count vs) h.2) (both (are_whole ks) _ (wholes-test ks h.0) (wholes-test vs h.1))

  pub any-tests : {C : Type 0} (e : Optional C) → IsWholeIfAny e → IsTrue (is_whole_if_any e)
  any-tests absent h = refl
  any-tests (present e) h = whole-tests e h

  pub wholes-test : {C : Type 0} (es : Exprs C) → AreWhole es → IsTrue (are_whole es)
  wholes-test no_more h = refl
  wholes-test (more e es) h = both (is_whole e) _ (whole-tests e h.0) (wholes-test es h.1)

  pub compared-test : {C : Type 0} (cs : Comparisons C) → AreCompared cs → IsTrue (are_compared cs)
  compared-test compared h = refl
  compared-test (against o e cs) h = both (is_whole e) _ (whole-tests e h.0) (compared-test cs h.1)

  pub arguments-test : {C : Type 0} (args : Args C) → AreArguments args → IsTrue (are_arguments args)
  arguments-test no_args h = refl
  arguments-test (pos e args) h = both (is_whole e) _ (whole-tests e h.0) (arguments-test args h.1)
  arguments-test (pos_splat e args) h = both (is_whole e) _ (whole-tests e h.0) (arguments-test args h.1)
  arguments-test (kwarg x e args) h = both (is_whole e) _ (whole-tests e h.0) (arguments-test args h.1)
  arguments-test (kwarg_splat e args) h = both (is_whole e) _ (whole-tests e h.0) (arguments-test args h.1)

-- the test of an expression
pub whole-decided : {C : Type 0} (e : Expr C) (b : Bool) → b ≡ is_whole e → IsTrue b ↔ IsWhole e
whole-decided e b h = subst (λ b. IsTrue b ↔ IsWhole e) (sym h) (whole-holds e, whole-tests e)

mutual
  pub target-holds : {C : Type 0} (e : Expr C) → IsTrue (is_target e) → IsTarget e
  target-holds (variable x) h = tt
  target-holds (attribute e x) h = whole-holds e h
  target-holds (list es) h = targets-hold es h
  target-holds _ h = cc

  pub targets-hold : {C : Type 0} (es : Exprs C) → IsTrue (are_targets es) → AreTargets es
  targets-hold no_more h = tt
  targets-hold (more e es) h = (target-holds e (left (is_target e) (are_targets es) h), targets-hold es (right (is_target e) (are_targets es) h))

mutual
  pub target-tests : {C : Type 0} (e : Expr C) → IsTarget e → IsTrue (is_target e)
  target-tests (variable x) h = refl
  target-tests (attribute e x) h = whole-tests e h
  target-tests (list es) h = targets-test es h
  target-tests _ h = absurd h

  pub targets-test : {C : Type 0} (es : Exprs C) → AreTargets es → IsTrue (are_targets es)
  targets-test no_more h = refl
  targets-test (more e es) h = both (is_target e) _ (target-tests e h.0) (targets-test es h.1)

pub assignments-hold : {C : Type 0} (xs : List (Expr C × Expr C)) → IsTrue (are_assignments xs) → AreAssignments xs
assignments-hold [] h = tt
assignments-hold (a ∷ rest) h = let k = left (is_target a.0 && is_whole a.1) (are_assignments rest) h in (
  target-holds a.0 (left (is_target a.0) (is_whole a.1) k),
  whole-holds a.1 (right (is_target a.0) (is_whole a.1) k),
  assignments-hold rest (right (is_target a.0 && is_whole a.1) (are_assignments rest) h),
)

pub assignments-test : {C : Type 0} (xs : List (Expr C × Expr C)) → AreAssignments xs → IsTrue (are_assignments xs)
assignments-test [] h = refl
assignments-test (a ∷ rest) h = both (is_target a.0 && is_whole a.1) _ (both (is_target a.0) _ (target-tests a.0 h.0) (whole-tests a.1 h.1)) (assignments-test rest h.2)

pub taken-hold : {C : Type 0} (args : Args C) → IsTrue (takes_arguments args) → AreArguments args
taken-hold args h = arguments-hold args (right (nat_le (arg_count args) most_arguments) (are_arguments args) h)

pub taken-few : {C : Type 0} (args : Args C) → IsTrue (takes_arguments args) → arg_count args ≤ most_arguments
taken-few args h = few-holds (arg_count args) (left (nat_le (arg_count args) most_arguments) (are_arguments args) h)

pub taken-test : {C : Type 0} (args : Args C) → AreArguments args → arg_count args ≤ most_arguments → IsTrue (takes_arguments args)
taken-test args h k = both (nat_le (arg_count args) most_arguments) _ (few-tests (arg_count args) k) (arguments-test args h)

pub filters-hold : {C : Type 0} (e : Expr C) → IsTrue (is_chain_of_filters e) → IsChainOfFilters e
filters-hold (filter absent x args) h = (taken-hold args h, taken-few args h)
filters-hold (filter (present e) x args) h = let k = left (takes_arguments args) (is_chain_of_filters e) h in (
  filters-hold e (right (takes_arguments args) (is_chain_of_filters e) h),
  taken-hold args k,
  taken-few args k,
)
filters-hold _ h = cc

pub filters-test : {C : Type 0} (e : Expr C) → IsChainOfFilters e → IsTrue (is_chain_of_filters e)
filters-test (filter absent x args) h = taken-test args h.0 h.1
filters-test (filter (present e) x args) h = both (takes_arguments args) _ (taken-test args h.1 h.2) (filters-test e h.0)
filters-test _ h = absurd h

pub any-filters-hold : {C : Type 0} (e : Optional C) → IsTrue (is_chain_if_any e) → IsChainIfAny e
any-filters-hold absent h = tt
any-filters-hold (present e) h = filters-hold e h

pub any-filters-test : {C : Type 0} (e : Optional C) → IsChainIfAny e → IsTrue (is_chain_if_any e)
any-filters-test absent h = refl
any-filters-test (present e) h = filters-test e h

-- ---- names, arguments and defaults

pub variable-holds : {C : Type 0} (e : Expr C) → IsTrue (is_variable e) → IsVariable e
variable-holds (variable x) h = tt
variable-holds _ h = cc

pub variable-tests : {C : Type 0} (e : Expr C) → IsVariable e → IsTrue (is_variable e)
variable-tests (variable x) h = refl
variable-tests _ h = absurd h

pub variables-hold : {C : Type 0} (es : List (Expr C)) → IsTrue (are_variables es) → AreVariables es
variables-hold [] h = tt
variables-hold (e ∷ es) h = (variable-holds e (left (is_variable e) (are_variables es) h), variables-hold es (right (is_variable e) (are_variables es) h))

pub variables-test : {C : Type 0} (es : List (Expr C)) → AreVariables es → IsTrue (are_variables es)
variables-test [] h = refl
variables-test (e ∷ es) h = both (is_variable e) _ (variable-tests e h.0) (variables-test es h.1)

pub all-whole-hold : {C : Type 0} (es : List (Expr C)) → IsTrue (are_all_whole es) → AreAllWhole es
all-whole-hold [] h = tt
all-whole-hold (e ∷ es) h = (whole-holds e (left (is_whole e) (are_all_whole es) h), all-whole-hold es (right (is_whole e) (are_all_whole es) h))

pub all-whole-test : {C : Type 0} (es : List (Expr C)) → AreAllWhole es → IsTrue (are_all_whole es)
all-whole-test [] h = refl
all-whole-test (e ∷ es) h = both (is_whole e) _ (whole-tests e h.0) (all-whole-test es h.1)

pub any-variable-holds : {C : Type 0} (e : Optional C) → IsTrue (is_variable_if_any e) → IsVariableIfAny e
any-variable-holds absent h = tt
any-variable-holds (present e) h = variable-holds e h

pub any-variable-tests : {C : Type 0} (e : Optional C) → IsVariableIfAny e → IsTrue (is_variable_if_any e)
any-variable-tests absent h = refl
any-variable-tests (present e) h = variable-tests e h

pub names-hold : {C : Type 0} (ns : List (Expr C × Optional C)) → IsTrue (are_names ns) → AreNames ns
names-hold [] h = tt
names-hold (n ∷ ns) h = let k = left (is_variable n.0 && is_variable_if_any n.1) (are_names ns) h in (
  variable-holds n.0 (left (is_variable n.0) (is_variable_if_any n.1) k),
  any-variable-holds n.1 (right (is_variable n.0) (is_variable_if_any n.1) k),
  names-hold ns (right (is_variable n.0 && is_variable_if_any n.1) (are_names ns) h),
)

pub names-test : {C : Type 0} (ns : List (Expr C × Optional C)) → AreNames ns → IsTrue (are_names ns)
names-test [] h = refl
names-test (n ∷ ns) h = both (is_variable n.0 && is_variable_if_any n.1) _ (both (is_variable n.0) _ (variable-tests n.0 h.0) (any-variable-tests n.1 h.1)) (names-test ns h.2)

pub no-more-holds : (m n : ℕ) → IsTrue (nat_le m n) → m ≤ n
no-more-holds m n h = grind (arith, nat_tests)

pub no-more-tests : (m n : ℕ) → m ≤ n → IsTrue (nat_le m n)
no-more-tests m n h = grind (arith, nat_tests)
