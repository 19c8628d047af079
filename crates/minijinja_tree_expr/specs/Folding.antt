-- Which trees stand for a constant that is known before the template runs.
use Rattle.std.specs.Prelude.{◌≡◌, Bool, true, false, not, List, [], ◌∷◌, Option, Some, None, Result, Ok, Err, if◌then◌else◌, zip}
use Rattle.minijinja_value.specs.Values.{Functions}
use Rattle.minijinja_value.specs.declared.value.OpError.{OpError}
use Rattle.minijinja_value.specs.declared.value.OpError.TheVariants.{OutOfMemory, Fault}
use Rattle.minijinja_tree_expr.specs.Operators.{Working, Makes, Divides, IfTrue, IfFalse, working, compute}
use Rattle.minijinja_tree_expr.specs.Comparisons.{compares, on_ok}
use Rattle.minijinja_tree_expr.specs.Tree.{UnaryOp, logical_not, negation, Expr, constant, list, tuple, map, unary, binary, compare, Exprs, no_more, more, Comparisons, compared, against, Args, no_args, pos, pos_splat, kwarg, kwarg_splat}

-- one value, if there is one, and then another
unfoldable pub if_some : {X Y : Type 0} → Option X → (X → Option Y) → Option Y
if_some None f = None
if_some (Some x) f = f x

infixl 10 ◌>>=◌
-- one value, if there is one, and then another, as a step of a `do` block
abbrev ◌>>=◌ : {X Y : Type 0} → Option X → (X → Option Y) → Option Y
m >>= f = if_some m f

-- what there is, if there is no fault
abbrev pub unless_fault : {X F : Type 0} → Result X F → Option X
unless_fault (Ok x) = Some x
unless_fault (Err e) = None

-- the value that an operator returned, or nothing where it returned a fault
abbrev pub IsWithoutFault : {A F : Type 0} → Result A (OpError F) → Option A → Type 0
IsWithoutFault (Ok a) r = r ≡ Some a
IsWithoutFault (Err (Fault f)) r = r ≡ None
IsWithoutFault (Err OutOfMemory) r = ⊥

-- what a constant node holds
abbrev pub constant_node : {C : Type 0} → Expr C → Option C
constant_node (constant c) = Some c
constant_node _ = None

-- what items hold that are all constant nodes
abbrev pub constants : {C : Type 0} → Exprs C → Option (List C)
constants no_more = Some []
constants (more e es) = do
  c ← constant_node e
  cs ← constants es
  Some (c ∷ cs)

-- what a unary operator gives on a constant
abbrev pub unary_outcome : {C F : Type 0} → Functions C F → UnaryOp → C → Result C F
unary_outcome f logical_not v = Ok (f.of_bool (not (f.is_true v)))
unary_outcome f negation v = f.neg v

-- what a binary operator gives on two constants; a quotient is not computed
abbrev pub binary_outcome : {C F : Type 0} → Functions C F → Working → C → C → Result (Option C) F
binary_outcome f (Makes o) a b = on_ok Some (compute f o a b)
binary_outcome f Divides a b = Ok None
binary_outcome f IfTrue a b = Ok (Some (if f.is_true a then b else a))
binary_outcome f IfFalse a b = Ok (Some (if f.is_true a then a else b))

-- a unary operator on a constant, unless it faults
abbrev pub fold_unary : {C F : Type 0} → Functions C F → UnaryOp → C → Option C
fold_unary f logical_not v = Some (f.of_bool (not (f.is_true v)))
fold_unary f negation v = unless_fault (f.neg v)

-- a binary operator on two constants, unless it faults; a quotient is not folded
abbrev pub fold_binary : {C F : Type 0} → Functions C F → Working → C → C → Option C
fold_binary f (Makes o) a b = unless_fault (compute f o a b)
fold_binary f Divides a b = None
fold_binary f IfTrue a b = Some (if f.is_true a then b else a)
fold_binary f IfFalse a b = Some (if f.is_true a then a else b)

-- a chain of comparisons goes on only where the one before holds
unfoldable pub fold_on : {C F : Type 0} → Functions C F → Bool → Option C → Option C
fold_on f true rest = rest
fold_on f false rest = Some (f.of_bool false)

-- the constant of a tree that folds
unfoldable mutual
  pub fold : {C F : Type 0} → Functions C F → Expr C → Option C
  fold f (constant c) = Some c
  fold f (list es) = do
    cs ← constants es
    Some (f.list cs)
  fold f (tuple es) = do
    cs ← constants es
    Some (f.tuple cs)
  fold f (map ks vs) = do
    keys ← constants ks
    values ← constants vs
    Some (f.map (zip keys values))
  fold f (unary o e) = do
    v ← fold f e
    fold_unary f o v
  fold f (binary o a b) = do
    x ← fold f a
    y ← fold f b
    fold_binary f (working o) x y
  fold f (compare e cs) = do
    v ← fold f e
    fold_chain f v cs
  fold f _ = None

  -- the constant of the comparisons with a constant
  pub fold_chain : {C F : Type 0} → Functions C F → C → Comparisons C → Option C
  fold_chain f v compared = Some (f.of_bool true)
  fold_chain f v (against o e cs) = do
    u ← fold f e
    holds ← unless_fault (compares f o v u)
    fold_on f holds (fold_chain f u cs)

-- the keyword arguments of a call, where their values are all constant nodes and no `**` is among
-- them
abbrev pub constant_keywords : {C F : Type 0} → Functions C F → Args C → Option (List (C × C))
constant_keywords f no_args = Some []
constant_keywords f (pos e args) = constant_keywords f args
constant_keywords f (pos_splat e args) = constant_keywords f args
constant_keywords f (kwarg x e args) = do
  c ← constant_node e
  cs ← constant_keywords f args
  Some ((f.of_str x, c) ∷ cs)
constant_keywords f (kwarg_splat e args) = None

-- their map, where there are any
unfoldable pub fold_keywords : {C F : Type 0} → Functions C F → Option (List (C × C)) → Option C
fold_keywords f None = None
fold_keywords f (Some []) = None
fold_keywords f (Some (c ∷ cs)) = Some (f.kwargs (c ∷ cs))
