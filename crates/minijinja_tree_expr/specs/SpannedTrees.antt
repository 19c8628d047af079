-- Trees of expressions whose nodes have spans, over what values hold.
use Rattle.std.specs.Prelude.{List, [], ◌∷◌, Option, Some, None}
use Rattle.minijinja_syntax.specs.Texts.{Text}
use Rattle.minijinja_syntax.specs.declared.tokens.Span.{Span}
use Rattle.minijinja_tree_expr.specs.BinOps.{BinOp}
use Rattle.minijinja_tree_expr.specs.CompareOps.{CompareOp}
use Rattle.minijinja_tree_expr.specs.Tree.{UnaryOp}
use Rattle.minijinja_tree_expr.specs.Tree as bare

mutual
  -- a node's span is its last part
  pub data Expr (C : Type 0) : Type 0 where
    variable : Text → Span → Expr C
    constant : C → Span → Expr C
    slice : Expr C → Optional C → Optional C → Optional C → Span → Expr C
    unary : UnaryOp → Expr C → Span → Expr C
    binary : BinOp → Expr C → Expr C → Span → Expr C
    compare : Expr C → Comparisons C → Span → Expr C
    if_expr : Expr C → Expr C → Optional C → Span → Expr C
    filter : Optional C → Text → Args C → Span → Expr C
    test : Expr C → Text → Args C → Span → Expr C
    attribute : Expr C → Text → Span → Expr C
    item : Expr C → Expr C → Span → Expr C
    call : Expr C → Args C → Span → Expr C
    list : Exprs C → Span → Expr C
    tuple : Exprs C → Span → Expr C
    map : Exprs C → Exprs C → Span → Expr C

  pub data Optional (C : Type 0) : Type 0 where
    absent : Optional C
    present : Expr C → Optional C

  pub data Exprs (C : Type 0) : Type 0 where
    no_more : Exprs C
    more : Expr C → Exprs C → Exprs C

  pub data Comparisons (C : Type 0) : Type 0 where
    compared : Comparisons C
    against : CompareOp → Expr C → Comparisons C → Comparisons C

  pub data Args (C : Type 0) : Type 0 where
    no_args : Args C
    pos : Expr C → Args C → Args C
    pos_splat : Expr C → Args C → Args C
    kwarg : Text → Expr C → Args C → Args C
    kwarg_splat : Expr C → Args C → Args C

-- ---- parts of a tree, from lists of them

-- one argument of a call
pub data Arg (C : Type 0) : Type 0 where
  positional : Expr C → Arg C
  starred : Expr C → Arg C
  keyword : Text → Expr C → Arg C
  double_starred : Expr C → Arg C

abbrev pub optional_of : {C : Type 0} → Option (Expr C) → Optional C
optional_of None = absent
optional_of (Some e) = present e

abbrev pub exprs_of : {C : Type 0} → List (Expr C) → Exprs C
exprs_of [] = no_more
exprs_of (e ∷ es) = more e (exprs_of es)

abbrev pub comparisons_of : {C : Type 0} → List (CompareOp × Expr C) → Comparisons C
comparisons_of [] = compared
comparisons_of (c ∷ cs) = against c.0 c.1 (comparisons_of cs)

abbrev pub args_of : {C : Type 0} → List (Arg C) → Args C
args_of [] = no_args
args_of (positional e ∷ xs) = pos e (args_of xs)
args_of (starred e ∷ xs) = pos_splat e (args_of xs)
args_of (keyword x e ∷ xs) = kwarg x e (args_of xs)
args_of (double_starred e ∷ xs) = kwarg_splat e (args_of xs)

-- ---- without the spans

abbrev mutual
  pub bare_expr : {C : Type 0} → Expr C → bare.Expr C
  bare_expr (variable x s) = bare.variable x
  bare_expr (constant c s) = bare.constant c
  bare_expr (slice e start stop step s) = bare.slice (bare_expr e) (bare_optional start) (bare_optional stop) (bare_optional step)
  bare_expr (unary o e s) = bare.unary o (bare_expr e)
  bare_expr (binary o l r s) = bare.binary o (bare_expr l) (bare_expr r)
  bare_expr (compare e cs s) = bare.compare (bare_expr e) (bare_comparisons cs)
  bare_expr (if_expr t e o s) = bare.if_expr (bare_expr t) (bare_expr e) (bare_optional o)
  bare_expr (filter e x args s) = bare.filter (bare_optional e) x (bare_args args)
  bare_expr (test e x args s) = bare.test (bare_expr e) x (bare_args args)
  bare_expr (attribute e x s) = bare.attribute (bare_expr e) x
  bare_expr (item e i s) = bare.item (bare_expr e) (bare_expr i)
  bare_expr (call e args s) = bare.call (bare_expr e) (bare_args args)
  bare_expr (list es s) = bare.list (bare_exprs es)
  bare_expr (tuple es s) = bare.tuple (bare_exprs es)
  bare_expr (map ks vs s) = bare.map (bare_exprs ks) (bare_exprs vs)

  pub bare_optional : {C : Type 0} → Optional C → bare.Optional C
  bare_optional absent = bare.absent
  bare_optional (present e) = bare.present (bare_expr e)

  pub bare_exprs : {C : Type 0} → Exprs C → bare.Exprs C
  bare_exprs no_more = bare.no_more
  bare_exprs (more e es) = bare.more (bare_expr e) (bare_exprs es)

  pub bare_comparisons : {C : Type 0} → Comparisons C → bare.Comparisons C
  bare_comparisons compared = bare.compared
  bare_comparisons (against o e cs) = bare.against o (bare_expr e) (bare_comparisons cs)

  pub bare_args : {C : Type 0} → Args C → bare.Args C
  bare_args no_args = bare.no_args
  bare_args (pos e xs) = bare.pos (bare_expr e) (bare_args xs)
  bare_args (pos_splat e xs) = bare.pos_splat (bare_expr e) (bare_args xs)
  bare_args (kwarg x e xs) = bare.kwarg x (bare_expr e) (bare_args xs)
  bare_args (kwarg_splat e xs) = bare.kwarg_splat (bare_expr e) (bare_args xs)

abbrev pub bare_bindings : {C : Type 0} → List (Expr C × Expr C) → List (bare.Expr C × bare.Expr C)
bare_bindings [] = []
bare_bindings (b ∷ bs) = (bare_expr b.0, bare_expr b.1) ∷ bare_bindings bs

abbrev pub bare_list : {C : Type 0} → List (Expr C) → List (bare.Expr C)
bare_list [] = []
bare_list (e ∷ es) = bare_expr e ∷ bare_list es

abbrev pub bare_names : {C : Type 0} → List (Expr C × Optional C) → List (bare.Expr C × bare.Optional C)
bare_names [] = []
bare_names (n ∷ ns) = (bare_expr n.0, bare_optional n.1) ∷ bare_names ns
