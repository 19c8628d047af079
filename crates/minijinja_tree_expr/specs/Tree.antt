-- Trees of expressions without spans, over what values hold.
use Rattle.minijinja_syntax.specs.Texts.{Text}
use Rattle.minijinja_tree_expr.specs.BinOps.{BinOp}
use Rattle.minijinja_tree_expr.specs.CompareOps.{CompareOp}

pub data UnaryOp : Type 0 where
  logical_not negation : UnaryOp

mutual
  pub data Expr (C : Type 0) : Type 0 where
    variable : Text → Expr C
    constant : C → Expr C
    -- the base, and the start, stop and step that are there
    slice : Expr C → Optional C → Optional C → Optional C → Expr C
    unary : UnaryOp → Expr C → Expr C
    binary : BinOp → Expr C → Expr C → Expr C
    -- two comparisons or more: the first operand, and each operator with the operand after it
    compare : Expr C → Comparisons C → Expr C
    -- the test, the true part and the else part
    if_expr : Expr C → Expr C → Optional C → Expr C
    -- the operand, which is absent at the start of a chain of a set or filter block, the name and
    -- the arguments
    filter : Optional C → Text → Args C → Expr C
    test : Expr C → Text → Args C → Expr C
    attribute : Expr C → Text → Expr C
    item : Expr C → Expr C → Expr C
    call : Expr C → Args C → Expr C
    list : Exprs C → Expr C
    tuple : Exprs C → Expr C
    -- keys and values
    map : Exprs C → Exprs C → Expr C

  pub data Optional (C : Type 0) : Type 0 where
    absent : Optional C
    present : Expr C → Optional C

  pub data Exprs (C : Type 0) : Type 0 where
    no_more : Exprs C
    more : Expr C → Exprs C → Exprs C

  pub data Comparisons (C : Type 0) : Type 0 where
    compared : Comparisons C
    against : CompareOp → Expr C → Comparisons C → Comparisons C

  -- the arguments of a call, as written: positional, `*`, keyword and `**` ones
  pub data Args (C : Type 0) : Type 0 where
    no_args : Args C
    pos : Expr C → Args C → Args C
    pos_splat : Expr C → Args C → Args C
    kwarg : Text → Expr C → Args C → Args C
    kwarg_splat : Expr C → Args C → Args C
