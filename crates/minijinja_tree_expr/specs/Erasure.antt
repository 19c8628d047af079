-- The tree that an expression stands for, without its spans, over what values hold.
use Rattle.std.specs.Prelude.{List, [], ◌∷◌, Option, Some, None}
use Rattle.minijinja_tree_expr.specs.Nodes.{node_of}
use Rattle.minijinja_tree_expr.specs.BinOps as bin
use Rattle.minijinja_tree_expr.specs.CompareOps as cmp
use Rattle.minijinja_tree_expr.specs.Tree as tree
use Rattle.minijinja_tree_expr.specs.declared.ast.CallArg.TheBlock as block
use Rattle.minijinja_tree_expr.specs.declared.ast.UnaryOpKind.TheVariants as unary_kind
use Rattle.minijinja_tree_expr.specs.declared.ast.UnaryOpKind.{UnaryOpKind}
use Rattle.minijinja_tree_expr.specs.declared.ast.BinOpKind.TheVariants as bin_kind
use Rattle.minijinja_tree_expr.specs.declared.ast.BinOpKind.{BinOpKind}
use Rattle.minijinja_tree_expr.specs.declared.ast.CompareOpKind.TheVariants as compare_kind
use Rattle.minijinja_tree_expr.specs.declared.ast.CompareOpKind.{CompareOpKind}
use Rattle.minijinja_tree_expr.specs.declared.ast.Expr.{Expr}
use Rattle.minijinja_tree_expr.specs.declared.ast.Expr.TheVariants.{Var, Const, GetAttr', Slice', UnaryOp', BinOp', Compare', IfExpr', Filter', Test', GetItem', Call', List', Tuple', Map'}

abbrev pub unary_op : UnaryOpKind → tree.UnaryOp
unary_op unary_kind.Not = tree.logical_not
unary_op unary_kind.Neg = tree.negation

abbrev pub bin_op : BinOpKind → bin.BinOp
bin_op bin_kind.Eq = bin.eq
bin_op bin_kind.Ne = bin.ne
bin_op bin_kind.Lt = bin.lt
bin_op bin_kind.Lte = bin.lte
bin_op bin_kind.Gt = bin.gt
bin_op bin_kind.Gte = bin.gte
bin_op bin_kind.ScAnd = bin.sc_and
bin_op bin_kind.ScOr = bin.sc_or
bin_op bin_kind.Add = bin.add
bin_op bin_kind.Sub = bin.sub
bin_op bin_kind.Mul = bin.mul
bin_op bin_kind.Div = bin.div
bin_op bin_kind.FloorDiv = bin.floor_div
bin_op bin_kind.Rem = bin.rem
bin_op bin_kind.Pow = bin.pow
bin_op bin_kind.Concat = bin.concat
bin_op bin_kind.In = bin.is_in

abbrev pub compare_op : CompareOpKind → cmp.CompareOp
compare_op compare_kind.Eq = cmp.eq
compare_op compare_kind.Ne = cmp.ne
compare_op compare_kind.Lt = cmp.lt
compare_op compare_kind.Lte = cmp.lte
compare_op compare_kind.Gt = cmp.gt
compare_op compare_kind.Gte = cmp.gte
compare_op compare_kind.In = cmp.is_in
compare_op compare_kind.NotIn = cmp.not_in

abbrev mutual
  pub expr_tree : {V F C : Type 0} → (V → C) → Expr V F → tree.Expr C
  expr_tree c (Var s) = tree.variable (node_of s).id.now
  expr_tree c (Const s) = tree.constant (c (node_of s).value)
  expr_tree c (GetAttr' p e n s) = tree.attribute (expr_tree c e) n.now
  expr_tree c (Slice' p e start stop step s) = tree.slice (expr_tree c e) (optional_tree c start) (optional_tree c stop) (optional_tree c step)
  expr_tree c (UnaryOp' p op e s) = tree.unary (unary_op op) (expr_tree c e)
  expr_tree c (BinOp' p op l r s) = tree.binary (bin_op op) (expr_tree c l) (expr_tree c r)
  expr_tree c (Compare' p q s) = compare_tree c q
  expr_tree c (IfExpr' p t e f s) = tree.if_expr (expr_tree c t) (expr_tree c e) (optional_tree c f)
  expr_tree c (Filter' p name e k args s) = tree.filter (optional_tree c e) name.now (args_tree c args)
  expr_tree c (Test' p name e k args s) = tree.test (expr_tree c e) name.now (args_tree c args)
  expr_tree c (GetItem' p e i s) = tree.item (expr_tree c e) (expr_tree c i)
  expr_tree c (Call' p e k args s) = tree.call (expr_tree c e) (args_tree c args)
  expr_tree c (List' p k items s) = tree.list (exprs_tree c items)
  expr_tree c (Tuple' p k items s) = tree.tuple (exprs_tree c items)
  expr_tree c (Map' p k keys l values s) = tree.map (exprs_tree c keys) (exprs_tree c values)

  pub optional_tree : {V F C : Type 0} → (V → C) → block.Held-Filter-expr V F → tree.Optional C
  optional_tree c block.None' = tree.absent
  optional_tree c (block.Some' e) = tree.present (expr_tree c e)

  pub exprs_tree : {V F C : Type 0} {m : _} → (V → C) → block.Row_of-Expr V F m → tree.Exprs C
  exprs_tree c block.end_of-Expr = tree.no_more
  exprs_tree c (block.more_of-Expr e rest) = tree.more (expr_tree c e) (exprs_tree c rest)

  pub args_tree : {V F C : Type 0} {m : _} → (V → C) → block.Row_of-CallArg V F m → tree.Args C
  args_tree c block.end_of-CallArg = tree.no_args
  args_tree c (block.more_of-CallArg a rest) = arg_tree c a (args_tree c rest)

  -- the argument, before the others
  pub arg_tree : {V F C : Type 0} → (V → C) → block.the_data V F → tree.Args C → tree.Args C
  arg_tree c (block.Pos e) rest = tree.pos (expr_tree c e) rest
  arg_tree c (block.Kwarg name e) rest = tree.kwarg name.now (expr_tree c e) rest
  arg_tree c (block.PosSplat e) rest = tree.pos_splat (expr_tree c e) rest
  arg_tree c (block.KwargSplat e) rest = tree.kwarg_splat (expr_tree c e) rest

  pub compare_tree : {V F C : Type 0} → (V → C) → block.the_data-4 V F → tree.Expr C
  compare_tree c (block.struct-Compare e k ops) = tree.compare (expr_tree c e) (comparisons_tree c ops)

  pub comparisons_tree : {V F C : Type 0} {m : _} → (V → C) → block.Row_of-CompareOp V F m → tree.Comparisons C
  comparisons_tree c block.end_of-CompareOp = tree.compared
  comparisons_tree c (block.more_of-CompareOp op e rest) = tree.against (compare_op op) (expr_tree c e) (comparisons_tree c rest)

-- an expression that may be absent
abbrev pub optional_of : {V F C : Type 0} → (V → C) → Option (Expr V F) → tree.Optional C
optional_of c None = tree.absent
optional_of c (Some e) = tree.present (expr_tree c e)

-- the expressions of a list
abbrev pub exprs_of : {V F C : Type 0} → (V → C) → List (Expr V F) → tree.Exprs C
exprs_of c [] = tree.no_more
exprs_of c (e ∷ rest) = tree.more (expr_tree c e) (exprs_of c rest)

-- the arguments of a list
abbrev pub args_of : {V F C : Type 0} → (V → C) → List (block.the_data V F) → tree.Args C
args_of c [] = tree.no_args
args_of c (a ∷ rest) = arg_tree c a (args_of c rest)

-- the comparisons of a list
abbrev pub comparisons_of : {V F C : Type 0} → (V → C) → List (block.the_data-5 V F) → tree.Comparisons C
comparisons_of c [] = tree.compared
comparisons_of c (a ∷ rest) = tree.against (compare_op a.op) (expr_tree c a.expr) (comparisons_of c rest)

-- targets with their values
abbrev pub assignments_of : {V F C : Type 0} → (V → C) → List (Expr V F × Expr V F) → List (tree.Expr C × tree.Expr C)
assignments_of c [] = []
assignments_of c (a ∷ rest) = (expr_tree c a.0, expr_tree c a.1) ∷ assignments_of c rest

-- names that are taken from a template, with their aliases
abbrev pub names_of : {V F C : Type 0} → (V → C) → List (Expr V F × Option (Expr V F)) → List (tree.Expr C × tree.Optional C)
names_of c [] = []
names_of c (n ∷ rest) = (expr_tree c n.0, optional_of c n.1) ∷ names_of c rest
