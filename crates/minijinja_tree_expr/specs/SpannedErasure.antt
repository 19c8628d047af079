-- The tree that an expression stands for, with its spans, and with values seen as what they hold.
use Rattle.std.specs.Prelude.{List, map, Option}
use Rattle.std.specs.Option.{option_map}
use Rattle.minijinja_syntax.specs.declared.tokens.Span.{Span}
use Rattle.minijinja_tree_expr.specs.declared.ast.CallArg.{CallArg}
use Rattle.minijinja_tree_expr.specs.declared.ast.CallArg.TheVariants.{Pos, Kwarg, PosSplat, KwargSplat}
use Rattle.minijinja_tree_expr.specs.declared.ast.CompareOp.{CompareOp}
use Rattle.minijinja_tree_expr.specs.Nodes.{node_of, span_of}
use Rattle.minijinja_tree_expr.specs.Erasure.{unary_op, bin_op, compare_op}
use Rattle.minijinja_tree_expr.specs.CompareOps as cmp
use Rattle.minijinja_tree_expr.specs.SpannedTrees as tree
use Rattle.minijinja_tree_expr.specs.declared.ast.CallArg.TheBlock as block
use Rattle.minijinja_tree_expr.specs.declared.ast.Expr.{Expr}
use Rattle.minijinja_tree_expr.specs.declared.ast.Expr.TheVariants.{Var, Const, GetAttr', Slice', UnaryOp', BinOp', Compare', IfExpr', Filter', Test', GetItem', Call', List', Tuple', Map'}

abbrev mutual
  pub expr_node : {V F C : Type 0} → (V → C) → Expr V F → tree.Expr C
  expr_node c (Var s) = tree.variable (node_of s).id.now (span_of s)
  expr_node c (Const s) = tree.constant (c (node_of s).value) (span_of s)
  expr_node c (GetAttr' p e n s) = tree.attribute (expr_node c e) n.now s
  expr_node c (Slice' p e start stop step s) = tree.slice (expr_node c e) (optional_node c start) (optional_node c stop) (optional_node c step) s
  expr_node c (UnaryOp' p op e s) = tree.unary (unary_op op) (expr_node c e) s
  expr_node c (BinOp' p op l r s) = tree.binary (bin_op op) (expr_node c l) (expr_node c r) s
  expr_node c (Compare' p q s) = compare_node c q s
  expr_node c (IfExpr' p t e f s) = tree.if_expr (expr_node c t) (expr_node c e) (optional_node c f) s
  expr_node c (Filter' p name e k args s) = tree.filter (optional_node c e) name.now (args_node c args) s
  expr_node c (Test' p name e k args s) = tree.test (expr_node c e) name.now (args_node c args) s
  expr_node c (GetItem' p e i s) = tree.item (expr_node c e) (expr_node c i) s
  expr_node c (Call' p e k args s) = tree.call (expr_node c e) (args_node c args) s
  expr_node c (List' p k items s) = tree.list (exprs_node c items) s
  expr_node c (Tuple' p k items s) = tree.tuple (exprs_node c items) s
  expr_node c (Map' p k keys l values s) = tree.map (exprs_node c keys) (exprs_node c values) s

  pub optional_node : {V F C : Type 0} → (V → C) → block.Held-Filter-expr V F → tree.Optional C
  optional_node c block.None' = tree.absent
  optional_node c (block.Some' e) = tree.present (expr_node c e)

  pub exprs_node : {V F C : Type 0} {m : _} → (V → C) → block.Row_of-Expr V F m → tree.Exprs C
  exprs_node c block.end_of-Expr = tree.no_more
  exprs_node c (block.more_of-Expr e rest) = tree.more (expr_node c e) (exprs_node c rest)

  pub args_node : {V F C : Type 0} {m : _} → (V → C) → block.Row_of-CallArg V F m → tree.Args C
  args_node c block.end_of-CallArg = tree.no_args
  args_node c (block.more_of-CallArg a rest) = arg_node c a (args_node c rest)

  -- the argument, before the others
  pub arg_node : {V F C : Type 0} → (V → C) → block.the_data V F → tree.Args C → tree.Args C
  arg_node c (block.Pos e) rest = tree.pos (expr_node c e) rest
  arg_node c (block.Kwarg name e) rest = tree.kwarg name.now (expr_node c e) rest
  arg_node c (block.PosSplat e) rest = tree.pos_splat (expr_node c e) rest
  arg_node c (block.KwargSplat e) rest = tree.kwarg_splat (expr_node c e) rest

  pub compare_node : {V F C : Type 0} → (V → C) → block.the_data-4 V F → Span → tree.Expr C
  compare_node c (block.struct-Compare e k ops) s = tree.compare (expr_node c e) (comparisons_node c ops) s

  pub comparisons_node : {V F C : Type 0} {m : _} → (V → C) → block.Row_of-CompareOp V F m → tree.Comparisons C
  comparisons_node c block.end_of-CompareOp = tree.compared
  comparisons_node c (block.more_of-CompareOp op e rest) = tree.against (compare_op op) (expr_node c e) (comparisons_node c rest)

abbrev pub trees : {V F C : Type 0} → (V → C) → List (Expr V F) → List (tree.Expr C)
trees c es = map (expr_node c) es

abbrev pub any_tree : {V F C : Type 0} → (V → C) → Option (Expr V F) → Option (tree.Expr C)
any_tree c e = option_map (expr_node c) e

abbrev pub arg_view : {V F C : Type 0} → (V → C) → CallArg V F → tree.Arg C
arg_view c (Pos e) = tree.positional (expr_node c e)
arg_view c (PosSplat e) = tree.starred (expr_node c e)
arg_view c (Kwarg x e) = tree.keyword x.now (expr_node c e)
arg_view c (KwargSplat e) = tree.double_starred (expr_node c e)

abbrev pub args_view : {V F C : Type 0} → (V → C) → List (CallArg V F) → List (tree.Arg C)
args_view c xs = map (arg_view c) xs

abbrev pub compared : {V F C : Type 0} → (V → C) → CompareOp V F → cmp.CompareOp × tree.Expr C
compared c o = (compare_op o.op, expr_node c o.expr)

abbrev pub all_compared : {V F C : Type 0} → (V → C) → List (CompareOp V F) → List (cmp.CompareOp × tree.Expr C)
all_compared c os = map (compared c) os

-- an expression that may be absent
abbrev pub optional_of : {V F C : Type 0} → (V → C) → Option (Expr V F) → tree.Optional C
optional_of c e = tree.optional_of (any_tree c e)

-- the arguments of a list
abbrev pub args_of : {V F C : Type 0} → (V → C) → List (CallArg V F) → tree.Args C
args_of c xs = tree.args_of (args_view c xs)

-- targets with their values
abbrev pub bindings_of : {V F C : Type 0} → (V → C) → List (Expr V F × Expr V F) → List (tree.Expr C × tree.Expr C)
bindings_of c bs = map (λ b. (expr_node c b.0, expr_node c b.1)) bs

-- names that are taken from a template, with their aliases
abbrev pub names_of : {V F C : Type 0} → (V → C) → List (Expr V F × Option (Expr V F)) → List (tree.Expr C × tree.Optional C)
names_of c ns = map (λ n. (expr_node c n.0, optional_of c n.1)) ns
