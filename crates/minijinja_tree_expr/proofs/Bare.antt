-- The tree of a node without its spans is the bare tree of the node.
use Rattle.std.proofs.Common.{◌≡◌, refl, ap, ap₂, ◌∙◌}
use Rattle.std.specs.Prelude.{List, [], ◌∷◌, Option, Some, None}
use Rattle.minijinja_tree_expr.specs.Erasure.{expr_tree, optional_tree, exprs_tree, args_tree, arg_tree, compare_tree, comparisons_tree, optional_of, args_of, assignments_of}
use Rattle.minijinja_tree_expr.specs.SpannedErasure.{expr_node, optional_node, exprs_node, args_node, arg_node, compare_node, comparisons_node, bindings_of}
use Rattle.minijinja_tree_expr.specs.SpannedErasure as spanned
use Rattle.minijinja_tree_expr.specs.SpannedTrees.{bare_expr, bare_optional, bare_exprs, bare_args, bare_comparisons, bare_bindings, Args}
use Rattle.minijinja_tree_expr.specs.Tree as tree
use Rattle.minijinja_syntax.specs.declared.tokens.Span.{Span}
use Rattle.minijinja_tree_expr.specs.declared.ast.CallArg.TheBlock as block
use Rattle.minijinja_tree_expr.specs.declared.ast.Expr.{Expr}
use Rattle.minijinja_tree_expr.specs.declared.ast.Expr.TheVariants.{Var, Const, GetAttr', Slice', UnaryOp', BinOp', Compare', IfExpr', Filter', Test', GetItem', Call', List', Tuple', Map'}
use Rattle.minijinja_tree_expr.specs.declared.ast.CallArg.{CallArg}
use Rattle.minijinja_tree_expr.specs.declared.ast.CallArg.TheVariants.{Pos, Kwarg, PosSplat, KwargSplat}

mutual
  pub expr_is : {V F C : Type 0} (c : V → C) (e : Expr V F) → bare_expr (expr_node c e) ≡ expr_tree c e
  expr_is c (Var s) = refl
  expr_is c (Const s) = refl
  expr_is c (GetAttr' p e n s) = rw (expr_is c e) refl
  expr_is c (Slice' p e start stop step s) = rw (expr_is c e, optional_is c start, optional_is c stop, optional_is c step) refl
  expr_is c (UnaryOp' p op e s) = rw (expr_is c e) refl
  expr_is c (BinOp' p op l r s) = rw (expr_is c l, expr_is c r) refl
  expr_is c (Compare' p q s) = compare_is c q s
  expr_is c (IfExpr' p t e f s) = rw (expr_is c t, expr_is c e, optional_is c f) refl
  expr_is c (Filter' p name e k args s) = rw (optional_is c e, args_are c args) refl
  expr_is c (Test' p name e k args s) = rw (expr_is c e, args_are c args) refl
  expr_is c (GetItem' p e i s) = rw (expr_is c e, expr_is c i) refl
  expr_is c (Call' p e k args s) = rw (expr_is c e, args_are c args) refl
  expr_is c (List' p k items s) = rw (exprs_are c items) refl
  expr_is c (Tuple' p k items s) = rw (exprs_are c items) refl
  expr_is c (Map' p k keys l values s) = rw (exprs_are c keys, exprs_are c values) refl

  pub optional_is : {V F C : Type 0} (c : V → C) (o : block.Held-Filter-expr V F) → bare_optional (optional_node c o) ≡ optional_tree c o
  optional_is c block.None' = refl
  optional_is c (block.Some' e) = rw (expr_is c e) refl

  pub exprs_are : {V F C : Type 0} {m : _} (c : V → C) (row : block.Row_of-Expr V F m) → bare_exprs (exprs_node c row) ≡ exprs_tree c row
  exprs_are c block.end_of-Expr = refl
  exprs_are c (block.more_of-Expr e rest) = rw (expr_is c e, exprs_are c rest) refl

  pub args_are : {V F C : Type 0} {m : _} (c : V → C) (row : block.Row_of-CallArg V F m) → bare_args (args_node c row) ≡ args_tree c row
  args_are c block.end_of-CallArg = refl
  args_are c (block.more_of-CallArg a rest) = arg_is c a (args_node c rest) ∙ ap (arg_tree c a) (args_are c rest)

  pub arg_is : {V F C : Type 0} (c : V → C) (a : block.the_data V F) (rest : Args C) → bare_args (arg_node c a rest) ≡ arg_tree c a (bare_args rest)
  arg_is c (block.Pos e) rest = rw (expr_is c e) refl
  arg_is c (block.Kwarg name e) rest = rw (expr_is c e) refl
  arg_is c (block.PosSplat e) rest = rw (expr_is c e) refl
  arg_is c (block.KwargSplat e) rest = rw (expr_is c e) refl

  pub compare_is : {V F C : Type 0} (c : V → C) (q : block.the_data-4 V F) (s : Span) → bare_expr (compare_node c q s) ≡ compare_tree c q
  compare_is c (block.struct-Compare e k ops) s = rw (expr_is c e, comparisons_are c ops) refl

  pub comparisons_are : {V F C : Type 0} {m : _} (c : V → C) (row : block.Row_of-CompareOp V F m) → bare_comparisons (comparisons_node c row) ≡ comparisons_tree c row
  comparisons_are c block.end_of-CompareOp = refl
  comparisons_are c (block.more_of-CompareOp op e rest) = rw (expr_is c e, comparisons_are c rest) refl

pub any_is : {V F C : Type 0} (c : V → C) (o : Option (Expr V F)) → bare_optional (spanned.optional_of c o) ≡ optional_of c o
any_is c None = refl
any_is c (Some e) = rw (expr_is c e) refl

pub args_of_are : {V F C : Type 0} (c : V → C) (xs : List (CallArg V F)) → bare_args (spanned.args_of c xs) ≡ args_of c xs
args_of_are c [] = refl
args_of_are c (Pos e ∷ rest) = ap₂ tree.pos (expr_is c e) (args_of_are c rest)
args_of_are c (Kwarg x e ∷ rest) = ap₂ (tree.kwarg x.now) (expr_is c e) (args_of_are c rest)
args_of_are c (PosSplat e ∷ rest) = ap₂ tree.pos_splat (expr_is c e) (args_of_are c rest)
args_of_are c (KwargSplat e ∷ rest) = ap₂ tree.kwarg_splat (expr_is c e) (args_of_are c rest)

pub bindings_are : {V F C : Type 0} (c : V → C) (bs : List (Expr V F × Expr V F)) → bare_bindings (bindings_of c bs) ≡ assignments_of c bs
bindings_are c [] = refl
bindings_are c (b ∷ rest) = ap₂ ◌∷◌ (ap₂ (λ t e. (t, e)) (expr_is c b.0) (expr_is c b.1)) (bindings_are c rest)
