-- The nodes of lists of parts, by their items.
use Rattle.std.proofs.Common.{◌≡◌, ◌++◌, map, refl}
use Rattle.std.specs.Prelude.{List, [], ◌∷◌, Option}
use Rattle.minijinja_tree.specs.SpannedErasure.{all_compared, args_of, bindings_of, expr_node, names_of, optional_of, stmt_node, trees}
use Rattle.minijinja_tree.specs.SpannedTrees.{comparisons_of, exprs_of, stmts_of}
use Rattle.minijinja_tree_expr.specs.declared.ast.CallArg.{CallArg}
use Rattle.minijinja_tree_expr.specs.declared.ast.CallArg.TheVariants.{Pos, Kwarg, PosSplat, KwargSplat}
use Rattle.minijinja_tree_expr.specs.declared.ast.CompareOp.{CompareOp}
use Rattle.minijinja_tree_expr.specs.declared.ast.Expr.{Expr}
use Rattle.minijinja_tree.specs.declared.ast.Stmt.{Stmt}
use Rattle.minijinja_walk.specs.Children.{Node, expr, stmt, arguments, body, exprs, if_any, imported, operands, pairs}
use Rattle.minijinja_walk.proofs.Listing.{IsByItems}

module _ {V F C : Type 0} (c : V → C) where
  abbrev pub of_exprs : List (Expr V F) → List (Node C)
  of_exprs es = exprs (exprs_of (trees c es))

  pub exprs-by_items : IsByItems of_exprs (λ e. expr (expr_node c e) ∷ [])
  exprs-by_items = record { none = refl; more = λ e es. refl }

  abbrev pub of_comparisons : List (CompareOp V F) → List (Node C)
  of_comparisons os = operands (comparisons_of (all_compared c os))

  pub comparisons-by_items : IsByItems of_comparisons (λ o. expr (expr_node c o.expr) ∷ [])
  comparisons-by_items = record { none = refl; more = λ o os. refl }

  abbrev pub of_args : List (CallArg V F) → List (Node C)
  of_args xs = arguments (args_of c xs)

  first_arg : (a : CallArg V F) (xs : List (CallArg V F)) → of_args (a ∷ xs) ≡ of_args (a ∷ []) ++ of_args xs
  first_arg (Pos e) xs = refl
  first_arg (Kwarg x e) xs = refl
  first_arg (PosSplat e) xs = refl
  first_arg (KwargSplat e) xs = refl

  pub args-by_items : IsByItems of_args (λ a. of_args (a ∷ []))
  args-by_items = record { none = refl; more = first_arg }

  abbrev pub of_bindings : List (Expr V F × Expr V F) → List (Node C)
  of_bindings bs = pairs (bindings_of c bs)

  pub bindings-by_items : IsByItems of_bindings (λ b. expr (expr_node c b.0) ∷ expr (expr_node c b.1) ∷ [])
  bindings-by_items = record { none = refl; more = λ b bs. refl }

  abbrev pub of_names : List (Expr V F × Option (Expr V F)) → List (Node C)
  of_names ns = imported (names_of c ns)

  pub names-by_items : IsByItems of_names (λ n. expr (expr_node c n.0) ∷ if_any (optional_of c n.1))
  names-by_items = record { none = refl; more = λ n ns. refl }

  abbrev pub of_stmts : List (Stmt V F) → List (Node C)
  of_stmts ss = body (stmts_of (map (stmt_node c) ss))

  pub stmts-by_items : IsByItems of_stmts (λ s. stmt (stmt_node c s) ∷ [])
  stmts-by_items = record { none = refl; more = λ s ss. refl }
