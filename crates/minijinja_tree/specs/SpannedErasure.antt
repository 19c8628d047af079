-- The tree that a node stands for, with its spans, and with values seen as what they hold.
pub use Rattle.minijinja_tree_expr.specs.SpannedErasure.{expr_node, optional_node, exprs_node, args_node, arg_node, compare_node, comparisons_node, trees, any_tree, arg_view, args_view, compared, all_compared, optional_of, args_of, bindings_of, names_of}
use Rattle.std.specs.Prelude.{List, map, Option}
use Rattle.minijinja_tree_expr.specs.declared.ast.Expr.{Expr}
use Rattle.minijinja_tree_expr.specs.Nodes.{node_of, span_of}
use Rattle.minijinja_tree.specs.SpannedTrees as tree
use Rattle.minijinja_tree.specs.declared.ast.Stmt.TheBlock as stmt_block
use Rattle.minijinja_tree.specs.declared.ast.Stmt.{Stmt, Row_of-Stmt, end_of-Stmt, more_of-Stmt}
use Rattle.minijinja_tree.specs.declared.ast.Stmt.TheVariants.{Template', EmitExpr, EmitRaw, ForLoop', IfCond', WithBlock', Set, SetBlock', AutoEscape', FilterBlock', Block', Extends, Include, Import, FromImport, Macro', CallBlock', Continue, Break, Do}

abbrev mutual
  pub stmt_node : {V F C : Type 0} → (V → C) → Stmt V F → tree.Stmt C
  stmt_node c (Template' p k xs s) = tree.template (stmts_node c xs) s
  stmt_node c (EmitExpr s) = tree.output (expr_node c (node_of s).expr) (span_of s)
  stmt_node c (EmitRaw s) = tree.data_text (node_of s).raw.now (span_of s)
  stmt_node c (ForLoop' p t e only again k xs l ys s) = tree.for_loop (expr_node c t) (expr_node c e) (optional_of c only) again (stmts_node c xs) (stmts_node c ys) s
  stmt_node c (IfCond' p e k xs l ys s) = tree.if_cond (expr_node c e) (stmts_node c xs) (stmts_node c ys) s
  stmt_node c (WithBlock' p bs k xs s) = tree.with_block (bindings_of c bs.items) (stmts_node c xs) s
  stmt_node c (Set s) = tree.assignment (expr_node c (node_of s).target) (expr_node c (node_of s).expr) (span_of s)
  stmt_node c (SetBlock' p t e k xs s) = tree.set_block (expr_node c t) (optional_of c e) (stmts_node c xs) s
  stmt_node c (AutoEscape' p e k xs s) = tree.auto_escape (expr_node c e) (stmts_node c xs) s
  stmt_node c (FilterBlock' p e k xs s) = tree.filter_block (expr_node c e) (stmts_node c xs) s
  stmt_node c (Block' p x required k xs s) = tree.named_block x.now required (stmts_node c xs) s
  stmt_node c (Extends s) = tree.extends (expr_node c (node_of s).name) (span_of s)
  stmt_node c (Include s) = tree.include (expr_node c (node_of s).name) (node_of s).ignore_missing (span_of s)
  stmt_node c (Import s) = tree.import_all (expr_node c (node_of s).expr) (expr_node c (node_of s).name) (span_of s)
  stmt_node c (FromImport s) = tree.from_import (expr_node c (node_of s).expr) (names_of c (node_of s).names.items) (span_of s)
  stmt_node c (Macro' p x args defaults k xs s) = tree.declare (tree.macro x.now (trees c args.items) (trees c defaults.items) (stmts_node c xs) s)
  stmt_node c (CallBlock' p (stmt_block.struct-CallBlock call q x args defaults k xs at) s) =
      tree.call_block (expr_node c (node_of call).expr) (args_of c (node_of call).args.items) (span_of call) (tree.macro x.now (trees c args.items) (trees c defaults.items) (stmts_node c xs) at) s
  stmt_node c (Continue s) = tree.continue_loop (span_of s)
  stmt_node c (Break s) = tree.break_loop (span_of s)
  stmt_node c (Do s) = let call = node_of (node_of s).call in tree.do_call (expr_node c call.expr) (args_of c call.args.items) (span_of (node_of s).call) (span_of s)

  pub stmts_node : {V F C : Type 0} {m : _} → (V → C) → Row_of-Stmt V F m → tree.Stmts C
  stmts_node c end_of-Stmt = tree.done
  stmts_node c (more_of-Stmt s rest) = tree.also (stmt_node c s) (stmts_node c rest)

-- arguments of a macro, with their defaults
abbrev pub params_of : {V F C : Type 0} → (V → C) → List (Expr V F × Option (Expr V F)) → List (tree.Expr C × Option (tree.Expr C))
params_of c ps = map (λ p. (expr_node c p.0, any_tree c p.1)) ps

-- the statements of a list
abbrev pub stmt_nodes : {V F C : Type 0} → (V → C) → List (Stmt V F) → List (tree.Stmt C)
stmt_nodes c ss = map (stmt_node c) ss
