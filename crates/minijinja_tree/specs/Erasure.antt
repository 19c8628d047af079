-- The tree that a node stands for, without its spans, and with values seen as what they hold.
pub use Rattle.minijinja_tree_expr.specs.Erasure.{unary_op, bin_op, compare_op, expr_tree, optional_tree, exprs_tree, args_tree, arg_tree, compare_tree, comparisons_tree, optional_of, exprs_of, args_of, comparisons_of, assignments_of, names_of}
use Rattle.std.specs.Prelude.{map}
use Rattle.minijinja_tree_expr.specs.Nodes.{node_of}
use Rattle.minijinja_tree.specs.Tree as tree
use Rattle.minijinja_tree.specs.declared.ast.Stmt.TheBlock as stmt_block
use Rattle.minijinja_tree.specs.declared.ast.Macro.{Macro}
use Rattle.minijinja_tree.specs.declared.ast.Stmt.{Stmt, Row_of-Stmt, end_of-Stmt, more_of-Stmt}
use Rattle.minijinja_tree.specs.declared.ast.Stmt.TheVariants.{Template', EmitExpr, EmitRaw, ForLoop', IfCond', WithBlock', Set, SetBlock', AutoEscape', FilterBlock', Block', Extends, Include, Import, FromImport, Macro', CallBlock', Continue, Break, Do}

-- loops and macros have no label of their own
abbrev mutual
  pub stmt_tree : {V F C : Type 0} → (V → C) → Stmt V F → tree.Stmt C (Unit {0})
  stmt_tree c (Template' p k xs s) = tree.template (stmts_tree c xs)
  stmt_tree c (EmitExpr s) = tree.output (expr_tree c (node_of s).expr)
  stmt_tree c (EmitRaw s) = tree.data_text (node_of s).raw.now
  stmt_tree c (ForLoop' p t e only again k xs l ys s) = tree.for_loop tt (expr_tree c t) (expr_tree c e) (optional_of c only) again (stmts_tree c xs) (stmts_tree c ys)
  stmt_tree c (IfCond' p e k xs l ys s) = tree.if_cond (expr_tree c e) (stmts_tree c xs) (stmts_tree c ys)
  stmt_tree c (WithBlock' p bs k xs s) = tree.with_block (assignments_of c bs.items) (stmts_tree c xs)
  stmt_tree c (Set s) = tree.assignment (expr_tree c (node_of s).target) (expr_tree c (node_of s).expr)
  stmt_tree c (SetBlock' p t e k xs s) = tree.set_block (expr_tree c t) (optional_of c e) (stmts_tree c xs)
  stmt_tree c (AutoEscape' p e k xs s) = tree.auto_escape (expr_tree c e) (stmts_tree c xs)
  stmt_tree c (FilterBlock' p e k xs s) = tree.filter_block (expr_tree c e) (stmts_tree c xs)
  stmt_tree c (Block' p x required k xs s) = tree.named_block x.now required (stmts_tree c xs)
  stmt_tree c (Extends s) = tree.extends (expr_tree c (node_of s).name)
  stmt_tree c (Include s) = tree.include (expr_tree c (node_of s).name) (node_of s).ignore_missing
  stmt_tree c (Import s) = tree.import_all (expr_tree c (node_of s).expr) (expr_tree c (node_of s).name)
  stmt_tree c (FromImport s) = tree.from_import (expr_tree c (node_of s).expr) (names_of c (node_of s).names.items)
  stmt_tree c (Macro' p x args defaults k xs s) = tree.declare (tree.macro tt x.now (map (expr_tree c) args.items) (map (expr_tree c) defaults.items) (stmts_tree c xs))
  stmt_tree c (CallBlock' p (stmt_block.struct-CallBlock call q x args defaults k xs at) s) =
      tree.call_block (expr_tree c (node_of call).expr) (args_of c (node_of call).args.items) (tree.macro tt x.now (map (expr_tree c) args.items) (map (expr_tree c) defaults.items) (stmts_tree c xs))
  stmt_tree c (Continue s) = tree.continue_loop
  stmt_tree c (Break s) = tree.break_loop
  stmt_tree c (Do s) = let call = node_of (node_of s).call in tree.do_call (expr_tree c call.expr) (args_of c call.args.items)

  pub stmts_tree : {V F C : Type 0} {m : _} → (V → C) → Row_of-Stmt V F m → tree.Stmts C (Unit {0})
  stmts_tree c end_of-Stmt = tree.done
  stmts_tree c (more_of-Stmt s rest) = tree.also (stmt_tree c s) (stmts_tree c rest)

-- a macro by itself
abbrev pub macro_tree : {V F C : Type 0} → (V → C) → Macro V F → tree.Macro C (Unit {0})
macro_tree c m = tree.macro tt m.name.now (map (expr_tree c) m.args.items) (map (expr_tree c) m.defaults.items) (tree.stmts_of (map (stmt_tree c) m.body.items))
