-- The tree of a statement, by its node.
use Rattle.std.proofs.Common.{◌≡◌, sym, ap, ◌∙◌}
use Rattle.minijinja_tree.specs.Nodes.{node_of}
use Rattle.minijinja_tree.specs.Erasure.{expr_tree, optional_of, args_of, assignments_of, names_of, macro_tree, stmt_tree}
use Rattle.minijinja_tree.specs.Tree as tree
use Rattle.minijinja_tree.specs.declared.ast.Stmt.{Stmt}
use Rattle.minijinja_tree.specs.declared.ast.Stmt.TheVariants as stmt
use Rattle.minijinja_tree_expr.specs.declared.ast.Spanned.{Spanned}
use Rattle.minijinja_tree.specs.declared.ast.EmitRaw.{EmitRaw}
use Rattle.minijinja_tree.specs.declared.ast.EmitExpr.{EmitExpr}
use Rattle.minijinja_tree.specs.declared.ast.Set.{Set}
use Rattle.minijinja_tree.specs.declared.ast.ForLoop.{ForLoop}
use Rattle.minijinja_tree.specs.declared.ast.IfCond.{IfCond}
use Rattle.minijinja_tree.specs.declared.ast.WithBlock.{WithBlock}
use Rattle.minijinja_tree.specs.declared.ast.SetBlock.{SetBlock}
use Rattle.minijinja_tree.specs.declared.ast.AutoEscape.{AutoEscape}
use Rattle.minijinja_tree.specs.declared.ast.FilterBlock.{FilterBlock}
use Rattle.minijinja_tree.specs.declared.ast.Block.{Block}
use Rattle.minijinja_tree.specs.declared.ast.CallBlock.{CallBlock}
use Rattle.minijinja_tree.specs.declared.ast.Do.{Do}
use Rattle.minijinja_tree.specs.declared.ast.Extends.{Extends}
use Rattle.minijinja_tree.specs.declared.ast.FromImport.{FromImport}
use Rattle.minijinja_tree.specs.declared.ast.Import.{Import}
use Rattle.minijinja_tree.specs.declared.ast.Include.{Include}
use Rattle.minijinja_tree.specs.declared.ast.Macro.{Macro}
use Rattle.minijinja_tree.proofs.Rows.{body_of, for_loop_is, if_cond_is, with_block_is, set_block_is, auto_escape_is, filter_block_is, block_is, declare_is, call_block_tree, call_block_is}

module _ {V F C : Type 0} (c : V → C) where
  pub data_arm : (s : Stmt V F) (p : Spanned EmitRaw) (n : EmitRaw) → s ≡ stmt.EmitRaw p → n ≡ node_of p → stmt_tree c s ≡ tree.data_text n.raw.now
  data_arm s p n is at = ap (stmt_tree c) is ∙ ap (λ (m : EmitRaw). tree.data_text m.raw.now) (sym at)

  pub output_arm : (s : Stmt V F) (p : Spanned (EmitExpr V F)) (n : EmitExpr V F) → s ≡ stmt.EmitExpr p → n ≡ node_of p → stmt_tree c s ≡ tree.output (expr_tree c n.expr)
  output_arm s p n is at = ap (stmt_tree c) is ∙ ap (λ (m : EmitExpr V F). tree.output (expr_tree c m.expr)) (sym at)

  pub set_arm : (s : Stmt V F) (p : Spanned (Set V F)) (n : Set V F) → s ≡ stmt.Set p → n ≡ node_of p → stmt_tree c s ≡ tree.assignment (expr_tree c n.target) (expr_tree c n.expr)
  set_arm s p n is at = ap (stmt_tree c) is ∙ ap (λ (m : Set V F). tree.assignment (expr_tree c m.target) (expr_tree c m.expr)) (sym at)

  pub for_arm : (s : Stmt V F) (p : Spanned (ForLoop V F)) (n : ForLoop V F) → s ≡ stmt.ForLoop p → n ≡ node_of p → stmt_tree c s ≡ tree.for_loop tt (expr_tree c n.target) (expr_tree c n.iter) (optional_of c n.filter_expr) n.recursive (body_of c n.body.items) (body_of c n.else_body.items)
  for_arm s p n is at = ap (stmt_tree c) is ∙ for_loop_is c p ∙ ap (λ (m : ForLoop V F). tree.for_loop tt (expr_tree c m.target) (expr_tree c m.iter) (optional_of c m.filter_expr) m.recursive (body_of c m.body.items) (body_of c m.else_body.items)) (sym at)

  pub if_arm : (s : Stmt V F) (p : Spanned (IfCond V F)) (n : IfCond V F) → s ≡ stmt.IfCond p → n ≡ node_of p → stmt_tree c s ≡ tree.if_cond (expr_tree c n.expr) (body_of c n.true_body.items) (body_of c n.false_body.items)
  if_arm s p n is at = ap (stmt_tree c) is ∙ if_cond_is c p ∙ ap (λ (m : IfCond V F). tree.if_cond (expr_tree c m.expr) (body_of c m.true_body.items) (body_of c m.false_body.items)) (sym at)

  pub with_arm : (s : Stmt V F) (p : Spanned (WithBlock V F)) (n : WithBlock V F) → s ≡ stmt.WithBlock p → n ≡ node_of p → stmt_tree c s ≡ tree.with_block (assignments_of c n.assignments.items) (body_of c n.body.items)
  with_arm s p n is at = ap (stmt_tree c) is ∙ with_block_is c p ∙ ap (λ (m : WithBlock V F). tree.with_block (assignments_of c m.assignments.items) (body_of c m.body.items)) (sym at)

  pub set_block_arm : (s : Stmt V F) (p : Spanned (SetBlock V F)) (n : SetBlock V F) → s ≡ stmt.SetBlock p → n ≡ node_of p → stmt_tree c s ≡ tree.set_block (expr_tree c n.target) (optional_of c n.filter) (body_of c n.body.items)
  set_block_arm s p n is at = ap (stmt_tree c) is ∙ set_block_is c p ∙ ap (λ (m : SetBlock V F). tree.set_block (expr_tree c m.target) (optional_of c m.filter) (body_of c m.body.items)) (sym at)

  pub escape_arm : (s : Stmt V F) (p : Spanned (AutoEscape V F)) (n : AutoEscape V F) → s ≡ stmt.AutoEscape p → n ≡ node_of p → stmt_tree c s ≡ tree.auto_escape (expr_tree c n.enabled) (body_of c n.body.items)
  escape_arm s p n is at = ap (stmt_tree c) is ∙ auto_escape_is c p ∙ ap (λ (m : AutoEscape V F). tree.auto_escape (expr_tree c m.enabled) (body_of c m.body.items)) (sym at)

  pub filter_block_arm : (s : Stmt V F) (p : Spanned (FilterBlock V F)) (n : FilterBlock V F) → s ≡ stmt.FilterBlock p → n ≡ node_of p → stmt_tree c s ≡ tree.filter_block (expr_tree c n.filter) (body_of c n.body.items)
  filter_block_arm s p n is at = ap (stmt_tree c) is ∙ filter_block_is c p ∙ ap (λ (m : FilterBlock V F). tree.filter_block (expr_tree c m.filter) (body_of c m.body.items)) (sym at)

  pub do_arm : (s : Stmt V F) (p : Spanned (Do V F)) (n : Do V F) → s ≡ stmt.Do p → n ≡ node_of p → stmt_tree c s ≡ tree.do_call (expr_tree c (node_of n.call).expr) (args_of c (node_of n.call).args.items)
  do_arm s p n is at = ap (stmt_tree c) is ∙ ap (λ (m : Do V F). tree.do_call (expr_tree c (node_of m.call).expr) (args_of c (node_of m.call).args.items)) (sym at)

  pub block_arm : (s : Stmt V F) (p : Spanned (Block V F)) (n : Block V F) → s ≡ stmt.Block p → n ≡ node_of p → stmt_tree c s ≡ tree.named_block n.name.now n.required (body_of c n.body.items)
  block_arm s p n is at = ap (stmt_tree c) is ∙ block_is c p ∙ ap (λ (m : Block V F). tree.named_block m.name.now m.required (body_of c m.body.items)) (sym at)

  pub extends_arm : (s : Stmt V F) (p : Spanned (Extends V F)) (n : Extends V F) → s ≡ stmt.Extends p → n ≡ node_of p → stmt_tree c s ≡ tree.extends (expr_tree c n.name)
  extends_arm s p n is at = ap (stmt_tree c) is ∙ ap (λ (m : Extends V F). tree.extends (expr_tree c m.name)) (sym at)

  pub include_arm : (s : Stmt V F) (p : Spanned (Include V F)) (n : Include V F) → s ≡ stmt.Include p → n ≡ node_of p → stmt_tree c s ≡ tree.include (expr_tree c n.name) n.ignore_missing
  include_arm s p n is at = ap (stmt_tree c) is ∙ ap (λ (m : Include V F). tree.include (expr_tree c m.name) m.ignore_missing) (sym at)

  pub import_arm : (s : Stmt V F) (p : Spanned (Import V F)) (n : Import V F) → s ≡ stmt.Import p → n ≡ node_of p → stmt_tree c s ≡ tree.import_all (expr_tree c n.expr) (expr_tree c n.name)
  import_arm s p n is at = ap (stmt_tree c) is ∙ ap (λ (m : Import V F). tree.import_all (expr_tree c m.expr) (expr_tree c m.name)) (sym at)

  pub from_arm : (s : Stmt V F) (p : Spanned (FromImport V F)) (n : FromImport V F) → s ≡ stmt.FromImport p → n ≡ node_of p → stmt_tree c s ≡ tree.from_import (expr_tree c n.expr) (names_of c n.names.items)
  from_arm s p n is at = ap (stmt_tree c) is ∙ ap (λ (m : FromImport V F). tree.from_import (expr_tree c m.expr) (names_of c m.names.items)) (sym at)

  pub macro_arm : (s : Stmt V F) (p : Spanned (Macro V F)) (n : Macro V F) → s ≡ stmt.Macro p → n ≡ node_of p → stmt_tree c s ≡ tree.declare (macro_tree c n)
  macro_arm s p n is at = ap (stmt_tree c) is ∙ declare_is c p ∙ ap (λ (m : Macro V F). tree.declare (macro_tree c m)) (sym at)

  pub call_block_arm : (s : Stmt V F) (p : Spanned (CallBlock V F)) (n : CallBlock V F) → s ≡ stmt.CallBlock p → n ≡ node_of p → stmt_tree c s ≡ call_block_tree c n
  call_block_arm s p n is at = ap (stmt_tree c) is ∙ call_block_is c p ∙ ap (call_block_tree c) (sym at)
