-- The spanned tree of a statement, by its node and its span.
use Rattle.std.proofs.Common.{◌≡◌, map, List, [], ◌∷◌, refl, sym, ap, ap₂, ◌∙◌}
use Rattle.minijinja_syntax.specs.declared.tokens.Span.{Span}
use Rattle.minijinja_tree.specs.Nodes.{node_of, span_of}
use Rattle.minijinja_tree.specs.Erasure.{expr_tree, macro_tree}
use Rattle.minijinja_tree.specs.SpannedErasure.{args_of, bindings_of, expr_node, names_of, optional_of, stmt_node, stmts_node, trees}
use Rattle.minijinja_tree.specs.SpannedTrees as spanned
use Rattle.minijinja_tree.specs.SpannedTrees.{also, bare_list, bare_macro, bare_stmts}
use Rattle.minijinja_tree.specs.Tree as tree
use Rattle.minijinja_tree.proofs.Rows.{body_of}
use Rattle.minijinja_tree.proofs.Bare.{stmt_is}
use Rattle.minijinja_tree_expr.proofs.Bare.{expr_is}
use Rattle.minijinja_tree.proofs.StatementRows as rows
use Rattle.minijinja_tree_expr.specs.declared.ast.Expr.{Expr}
use Rattle.minijinja_tree_expr.specs.declared.ast.Spanned.{Spanned}
use Rattle.minijinja_tree.specs.declared.ast.Template.{Template}
use Rattle.minijinja_tree.specs.declared.ast.EmitExpr.{EmitExpr}
use Rattle.minijinja_tree.specs.declared.ast.ForLoop.{ForLoop}
use Rattle.minijinja_tree.specs.declared.ast.IfCond.{IfCond}
use Rattle.minijinja_tree.specs.declared.ast.WithBlock.{WithBlock}
use Rattle.minijinja_tree.specs.declared.ast.SetBlock.{SetBlock}
use Rattle.minijinja_tree.specs.declared.ast.AutoEscape.{AutoEscape}
use Rattle.minijinja_tree.specs.declared.ast.FilterBlock.{FilterBlock}
use Rattle.minijinja_tree.specs.declared.ast.Block.{Block}
use Rattle.minijinja_tree.specs.declared.ast.CallBlock.{CallBlock, out-CallBlock}
use Rattle.minijinja_tree.specs.declared.ast.Do.{Do}
use Rattle.minijinja_tree.specs.declared.ast.FromImport.{FromImport}
use Rattle.minijinja_tree.specs.declared.ast.Import.{Import}
use Rattle.minijinja_tree.specs.declared.ast.Macro.{Macro}
use Rattle.minijinja_tree.specs.declared.ast.Stmt.TheBlock as stmt_block
use Rattle.minijinja_tree.specs.declared.ast.Stmt.{Stmt, Row_of-Stmt, end_of-Stmt, more_of-Stmt, items-the_row-Stmt, items_hidden-the_row-Stmt-0, items_shown-the_row-Stmt-0}
use Rattle.minijinja_tree.specs.declared.ast.Stmt.TheVariants as stmt
use Rattle.minijinja_tree.specs.declared.ast.Stmt.TheVariants.{Macro', CallBlock'}
use Rattle.minijinja_code.specs.private.Statements.{call_in, macro_in, macro_node}
use Rattle.minijinja_code.proofs.MarkWalks.{nodes_of}

row_is : {V F C : Type 0} (c : V → C) (n : _) (row : Row_of-Stmt V F n) → stmts_node c row ≡ nodes_of c (items-the_row-Stmt V F n row)
row_is c n end_of-Stmt = refl
row_is c n (more_of-Stmt s rest) = ap (also (stmt_node c s)) (row_is c _ rest)

-- the body of a macro that is a statement
abbrev body_row : {V F : Type 0} → Stmt V F → (n : _) × Row_of-Stmt V F n
body_row (Macro' p x args defaults k xs s) = (_, xs)
body_row _ = (_, end_of-Stmt)

-- a call block, by its call and its macro
abbrev pub call_block_node : {V F C : Type 0} → (V → C) → CallBlock V F → Span → spanned.Stmt C
call_block_node c b t = spanned.call_block (expr_node c (node_of (call_in b)).expr) (args_of c (node_of (call_in b)).args.items) (span_of (call_in b)) (macro_node c (macro_in b)) t

call_made : {V F C : Type 0} (c : V → C) (p : _) (b : CallBlock V F) (t : Span) → stmt_node c (CallBlock' p b t) ≡ call_block_node c b t
unfolding out-CallBlock denote.Hole.Carrier.out
call_made {V} {F} c p (stmt_block.struct-CallBlock call q x args defaults k xs at) t =
    ap (λ ss. spanned.call_block (expr_node c (node_of call).expr) (args_of c (node_of call).args.items) (span_of call) (spanned.macro x.now (trees c args.items) (trees c defaults.items) ss at) t)
    (row_is c _ xs ∙ ap (nodes_of c) (sym (items_shown-the_row-Stmt-0 V F k xs)))

module _ {V F C : Type 0} (c : V → C) where
  arm : {N : Type 0} (variant : Spanned N → Stmt V F) (build : N → Span → spanned.Stmt C) → ((p : Spanned N) → stmt_node c (variant p) ≡ build (node_of p) (span_of p)) → (s : Stmt V F) (p : Spanned N) (n : N) (t : Span) → s ≡ variant p → n ≡ node_of p → t ≡ span_of p → stmt_node c s ≡ build n t
  arm variant build same s p n t is at from = ap (stmt_node c) is ∙ same p ∙ ap₂ build (sym at) (sym from)

  pub template_node : (s : Stmt V F) (p : Spanned (Template V F)) (n : Template V F) (t : Span) → s ≡ stmt.Template p → n ≡ node_of p → t ≡ span_of p → stmt_node c s ≡ spanned.template (nodes_of c n.children.items) t
  template_node = arm stmt.Template (λ n t. spanned.template (nodes_of c n.children.items) t) (λ p. rows.template_is c p (node_of p) (span_of p) refl refl)

  pub output_node : (s : Stmt V F) (p : Spanned (EmitExpr V F)) (n : EmitExpr V F) (t : Span) → s ≡ stmt.EmitExpr p → n ≡ node_of p → t ≡ span_of p → stmt_node c s ≡ spanned.output (expr_node c n.expr) t
  output_node = arm stmt.EmitExpr (λ n t. spanned.output (expr_node c n.expr) t) (λ p. refl)

  pub for_node : (s : Stmt V F) (p : Spanned (ForLoop V F)) (n : ForLoop V F) (t : Span) → s ≡ stmt.ForLoop p → n ≡ node_of p → t ≡ span_of p → stmt_node c s ≡ spanned.for_loop (expr_node c n.target) (expr_node c n.iter) (optional_of c n.filter_expr) n.recursive (nodes_of c n.body.items) (nodes_of c n.else_body.items) t
  for_node = arm stmt.ForLoop (λ n t. spanned.for_loop (expr_node c n.target) (expr_node c n.iter) (optional_of c n.filter_expr) n.recursive (nodes_of c n.body.items) (nodes_of c n.else_body.items) t) (λ p. rows.for_loop_is c p (node_of p) (span_of p) refl refl)

  pub if_node : (s : Stmt V F) (p : Spanned (IfCond V F)) (n : IfCond V F) (t : Span) → s ≡ stmt.IfCond p → n ≡ node_of p → t ≡ span_of p → stmt_node c s ≡ spanned.if_cond (expr_node c n.expr) (nodes_of c n.true_body.items) (nodes_of c n.false_body.items) t
  if_node = arm stmt.IfCond (λ n t. spanned.if_cond (expr_node c n.expr) (nodes_of c n.true_body.items) (nodes_of c n.false_body.items) t) (λ p. rows.if_cond_is c p (node_of p) (span_of p) refl refl)

  pub with_node : (s : Stmt V F) (p : Spanned (WithBlock V F)) (n : WithBlock V F) (t : Span) → s ≡ stmt.WithBlock p → n ≡ node_of p → t ≡ span_of p → stmt_node c s ≡ spanned.with_block (bindings_of c n.assignments.items) (nodes_of c n.body.items) t
  with_node = arm stmt.WithBlock (λ n t. spanned.with_block (bindings_of c n.assignments.items) (nodes_of c n.body.items) t) (λ p. rows.with_block_is c p (node_of p) (span_of p) refl refl)

  pub set_block_node : (s : Stmt V F) (p : Spanned (SetBlock V F)) (n : SetBlock V F) (t : Span) → s ≡ stmt.SetBlock p → n ≡ node_of p → t ≡ span_of p → stmt_node c s ≡ spanned.set_block (expr_node c n.target) (optional_of c n.filter) (nodes_of c n.body.items) t
  set_block_node = arm stmt.SetBlock (λ n t. spanned.set_block (expr_node c n.target) (optional_of c n.filter) (nodes_of c n.body.items) t) (λ p. rows.set_block_is c p (node_of p) (span_of p) refl refl)

  pub escape_node : (s : Stmt V F) (p : Spanned (AutoEscape V F)) (n : AutoEscape V F) (t : Span) → s ≡ stmt.AutoEscape p → n ≡ node_of p → t ≡ span_of p → stmt_node c s ≡ spanned.auto_escape (expr_node c n.enabled) (nodes_of c n.body.items) t
  escape_node = arm stmt.AutoEscape (λ n t. spanned.auto_escape (expr_node c n.enabled) (nodes_of c n.body.items) t) (λ p. rows.auto_escape_is c p (node_of p) (span_of p) refl refl)

  pub filter_block_node : (s : Stmt V F) (p : Spanned (FilterBlock V F)) (n : FilterBlock V F) (t : Span) → s ≡ stmt.FilterBlock p → n ≡ node_of p → t ≡ span_of p → stmt_node c s ≡ spanned.filter_block (expr_node c n.filter) (nodes_of c n.body.items) t
  filter_block_node = arm stmt.FilterBlock (λ n t. spanned.filter_block (expr_node c n.filter) (nodes_of c n.body.items) t) (λ p. rows.filter_block_is c p (node_of p) (span_of p) refl refl)

  pub block_node : (s : Stmt V F) (p : Spanned (Block V F)) (n : Block V F) (t : Span) → s ≡ stmt.Block p → n ≡ node_of p → t ≡ span_of p → stmt_node c s ≡ spanned.named_block n.name.now n.required (nodes_of c n.body.items) t
  block_node = arm stmt.Block (λ n t. spanned.named_block n.name.now n.required (nodes_of c n.body.items) t) (λ p. rows.named_block_is c p (node_of p) (span_of p) refl refl)

  pub import_node : (s : Stmt V F) (p : Spanned (Import V F)) (n : Import V F) (t : Span) → s ≡ stmt.Import p → n ≡ node_of p → t ≡ span_of p → stmt_node c s ≡ spanned.import_all (expr_node c n.expr) (expr_node c n.name) t
  import_node = arm stmt.Import (λ n t. spanned.import_all (expr_node c n.expr) (expr_node c n.name) t) (λ p. refl)

  pub from_node : (s : Stmt V F) (p : Spanned (FromImport V F)) (n : FromImport V F) (t : Span) → s ≡ stmt.FromImport p → n ≡ node_of p → t ≡ span_of p → stmt_node c s ≡ spanned.from_import (expr_node c n.expr) (names_of c n.names.items) t
  from_node = arm stmt.FromImport (λ n t. spanned.from_import (expr_node c n.expr) (names_of c n.names.items) t) (λ p. refl)

  pub do_node : (s : Stmt V F) (p : Spanned (Do V F)) (n : Do V F) (t : Span) → s ≡ stmt.Do p → n ≡ node_of p → t ≡ span_of p → stmt_node c s ≡ spanned.do_call (expr_node c (node_of n.call).expr) (args_of c (node_of n.call).args.items) (span_of n.call) t
  do_node = arm stmt.Do (λ n t. spanned.do_call (expr_node c (node_of n.call).expr) (args_of c (node_of n.call).args.items) (span_of n.call) t) (λ p. refl)

  pub declare_node : (s : Stmt V F) (p : Spanned (Macro V F)) (n : Macro V F) (t : Span) → s ≡ stmt.Macro p → n ≡ node_of p → t ≡ span_of p → stmt_node c s ≡ spanned.declare (spanned.macro n.name.now (trees c n.args.items) (trees c n.defaults.items) (nodes_of c n.body.items) t)
  declare_node = arm stmt.Macro (λ n t. spanned.declare (spanned.macro n.name.now (trees c n.args.items) (trees c n.defaults.items) (nodes_of c n.body.items) t)) (λ p.
      ap (λ xs. spanned.declare (spanned.macro (node_of p).name.now (trees c (node_of p).args.items) (trees c (node_of p).defaults.items) xs (span_of p)))
      (row_is c _ (body_row (stmt.Macro p)).1 ∙ ap (nodes_of c) (items_hidden-the_row-Stmt-0 V F (node_of p).body)))

  pub called_node : (s : Stmt V F) (p : Spanned (CallBlock V F)) (n : CallBlock V F) (t : Span) → s ≡ stmt.CallBlock p → n ≡ node_of p → t ≡ span_of p → stmt_node c s ≡ call_block_node c n t
  called_node = arm stmt.CallBlock (λ n t. call_block_node c n t) (λ p. call_made c (record { value = tt; ptr = p.place.ptr; alloc = p.place.alloc }) (node_of p) (span_of p))

  -- without their spans

  bare_list_is : (es : List (Expr V F)) → bare_list (trees c es) ≡ map (expr_tree c) es
  bare_list_is [] = refl
  bare_list_is (e ∷ es) = ap₂ ◌∷◌ (expr_is c e) (bare_list_is es)

  pub bare_nodes : (ss : List (Stmt V F)) → bare_stmts (nodes_of c ss) ≡ body_of c ss
  bare_nodes [] = refl
  bare_nodes (s ∷ ss) = ap₂ tree.also (stmt_is c s) (bare_nodes ss)

  pub bare_macro_is : (m : Macro V F) (t : Span) → bare_macro (spanned.macro m.name.now (trees c m.args.items) (trees c m.defaults.items) (nodes_of c m.body.items) t) ≡ macro_tree c m
  bare_macro_is m t =
      ap₂ (λ xs ys. tree.macro tt m.name.now xs ys (bare_stmts (nodes_of c m.body.items))) (bare_list_is m.args.items) (bare_list_is m.defaults.items) ∙
      ap (tree.macro tt m.name.now (map (expr_tree c) m.args.items) (map (expr_tree c) m.defaults.items)) (bare_nodes m.body.items)
