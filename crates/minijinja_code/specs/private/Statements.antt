-- The code of statements outside of all loops, where statements may stand, and call blocks.
use Rattle.std.specs.Prelude.{Bool, []}
use Rattle.minijinja_syntax.specs.declared.tokens.Span.{Span}
use Rattle.minijinja_value.specs.Values.{Functions}
use Rattle.minijinja_tree_expr.specs.Nodes.{node_of, span_of}
use Rattle.minijinja_tree_expr.specs.declared.ast.Spanned.{Spanned}
use Rattle.minijinja_tree_expr.specs.declared.ast.Call.{Call}
use Rattle.minijinja_tree.specs.declared.ast.CallBlock.{CallBlock, out-CallBlock}
use Rattle.minijinja_tree.specs.declared.ast.Macro.{Macro}
use Rattle.minijinja_tree.specs.Callees.{callee}
use Rattle.minijinja_tree.specs.Erasure.{expr_tree, args_of, macro_tree}
use Rattle.minijinja_tree.specs.SpannedErasure as node
use Rattle.minijinja_tree.specs.SpannedTrees as spanned
use Rattle.minijinja_tree.specs.SpannedTrees.{bare_expr}
use Rattle.minijinja_tree.specs.Tree as tree
use Rattle.minijinja_tree.specs.Tree.{Stmt, template, Stmts}
use Rattle.minijinja_tree.specs.WellFormed.{IsInner, AreInner}
use Rattle.minijinja_semantics.specs.Pieces.{Piece, outside, leading_to}
use Rattle.minijinja_semantics.specs.Layout.{stmt, stmts}
use Rattle.minijinja_semantics.specs.Marks as marks
use Rattle.minijinja_semantics.specs.Marks.{Marking, here, within, ◌⟫◌}

abbrev pub stmt_piece : {C L F : Type 0} → Functions C F → Stmt C L → Piece C
stmt_piece f s = leading_to outside (stmt f [] s)

abbrev pub stmts_piece : {C L F : Type 0} → Functions C F → Stmts C L → Piece C
stmts_piece f ss = leading_to outside (stmts f [] ss)

-- a template, or a statement that stands in one, within a loop or outside of all
abbrev pub MayStand : {C L : Type 0} → (in_loop : Bool) → Stmt C L → Type 0
MayStand l (template ss) = AreInner l ss
MayStand l s = IsInner l s

-- one that may stand in a loop, or outside of all
pub record StandsSomewhere {C L : Type 0} (s : Stmt C L) : Type 0 where
  pub in_loop : Bool
  pub stands : MayStand in_loop s

-- the call of a call block, and its macro
abbrev pub call_in : {V F : Type 0} → CallBlock V F → Spanned (Call V F)
call_in {V} {F} b = (out-CallBlock V F b).call

abbrev pub macro_in : {V F : Type 0} → CallBlock V F → Spanned (Macro V F)
macro_in {V} {F} b = (out-CallBlock V F b).macro_decl

abbrev pub call_block_tree : {V F C : Type 0} → (V → C) → CallBlock V F → Stmt C (Unit {0})
call_block_tree c b = tree.call_block (expr_tree c (node_of (call_in b)).expr) (args_of c (node_of (call_in b)).args.items) (macro_tree c (node_of (macro_in b)))

-- a macro with its spans
abbrev pub macro_node : {V F C : Type 0} → (V → C) → Spanned (Macro V F) → spanned.Macro C
macro_node c m = spanned.macro (node_of m).name.now (node.trees c (node_of m).args.items) (node.trees c (node_of m).defaults.items) (spanned.stmts_of (node.stmt_nodes c (node_of m).body.items)) (span_of m)

-- the marks of a call of this, with these arguments and a macro, whose marks are these; its value
-- is written
abbrev pub call_block_marks : {C F : Type 0} → Functions C F → spanned.Expr C → spanned.Args C → (from : Span) → Marking → Marking
call_block_marks f e args from m = within from (marks.call_of (callee (bare_expr e)) (marks.base f e) (marks.expr f e) (λ n. marks.arguments_with f args n m)) ⟫ here 1
