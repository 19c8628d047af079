-- Nodes that are added to a list of nodes.
use Rattle.std.specs.Prelude.{◌≡◌, List, ◌∷◌, ◌++◌, map}
use Rattle.minijinja_syntax.specs.declared.tokens.Span.{Span}
use Rattle.minijinja_tree_expr.specs.Nodes.{node_of}
use Rattle.minijinja_tree_expr.specs.declared.ast.Call.{Call}
use Rattle.minijinja_tree_expr.specs.declared.ast.Compare.{Compare, out-Compare}
use Rattle.minijinja_tree.specs.SpannedErasure.{all_compared, args_of, expr_node, stmt_node, trees}
use Rattle.minijinja_tree.specs.SpannedTrees.{Macro, macro, comparisons_of, stmts_of}
use Rattle.minijinja_tree.specs.declared.ast.CallBlock.{CallBlock, out-CallBlock}
use Rattle.minijinja_tree.specs.declared.ast.Macro.{Macro as MacroNode}
use Rattle.minijinja_walk.specs.Children as tree
use Rattle.minijinja_walk.specs.Children.{arguments, expr, macro_children, operands}
use Rattle.minijinja_walk.specs.Nodes.{trees_of}
use Rattle.minijinja_walk.specs.declared.walk.Node.{Node}

-- the new nodes are the old ones, and then those of these trees
abbrev pub Adds : {V F C : Type 0} → (V → C) → (old new : List (Node V F)) → List (tree.Node C) → Type 0
Adds c old new ts = trees_of c new ≡ trees_of c old ++ ts

-- a span for a macro of which only the parts count
abbrev nowhere : Span
nowhere = record { start_line = 0; start_col = 0; start_offset = 0; end_line = 0; end_col = 0; end_offset = 0 }

abbrev pub macro_node : {V F C : Type 0} → (V → C) → MacroNode V F → Macro C
macro_node c m = macro m.name.now (trees c m.args.items) (trees c m.defaults.items) (stmts_of (map (stmt_node c) m.body.items)) nowhere

-- the call and the macro of a call block
abbrev pub call_in : {V F : Type 0} → CallBlock V F → Call V F
call_in {V} {F} q = node_of (out-CallBlock V F q).call

abbrev pub macro_in : {V F : Type 0} → CallBlock V F → MacroNode V F
macro_in {V} {F} q = node_of (out-CallBlock V F q).macro_decl

abbrev pub call_block_children : {V F C : Type 0} → (V → C) → CallBlock V F → List (tree.Node C)
call_block_children c q = expr (expr_node c (call_in q).expr) ∷ arguments (args_of c (call_in q).args.items) ++ macro_children (macro_node c (macro_in q))

-- the operands of a chain of comparisons
abbrev pub compare_children : {V F C : Type 0} → (V → C) → Compare V F → List (tree.Node C)
compare_children {V} {F} c q = expr (expr_node c (out-Compare V F q).expr) ∷ operands (comparisons_of (all_compared c (out-Compare V F q).ops.items))
