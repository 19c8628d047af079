-- The trees of macros and calls where they stand in statements.
use Rattle.std.proofs.Common.{◌≡◌, map, refl, sym, ap, ◌∙◌}
use Rattle.minijinja_syntax.specs.declared.tokens.Span.{Span}
use Rattle.minijinja_tree_expr.specs.Nodes.{node_of, span_of}
use Rattle.minijinja_tree.specs.SpannedErasure.{args_of, expr_node, stmt_node, stmts_node, trees}
use Rattle.minijinja_tree.specs.SpannedTrees as tree
use Rattle.minijinja_tree.specs.SpannedTrees.{stmts_of}
use Rattle.minijinja_tree_expr.specs.declared.ast.Spanned.{Spanned}
use Rattle.minijinja_tree.specs.declared.ast.CallBlock.{CallBlock, out-CallBlock}
use Rattle.minijinja_tree.specs.declared.ast.Macro.{Macro}
use Rattle.minijinja_tree.specs.declared.ast.Stmt.TheBlock as stmt_block
use Rattle.minijinja_tree.specs.declared.ast.Stmt.{Stmt, Row_of-Stmt, end_of-Stmt, more_of-Stmt, items-the_row-Stmt, items_hidden-the_row-Stmt-0, items_shown-the_row-Stmt-0}
use Rattle.minijinja_tree.specs.declared.ast.Stmt.TheVariants as stmt
use Rattle.minijinja_tree.specs.declared.ast.Stmt.TheVariants.{Macro', CallBlock'}
use Rattle.minijinja_walk.specs.Children.{macro_children, stmt_children}
use Rattle.minijinja_walk.specs.private.Added.{call_block_children, macro_node}

row_is : {V F C : Type 0} (c : V → C) (n : _) (row : Row_of-Stmt V F n) → stmts_node c row ≡ stmts_of (map (stmt_node c) (items-the_row-Stmt V F n row))
row_is c n end_of-Stmt = refl
row_is c n (more_of-Stmt s rest) = ap (tree.also (stmt_node c s)) (row_is c _ rest)

-- the body of a macro statement
abbrev row_of : {V F : Type 0} → Stmt V F → (n : _) × Row_of-Stmt V F n
row_of (Macro' p x args defaults k xs s) = (_, xs)
row_of _ = (_, end_of-Stmt)

-- the children of a macro whose body stands for these statements
abbrev with_body : {V F C : Type 0} → (V → C) → Macro V F → Span → tree.Stmts C → tree.Stmt C
with_body c m s ss = tree.declare (tree.macro m.name.now (trees c m.args.items) (trees c m.defaults.items) ss s)

pub declare_is : {V F C : Type 0} (c : V → C) (s : Spanned (Macro V F)) → stmt_children (stmt_node c (stmt.Macro s)) ≡ macro_children (macro_node c (node_of s))
declare_is {V} {F} c s =
    ap (λ b. stmt_children (with_body c (node_of s) (span_of s) b))
    (row_is c _ (row_of (stmt.Macro s)).1 ∙ ap (λ xs. stmts_of (map (stmt_node c) xs)) (items_hidden-the_row-Stmt-0 V F (node_of s).body))

made_is : {V F C : Type 0} (c : V → C) (p : _) (q : CallBlock V F) (s : Span) → stmt_children (stmt_node c (CallBlock' p q s)) ≡ call_block_children c q
unfolding out-CallBlock denote.Hole.Carrier.out
made_is {V} {F} c p (stmt_block.struct-CallBlock call r x args defaults k xs at) s =
    ap (λ b. stmt_children (tree.call_block (expr_node c (node_of call).expr) (args_of c (node_of call).args.items) (span_of call) (tree.macro x.now (trees c args.items) (trees c defaults.items) b at) s))
    (row_is c _ xs ∙ ap (λ xs. stmts_of (map (stmt_node c) xs)) (sym (items_shown-the_row-Stmt-0 V F k xs)))

pub call_block_is : {V F C : Type 0} (c : V → C) (s : Spanned (CallBlock V F)) → stmt_children (stmt_node c (stmt.CallBlock s)) ≡ call_block_children c (node_of s)
call_block_is c s = made_is c (record { value = tt; ptr = s.place.ptr; alloc = s.place.alloc }) (node_of s) (span_of s)
