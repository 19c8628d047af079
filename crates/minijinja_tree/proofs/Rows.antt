-- The bodies of statements, as the lists that they are.
use Rattle.std.proofs.Common.{◌≡◌, map, List, refl, sym, ap, ap₂, ◌∙◌}
use Rattle.minijinja_tree_expr.specs.Nodes.{node_of}
use Rattle.minijinja_tree.specs.Tree.{template, for_loop, if_cond, with_block, set_block, auto_escape, filter_block, named_block, declare, call_block, macro, Stmts, also, stmts_of}
use Rattle.minijinja_tree.specs.Erasure.{expr_tree, optional_of, args_of, assignments_of, macro_tree, stmt_tree, stmts_tree}
use Rattle.minijinja_tree_expr.specs.declared.ast.Spanned.{Spanned}
use Rattle.minijinja_tree.specs.declared.ast.Template.{Template}
use Rattle.minijinja_tree.specs.declared.ast.ForLoop.{ForLoop}
use Rattle.minijinja_tree.specs.declared.ast.IfCond.{IfCond}
use Rattle.minijinja_tree.specs.declared.ast.WithBlock.{WithBlock}
use Rattle.minijinja_tree.specs.declared.ast.SetBlock.{SetBlock}
use Rattle.minijinja_tree.specs.declared.ast.AutoEscape.{AutoEscape}
use Rattle.minijinja_tree.specs.declared.ast.FilterBlock.{FilterBlock}
use Rattle.minijinja_tree.specs.declared.ast.Block.{Block}
use Rattle.minijinja_tree.specs.declared.ast.Macro.{Macro}
use Rattle.minijinja_tree.specs.Tree as tree
use Rattle.minijinja_tree_expr.specs.declared.ast.Call.{Call}
use Rattle.minijinja_tree.specs.declared.ast.CallBlock.{CallBlock, out-CallBlock}
use Rattle.minijinja_tree.specs.declared.ast.Stmt.TheBlock as stmt_block
use Rattle.minijinja_tree.specs.declared.ast.Stmt.{Stmt, Row_of-Stmt, end_of-Stmt, more_of-Stmt, items-the_row-Stmt, items_hidden-the_row-Stmt-0, items_shown-the_row-Stmt-0}
use Rattle.minijinja_tree.specs.declared.ast.Stmt.TheVariants as stmt
use Rattle.minijinja_tree.specs.declared.ast.Stmt.TheVariants.{Template', ForLoop', IfCond', WithBlock', SetBlock', AutoEscape', FilterBlock', Block', Macro', CallBlock'}

-- the trees of a list of statements
abbrev pub body_of : {V F C : Type 0} → (V → C) → List (Stmt V F) → Stmts C (Unit {0})
body_of c xs = stmts_of (map (stmt_tree c) xs)

row_is : {V F C : Type 0} (c : V → C) (n : _) (row : Row_of-Stmt V F n) → stmts_tree c row ≡ body_of c (items-the_row-Stmt V F n row)
row_is c n end_of-Stmt = refl
row_is c n (more_of-Stmt s rest) = ap (also (stmt_tree c s)) (row_is c _ rest)

-- the first body
abbrev row_of : {V F : Type 0} → Stmt V F → (n : _) × Row_of-Stmt V F n
row_of (Template' p k xs s) = (_, xs)
row_of (ForLoop' p t e only again k xs l ys s) = (_, xs)
row_of (IfCond' p e k xs l ys s) = (_, xs)
row_of (WithBlock' p bs k xs s) = (_, xs)
row_of (SetBlock' p t e k xs s) = (_, xs)
row_of (AutoEscape' p e k xs s) = (_, xs)
row_of (FilterBlock' p e k xs s) = (_, xs)
row_of (Block' p x required k xs s) = (_, xs)
row_of (Macro' p x args defaults k xs s) = (_, xs)
row_of _ = (_, end_of-Stmt)

-- the second body
abbrev other_row_of : {V F : Type 0} → Stmt V F → (n : _) × Row_of-Stmt V F n
other_row_of (ForLoop' p t e only again k xs l ys s) = (_, ys)
other_row_of (IfCond' p e k xs l ys s) = (_, ys)
other_row_of _ = (_, end_of-Stmt)

pub template_is : {V F C : Type 0} (c : V → C) (s : Spanned (Template V F)) → stmt_tree c (stmt.Template s) ≡ template (body_of c (node_of s).children.items)
template_is {V} {F} c s = ap template (row_is c _ (row_of (stmt.Template s)).1 ∙ ap (body_of c) (items_hidden-the_row-Stmt-0 V F s.place.value.node.children))

pub for_loop_is : {V F C : Type 0} (c : V → C) (s : Spanned (ForLoop V F)) →
    stmt_tree c (stmt.ForLoop s) ≡ for_loop tt (expr_tree c (node_of s).target) (expr_tree c (node_of s).iter) (optional_of c (node_of s).filter_expr) (node_of s).recursive (body_of c (node_of s).body.items) (body_of c (node_of s).else_body.items)
for_loop_is {V} {F} c s = ap₂ (for_loop tt (expr_tree c (node_of s).target) (expr_tree c (node_of s).iter) (optional_of c (node_of s).filter_expr) (node_of s).recursive)
    (row_is c _ (row_of (stmt.ForLoop s)).1 ∙ ap (body_of c) (items_hidden-the_row-Stmt-0 V F s.place.value.node.body))
    (row_is c _ (other_row_of (stmt.ForLoop s)).1 ∙ ap (body_of c) (items_hidden-the_row-Stmt-0 V F s.place.value.node.else_body))

pub if_cond_is : {V F C : Type 0} (c : V → C) (s : Spanned (IfCond V F)) →
    stmt_tree c (stmt.IfCond s) ≡ if_cond (expr_tree c (node_of s).expr) (body_of c (node_of s).true_body.items) (body_of c (node_of s).false_body.items)
if_cond_is {V} {F} c s = ap₂ (if_cond (expr_tree c (node_of s).expr))
    (row_is c _ (row_of (stmt.IfCond s)).1 ∙ ap (body_of c) (items_hidden-the_row-Stmt-0 V F s.place.value.node.true_body))
    (row_is c _ (other_row_of (stmt.IfCond s)).1 ∙ ap (body_of c) (items_hidden-the_row-Stmt-0 V F s.place.value.node.false_body))

pub with_block_is : {V F C : Type 0} (c : V → C) (s : Spanned (WithBlock V F)) →
    stmt_tree c (stmt.WithBlock s) ≡ with_block (assignments_of c (node_of s).assignments.items) (body_of c (node_of s).body.items)
with_block_is {V} {F} c s = ap (with_block (assignments_of c (node_of s).assignments.items))
    (row_is c _ (row_of (stmt.WithBlock s)).1 ∙ ap (body_of c) (items_hidden-the_row-Stmt-0 V F s.place.value.node.body))

pub set_block_is : {V F C : Type 0} (c : V → C) (s : Spanned (SetBlock V F)) →
    stmt_tree c (stmt.SetBlock s) ≡ set_block (expr_tree c (node_of s).target) (optional_of c (node_of s).filter) (body_of c (node_of s).body.items)
set_block_is {V} {F} c s = ap (set_block (expr_tree c (node_of s).target) (optional_of c (node_of s).filter))
    (row_is c _ (row_of (stmt.SetBlock s)).1 ∙ ap (body_of c) (items_hidden-the_row-Stmt-0 V F s.place.value.node.body))

pub auto_escape_is : {V F C : Type 0} (c : V → C) (s : Spanned (AutoEscape V F)) →
    stmt_tree c (stmt.AutoEscape s) ≡ auto_escape (expr_tree c (node_of s).enabled) (body_of c (node_of s).body.items)
auto_escape_is {V} {F} c s = ap (auto_escape (expr_tree c (node_of s).enabled))
    (row_is c _ (row_of (stmt.AutoEscape s)).1 ∙ ap (body_of c) (items_hidden-the_row-Stmt-0 V F s.place.value.node.body))

pub filter_block_is : {V F C : Type 0} (c : V → C) (s : Spanned (FilterBlock V F)) →
    stmt_tree c (stmt.FilterBlock s) ≡ filter_block (expr_tree c (node_of s).filter) (body_of c (node_of s).body.items)
filter_block_is {V} {F} c s = ap (filter_block (expr_tree c (node_of s).filter))
    (row_is c _ (row_of (stmt.FilterBlock s)).1 ∙ ap (body_of c) (items_hidden-the_row-Stmt-0 V F s.place.value.node.body))

pub block_is : {V F C : Type 0} (c : V → C) (s : Spanned (Block V F)) →
    stmt_tree c (stmt.Block s) ≡ named_block (node_of s).name.now (node_of s).required (body_of c (node_of s).body.items)
block_is {V} {F} c s = ap (named_block (node_of s).name.now (node_of s).required)
    (row_is c _ (row_of (stmt.Block s)).1 ∙ ap (body_of c) (items_hidden-the_row-Stmt-0 V F s.place.value.node.body))

pub declare_is : {V F C : Type 0} (c : V → C) (s : Spanned (Macro V F)) → stmt_tree c (stmt.Macro s) ≡ declare (macro_tree c (node_of s))
declare_is {V} {F} c s = ap (λ b. declare (macro tt (node_of s).name.now (map (expr_tree c) (node_of s).args.items) (map (expr_tree c) (node_of s).defaults.items) b))
    (row_is c _ (row_of (stmt.Macro s)).1 ∙ ap (body_of c) (items_hidden-the_row-Stmt-0 V F s.place.value.node.body))

-- the macro of a call block
abbrev pub macro_in : {V F : Type 0} → CallBlock V F → Macro V F
macro_in {V} {F} q = node_of (out-CallBlock V F q).macro_decl

abbrev pub call_in : {V F : Type 0} → CallBlock V F → Call V F
call_in {V} {F} q = node_of (out-CallBlock V F q).call

abbrev pub call_block_tree : {V F C : Type 0} → (V → C) → CallBlock V F → tree.Stmt C (Unit {0})
call_block_tree c q = call_block (expr_tree c (call_in q).expr) (args_of c (call_in q).args.items) (macro_tree c (macro_in q))

made_is : {V F C : Type 0} (c : V → C) (p : _) (q : CallBlock V F) (s : _) → stmt_tree c (CallBlock' p q s) ≡ call_block_tree c q
unfolding out-CallBlock denote.Hole.Carrier.out
made_is {V} {F} c p (stmt_block.struct-CallBlock call r x args defaults k xs at) s =
    ap (λ b. call_block (expr_tree c (node_of call).expr) (args_of c (node_of call).args.items) (macro tt x.now (map (expr_tree c) args.items) (map (expr_tree c) defaults.items) b))
    (row_is c _ xs ∙ ap (body_of c) (sym (items_shown-the_row-Stmt-0 V F k xs)))

pub call_block_is : {V F C : Type 0} (c : V → C) (s : Spanned (CallBlock V F)) → stmt_tree c (stmt.CallBlock s) ≡ call_block_tree c (node_of s)
call_block_is c s = made_is c (record { value = tt; ptr = s.place.ptr; alloc = s.place.alloc }) (node_of s) s.place.value.span
