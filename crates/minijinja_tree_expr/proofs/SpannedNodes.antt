-- The trees of nodes, by the items of their own lists.
use Rattle.std.proofs.Common.{◌≡◌, refl, sym, ap, ap₂, ◌∙◌}
use Rattle.std.specs.Prelude.{Option, Some, None}
use Rattle.minijinja_tree_expr.specs.Nodes.{node_of}
use Rattle.minijinja_tree_expr.specs.Tree.{more, slice, if_expr, filter, list, tuple, map, call, test, compare, against}
use Rattle.minijinja_tree_expr.specs.Erasure.{expr_tree, optional_tree, optional_of, exprs_tree, exprs_of, arg_tree, args_tree, args_of, compare_op, compare_tree, comparisons_tree, comparisons_of}
use Rattle.minijinja_tree_expr.specs.declared.ast.CallArg.TheBlock as block
use Rattle.minijinja_tree_expr.specs.declared.ast.CallArg.TheBlock.{Row_of-Expr, end_of-Expr, more_of-Expr, items-the_row-Expr, items_hidden-the_row-Expr-1, Row_of-CallArg, end_of-CallArg, more_of-CallArg, items-the_row-CallArg, items_hidden-the_row-CallArg-0, Row_of-CompareOp, end_of-CompareOp, more_of-CompareOp, items-the_row-CompareOp, items_shown-the_row-CompareOp-2}
use Rattle.minijinja_tree_expr.specs.declared.ast.Spanned.{Spanned}
use Rattle.minijinja_tree_expr.specs.declared.ast.Call.{Call}
use Rattle.minijinja_tree_expr.specs.declared.ast.Compare.{Compare, out-Compare}
use Rattle.minijinja_tree_expr.specs.declared.ast.Filter.{Filter}
use Rattle.minijinja_tree_expr.specs.declared.ast.IfExpr.{IfExpr}
use Rattle.minijinja_tree_expr.specs.declared.ast.Slice.{Slice}
use Rattle.minijinja_tree_expr.specs.declared.ast.List.{List}
use Rattle.minijinja_tree_expr.specs.declared.ast.Map.{Map}
use Rattle.minijinja_tree_expr.specs.declared.ast.Test.{Test}
use Rattle.minijinja_tree_expr.specs.declared.ast.Tuple.{Tuple}
use Rattle.minijinja_tree_expr.specs.declared.ast.Expr.{Expr}
use Rattle.minijinja_tree_expr.specs.declared.ast.Expr.TheVariants as expr
use Rattle.minijinja_tree_expr.specs.declared.ast.Expr.TheVariants.{List', Tuple', Map', Call', Test', Filter'}

exprs_are : {V F C : Type 0} (c : V → C) (n : _) (row : Row_of-Expr V F n) → exprs_tree c row ≡ exprs_of c (items-the_row-Expr V F n row)
exprs_are c n end_of-Expr = refl
exprs_are c n (more_of-Expr e rest) = ap (more (expr_tree c e)) (exprs_are c _ rest)

args_are : {V F C : Type 0} (c : V → C) (n : _) (row : Row_of-CallArg V F n) → args_tree c row ≡ args_of c (items-the_row-CallArg V F n row)
args_are c n end_of-CallArg = refl
args_are c n (more_of-CallArg a rest) = ap (arg_tree c a) (args_are c _ rest)

comparisons_are : {V F C : Type 0} (c : V → C) (n : _) (row : Row_of-CompareOp V F n) → comparisons_tree c row ≡ comparisons_of c (items-the_row-CompareOp V F n row)
comparisons_are c n end_of-CompareOp = refl
comparisons_are c n (more_of-CompareOp op e rest) = ap (against (compare_op op) (expr_tree c e)) (comparisons_are c _ rest)

option_is : {V F C : Type 0} (c : V → C) (o : Option (Expr V F)) → optional_tree c (block.back-Filter-expr V F o) ≡ optional_of c o
option_is c None = refl
option_is c (Some e) = refl

-- the expressions of a list, of a tuple, and the keys of a map
abbrev items_of : {V F : Type 0} → Expr V F → (n : _) × Row_of-Expr V F n
items_of (List' p k xs s) = (_, xs)
items_of (Tuple' p k xs s) = (_, xs)
items_of (Map' p k xs l ys s) = (_, xs)
items_of _ = (_, end_of-Expr)

abbrev values_of : {V F : Type 0} → Expr V F → (n : _) × Row_of-Expr V F n
values_of (Map' p k xs l ys s) = (_, ys)
values_of _ = (_, end_of-Expr)

abbrev arguments_of : {V F : Type 0} → Expr V F → (n : _) × Row_of-CallArg V F n
arguments_of (Call' p e k xs s) = (_, xs)
arguments_of (Test' p x e k xs s) = (_, xs)
arguments_of (Filter' p x e k xs s) = (_, xs)
arguments_of _ = (_, end_of-CallArg)

pub list_is : {V F C : Type 0} (c : V → C) (s : Spanned (List V F)) → expr_tree c (expr.List s) ≡ list (exprs_of c (node_of s).items.items)
list_is {V} {F} c s = ap list (exprs_are c _ (items_of (expr.List s)).1 ∙ ap (exprs_of c) (items_hidden-the_row-Expr-1 V F (node_of s).items))

pub tuple_is : {V F C : Type 0} (c : V → C) (s : Spanned (Tuple V F)) → expr_tree c (expr.Tuple s) ≡ tuple (exprs_of c (node_of s).items.items)
tuple_is {V} {F} c s = ap tuple (exprs_are c _ (items_of (expr.Tuple s)).1 ∙ ap (exprs_of c) (items_hidden-the_row-Expr-1 V F (node_of s).items))

pub map_is : {V F C : Type 0} (c : V → C) (s : Spanned (Map V F)) → expr_tree c (expr.Map s) ≡ map (exprs_of c (node_of s).keys.items) (exprs_of c (node_of s).values.items)
map_is {V} {F} c s = ap₂ map
    (exprs_are c _ (items_of (expr.Map s)).1 ∙ ap (exprs_of c) (items_hidden-the_row-Expr-1 V F (node_of s).keys))
    (exprs_are c _ (values_of (expr.Map s)).1 ∙ ap (exprs_of c) (items_hidden-the_row-Expr-1 V F (node_of s).values))

pub call_is : {V F C : Type 0} (c : V → C) (s : Spanned (Call V F)) → expr_tree c (expr.Call s) ≡ call (expr_tree c (node_of s).expr) (args_of c (node_of s).args.items)
call_is {V} {F} c s = ap (call (expr_tree c (node_of s).expr)) (args_are c _ (arguments_of (expr.Call s)).1 ∙ ap (args_of c) (items_hidden-the_row-CallArg-0 V F (node_of s).args))

pub test_is : {V F C : Type 0} (c : V → C) (s : Spanned (Test V F)) → expr_tree c (expr.Test s) ≡ test (expr_tree c (node_of s).expr) (node_of s).name.now (args_of c (node_of s).args.items)
test_is {V} {F} c s = ap (test (expr_tree c (node_of s).expr) (node_of s).name.now) (args_are c _ (arguments_of (expr.Test s)).1 ∙ ap (args_of c) (items_hidden-the_row-CallArg-0 V F (node_of s).args))

pub filter_is : {V F C : Type 0} (c : V → C) (s : Spanned (Filter V F)) → expr_tree c (expr.Filter s) ≡ filter (optional_of c (node_of s).expr) (node_of s).name.now (args_of c (node_of s).args.items)
filter_is {V} {F} c s = ap₂ (λ e args. filter e (node_of s).name.now args) (option_is c (node_of s).expr)
    (args_are c _ (arguments_of (expr.Filter s)).1 ∙ ap (args_of c) (items_hidden-the_row-CallArg-0 V F (node_of s).args))

pub slice_is : {V F C : Type 0} (c : V → C) (s : Spanned (Slice V F)) →
    expr_tree c (expr.Slice s) ≡ slice (expr_tree c (node_of s).expr) (optional_of c (node_of s).start) (optional_of c (node_of s).stop) (optional_of c (node_of s).step)
slice_is {V} {F} c s =
    ap₂ (λ a b. slice (expr_tree c (node_of s).expr) a b (optional_tree c (block.back-Filter-expr V F (node_of s).step))) (option_is c (node_of s).start) (option_is c (node_of s).stop)
    ∙ ap (slice (expr_tree c (node_of s).expr) (optional_of c (node_of s).start) (optional_of c (node_of s).stop)) (option_is c (node_of s).step)

pub if_expr_is : {V F C : Type 0} (c : V → C) (s : Spanned (IfExpr V F)) →
    expr_tree c (expr.IfExpr s) ≡ if_expr (expr_tree c (node_of s).test_expr) (expr_tree c (node_of s).true_expr) (optional_of c (node_of s).false_expr)
if_expr_is c s = ap (if_expr (expr_tree c (node_of s).test_expr) (expr_tree c (node_of s).true_expr)) (option_is c (node_of s).false_expr)

pub compare_is : {V F C : Type 0} (c : V → C) (q : Compare V F) → compare_tree c q ≡ compare (expr_tree c (out-Compare V F q).expr) (comparisons_of c (out-Compare V F q).ops.items)
unfolding out-Compare denote.Hole.Carrier.out
compare_is {V} {F} c (block.struct-Compare e k ops) = ap (compare (expr_tree c e)) (comparisons_are c _ ops ∙ ap (comparisons_of c) (sym (items_shown-the_row-CompareOp-2 V F k ops)))
