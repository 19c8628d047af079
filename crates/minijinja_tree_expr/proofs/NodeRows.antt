-- The trees and the spans of nodes, by the items of their own lists.
use Rattle.std.proofs.Common.{◌≡◌, ◌∷◌, Option, Some, None, refl, sym, ap, ap₂, ◌∙◌}
use Rattle.std.proofs.Common as std
use Rattle.minijinja_tree_expr.specs.Nodes.{node_of, span_of}
use Rattle.minijinja_tree_expr.specs.SpannedTrees as tree
use Rattle.minijinja_tree_expr.specs.Erasure.{compare_op}
use Rattle.minijinja_tree_expr.specs.SpannedErasure.{expr_node, optional_node, exprs_node, arg_node, args_node, compare_node, comparisons_node}
use Rattle.minijinja_syntax.specs.declared.tokens.Span.{Span}
use Rattle.minijinja_tree_expr.specs.declared.ast.CallArg.TheBlock as block
use Rattle.minijinja_tree_expr.specs.declared.ast.CallArg.TheBlock.{Row_of-Expr, end_of-Expr, more_of-Expr, items-the_row-Expr, items_hidden-the_row-Expr-1, Row_of-CallArg, end_of-CallArg, more_of-CallArg, items-the_row-CallArg, items_hidden-the_row-CallArg-0, Row_of-CompareOp, end_of-CompareOp, more_of-CompareOp, items-the_row-CompareOp, items_shown-the_row-CompareOp-2}
use Rattle.minijinja_tree_expr.specs.declared.ast.CallArg.{CallArg}
use Rattle.minijinja_tree_expr.specs.declared.ast.CallArg.TheVariants as arg
use Rattle.minijinja_tree_expr.specs.declared.ast.Spanned.{Spanned}
use Rattle.minijinja_tree_expr.specs.declared.ast.Call.{Call}
use Rattle.minijinja_tree_expr.specs.declared.ast.Compare.{Compare, out-Compare}
use Rattle.minijinja_tree_expr.specs.declared.ast.Filter.{Filter}
use Rattle.minijinja_tree_expr.specs.declared.ast.List.{List}
use Rattle.minijinja_tree_expr.specs.declared.ast.Map.{Map}
use Rattle.minijinja_tree_expr.specs.declared.ast.Test.{Test}
use Rattle.minijinja_tree_expr.specs.declared.ast.Tuple.{Tuple}
use Rattle.minijinja_tree_expr.specs.declared.ast.Expr.{Expr, back-Filter-expr}
use Rattle.minijinja_tree_expr.specs.declared.ast.Expr.TheVariants as expr
use Rattle.minijinja_tree_expr.specs.declared.ast.Expr.TheVariants.{List', Tuple', Map', Call', Test', Filter'}
use Rattle.minijinja_tree_expr.specs.SpannedTrees.{Arg, args_of, comparisons_of, exprs_of}
use Rattle.minijinja_tree_expr.specs.SpannedErasure.{any_tree, trees, arg_view, args_view, all_compared}

-- ---- trees

exprs_are : {V F C : Type 0} (c : V → C) (n : _) (row : Row_of-Expr V F n) → exprs_node c row ≡ exprs_of (trees c (items-the_row-Expr V F n row))
exprs_are c n end_of-Expr = refl
exprs_are c n (more_of-Expr e rest) = ap (tree.more (expr_node c e)) (exprs_are c _ rest)

arg_is : {V F C : Type 0} (c : V → C) (a : CallArg V F) (xs : std.List (Arg C)) → arg_node c a (args_of xs) ≡ args_of (arg_view c a ∷ xs)
arg_is c (arg.Pos e) xs = refl
arg_is c (arg.Kwarg x e) xs = refl
arg_is c (arg.PosSplat e) xs = refl
arg_is c (arg.KwargSplat e) xs = refl

args_are : {V F C : Type 0} (c : V → C) (n : _) (row : Row_of-CallArg V F n) → args_node c row ≡ args_of (args_view c (items-the_row-CallArg V F n row))
args_are c n end_of-CallArg = refl
args_are c n (more_of-CallArg a rest) = ap (arg_node c a) (args_are c _ rest) ∙ arg_is c a _

comparisons_are : {V F C : Type 0} (c : V → C) (n : _) (row : Row_of-CompareOp V F n) → comparisons_node c row ≡ comparisons_of (all_compared c (items-the_row-CompareOp V F n row))
comparisons_are c n end_of-CompareOp = refl
comparisons_are c n (more_of-CompareOp op e rest) = ap (tree.against (compare_op op) (expr_node c e)) (comparisons_are c _ rest)

-- the expressions of a list, of a tuple, and the keys of a map
abbrev items_of : {V F : Type 0} → Expr V F → (n : _) × Row_of-Expr V F n
items_of (List' p k xs s) = (_, xs)
items_of (Tuple' p k xs s) = (_, xs)
items_of (Map' p k xs l ys s) = (_, xs)
items_of _ = (_, end_of-Expr)

abbrev values_of : {V F : Type 0} → Expr V F → (n : _) × Row_of-Expr V F n
values_of (Map' p k xs l ys s) = (_, ys)
values_of _ = (_, end_of-Expr)

abbrev arguments_of : {V F : Type 0} → Expr V F → (n : _) × Row_of-CallArg V F n
arguments_of (Call' p e k xs s) = (_, xs)
arguments_of (Test' p x e k xs s) = (_, xs)
arguments_of (Filter' p x e k xs s) = (_, xs)
arguments_of _ = (_, end_of-CallArg)

module _ {V F C : Type 0} (c : V → C) where
  pub list_is : (s : Spanned (List V F)) (n : List V F) (t : Span) → node_of s ≡ n → span_of s ≡ t → expr_node c (expr.List s) ≡ tree.list (exprs_of (trees c n.items.items)) t
  list_is s n t h i =
      ap (λ es. tree.list es (span_of s)) (exprs_are c _ (items_of (expr.List s)).1 ∙ ap (λ xs. exprs_of (trees c xs)) (items_hidden-the_row-Expr-1 V F (node_of s).items)) ∙
      ap₂ (λ (m : List V F) u. tree.list (exprs_of (trees c m.items.items)) u) h i

  pub tuple_is : (s : Spanned (Tuple V F)) (n : Tuple V F) (t : Span) → node_of s ≡ n → span_of s ≡ t → expr_node c (expr.Tuple s) ≡ tree.tuple (exprs_of (trees c n.items.items)) t
  tuple_is s n t h i =
      ap (λ es. tree.tuple es (span_of s)) (exprs_are c _ (items_of (expr.Tuple s)).1 ∙ ap (λ xs. exprs_of (trees c xs)) (items_hidden-the_row-Expr-1 V F (node_of s).items)) ∙
      ap₂ (λ (m : Tuple V F) u. tree.tuple (exprs_of (trees c m.items.items)) u) h i

  pub map_is : (s : Spanned (Map V F)) (n : Map V F) (t : Span) → node_of s ≡ n → span_of s ≡ t →
      expr_node c (expr.Map s) ≡ tree.map (exprs_of (trees c n.keys.items)) (exprs_of (trees c n.values.items)) t
  map_is s n t h i =
      ap₂ (λ ks vs. tree.map ks vs (span_of s))
      (exprs_are c _ (items_of (expr.Map s)).1 ∙ ap (λ xs. exprs_of (trees c xs)) (items_hidden-the_row-Expr-1 V F (node_of s).keys))
      (exprs_are c _ (values_of (expr.Map s)).1 ∙ ap (λ xs. exprs_of (trees c xs)) (items_hidden-the_row-Expr-1 V F (node_of s).values)) ∙
      ap₂ (λ (m : Map V F) u. tree.map (exprs_of (trees c m.keys.items)) (exprs_of (trees c m.values.items)) u) h i

  pub call_is : (s : Spanned (Call V F)) (n : Call V F) (t : Span) → node_of s ≡ n → span_of s ≡ t →
      expr_node c (expr.Call s) ≡ tree.call (expr_node c n.expr) (args_of (args_view c n.args.items)) t
  call_is s n t h i =
      ap (λ xs. tree.call (expr_node c (node_of s).expr) xs (span_of s)) (args_are c _ (arguments_of (expr.Call s)).1 ∙ ap (λ xs. args_of (args_view c xs)) (items_hidden-the_row-CallArg-0 V F (node_of s).args)) ∙
      ap₂ (λ (m : Call V F) u. tree.call (expr_node c m.expr) (args_of (args_view c m.args.items)) u) h i

  pub test_is : (s : Spanned (Test V F)) (n : Test V F) (t : Span) → node_of s ≡ n → span_of s ≡ t →
      expr_node c (expr.Test s) ≡ tree.test (expr_node c n.expr) n.name.now (args_of (args_view c n.args.items)) t
  test_is s n t h i =
      ap (λ xs. tree.test (expr_node c (node_of s).expr) (node_of s).name.now xs (span_of s)) (args_are c _ (arguments_of (expr.Test s)).1 ∙ ap (λ xs. args_of (args_view c xs)) (items_hidden-the_row-CallArg-0 V F (node_of s).args)) ∙
      ap₂ (λ (m : Test V F) u. tree.test (expr_node c m.expr) m.name.now (args_of (args_view c m.args.items)) u) h i

abbrev optional : {V F C : Type 0} → (V → C) → Option (Expr V F) → tree.Optional C
optional c o = tree.optional_of (any_tree c o)

held_is : {V F C : Type 0} (c : V → C) (o : Option (Expr V F)) → optional_node c (back-Filter-expr V F o) ≡ optional c o
held_is c None = refl
held_is c (Some e) = refl

operand_is : {V F C : Type 0} (c : V → C) (s : Spanned (Filter V F)) → expr_node c (expr.Filter s) ≡ tree.filter (optional c (node_of s).expr) (node_of s).name.now (args_node c (arguments_of (expr.Filter s)).1) (span_of s)
operand_is {V} {F} c s = ap (λ o. tree.filter o (node_of s).name.now (args_node c (arguments_of (expr.Filter s)).1) (span_of s)) (held_is c (node_of s).expr)

pub filter_is : {V F C : Type 0} (c : V → C) (s : Spanned (Filter V F)) (n : Filter V F) (t : Span) → node_of s ≡ n → span_of s ≡ t →
    expr_node c (expr.Filter s) ≡ tree.filter (optional c n.expr) n.name.now (args_of (args_view c n.args.items)) t
filter_is {V} {F} c s n t h i =
    operand_is c s ∙
    ap (λ xs. tree.filter (optional c (node_of s).expr) (node_of s).name.now xs (span_of s)) (args_are c _ (arguments_of (expr.Filter s)).1 ∙ ap (λ xs. args_of (args_view c xs)) (items_hidden-the_row-CallArg-0 V F (node_of s).args)) ∙
    ap₂ (λ (m : Filter V F) u. tree.filter (optional c m.expr) m.name.now (args_of (args_view c m.args.items)) u) h i

pub compare_is : {V F C : Type 0} (c : V → C) (q : Compare V F) (s : Span) → compare_node c q s ≡ tree.compare (expr_node c (out-Compare V F q).expr) (comparisons_of (all_compared c (out-Compare V F q).ops.items)) s
unfolding out-Compare denote.Hole.Carrier.out
compare_is {V} {F} c (block.struct-Compare e k ops) s =
    ap (λ cs. tree.compare (expr_node c e) cs s) (comparisons_are c _ ops ∙ ap (λ xs. comparisons_of (all_compared c xs)) (sym (items_shown-the_row-CompareOp-2 V F k ops)))
