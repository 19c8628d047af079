-- The tree of an expression, by its node.
use Rattle.std.proofs.Common.{◌≡◌, sym, ap, ◌∙◌}
use Rattle.std.proofs.Common.{◌≤◌, subst, Option, Some}
use Rattle.minijinja_syntax.specs.Texts.{Text}
use Rattle.minijinja_tree.specs.WellFormed.{IsWhole, IsWholeIfAny, AreWhole, AreArguments, arg_count, most_arguments, expr_count}
use Rattle.minijinja_tree.specs.Nodes.{node_of}
use Rattle.minijinja_tree.specs.Erasure.{unary_op, bin_op, expr_tree, optional_of, exprs_of, args_of, compare_tree}
use Rattle.minijinja_tree.specs.Tree as tree
use Rattle.minijinja_tree_expr.specs.declared.ast.Expr.{Expr}
use Rattle.minijinja_tree_expr.specs.declared.ast.Expr.TheVariants as expr
use Rattle.minijinja_tree_expr.specs.declared.ast.Spanned.{Spanned}
use Rattle.minijinja_tree_expr.specs.declared.ast.Slice.{Slice}
use Rattle.minijinja_tree_expr.specs.declared.ast.UnaryOp.{UnaryOp}
use Rattle.minijinja_tree_expr.specs.declared.ast.BinOp.{BinOp}
use Rattle.minijinja_tree_expr.specs.declared.ast.Compare.{Compare}
use Rattle.minijinja_tree_expr.specs.declared.ast.IfExpr.{IfExpr}
use Rattle.minijinja_tree_expr.specs.declared.ast.Filter.{Filter}
use Rattle.minijinja_tree_expr.specs.declared.ast.Test.{Test}
use Rattle.minijinja_tree_expr.specs.declared.ast.GetAttr.{GetAttr}
use Rattle.minijinja_tree_expr.specs.declared.ast.GetItem.{GetItem}
use Rattle.minijinja_tree_expr.specs.declared.ast.Call.{Call}
use Rattle.minijinja_tree_expr.specs.declared.ast.List.{List}
use Rattle.minijinja_tree_expr.specs.declared.ast.Tuple.{Tuple}
use Rattle.minijinja_tree_expr.specs.declared.ast.Map.{Map}
use Rattle.minijinja_tree_expr.proofs.SpannedNodes.{slice_is, if_expr_is, filter_is, test_is, call_is, list_is, tuple_is, map_is}

module _ {V F C : Type 0} (c : V → C) where
  pub slice_arm : (e : Expr V F) (s : Spanned (Slice V F)) (n : Slice V F) → e ≡ expr.Slice s → n ≡ node_of s → expr_tree c e ≡ tree.slice (expr_tree c n.expr) (optional_of c n.start) (optional_of c n.stop) (optional_of c n.step)
  slice_arm e s n is at = ap (expr_tree c) is ∙ slice_is c s ∙ ap (λ (m : Slice V F). tree.slice (expr_tree c m.expr) (optional_of c m.start) (optional_of c m.stop) (optional_of c m.step)) (sym at)

  pub unary_arm : (e : Expr V F) (s : Spanned (UnaryOp V F)) (n : UnaryOp V F) → e ≡ expr.UnaryOp s → n ≡ node_of s → expr_tree c e ≡ tree.unary (unary_op n.op) (expr_tree c n.expr)
  unary_arm e s n is at = ap (expr_tree c) is ∙ ap (λ (m : UnaryOp V F). tree.unary (unary_op m.op) (expr_tree c m.expr)) (sym at)

  pub binary_arm : (e : Expr V F) (s : Spanned (BinOp V F)) (n : BinOp V F) → e ≡ expr.BinOp s → n ≡ node_of s → expr_tree c e ≡ tree.binary (bin_op n.op) (expr_tree c n.left) (expr_tree c n.right)
  binary_arm e s n is at = ap (expr_tree c) is ∙ ap (λ (m : BinOp V F). tree.binary (bin_op m.op) (expr_tree c m.left) (expr_tree c m.right)) (sym at)

  pub compare_arm : (e : Expr V F) (s : Spanned (Compare V F)) (n : Compare V F) → e ≡ expr.Compare s → n ≡ node_of s → expr_tree c e ≡ compare_tree c n
  compare_arm e s n is at = ap (expr_tree c) is ∙ ap (λ (m : Compare V F). compare_tree c m) (sym at)

  pub if_arm : (e : Expr V F) (s : Spanned (IfExpr V F)) (n : IfExpr V F) → e ≡ expr.IfExpr s → n ≡ node_of s → expr_tree c e ≡ tree.if_expr (expr_tree c n.test_expr) (expr_tree c n.true_expr) (optional_of c n.false_expr)
  if_arm e s n is at = ap (expr_tree c) is ∙ if_expr_is c s ∙ ap (λ (m : IfExpr V F). tree.if_expr (expr_tree c m.test_expr) (expr_tree c m.true_expr) (optional_of c m.false_expr)) (sym at)

  pub filter_arm : (e : Expr V F) (s : Spanned (Filter V F)) (n : Filter V F) → e ≡ expr.Filter s → n ≡ node_of s → expr_tree c e ≡ tree.filter (optional_of c n.expr) n.name.now (args_of c n.args.items)
  filter_arm e s n is at = ap (expr_tree c) is ∙ filter_is c s ∙ ap (λ (m : Filter V F). tree.filter (optional_of c m.expr) m.name.now (args_of c m.args.items)) (sym at)

  pub test_arm : (e : Expr V F) (s : Spanned (Test V F)) (n : Test V F) → e ≡ expr.Test s → n ≡ node_of s → expr_tree c e ≡ tree.test (expr_tree c n.expr) n.name.now (args_of c n.args.items)
  test_arm e s n is at = ap (expr_tree c) is ∙ test_is c s ∙ ap (λ (m : Test V F). tree.test (expr_tree c m.expr) m.name.now (args_of c m.args.items)) (sym at)

  pub attribute_arm : (e : Expr V F) (s : Spanned (GetAttr V F)) (n : GetAttr V F) → e ≡ expr.GetAttr s → n ≡ node_of s → expr_tree c e ≡ tree.attribute (expr_tree c n.expr) n.name.now
  attribute_arm e s n is at = ap (expr_tree c) is ∙ ap (λ (m : GetAttr V F). tree.attribute (expr_tree c m.expr) m.name.now) (sym at)

  pub item_arm : (e : Expr V F) (s : Spanned (GetItem V F)) (n : GetItem V F) → e ≡ expr.GetItem s → n ≡ node_of s → expr_tree c e ≡ tree.item (expr_tree c n.expr) (expr_tree c n.subscript_expr)
  item_arm e s n is at = ap (expr_tree c) is ∙ ap (λ (m : GetItem V F). tree.item (expr_tree c m.expr) (expr_tree c m.subscript_expr)) (sym at)

  pub call_arm : (e : Expr V F) (s : Spanned (Call V F)) (n : Call V F) → e ≡ expr.Call s → n ≡ node_of s → expr_tree c e ≡ tree.call (expr_tree c n.expr) (args_of c n.args.items)
  call_arm e s n is at = ap (expr_tree c) is ∙ call_is c s ∙ ap (λ (m : Call V F). tree.call (expr_tree c m.expr) (args_of c m.args.items)) (sym at)

  pub list_arm : (e : Expr V F) (s : Spanned (List V F)) (n : List V F) → e ≡ expr.List s → n ≡ node_of s → expr_tree c e ≡ tree.list (exprs_of c n.items.items)
  list_arm e s n is at = ap (expr_tree c) is ∙ list_is c s ∙ ap (λ (m : List V F). tree.list (exprs_of c m.items.items)) (sym at)

  pub tuple_arm : (e : Expr V F) (s : Spanned (Tuple V F)) (n : Tuple V F) → e ≡ expr.Tuple s → n ≡ node_of s → expr_tree c e ≡ tree.tuple (exprs_of c n.items.items)
  tuple_arm e s n is at = ap (expr_tree c) is ∙ tuple_is c s ∙ ap (λ (m : Tuple V F). tree.tuple (exprs_of c m.items.items)) (sym at)

  pub map_arm : (e : Expr V F) (s : Spanned (Map V F)) (n : Map V F) → e ≡ expr.Map s → n ≡ node_of s → expr_tree c e ≡ tree.map (exprs_of c n.keys.items) (exprs_of c n.values.items)
  map_arm e s n is at = ap (expr_tree c) is ∙ map_is c s ∙ ap (λ (m : Map V F). tree.map (exprs_of c m.keys.items) (exprs_of c m.values.items)) (sym at)

  pub whole_slice_start : (e : Expr V F) (s : Spanned (Slice V F)) (n : Slice V F) → e ≡ expr.Slice s → n ≡ node_of s → IsWhole (expr_tree c e) → IsWholeIfAny (optional_of c n.start)
  whole_slice_start e s n is at w = let x = subst IsWhole (slice_arm e s n is at) w in x.1

  pub whole_slice_stop : (e : Expr V F) (s : Spanned (Slice V F)) (n : Slice V F) → e ≡ expr.Slice s → n ≡ node_of s → IsWhole (expr_tree c e) → IsWholeIfAny (optional_of c n.stop)
  whole_slice_stop e s n is at w = let x = subst IsWhole (slice_arm e s n is at) w in x.2

  pub whole_slice_step : (e : Expr V F) (s : Spanned (Slice V F)) (n : Slice V F) → e ≡ expr.Slice s → n ≡ node_of s → IsWhole (expr_tree c e) → IsWholeIfAny (optional_of c n.step)
  whole_slice_step e s n is at w = let x = subst IsWhole (slice_arm e s n is at) w in x.3

  pub whole_left : (e : Expr V F) (s : Spanned (BinOp V F)) (n : BinOp V F) → e ≡ expr.BinOp s → n ≡ node_of s → IsWhole (expr_tree c e) → IsWhole (expr_tree c n.left)
  whole_left e s n is at w = let x = subst IsWhole (binary_arm e s n is at) w in x.0

  pub whole_right : (e : Expr V F) (s : Spanned (BinOp V F)) (n : BinOp V F) → e ≡ expr.BinOp s → n ≡ node_of s → IsWhole (expr_tree c e) → IsWhole (expr_tree c n.right)
  whole_right e s n is at w = let x = subst IsWhole (binary_arm e s n is at) w in x.1

  pub whole_compare : (e : Expr V F) (s : Spanned (Compare V F)) (n : Compare V F) → e ≡ expr.Compare s → n ≡ node_of s → IsWhole (expr_tree c e) → IsWhole (compare_tree c n)
  whole_compare e s n is at w = let x = subst IsWhole (compare_arm e s n is at) w in x

  pub whole_if_false : (e : Expr V F) (s : Spanned (IfExpr V F)) (n : IfExpr V F) → e ≡ expr.IfExpr s → n ≡ node_of s → IsWhole (expr_tree c e) → IsWholeIfAny (optional_of c n.false_expr)
  whole_if_false e s n is at w = let x = subst IsWhole (if_arm e s n is at) w in x.2

  pub whole_test_args : (e : Expr V F) (s : Spanned (Test V F)) (n : Test V F) (xs : _) → e ≡ expr.Test s → n ≡ node_of s → xs ≡ n.args.items → IsWhole (expr_tree c e) → AreArguments (args_of c xs)
  whole_test_args e s n xs is at same w = let x = subst IsWhole (test_arm e s n is at) w in subst (λ zs. AreArguments (args_of c zs)) (sym same) x.1

  pub whole_test_few : (e : Expr V F) (s : Spanned (Test V F)) (n : Test V F) (xs : _) → e ≡ expr.Test s → n ≡ node_of s → xs ≡ n.args.items → IsWhole (expr_tree c e) → arg_count (args_of c xs) ≤ most_arguments
  whole_test_few e s n xs is at same w = let x = subst IsWhole (test_arm e s n is at) w in subst (λ zs. arg_count (args_of c zs) ≤ most_arguments) (sym same) x.2

  pub whole_key : (e : Expr V F) (s : Spanned (GetItem V F)) (n : GetItem V F) → e ≡ expr.GetItem s → n ≡ node_of s → IsWhole (expr_tree c e) → IsWhole (expr_tree c n.subscript_expr)
  whole_key e s n is at w = let x = subst IsWhole (item_arm e s n is at) w in x.1

  pub whole_call_args : (e : Expr V F) (s : Spanned (Call V F)) (n : Call V F) (xs : _) → e ≡ expr.Call s → n ≡ node_of s → xs ≡ n.args.items → IsWhole (expr_tree c e) → AreArguments (args_of c xs)
  whole_call_args e s n xs is at same w = let x = subst IsWhole (call_arm e s n is at) w in subst (λ zs. AreArguments (args_of c zs)) (sym same) x.1

  pub whole_call_few : (e : Expr V F) (s : Spanned (Call V F)) (n : Call V F) (xs : _) → e ≡ expr.Call s → n ≡ node_of s → xs ≡ n.args.items → IsWhole (expr_tree c e) → arg_count (args_of c xs) ≤ most_arguments
  whole_call_few e s n xs is at same w = let x = subst IsWhole (call_arm e s n is at) w in subst (λ zs. arg_count (args_of c zs) ≤ most_arguments) (sym same) x.2

  pub whole_list : (e : Expr V F) (s : Spanned (List V F)) (n : List V F) (xs : _) → e ≡ expr.List s → n ≡ node_of s → xs ≡ n.items.items → IsWhole (expr_tree c e) → AreWhole (exprs_of c xs)
  whole_list e s n xs is at same w = let x = subst IsWhole (list_arm e s n is at) w in subst (λ zs. AreWhole (exprs_of c zs)) (sym same) x

  pub whole_tuple : (e : Expr V F) (s : Spanned (Tuple V F)) (n : Tuple V F) (xs : _) → e ≡ expr.Tuple s → n ≡ node_of s → xs ≡ n.items.items → IsWhole (expr_tree c e) → AreWhole (exprs_of c xs)
  whole_tuple e s n xs is at same w = let x = subst IsWhole (tuple_arm e s n is at) w in subst (λ zs. AreWhole (exprs_of c zs)) (sym same) x

  pub whole_keys : (e : Expr V F) (s : Spanned (Map V F)) (n : Map V F) (xs : _) → e ≡ expr.Map s → n ≡ node_of s → xs ≡ n.keys.items → IsWhole (expr_tree c e) → AreWhole (exprs_of c xs)
  whole_keys e s n xs is at same w = let x = subst IsWhole (map_arm e s n is at) w in subst (λ zs. AreWhole (exprs_of c zs)) (sym same) x.0

  pub whole_values : (e : Expr V F) (s : Spanned (Map V F)) (n : Map V F) (xs : _) → e ≡ expr.Map s → n ≡ node_of s → xs ≡ n.values.items → IsWhole (expr_tree c e) → AreWhole (exprs_of c xs)
  whole_values e s n xs is at same w = let x = subst IsWhole (map_arm e s n is at) w in subst (λ zs. AreWhole (exprs_of c zs)) (sym same) x.1

  pub whole_filter : (e : Expr V F) (s : Spanned (Filter V F)) (n : Filter V F) → e ≡ expr.Filter s → n ≡ node_of s → IsWhole (expr_tree c e) → IsWhole (tree.filter (optional_of c n.expr) n.name.now (args_of c n.args.items))
  whole_filter e s n is at w = subst IsWhole (filter_arm e s n is at) w

  pub filter_few : (o : Option (Expr V F)) (e : Expr V F) (x : Text) (args : tree.Args C) → o ≡ Some e → IsWhole (tree.filter (optional_of c o) x args) → arg_count args ≤ most_arguments
  filter_few o e x args is w = let y = subst (λ p. IsWhole (tree.filter (optional_of c p) x args)) is w in y.2

  pub whole_pairs : (e : Expr V F) (s : Spanned (Map V F)) (n : Map V F) → e ≡ expr.Map s → n ≡ node_of s → IsWhole (expr_tree c e) → expr_count (exprs_of c n.keys.items) ≡ expr_count (exprs_of c n.values.items)
  whole_pairs e s n is at w = let x = subst IsWhole (map_arm e s n is at) w in x.2
