-- The tree of an expression with its spans, by its node and its span.
use Rattle.std.proofs.Common.{◌≡◌, Option, Some, None, refl, sym, ap, ap₂, ◌∙◌}
use Rattle.minijinja_syntax.specs.declared.tokens.Span.{Span}
use Rattle.minijinja_tree.specs.Nodes.{node_of, span_of}
use Rattle.minijinja_tree.specs.Erasure.{unary_op, bin_op}
use Rattle.minijinja_tree.specs.SpannedErasure.{expr_node, optional_node, compare_node, all_compared, optional_of, args_of, trees}
use Rattle.minijinja_tree.specs.SpannedTrees as tree
use Rattle.minijinja_tree.specs.SpannedTrees.{exprs_of, comparisons_of}
use Rattle.minijinja_tree_expr.specs.declared.ast.Expr.{Expr, back-Filter-expr}
use Rattle.minijinja_tree_expr.specs.declared.ast.Expr.TheVariants as expr
use Rattle.minijinja_tree_expr.specs.declared.ast.Spanned.{Spanned}
use Rattle.minijinja_tree_expr.specs.declared.ast.Var.{Var}
use Rattle.minijinja_tree_expr.specs.declared.ast.Const.{Const}
use Rattle.minijinja_tree_expr.specs.declared.ast.Slice.{Slice}
use Rattle.minijinja_tree_expr.specs.declared.ast.UnaryOp.{UnaryOp}
use Rattle.minijinja_tree_expr.specs.declared.ast.BinOp.{BinOp}
use Rattle.minijinja_tree_expr.specs.declared.ast.Compare.{Compare, out-Compare}
use Rattle.minijinja_tree_expr.specs.declared.ast.IfExpr.{IfExpr}
use Rattle.minijinja_tree_expr.specs.declared.ast.Filter.{Filter}
use Rattle.minijinja_tree_expr.specs.declared.ast.Test.{Test}
use Rattle.minijinja_tree_expr.specs.declared.ast.GetAttr.{GetAttr}
use Rattle.minijinja_tree_expr.specs.declared.ast.GetItem.{GetItem}
use Rattle.minijinja_tree_expr.specs.declared.ast.Call.{Call}
use Rattle.minijinja_tree_expr.specs.declared.ast.List.{List}
use Rattle.minijinja_tree_expr.specs.declared.ast.Tuple.{Tuple}
use Rattle.minijinja_tree_expr.specs.declared.ast.Map.{Map}
use Rattle.minijinja_tree_expr.proofs.NodeRows.{filter_is, test_is, call_is, list_is, tuple_is, map_is, compare_is}

module _ {V F C : Type 0} (c : V → C) where
  held_is : (o : Option (Expr V F)) → optional_node c (back-Filter-expr V F o) ≡ optional_of c o
  held_is None = refl
  held_is (Some e) = refl

  pub spanned_variable : (e : Expr V F) (s : Spanned Var) (n : Var) (t : Span) → e ≡ expr.Var s → n ≡ node_of s → t ≡ span_of s → expr_node c e ≡ tree.variable n.id.now t
  spanned_variable e s n t is at here = ap (expr_node c) is ∙ ap₂ (λ (m : Var) u. tree.variable m.id.now u) (sym at) (sym here)

  pub spanned_constant : (e : Expr V F) (s : Spanned (Const V F)) (n : Const V F) (t : Span) → e ≡ expr.Const s → n ≡ node_of s → t ≡ span_of s → expr_node c e ≡ tree.constant (c n.value) t
  spanned_constant e s n t is at here = ap (expr_node c) is ∙ ap₂ (λ (m : Const V F) u. tree.constant (c m.value) u) (sym at) (sym here)

  slice_is : (s : Spanned (Slice V F)) → expr_node c (expr.Slice s) ≡ tree.slice (expr_node c (node_of s).expr) (optional_of c (node_of s).start) (optional_of c (node_of s).stop) (optional_of c (node_of s).step) (span_of s)
  slice_is s =
      ap₂ (λ x y. tree.slice (expr_node c (node_of s).expr) x y (optional_node c (back-Filter-expr V F (node_of s).step)) (span_of s)) (held_is (node_of s).start) (held_is (node_of s).stop)
      ∙ ap (λ z. tree.slice (expr_node c (node_of s).expr) (optional_of c (node_of s).start) (optional_of c (node_of s).stop) z (span_of s)) (held_is (node_of s).step)

  pub spanned_slice : (e : Expr V F) (s : Spanned (Slice V F)) (n : Slice V F) (t : Span) → e ≡ expr.Slice s → n ≡ node_of s → t ≡ span_of s → expr_node c e ≡ tree.slice (expr_node c n.expr) (optional_of c n.start) (optional_of c n.stop) (optional_of c n.step) t
  spanned_slice e s n t is at here = ap (expr_node c) is ∙ slice_is s ∙ ap₂ (λ (m : Slice V F) u. tree.slice (expr_node c m.expr) (optional_of c m.start) (optional_of c m.stop) (optional_of c m.step) u) (sym at) (sym here)

  pub spanned_unary : (e : Expr V F) (s : Spanned (UnaryOp V F)) (n : UnaryOp V F) (t : Span) → e ≡ expr.UnaryOp s → n ≡ node_of s → t ≡ span_of s → expr_node c e ≡ tree.unary (unary_op n.op) (expr_node c n.expr) t
  spanned_unary e s n t is at here = ap (expr_node c) is ∙ ap₂ (λ (m : UnaryOp V F) u. tree.unary (unary_op m.op) (expr_node c m.expr) u) (sym at) (sym here)

  pub spanned_binary : (e : Expr V F) (s : Spanned (BinOp V F)) (n : BinOp V F) (t : Span) → e ≡ expr.BinOp s → n ≡ node_of s → t ≡ span_of s → expr_node c e ≡ tree.binary (bin_op n.op) (expr_node c n.left) (expr_node c n.right) t
  spanned_binary e s n t is at here = ap (expr_node c) is ∙ ap₂ (λ (m : BinOp V F) u. tree.binary (bin_op m.op) (expr_node c m.left) (expr_node c m.right) u) (sym at) (sym here)

  -- a chain of comparisons as a function of its own sees it
  pub spanned_chain : (e : Expr V F) (s : Spanned (Compare V F)) (n : Compare V F) (t : Span) → e ≡ expr.Compare s → n ≡ node_of s → t ≡ span_of s → expr_node c e ≡ compare_node c n t
  spanned_chain e s n t is at here = ap (expr_node c) is ∙ ap₂ (λ (m : Compare V F) u. compare_node c m u) (sym at) (sym here)

  -- and by its operands
  pub spanned_compare : (e : Expr V F) (s : Spanned (Compare V F)) (n : Compare V F) (t : Span) → e ≡ expr.Compare s → n ≡ node_of s → t ≡ span_of s → expr_node c e ≡ tree.compare (expr_node c (out-Compare V F n).expr) (comparisons_of (all_compared c (out-Compare V F n).ops.items)) t
  spanned_compare e s n t is at here = spanned_chain e s n t is at here ∙ compare_is c n t

  if_is : (s : Spanned (IfExpr V F)) → expr_node c (expr.IfExpr s) ≡ tree.if_expr (expr_node c (node_of s).test_expr) (expr_node c (node_of s).true_expr) (optional_of c (node_of s).false_expr) (span_of s)
  if_is s = ap (λ z. tree.if_expr (expr_node c (node_of s).test_expr) (expr_node c (node_of s).true_expr) z (span_of s)) (held_is (node_of s).false_expr)

  pub spanned_if : (e : Expr V F) (s : Spanned (IfExpr V F)) (n : IfExpr V F) (t : Span) → e ≡ expr.IfExpr s → n ≡ node_of s → t ≡ span_of s → expr_node c e ≡ tree.if_expr (expr_node c n.test_expr) (expr_node c n.true_expr) (optional_of c n.false_expr) t
  spanned_if e s n t is at here = ap (expr_node c) is ∙ if_is s ∙ ap₂ (λ (m : IfExpr V F) u. tree.if_expr (expr_node c m.test_expr) (expr_node c m.true_expr) (optional_of c m.false_expr) u) (sym at) (sym here)

  pub spanned_filter : (e : Expr V F) (s : Spanned (Filter V F)) (n : Filter V F) (t : Span) → e ≡ expr.Filter s → n ≡ node_of s → t ≡ span_of s → expr_node c e ≡ tree.filter (optional_of c n.expr) n.name.now (args_of c n.args.items) t
  spanned_filter e s n t is at here = ap (expr_node c) is ∙ filter_is c s n t (sym at) (sym here)

  pub spanned_test : (e : Expr V F) (s : Spanned (Test V F)) (n : Test V F) (t : Span) → e ≡ expr.Test s → n ≡ node_of s → t ≡ span_of s → expr_node c e ≡ tree.test (expr_node c n.expr) n.name.now (args_of c n.args.items) t
  spanned_test e s n t is at here = ap (expr_node c) is ∙ test_is c s n t (sym at) (sym here)

  pub spanned_attribute : (e : Expr V F) (s : Spanned (GetAttr V F)) (n : GetAttr V F) (t : Span) → e ≡ expr.GetAttr s → n ≡ node_of s → t ≡ span_of s → expr_node c e ≡ tree.attribute (expr_node c n.expr) n.name.now t
  spanned_attribute e s n t is at here = ap (expr_node c) is ∙ ap₂ (λ (m : GetAttr V F) u. tree.attribute (expr_node c m.expr) m.name.now u) (sym at) (sym here)

  pub spanned_item : (e : Expr V F) (s : Spanned (GetItem V F)) (n : GetItem V F) (t : Span) → e ≡ expr.GetItem s → n ≡ node_of s → t ≡ span_of s → expr_node c e ≡ tree.item (expr_node c n.expr) (expr_node c n.subscript_expr) t
  spanned_item e s n t is at here = ap (expr_node c) is ∙ ap₂ (λ (m : GetItem V F) u. tree.item (expr_node c m.expr) (expr_node c m.subscript_expr) u) (sym at) (sym here)

  pub spanned_call : (e : Expr V F) (s : Spanned (Call V F)) (n : Call V F) (t : Span) → e ≡ expr.Call s → n ≡ node_of s → t ≡ span_of s → expr_node c e ≡ tree.call (expr_node c n.expr) (args_of c n.args.items) t
  spanned_call e s n t is at here = ap (expr_node c) is ∙ call_is c s n t (sym at) (sym here)

  pub spanned_list : (e : Expr V F) (s : Spanned (List V F)) (n : List V F) (t : Span) → e ≡ expr.List s → n ≡ node_of s → t ≡ span_of s → expr_node c e ≡ tree.list (exprs_of (trees c n.items.items)) t
  spanned_list e s n t is at here = ap (expr_node c) is ∙ list_is c s n t (sym at) (sym here)

  pub spanned_tuple : (e : Expr V F) (s : Spanned (Tuple V F)) (n : Tuple V F) (t : Span) → e ≡ expr.Tuple s → n ≡ node_of s → t ≡ span_of s → expr_node c e ≡ tree.tuple (exprs_of (trees c n.items.items)) t
  spanned_tuple e s n t is at here = ap (expr_node c) is ∙ tuple_is c s n t (sym at) (sym here)

  pub spanned_map : (e : Expr V F) (s : Spanned (Map V F)) (n : Map V F) (t : Span) → e ≡ expr.Map s → n ≡ node_of s → t ≡ span_of s → expr_node c e ≡ tree.map (exprs_of (trees c n.keys.items)) (exprs_of (trees c n.values.items)) t
  spanned_map e s n t is at here = ap (expr_node c) is ∙ map_is c s n t (sym at) (sym here)
