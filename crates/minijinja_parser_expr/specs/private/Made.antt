-- The trees that nodes and arguments stand for, as the grammar has them.
use Rattle.std.specs.Prelude.{map}
use Rattle.std.specs.Option.{option_map}
use Rattle.minijinja_syntax.specs.Texts.{Text}
use Rattle.minijinja_syntax.specs.declared.tokens.Span.{Span}
use Rattle.minijinja_tree.specs.BinOps as bin
use Rattle.minijinja_tree.specs.BinOps.{BinOp}
use Rattle.minijinja_tree.specs.CompareOps as cmp
use Rattle.minijinja_tree.specs.CompareOps.{CompareOp}
use Rattle.minijinja_tree.specs.Erasure.{bin_op, unary_op}
use Rattle.minijinja_tree.specs.SpannedTrees as tree
use Rattle.minijinja_tree.specs.SpannedTrees.{Arg, Expr, args_of, comparisons_of, exprs_of, optional_of, positional, starred, double_starred}
use Rattle.minijinja_parser_expr.specs.declared.builder.Argument.{Argument}
use Rattle.minijinja_parser_expr.specs.declared.builder.Argument.TheVariants as argument
use Rattle.minijinja_parser_expr.specs.declared.builder.Node.{Node}
use Rattle.minijinja_parser_expr.specs.declared.builder.Node.TheVariants as node

abbrev pub argument_of : {N E C : Type 0} → (N → Text) → (E → Expr C) → Argument N E → Arg C
argument_of text of (argument.Positional e) = positional (of e)
argument_of text of (argument.Keyword x e) = tree.keyword (text x) (of e)
argument_of text of (argument.Starred e) = starred (of e)
argument_of text of (argument.DoubleStarred e) = double_starred (of e)

abbrev pub node_tree : {N E A K C : Type 0} → (N → Text) → (E → Expr C) → (A → Arg C) → (K → CompareOp × Expr C) → Node N E A K → Span → Expr C
node_tree text of arg compared (node.Item e i) s = tree.item (of e) (of i) s
node_tree text of arg compared (node.Slice e from to by) s =
    tree.slice (of e) (optional_of (option_map of from)) (optional_of (option_map of to)) (optional_of (option_map of by)) s
node_tree text of arg compared (node.UnaryOp op e) s = tree.unary (unary_op op) (of e) s
node_tree text of arg compared (node.BinOp op l r) s = tree.binary (bin_op op) (of l) (of r) s
node_tree text of arg compared (node.Compare e os) s = tree.compare (of e) (comparisons_of (map compared os.items)) s
node_tree text of arg compared (node.IfExpr t e f) s = tree.if_expr (of t) (of e) (optional_of (option_map of f)) s
node_tree text of arg compared (node.Filter x e xs) s = tree.filter (optional_of (option_map of e)) (text x) (args_of (map arg xs.items)) s
node_tree text of arg compared (node.Test x e xs) s = tree.test (of e) (text x) (args_of (map arg xs.items)) s
node_tree text of arg compared (node.Call e xs) s = tree.call (of e) (args_of (map arg xs.items)) s
node_tree text of arg compared (node.List es) s = tree.list (exprs_of (map of es.items)) s
node_tree text of arg compared (node.Tuple es) s = tree.tuple (exprs_of (map of es.items)) s
node_tree text of arg compared (node.Map ks vs) s = tree.map (exprs_of (map of ks.items)) (exprs_of (map of vs.items)) s

-- the operator of two sides that the comparison is, or is the negation of
abbrev pub operator_of : CompareOp → BinOp
operator_of cmp.eq = bin.eq
operator_of cmp.ne = bin.ne
operator_of cmp.lt = bin.lt
operator_of cmp.lte = bin.lte
operator_of cmp.gt = bin.gt
operator_of cmp.gte = bin.gte
operator_of cmp.is_in = bin.is_in
operator_of cmp.not_in = bin.is_in
