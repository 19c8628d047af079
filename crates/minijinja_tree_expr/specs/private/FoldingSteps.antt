-- How a tree folds, a node at a time along first operands.
use Rattle.std.specs.Prelude.{List, [], ◌∷◌, Option, Some, None}
use Rattle.minijinja_value.specs.Values.{Functions}
use Rattle.minijinja_tree_expr.specs.BinOps.{BinOp}
use Rattle.minijinja_tree_expr.specs.Folding.{if_some, fold, fold_unary, fold_binary, fold_chain}
use Rattle.minijinja_tree_expr.specs.Operators.{working}
use Rattle.minijinja_tree_expr.specs.Tree.{Expr, unary, binary, compare}

-- the first operand of an operator or of a chain of comparisons
abbrev pub operand_of : {C : Type 0} → Expr C → Option (Expr C)
operand_of (unary o e) = Some e
operand_of (binary o a b) = Some a
operand_of (compare e cs) = Some e
operand_of _ = None

-- a binary operator, where the left operand is constant
abbrev pub fold_onto : {C F : Type 0} → Functions C F → BinOp → C → Expr C → Option C
fold_onto f o v e = if_some (fold f e) (fold_binary f (working o) v)

-- the constant of a node, by that of its first operand where it has one
abbrev pub fold_node : {C F : Type 0} → Functions C F → Expr C → Option C → Option C
fold_node f (unary o e) v = if_some v (fold_unary f o)
fold_node f (binary o a b) v = if_some v (λ x. fold_onto f o x b)
fold_node f (compare e cs) v = if_some v (λ x. fold_chain f x cs)
fold_node f e v = fold f e

-- the constant of the first node, each of which is the first operand of the one before, by that of
-- the last one's
abbrev pub fold_nodes : {C F : Type 0} → Functions C F → List (Expr C) → Option C → Option C
fold_nodes f [] v = v
fold_nodes f (e ∷ es) v = fold_node f e (fold_nodes f es v)
