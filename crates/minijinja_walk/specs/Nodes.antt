-- The tree that a node stands for, with its spans, and with values seen as what they hold.
use Rattle.std.specs.Prelude.{List, map}
use Rattle.minijinja_tree.specs.SpannedErasure.{expr_node, stmt_node}
use Rattle.minijinja_walk.specs.Children as tree
use Rattle.minijinja_walk.specs.declared.walk.Node.{Node}
use Rattle.minijinja_walk.specs.declared.walk.Node.TheVariants.{Expr, Stmt}

abbrev pub tree_of : {V F C : Type 0} → (V → C) → Node V F → tree.Node C
tree_of c (Expr e) = tree.expr (expr_node c e.now)
tree_of c (Stmt s) = tree.stmt (stmt_node c s.now)

abbrev pub trees_of : {V F C : Type 0} → (V → C) → List (Node V F) → List (tree.Node C)
trees_of c nodes = map (tree_of c) nodes
