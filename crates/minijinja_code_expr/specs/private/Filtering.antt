-- The tree that a filter stands for.
use Rattle.minijinja_tree.specs.Erasure.{optional_of, args_of}
use Rattle.minijinja_syntax.specs.declared.tokens.Span.{Span}
use Rattle.minijinja_tree.specs.SpannedErasure as node
use Rattle.minijinja_tree.specs.SpannedTrees as spanned
use Rattle.minijinja_tree.specs.Tree as tree
use Rattle.minijinja_tree_expr.specs.declared.ast.Filter.{Filter}

abbrev pub filter_shown : {V F C : Type 0} → (V → C) → Filter V F → tree.Expr C
filter_shown c n = tree.filter (optional_of c n.expr) n.name.now (args_of c n.args.items)

abbrev pub filter_node : {V F C : Type 0} → (V → C) → Filter V F → Span → spanned.Expr C
filter_node c n s = spanned.filter (node.optional_of c n.expr) n.name.now (node.args_of c n.args.items) s
