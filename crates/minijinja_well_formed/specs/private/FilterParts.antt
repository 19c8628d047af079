-- Filters with their operands.
use Rattle.std.specs.Prelude.{Option, Some, None}
use Rattle.minijinja_tree_expr.specs.Tree.{Expr, filter}
use Rattle.minijinja_tree_expr.specs.Erasure.{optional_of, args_of}
use Rattle.minijinja_tree_expr.specs.declared.ast.Filter.{Filter}

-- the tree of a filter's node
abbrev pub filter_tree : {V F C : Type 0} → (V → C) → Filter V F → Expr C
filter_tree c f = filter (optional_of c f.expr) f.name.now (args_of c f.args.items)

-- the expression, if it is a filter
abbrev pub only_filter : {C : Type 0} → Expr C → Option (Expr C)
only_filter (filter e x args) = Some (filter e x args)
only_filter _ = None
