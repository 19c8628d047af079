-- What an expression is called in messages.
use Rattle.std.specs.Prelude.{codes}
use Rattle.minijinja_syntax.specs.Texts.{Text}
use Rattle.minijinja_tree_expr.specs.Tree.{Expr, variable, constant, filter, test, call, list, tuple, map}

abbrev pub description : {C : Type 0} → Expr C → Text
description (variable x) = codes "variable"
description (constant v) = codes "constant"
description (call e args) = codes "call"
description (list es) = codes "list literal"
description (tuple es) = codes "tuple literal"
description (map ks vs) = codes "map literal"
description (test e name args) = codes "test expression"
description (filter e name args) = codes "filter expression"
description _ = codes "expression"
