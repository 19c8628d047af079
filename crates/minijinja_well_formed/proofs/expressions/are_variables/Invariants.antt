use Rattle.std.proofs.Common.{◌≡◌, drop, map}
use Rattle.minijinja_tree_expr.specs.Erasure.{expr_tree}
use Rattle.minijinja_well_formed.specs.private.ExpressionTests.{are_variables}
use Rattle.minijinja_well_formed.proofs.expressions.are_variables.Given as goal

-- what is left decides
abbrev pub invariant-loop-expr : goal.invariant-loop-expr
invariant-loop-expr g l = let c = g.V.TemplateValue.contents in are_variables (map (expr_tree c) l.exprs) ≡ are_variables (map (expr_tree c) (drop l.expr-index l.exprs))
