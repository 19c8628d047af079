use Rattle.std.proofs.Common.{◌≡◌, ◌+◌, ◌*◌, drop}
use Rattle.minijinja_tree_expr.specs.Erasure.{exprs_of}
use Rattle.minijinja_well_formed.specs.private.ExpressionTests.{are_targets}
use Rattle.minijinja_well_formed.proofs.expressions.+targets.Given as goal

-- how deep the argument is, and among equals the list above its items
abbrev pub decreases-is_target : goal.decreases-is_target
decreases-is_target g l = 2 * goal.size-is_target g l + 0

abbrev pub decreases-are_targets : goal.decreases-are_targets
decreases-are_targets g l = 2 * goal.size-are_targets g l + 1

-- what is left decides
abbrev pub invariant-are_targets-loop-expr : goal.invariant-are_targets-loop-expr
invariant-are_targets-loop-expr g l = let c = g.V.TemplateValue.contents in are_targets (exprs_of c l.exprs) ≡ are_targets (exprs_of c (drop l.expr-index l.exprs))
