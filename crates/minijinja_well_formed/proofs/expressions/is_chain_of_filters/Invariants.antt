use Rattle.std.proofs.Common.{◌≡◌}
use Rattle.minijinja_tree_expr.specs.Erasure.{expr_tree}
use Rattle.minijinja_well_formed.specs.private.ExpressionTests.{is_chain_of_filters}
use Rattle.minijinja_well_formed.proofs.FilterChains.{is_chain_if_some}
use Rattle.minijinja_tree_expr.proofs.Sizes.{rest_size}
use Rattle.minijinja_well_formed.proofs.expressions.is_chain_of_filters.Given as goal

-- what is left decides
abbrev pub invariant-loop-rest : goal.invariant-loop-rest
invariant-loop-rest g l = let c = g.V.TemplateValue.contents in is_chain_of_filters (expr_tree c l.fn.expr) ≡ is_chain_if_some c l.rest

abbrev pub decreases-loop-rest : goal.decreases-loop-rest
decreases-loop-rest g l = rest_size l.rest
