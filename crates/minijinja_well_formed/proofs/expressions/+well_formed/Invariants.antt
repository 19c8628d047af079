use Rattle.std.proofs.Common.{◌≡◌, ◌+◌, ◌*◌, drop}
use Rattle.std.specs.Prelude.{◌&&◌}
use Rattle.minijinja_tree_expr.specs.Erasure.{exprs_of, args_of, comparisons_of}
use Rattle.minijinja_well_formed.specs.private.ExpressionTests.{is_chain, are_whole, are_compared, are_arguments, takes_arguments}
use Rattle.minijinja_tree_expr.proofs.Sizes.{rest_size}
use Rattle.minijinja_well_formed.proofs.WellFormedSides.{IsRest}
use Rattle.minijinja_well_formed.proofs.expressions.+well_formed.Given as goal

-- how deep the argument is, and among equals the caller above what it calls
abbrev pub decreases-is_whole : goal.decreases-is_whole
decreases-is_whole g l = 3 * goal.size-is_whole g l + 1

abbrev pub decreases-is_whole_beside : goal.decreases-is_whole_beside
decreases-is_whole_beside g l = 3 * goal.size-is_whole_beside g l + 0

abbrev pub decreases-are_bounds : goal.decreases-are_bounds
decreases-are_bounds g l = 3 * goal.size-are_bounds g l + 0

abbrev pub decreases-is_choice : goal.decreases-is_choice
decreases-is_choice g l = 3 * goal.size-is_choice g l + 0

abbrev pub decreases-is_map : goal.decreases-is_map
decreases-is_map g l = 3 * goal.size-is_map g l + 0

abbrev pub decreases-is_whole_if_any : goal.decreases-is_whole_if_any
decreases-is_whole_if_any g l = 3 * goal.size-is_whole_if_any g l + 2

abbrev pub decreases-are_whole : goal.decreases-are_whole
decreases-are_whole g l = 3 * goal.size-are_whole g l + 2

abbrev pub decreases-are_compared : goal.decreases-are_compared
decreases-are_compared g l = 3 * goal.size-are_compared g l + 2

abbrev pub decreases-are_arguments : goal.decreases-are_arguments
decreases-are_arguments g l = 3 * goal.size-are_arguments g l + 2

abbrev pub decreases-is_argument : goal.decreases-is_argument
decreases-is_argument g l = 3 * goal.size-is_argument g l + 0

abbrev pub invariant-is_whole-loop-rest : goal.invariant-is_whole-loop-rest
invariant-is_whole-loop-rest g l = IsRest g.V.TemplateValue.contents l.fn.expr l.rest

abbrev pub decreases-is_whole-loop-rest : goal.decreases-is_whole-loop-rest
decreases-is_whole-loop-rest g l = rest_size l.rest

-- what is left decides
abbrev pub invariant-are_whole-loop-expr : goal.invariant-are_whole-loop-expr
invariant-are_whole-loop-expr g l = let c = g.V.TemplateValue.contents in are_whole (exprs_of c l.exprs) ≡ are_whole (exprs_of c (drop l.expr-index l.exprs))

abbrev pub invariant-are_compared-loop-comparison : goal.invariant-are_compared-loop-comparison
invariant-are_compared-loop-comparison g l =
    let c = g.V.TemplateValue.contents in
    (is_chain (comparisons_of c l.comparisons) && are_compared (comparisons_of c l.comparisons)) ≡ are_compared (comparisons_of c (drop l.comparison-index l.comparisons))

abbrev pub invariant-are_arguments-loop-arg : goal.invariant-are_arguments-loop-arg
invariant-are_arguments-loop-arg g l = let c = g.V.TemplateValue.contents in takes_arguments (args_of c l.args) ≡ are_arguments (args_of c (drop l.arg-index l.args))
