use Rattle.std.proofs.Common.{◌+◌, ◌*◌, length, drop}
use Rattle.minijinja_tree.specs.SpannedErasure.{all_compared, args_of, trees}
use Rattle.minijinja_tree.specs.SpannedTrees.{comparisons_of, exprs_of}
use Rattle.minijinja_tree_expr.proofs.Sizes.{rest_size}
use Rattle.minijinja_meta.specs.Mentions.{through_all, through_compared, through_keyword, through_positional}
use Rattle.minijinja_meta.specs.private.Walked.{Walking}
use Rattle.minijinja_meta.proofs.Descending.{Descending, Rising, at_most_one}
use Rattle.minijinja_meta.proofs.ExprWays.{turn}
use Rattle.minijinja_meta.proofs.expressions.+walk.Given as goal

-- how deep the argument is, and among equals the caller above what it calls
abbrev pub decreases-expression : goal.decreases-expression
decreases-expression g l = 4 * goal.size-expression g l + 3

abbrev pub decreases-row : goal.decreases-row
decreases-row g l = 4 * goal.size-row g l + 2

abbrev pub decreases-next_side : goal.decreases-next_side
decreases-next_side g l = 4 * goal.size-next_side g l + 1

abbrev pub decreases-rest : goal.decreases-rest
decreases-rest g l = 4 * goal.size-rest g l + 1

abbrev pub decreases-bounds : goal.decreases-bounds
decreases-bounds g l = 4 * goal.size-bounds g l + 1

abbrev pub decreases-if_any : goal.decreases-if_any
decreases-if_any g l = 4 * rest_size l.expr + 0

abbrev pub decreases-expressions : goal.decreases-expressions
decreases-expressions g l = 4 * goal.size-expressions g l + 4

abbrev pub decreases-compared : goal.decreases-compared
decreases-compared g l = 4 * goal.size-compared g l + 4

abbrev pub decreases-arguments : goal.decreases-arguments
decreases-arguments g l = 4 * goal.size-arguments g l + 1

abbrev pub decreases-pairs : goal.decreases-pairs
decreases-pairs g l = 4 * goal.size-pairs g l + 1

abbrev pub invariant-row-loop-side : goal.invariant-row-loop-side
invariant-row-loop-side g l = Descending g.V.TemplateValue.contents l.fn.walker l.walker l.fn.expr l.left l.side

abbrev pub decreases-row-loop-side : goal.decreases-row-loop-side
decreases-row-loop-side g l = rest_size l.side

abbrev pub invariant-row-loop-left : goal.invariant-row-loop-left
invariant-row-loop-left g l = Rising g.V.TemplateValue.contents l.fn.walker l.walker l.fn.expr l.mark l.left

abbrev pub decreases-row-loop-left : goal.decreases-row-loop-left
decreases-row-loop-left g l = length l.walker.waiting.items + at_most_one l.left

-- what is left is walked through next
abbrev pub invariant-expressions-loop-expr : goal.invariant-expressions-loop-expr
invariant-expressions-loop-expr g l =
    let c = g.V.TemplateValue.contents in
    Walking c l.initial.walker l.walker (through_all (exprs_of (trees c l.exprs))) (through_all (exprs_of (trees c (drop l.expr-index l.exprs))))

abbrev pub invariant-compared-loop-comparison : goal.invariant-compared-loop-comparison
invariant-compared-loop-comparison g l =
    let c = g.V.TemplateValue.contents in
    Walking c l.initial.walker l.walker (through_compared (comparisons_of (all_compared c l.comparisons))) (through_compared (comparisons_of (all_compared c (drop l.comparison-index l.comparisons))))

-- the keyword arguments are left too
abbrev pub invariant-arguments-loop-arg : goal.invariant-arguments-loop-arg
invariant-arguments-loop-arg g l =
    let c = g.V.TemplateValue.contents in
    Walking c l.fn.walker l.walker (λ w. through_positional (args_of c l.args) (through_keyword (args_of c l.args) w))
    (λ w. through_positional (args_of c (drop l.arg-index l.args)) (through_keyword (args_of c l.args) w))

abbrev pub invariant-arguments-loop-arg-2 : goal.invariant-arguments-loop-arg-2
invariant-arguments-loop-arg-2 g l =
    let c = g.V.TemplateValue.contents in
    Walking c l.fn.walker l.walker (λ w. through_positional (args_of c l.args) (through_keyword (args_of c l.args) w)) (through_keyword (args_of c (drop l.arg-index l.args)))

abbrev pub invariant-pairs-loop-place : goal.invariant-pairs-loop-place
invariant-pairs-loop-place g l =
    let c = g.V.TemplateValue.contents in
    Walking c l.initial.walker l.walker (turn c l.map.keys.items l.map.values.items) (turn c (drop l.place l.map.keys.items) (drop l.place l.map.values.items))
