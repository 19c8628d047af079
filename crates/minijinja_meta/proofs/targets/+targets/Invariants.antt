use Rattle.std.proofs.Common.{◌+◌, ◌*◌, drop}
use Rattle.minijinja_tree.specs.SpannedErasure.{trees}
use Rattle.minijinja_tree.specs.SpannedTrees.{exprs_of}
use Rattle.minijinja_meta.specs.Mentions.{to_targets}
use Rattle.minijinja_meta.specs.private.Walked.{Walking}
use Rattle.minijinja_meta.proofs.targets.+targets.Given as goal

-- how deep the argument is, and among equals targets above each of them
abbrev pub decreases-target : goal.decreases-target
decreases-target g l = 2 * goal.size-target g l + 0

abbrev pub decreases-targets : goal.decreases-targets
decreases-targets g l = 2 * goal.size-targets g l + 1

-- what is left is walked through next
abbrev pub invariant-targets-loop-expr : goal.invariant-targets-loop-expr
invariant-targets-loop-expr g l =
    let c = g.V.TemplateValue.contents in
    Walking c l.initial.walker l.walker (to_targets (exprs_of (trees c l.exprs))) (to_targets (exprs_of (trees c (drop l.expr-index l.exprs))))
