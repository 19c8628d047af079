use Rattle.std.proofs.Common.{drop}
use Rattle.minijinja_tree.specs.SpannedErasure.{bindings_of}
use Rattle.minijinja_meta.specs.Mentions.{to_assignments}
use Rattle.minijinja_meta.specs.private.Walked.{Walking}
use Rattle.minijinja_meta.proofs.targets.assignments.Given as goal

-- what is left is walked through next
abbrev pub invariant-loop-left : goal.invariant-loop-left
invariant-loop-left g l =
    let c = g.V.TemplateValue.contents in
    Walking c l.initial.walker l.walker (to_assignments (bindings_of c l.pairs)) (to_assignments (bindings_of c (drop l.left-index l.pairs)))
