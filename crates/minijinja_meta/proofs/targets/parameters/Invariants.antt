use Rattle.std.proofs.Common.{drop}
use Rattle.std.specs.Prelude.{reverse}
use Rattle.minijinja_tree.specs.SpannedErasure.{trees}
use Rattle.minijinja_meta.specs.Mentions.{to_defaulted, to_parameters}
use Rattle.minijinja_meta.specs.private.Walked.{Walking}
use Rattle.minijinja_meta.proofs.targets.parameters.Given as goal

-- what is left is walked through next
abbrev pub invariant-loop-place : goal.invariant-loop-place
invariant-loop-place g l =
    let c = g.V.TemplateValue.contents in
    let args = trees c l.declared.args.items in
    let defaults = trees c l.declared.defaults.items in
    Walking c l.initial.walker l.walker (to_parameters args defaults) (to_defaulted (drop l.place (reverse args)) (drop l.place (reverse defaults)))
