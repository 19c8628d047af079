use Rattle.std.proofs.Common.{◌≤◌, length, take}
use Rattle.minijinja_tree.specs.SpannedErasure.{names_of}
use Rattle.minijinja_meta.specs.Mentions.{to_names}
use Rattle.minijinja_meta.specs.private.Walked.{Walking}
use Rattle.minijinja_meta.proofs.targets.imported.Given as goal

-- what is left is walked through next
abbrev pub invariant-loop-left : goal.invariant-loop-left
invariant-loop-left g l =
    let c = g.V.TemplateValue.contents in
    record {
      walked : Walking c l.initial.walker l.walker (to_names (names_of c l.taken)) (to_names (names_of c (take l.left l.taken)));
      within : l.left ≤ length l.taken;
    }

abbrev pub decreases-loop-left : goal.decreases-loop-left
decreases-loop-left g l = l.left
