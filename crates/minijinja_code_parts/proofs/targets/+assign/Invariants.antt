use Rattle.std.proofs.Common.{◌≡◌, drop}
use Rattle.minijinja_tree.specs.Erasure.{exprs_of}
use Rattle.minijinja_tree.specs.SpannedErasure.{trees}
use Rattle.minijinja_tree.specs.WellFormed.{AreTargets}
use Rattle.minijinja_semantics.specs.Layout.{targets}
use Rattle.minijinja_tree_expr.specs.SpannedTrees as spanned
use Rattle.minijinja_semantics.specs.Marks as marks
use Rattle.minijinja_emitter.specs.internal.AtEmitter.{made_of, margin_of}
use Rattle.minijinja_code_expr.proofs.InOrder.{Leads}
use Rattle.minijinja_code_parts.proofs.targets.+assign.Given as goal

abbrev pub invariant-loop-target : goal.invariant-loop-target
invariant-loop-target g l =
    let c = g.V.TemplateValue.contents in
    let f = g.V.TemplateValue.functions in
    record {
      are_targets : AreTargets (exprs_of c (drop l.target-index l.target-items));
      marked : marks.targets f (spanned.exprs_of (trees c (drop l.target-index l.target-items))) (margin_of l.code) ≡ marks.targets f (spanned.exprs_of (trees c l.target-items)) (margin_of l.initial.code);
      leads : Leads (made_of c l.initial.code) (made_of c l.code) (targets f (exprs_of c (drop l.target-index l.target-items))) (targets f (exprs_of c l.target-items));
    }
