use Rattle.std.proofs.Common.{◌≡◌, drop}
use Rattle.minijinja_tree.specs.Erasure.{assignments_of}
use Rattle.minijinja_tree.specs.SpannedErasure as node
use Rattle.minijinja_tree.specs.WellFormed.{AreAssignments}
use Rattle.minijinja_semantics.specs.Layout.{assignments}
use Rattle.minijinja_semantics.specs.Marks as marks
use Rattle.minijinja_emitter.specs.internal.AtEmitter.{made_of, margin_of}
use Rattle.minijinja_code_expr.proofs.InOrder.{Leads}
use Rattle.minijinja_code_parts.proofs.block_parts.begin_scope.Given as goal

abbrev pub invariant-loop-target : goal.invariant-loop-target
invariant-loop-target g l =
    let v = g.V.TemplateValue.contents in
    let f = g.V.TemplateValue.functions in
    let left = assignments_of v (drop l.target-index l.assignments) in
    record {
      are_assignments : AreAssignments left;
      marked : marks.assignments f (node.bindings_of v (drop l.target-index l.assignments)) (margin_of l.code) ≡ marks.assignments f (node.bindings_of v l.assignments) (margin_of l.initial.code);
      leads : Leads (made_of v l.initial.code) (made_of v l.code) (assignments f left) (assignments f (assignments_of v l.assignments));
    }
