use Rattle.std.proofs.Common.{◌≤◌, length, arith, ◌<◌, refl, ap, ◌∙◌}
use Rattle.std.proofs.lemmas.List.{at_drop_all}
use Rattle.minijinja_tree.specs.Erasure.{assignments_of}
use Rattle.minijinja_tree.specs.SpannedErasure as node
use Rattle.minijinja_semantics.specs.Layout.{assignments}
use Rattle.minijinja_semantics.specs.Marks as marks
use Rattle.minijinja_emitter.proofs.Adding.{adds_then}
use Rattle.minijinja_emitter.specs.internal.AtEmitter.{margin_of}
use Rattle.minijinja_code_expr.proofs.InOrder.{leads_end}
use Rattle.minijinja_code_parts.proofs.Assigning.{assignments_after, assigned_next}
use Rattle.minijinja_code_parts.proofs.Marking.{marked_next, marked_end}
use Rattle.minijinja_code_parts.proofs.block_parts.begin_scope.Goals as goal

pub returns-clause-added : goal.returns-clause-added
returns-clause-added g c =
    let v = g.V.TemplateValue.contents in
    let f = g.V.TemplateValue.functions in
    let xs = c.args.assignments.now in
    let ended : length xs ≤ c.loop-target.target-index = omega arith in
    adds_then c.in_ok-add.ensures.added (leads_end (at_drop_all (λ ys. assignments f (assignments_of v ys)) xs c.loop-target.target-index ended) c.loop-target.invariant.leads)

pub loop-target-preserved : goal.loop-target-preserved
loop-target-preserved g c =
    let v = g.V.TemplateValue.contents in
    let f = g.V.TemplateValue.functions in
    let l = c.loop-target in
    let xs = c.args.assignments.now in
    let x = c.loop-target-item.result in
    let within : l.target-index < length xs = omega arith in
    record {
      are_assignments = assignments_after v xs l.target-index x within c.loop-target-item.is l.invariant.are_assignments;
      marked = marked_next (λ ys. marks.assignments f (node.bindings_of v ys)) (λ y t. marks.target f (node.expr_node v y.0) (marks.expr f (node.expr_node v y.1) t)) (λ y ys t. refl) xs l.target-index x (margin_of l.code) (margin_of c.assign.new.code) within c.loop-target-item.is (c.in_ok-assign.ensures.marked ∙ ap (marks.target f (node.expr_node v x.0)) c.in_ok-expression.ensures.marked) l.invariant.marked;
      leads = assigned_next v xs l.target-index x f within c.loop-target-item.is c.in_ok-expression.ensures.added c.in_ok-assign.ensures.added l.invariant.leads;
    }

pub returns-clause-marked : goal.returns-clause-marked
returns-clause-marked g c =
    let v = g.V.TemplateValue.contents in
    let f = g.V.TemplateValue.functions in
    let l = c.loop-target in
    let xs = c.args.assignments.now in
    let ended : length xs ≤ l.target-index = omega arith in
    marked_end (λ ys. marks.assignments f (node.bindings_of v ys)) (λ t. refl) xs l.target-index (margin_of l.code) ended l.invariant.marked
    ∙ ap (marks.assignments f (node.bindings_of v xs)) c.in_ok-add.ensures.marked
