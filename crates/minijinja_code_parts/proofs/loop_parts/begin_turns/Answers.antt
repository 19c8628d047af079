use Rattle.std.proofs.Common.{subst, ap, ◌∙◌}
use Rattle.minijinja_tree.specs.SpannedErasure as node
use Rattle.minijinja_semantics.specs.Code.{PushLoop}
use Rattle.minijinja_semantics.specs.Pieces.{one}
use Rattle.minijinja_semantics.specs.Marks as marks
use Rattle.minijinja_emitter.specs.internal.AtEmitter.{made_of}
use Rattle.minijinja_emitter.specs.internal.Making.{Adds, hole}
use Rattle.minijinja_emitter.specs.internal.Margins.{closed}
use Rattle.minijinja_code_parts.proofs.LoopSteps.{in_turn}
use Rattle.minijinja_code_parts.proofs.Marking.{adds_to}
use Rattle.minijinja_code_parts.proofs.loop_parts.begin_turns.Goals as goal

pub returns-clause-begun : goal.returns-clause-begun
returns-clause-begun g c =
    let made = made_of g.V.TemplateValue.contents in
    record {
      pushed = made c.add.new.self;
      held = made c.close.new.self;
      push_added = subst (λ n. Adds (made c.args.code.now) (made c.add.new.self) (one (PushLoop n))) c.flags.ensures c.in_ok-add.ensures.added;
      hole_added = adds_to (one hole) c.close.ensures.made c.in_ok-iterate.ensures.added;
      target_added = c.in_ok-assign.ensures.added;
      within = c.of_loop.ensures ∙ ap (λ i. in_turn i c.args.data_bytes) c.in_ok-iterate.ensures.place;
    }

pub returns-clause-marked : goal.returns-clause-marked
returns-clause-marked g c =
    let v = g.V.TemplateValue.contents in
    let f = g.V.TemplateValue.functions in
    c.in_ok-assign.ensures.marked ∙ ap (marks.target f (node.expr_node v c.args.target.now)) (c.close.ensures.marked ∙ ap (closed c.args.outer) (c.in_ok-iterate.ensures.marked ∙ ap (marks.here 1) c.in_ok-add.ensures.marked))
