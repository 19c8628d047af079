use Rattle.std.proofs.Common.{subst, ap, ◌∙◌}
use Rattle.minijinja_semantics.specs.Code.{Load}
use Rattle.minijinja_semantics.specs.Pieces.{one}
use Rattle.minijinja_semantics.specs.Marks.{here}
use Rattle.minijinja_emitter.specs.internal.AtEmitter.{made_of}
use Rattle.minijinja_emitter.specs.internal.Making.{Adds}
use Rattle.minijinja_emitter.proofs.Adding.{adds_then}
use Rattle.minijinja_code_parts.proofs.LoopParts.{branches_added}
use Rattle.minijinja_code_parts.proofs.loop_parts.count_item.Goals as goal

pub returns-clause-added : goal.returns-clause-added
returns-clause-added g c =
    let made = made_of g.V.TemplateValue.contents in
    let loaded = subst (λ x. Adds (made c.add.new.self) (made c.add-2.new.self) (one (Load x))) c.of_u64.ensures c.in_ok-add-2.ensures.added in
    branches_added c.in_ok-test.ensures.added c.in_ok-test.ensures.place
    (adds_then c.in_ok-add.ensures.added (adds_then loaded c.in_ok-add-3.ensures.added))
    c.in_ok-end.ensures.added c.in_ok-end.ensures.place c.fill.ensures.filled c.here.ensures c.in_ok-add-4.ensures.added c.fill-2.ensures.filled c.here-2.ensures

pub returns-clause-marked : goal.returns-clause-marked
returns-clause-marked g c =
    let kept = c.in_ok-add-3.ensures.marked ∙ ap (here 1) (c.in_ok-add-2.ensures.marked ∙ ap (here 1) (c.in_ok-add.ensures.marked ∙ ap (here 1) c.in_ok-test.ensures.marked)) in
    c.fill-2.ensures.marked ∙ c.in_ok-add-4.ensures.marked ∙ ap (here 1) (c.fill.ensures.marked ∙ c.in_ok-end.ensures.marked ∙ ap (here 1) kept)
