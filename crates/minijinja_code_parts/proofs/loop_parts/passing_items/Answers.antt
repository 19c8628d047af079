use Rattle.std.proofs.Common.{[], subst, ap, ◌∙◌}
use Rattle.minijinja_tree.specs.Erasure.{expr_tree}
use Rattle.minijinja_tree.specs.SpannedErasure as node
use Rattle.minijinja_semantics.specs.Code.{Load, PushLoop}
use Rattle.minijinja_semantics.specs.Pieces.{one}
use Rattle.minijinja_semantics.specs.Layout as layout
use Rattle.minijinja_semantics.specs.Marks as marks
use Rattle.minijinja_emitter.specs.internal.AtEmitter.{made_of, margin_of}
use Rattle.minijinja_emitter.specs.internal.Making.{Adds}
use Rattle.minijinja_emitter.proofs.Adding.{adds_then}
use Rattle.minijinja_code_expr.proofs.Results.{ok_gives}
use Rattle.minijinja_code_parts.proofs.LoopParts.{turning_added}
use Rattle.minijinja_code_parts.specs.internal.Loops.{turned}
use Rattle.minijinja_code_parts.proofs.Marking.{adds_from, items_made, ok_marked, span_is}
use Rattle.minijinja_code_parts.proofs.loop_parts.passing_items.Goals as goal

pub returns-clause-added : goal.returns-clause-added
returns-clause-added g c =
    let made = made_of g.V.TemplateValue.contents in
    let count = subst (λ x. Adds (made c.args.code.now) (made c.add.new.self) (one (Load x))) c.of_u64.ensures c.in_ok-add.ensures.added in
    let items = adds_from (layout.expr g.V.TemplateValue.functions (expr_tree g.V.TemplateValue.contents c.args.iterable.now)) c.open-outer.ensures.made c.in_ok-expression.ensures.added in
    let pushed = adds_from (one (PushLoop 0)) c.enter.ensures.made c.in_ok-add-2.ensures.added in
    let turns = turning_added c.in_ok-iterate.iterate c.in_ok-iterate.ensures.added c.in_ok-iterate.ensures.place c.in_ok-keep_if.ensures.added (c.in_ok-turn_back.ensures.turned ∙ ap (turned c.in_ok-iterate.iterate []) c.close.ensures.made) in
    ok_gives c.add-4.result (λ s. adds_then count (adds_then items (adds_then pushed (adds_then turns (adds_then c.in_ok-add-3.ensures.added s))))) c.add-4.ensures.added

pub returns-clause-marked : goal.returns-clause-marked
returns-clause-marked g c =
    let v = g.V.TemplateValue.contents in
    let f = g.V.TemplateValue.functions in
    let target = node.expr_node v c.args.target.now in
    let iterable = node.expr_node v c.args.iterable.now in
    let test = node.expr_node v c.args.test.now in
    let passed = c.in_ok-keep_if.ensures.marked ∙ ap (λ t. marks.here 6 (marks.expr f test (marks.target f target (marks.here 1 t)))) (c.in_ok-iterate.ensures.marked ∙ ap (marks.here 1) c.in_ok-add-2.ensures.marked) in
    let all = items_made f target iterable test (margin_of c.args.code.now) c.in_ok-add.ensures.marked c.open-outer.ensures.outer (c.span.ensures ∙ span_is v c.args.iterable.now) c.open-outer.ensures.marked c.in_ok-expression.ensures.marked
    (c.span-2.ensures ∙ span_is v c.args.test.now) c.enter.ensures.marked passed c.close.ensures.marked in
    ok_marked c.add-4.result (margin_of c.add-4.new.self) (ap (marks.here 1) (c.in_ok-add-3.ensures.marked ∙ ap (marks.here 1) c.in_ok-turn_back.ensures.marked) ∙ all) c.add-4.ensures.marked
