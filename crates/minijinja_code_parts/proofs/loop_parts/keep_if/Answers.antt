use Rattle.std.proofs.Common.{ap, ◌∙◌}
use Rattle.minijinja_tree.specs.SpannedErasure as node
use Rattle.minijinja_semantics.specs.Marks as marks
use Rattle.minijinja_emitter.proofs.Adding.{adds_then}
use Rattle.minijinja_emitter.specs.internal.AtEmitter.{margin_of}
use Rattle.minijinja_code_expr.proofs.Results.{ok_gives}
use Rattle.minijinja_code_parts.proofs.Marking.{ok_marked}
use Rattle.minijinja_code_parts.proofs.loop_parts.keep_if.Goals as goal

pub returns-clause-added : goal.returns-clause-added
returns-clause-added g c = ok_gives c.count_item.result (λ s. adds_then c.in_ok-add.ensures.added (adds_then c.in_ok-assign.ensures.added (adds_then c.in_ok-expression.ensures.added s))) c.count_item.ensures.added

pub returns-clause-marked : goal.returns-clause-marked
returns-clause-marked g c =
    let v = g.V.TemplateValue.contents in
    let f = g.V.TemplateValue.functions in
    let target = node.expr_node v c.args.target.now in
    let test = node.expr_node v c.args.test.now in
    ok_marked c.count_item.result (margin_of c.count_item.new.code) (ap (marks.here 6) (c.in_ok-expression.ensures.marked ∙ ap (marks.expr f test) (c.in_ok-assign.ensures.marked ∙ ap (marks.target f target) c.in_ok-add.ensures.marked))) c.count_item.ensures.marked
