use Rattle.std.proofs.Common.{ap, ◌∙◌}
use Rattle.minijinja_tree.specs.SpannedErasure as node
use Rattle.minijinja_semantics.specs.Marks as marks
use Rattle.minijinja_emitter.proofs.Adding.{adds_then}
use Rattle.minijinja_emitter.specs.internal.AtEmitter.{margin_of}
use Rattle.minijinja_code_expr.proofs.Results.{ok_gives}
use Rattle.minijinja_code_parts.proofs.Marking.{ok_marked}
use Rattle.minijinja_code_parts.proofs.block_parts.end_set_block.Goals as goal

pub returns-clause-added : goal.returns-clause-added
returns-clause-added g c = ok_gives c.assign.result (λ s. adds_then c.in_ok-add.ensures.added (adds_then c.in_ok-filters_if_any.ensures.added s)) c.assign.ensures.added

pub returns-clause-marked : goal.returns-clause-marked
returns-clause-marked g c =
    let v = g.V.TemplateValue.contents in
    let f = g.V.TemplateValue.functions in
    let target = node.expr_node v c.args.block.now.target in
    let chain = node.optional_of v c.args.block.now.filter in
    ok_marked c.assign.result (margin_of c.assign.new.code) (ap (marks.target f target) (c.in_ok-filters_if_any.ensures.marked ∙ ap (marks.filters f chain) c.in_ok-add.ensures.marked)) c.assign.ensures.marked
