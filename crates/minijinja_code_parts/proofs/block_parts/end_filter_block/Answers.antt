use Rattle.std.proofs.Common.{ap, ◌∙◌}
use Rattle.minijinja_tree.specs.SpannedErasure as node
use Rattle.minijinja_semantics.specs.Marks as marks
use Rattle.minijinja_emitter.proofs.Adding.{adds_then}
use Rattle.minijinja_emitter.specs.internal.AtEmitter.{margin_of}
use Rattle.minijinja_code_expr.proofs.Results.{ok_gives}
use Rattle.minijinja_code_parts.proofs.Marking.{ok_marked}
use Rattle.minijinja_code_parts.proofs.block_parts.end_filter_block.Goals as goal

pub returns-clause-added : goal.returns-clause-added
returns-clause-added g c = ok_gives c.add-2.result (λ s. adds_then c.in_ok-add.ensures.added (adds_then c.in_ok-filters.ensures.added s)) c.add-2.ensures.added

pub returns-clause-marked : goal.returns-clause-marked
returns-clause-marked g c =
    let n = node.expr_node g.V.TemplateValue.contents c.args.chain.now in
    ok_marked c.add-2.result (margin_of c.add-2.new.self) (ap (marks.here 1) (c.in_ok-filters.ensures.marked ∙ ap (marks.expr g.V.TemplateValue.functions n) c.in_ok-add.ensures.marked)) c.add-2.ensures.marked
