use Rattle.std.proofs.Common.{ap, ◌∙◌}
use Rattle.minijinja_tree.specs.SpannedErasure as node
use Rattle.minijinja_semantics.specs.Marks as marks
use Rattle.minijinja_emitter.proofs.Adding.{adds_then}
use Rattle.minijinja_emitter.specs.internal.AtEmitter.{margin_of}
use Rattle.minijinja_code_expr.proofs.Results.{ok_gives}
use Rattle.minijinja_code_parts.proofs.Marking.{ok_marked}
use Rattle.minijinja_code_parts.proofs.modules.import_all.Goals as goal

pub returns-clause-added : goal.returns-clause-added
returns-clause-added g c =
    ok_gives c.assign.result (λ s. adds_then c.in_ok-begin_import.ensures.added (adds_then c.in_ok-add.ensures.added (adds_then c.in_ok-add-2.ensures.added (adds_then c.in_ok-add-3.ensures.added (adds_then c.in_ok-add-4.ensures.added s))))) c.assign.ensures.added

pub returns-clause-marked : goal.returns-clause-marked
returns-clause-marked g c =
    let target = node.expr_node g.V.TemplateValue.contents c.args.import.now.name in
    let ended = c.in_ok-add-2.ensures.marked ∙ ap (marks.here 1) (c.in_ok-add.ensures.marked ∙ ap (marks.here 1) c.in_ok-begin_import.ensures.marked) in
    let popped = c.in_ok-add-4.ensures.marked ∙ ap (marks.here 1) (c.in_ok-add-3.ensures.marked ∙ ap (marks.here 1) ended) in
    ok_marked c.assign.result (margin_of c.assign.new.code) (ap (marks.target g.V.TemplateValue.functions target) popped) c.assign.ensures.marked
