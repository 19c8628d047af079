use Rattle.std.proofs.Common.{ap, ◌∙◌}
use Rattle.minijinja_tree.specs.Erasure.{expr_tree}
use Rattle.minijinja_tree.specs.SpannedErasure as node
use Rattle.minijinja_semantics.specs.Marks as marks
use Rattle.minijinja_code_parts.proofs.MacroParts.{default_added}
use Rattle.minijinja_code_parts.proofs.macro_parts.take_default.Goals as goal

pub returns-clause-added : goal.returns-clause-added
returns-clause-added g c =
    default_added g.V.TemplateValue.functions (expr_tree g.V.TemplateValue.contents c.args.default.now) c.in_ok-add.ensures.added c.in_ok-add-2.ensures.added c.in_ok-jump.ensures.added c.in_ok-jump.ensures.place c.in_ok-add-3.ensures.added c.in_ok-expression.ensures.added c.fill.ensures.filled c.here.ensures

pub returns-clause-marked : goal.returns-clause-marked
returns-clause-marked g c =
    let n = node.expr_node g.V.TemplateValue.contents c.args.default.now in
    c.fill.ensures.marked ∙ c.in_ok-expression.ensures.marked
    ∙ ap (marks.expr g.V.TemplateValue.functions n) (c.in_ok-add-3.ensures.marked ∙ ap (marks.here 1) (c.in_ok-jump.ensures.marked ∙ ap (marks.here 1) (c.in_ok-add-2.ensures.marked ∙ ap (marks.here 1) c.in_ok-add.ensures.marked)))
