use Rattle.std.proofs.Common.{sym, ap, ◌∙◌}
use Rattle.minijinja_tree_expr.specs.Erasure.{expr_tree, compare_tree}
use Rattle.minijinja_well_formed.specs.private.ExpressionTests.{long_side}
use Rattle.minijinja_tree_expr.proofs.SpannedNodes.{compare_is}
use Rattle.minijinja_well_formed.proofs.expressions.long_side.Goals as goal

pub returns-in-Compare-clause-side : goal.returns-in-Compare-clause-side
returns-in-Compare-clause-side g c =
    let v = g.V.TemplateValue.contents in
    ap long_side (sym (compare_is v c.node-in-Compare.result.now))
    ∙ ap (λ n. long_side (compare_tree v n)) c.node-in-Compare.ensures
    ∙ ap (λ e. long_side (expr_tree v e)) (sym c.in-Compare.is)
