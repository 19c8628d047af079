use Rattle.std.proofs.Common.{subst, sym, ap, ◌∙◌}
use Rattle.minijinja_tree_expr.specs.Nodes.{span_of}
use Rattle.minijinja_tree_expr.specs.SpannedErasure.{compare_node}
use Rattle.minijinja_tree.specs.SpannedErasure.{expr_node}
use Rattle.minijinja_tree_expr.proofs.NodeRows.{compare_is}
use Rattle.minijinja_meta.specs.private.Parts.{HasParts}
use Rattle.minijinja_meta.proofs.ExprWays.{compare-begins}
use Rattle.minijinja_meta.proofs.parts.start_of.Goals as goal

pub returns-in-Compare-clause-way : goal.returns-in-Compare-clause-way
returns-in-Compare-clause-way g c =
    let v = g.V.TemplateValue.contents in
    let at = span_of c.in-Compare.chain in
    compare-begins (expr_node v c.args.expr.now) _ _ at
    (ap (expr_node v) c.in-Compare.is ∙ ap (λ q. compare_node v q at) (sym c.node-in-Compare.ensures) ∙ compare_is v c.node-in-Compare.result.now at)

pub unreachable-requires : goal.unreachable-requires
unreachable-requires g c = subst (λ e. HasParts (expr_node g.V.TemplateValue.contents e)) c.in-Var.is c.requires

pub unreachable-requires-in-GetAttr : goal.unreachable-requires-in-GetAttr
unreachable-requires-in-GetAttr g c = subst (λ e. HasParts (expr_node g.V.TemplateValue.contents e)) c.in-GetAttr.is c.requires
