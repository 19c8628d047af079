use Rattle.std.proofs.Common.{refl, sym, ap, ◌∙◌, subst}
use Rattle.minijinja_tree.specs.Nodes.{span_of}
use Rattle.minijinja_tree.specs.SpannedErasure as node
use Rattle.minijinja_tree_expr.proofs.NodeRows.{call_is}
use Rattle.minijinja_semantics.specs.Calls.{written}
use Rattle.minijinja_code_expr.specs.internal.Outputs.{ItemsAre, arguments_in}
use Rattle.minijinja_code_expr.proofs.Arms.{call_arm}
use Rattle.minijinja_code_expr.proofs.Outputs.{comparison_plain}
use Rattle.minijinja_code_expr.proofs.output.output_of.Goals as goal

pub returns-in-Call-clause-shown : goal.returns-in-Call-clause-shown
returns-in-Call-clause-shown g c = c.output_of_call.ensures.shown ∙ sym (ap written (call_arm {F = g.row.V-Fault.Denot} g.V.TemplateValue.contents c.args.expr.now c.in-Call.call c.node.result.now c.in-Call.is c.node.ensures))

pub returns-in-Compare-clause-shown : goal.returns-in-Compare-clause-shown
returns-in-Compare-clause-shown g c = sym (comparison_plain g.V.TemplateValue.contents c.args.expr.now c.in-Compare.field-0 c.in-Compare.is)

pub returns-in-Call-clause-items : goal.returns-in-Call-clause-items
returns-in-Call-clause-items g c =
    let v = g.V.TemplateValue.contents in
    let n = c.node.result.now in
    let is = ap (λ e. arguments_in (node.expr_node v e)) c.in-Call.is ∙ ap arguments_in (call_is v c.in-Call.call n (span_of c.in-Call.call) (sym c.node.ensures) refl) in
    subst (ItemsAre v c.output_of_call.result) (sym is) c.output_of_call.ensures.items
