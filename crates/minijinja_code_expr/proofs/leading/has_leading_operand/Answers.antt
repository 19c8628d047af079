use Rattle.std.proofs.Common.{sym, ap, ◌∙◌, refl}
use Rattle.std.specs.Prelude.{is_some}
use Rattle.minijinja_tree.specs.Nodes.{node_of}
use Rattle.minijinja_tree_expr.proofs.SpannedNodes.{compare_is}
use Rattle.minijinja_code_expr.specs.internal.Leading.{leading}
use Rattle.minijinja_code_expr.proofs.Arms.{compare_arm}
use Rattle.minijinja_code_expr.proofs.leading.has_leading_operand.Goals as goal

pub returns-in-Compare : goal.returns-in-Compare
returns-in-Compare g c =
    let v = g.V.TemplateValue.contents in
    ap (λ e. is_some (leading e)) (sym (compare_arm v c.args.node.now c.in-Compare.field-0 (node_of c.in-Compare.field-0) c.in-Compare.is refl ∙ compare_is v (node_of c.in-Compare.field-0)))
