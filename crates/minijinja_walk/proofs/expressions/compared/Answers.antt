use Rattle.std.proofs.Common.{ap}
use Rattle.std.specs.Prelude.{[], ◌∷◌}
use Rattle.minijinja_tree.specs.SpannedErasure.{expr_node}
use Rattle.minijinja_walk.specs.Children.{expr}
use Rattle.minijinja_walk.proofs.Adding.{adds-as, then-adds}
use Rattle.minijinja_walk.proofs.Items.{of_comparisons}
use Rattle.minijinja_tree_expr.specs.declared.ast.Compare.{out-Compare}
use Rattle.minijinja_walk.proofs.expressions.compared.Goals as goal

pub returns : goal.returns
returns g c =
    let v = g.V.TemplateValue.contents in
    let n = out-Compare _ _ c.args.chain.now in
    then-adds v c.operands.result c.args.nodes.now.items c.one.new.nodes.items c.operands.new.nodes.items (expr (expr_node v n.expr) ∷ []) (of_comparisons v n.ops.items) c.in_ok-one.ensures
    (adds-as v c.operands.result c.one.new.nodes.items c.operands.new.nodes.items _ _ (ap (of_comparisons v) c.deref.ensures.value) c.operands.ensures)
