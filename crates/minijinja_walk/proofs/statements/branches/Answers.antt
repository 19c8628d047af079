use Rattle.std.proofs.Common.{ap, subst}
use Rattle.std.specs.Prelude.{◌∷◌}
use Rattle.minijinja_tree.specs.SpannedErasure.{expr_node}
use Rattle.minijinja_walk.specs.Children.{expr}
use Rattle.minijinja_walk.specs.private.Added.{Adds}
use Rattle.minijinja_walk.proofs.Adding.{adds-as, then-adds}
use Rattle.minijinja_walk.proofs.Items.{of_stmts}
use Rattle.minijinja_walk.proofs.statements.branches.Goals as goal

pub returns : goal.returns
returns g c =
    let v = g.V.TemplateValue.contents in
    let s = c.args.nodes.now.items in
    let n = c.args.condition.now in
    let first : Adds v s c.headed.new.nodes.items (expr (expr_node v n.expr) ∷ of_stmts v n.true_body.items) =
    subst (λ xs. Adds v s c.headed.new.nodes.items (expr (expr_node v n.expr) ∷ of_stmts v xs)) c.deref.ensures.value c.in_ok-headed.ensures in
    then-adds v c.body.result s c.headed.new.nodes.items c.body.new.nodes.items (expr (expr_node v n.expr) ∷ of_stmts v n.true_body.items) (of_stmts v n.false_body.items) first
    (adds-as v c.body.result c.headed.new.nodes.items c.body.new.nodes.items _ _ (ap (of_stmts v) c.deref-2.ensures.value) c.body.ensures)
