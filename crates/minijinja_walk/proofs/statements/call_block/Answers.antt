use Rattle.std.proofs.Common.{ap, ap₂, subst, ◌∙◌}
use Rattle.std.specs.Prelude.{◌∷◌}
use Rattle.minijinja_tree.specs.SpannedErasure.{expr_node}
use Rattle.minijinja_walk.specs.Children.{expr, macro_children}
use Rattle.minijinja_walk.specs.private.Added.{Adds, call_in, macro_in, macro_node}
use Rattle.minijinja_walk.proofs.Adding.{adds-as, then-adds}
use Rattle.minijinja_walk.proofs.Items.{of_args}
use Rattle.minijinja_walk.proofs.statements.call_block.Goals as goal

pub returns : goal.returns
returns g c =
    let v = g.V.TemplateValue.contents in
    let s = c.args.nodes.now.items in
    let q = c.args.block.now in
    let first : Adds v s c.called.new.nodes.items (expr (expr_node v (call_in q).expr) ∷ of_args v (call_in q).args.items) =
    subst (λ l. Adds v s c.called.new.nodes.items l) (ap₂ (λ n xs. expr (expr_node v n.expr) ∷ of_args v xs) c.node-call.ensures (c.deref.ensures.value ∙ ap (λ n. n.args.items) c.node-call.ensures)) c.in_ok-called.ensures in
    then-adds v c.parts_of_macro.result s c.called.new.nodes.items c.parts_of_macro.new.nodes.items (expr (expr_node v (call_in q).expr) ∷ of_args v (call_in q).args.items) (macro_children (macro_node v (macro_in q))) first
    (adds-as v c.parts_of_macro.result c.called.new.nodes.items c.parts_of_macro.new.nodes.items _ _ (ap (λ n. macro_children (macro_node v n)) c.node.ensures) c.parts_of_macro.ensures)
