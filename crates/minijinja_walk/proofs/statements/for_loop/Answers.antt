use Rattle.std.proofs.Common.{◌++◌, ap, subst}
use Rattle.std.specs.Prelude.{[], ◌∷◌}
use Rattle.minijinja_tree.specs.SpannedErasure.{expr_node, optional_of}
use Rattle.minijinja_walk.specs.Children.{expr, if_any}
use Rattle.minijinja_walk.specs.private.Added.{Adds}
use Rattle.minijinja_walk.proofs.Adding.{adds-as, adds-on, then-adds}
use Rattle.minijinja_walk.proofs.Items.{of_stmts}
use Rattle.minijinja_walk.proofs.statements.for_loop.Goals as goal

pub returns : goal.returns
returns g c =
    let v = g.V.TemplateValue.contents in
    let s = c.args.nodes.now.items in
    let n = c.args.repeated.now in
    let heads = expr (expr_node v n.target) ∷ expr (expr_node v n.iter) ∷ [] in
    let only = if_any (optional_of v n.filter_expr) in
    let turn = of_stmts v n.body.items in
    let third : Adds v c.if_any.new.nodes.items c.body.new.nodes.items turn = subst (λ xs. Adds v c.if_any.new.nodes.items c.body.new.nodes.items (of_stmts v xs)) c.deref.ensures.value c.in_ok-body.ensures in
    let first = adds-on v s c.two.new.nodes.items c.if_any.new.nodes.items heads only c.in_ok-two.ensures c.in_ok-if_any.ensures in
    let before = adds-on v s c.if_any.new.nodes.items c.body.new.nodes.items (heads ++ only) turn first third in
    then-adds v c.body-2.result s c.body.new.nodes.items c.body-2.new.nodes.items (heads ++ only ++ turn) (of_stmts v n.else_body.items) before
    (adds-as v c.body-2.result c.body.new.nodes.items c.body-2.new.nodes.items _ _ (ap (of_stmts v) c.deref-2.ensures.value) c.body-2.ensures)
