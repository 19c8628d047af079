use Rattle.std.proofs.Common.{◌++◌, ap, subst}
use Rattle.minijinja_walk.specs.private.Added.{Adds}
use Rattle.minijinja_walk.proofs.Adding.{adds-as, adds-on, then-adds}
use Rattle.minijinja_walk.proofs.Items.{of_exprs, of_stmts}
use Rattle.minijinja_walk.proofs.statements.parts_of_macro.Goals as goal

pub returns : goal.returns
returns g c =
    let v = g.V.TemplateValue.contents in
    let s = c.args.nodes.now.items in
    let n = c.args.declared.now in
    let args = of_exprs v n.args.items in
    let defaults = of_exprs v n.defaults.items in
    let first : Adds v s c.all.new.nodes.items args = subst (λ xs. Adds v s c.all.new.nodes.items (of_exprs v xs)) c.deref.ensures.value c.in_ok-all.ensures in
    let second : Adds v c.all.new.nodes.items c.all-2.new.nodes.items defaults = subst (λ xs. Adds v c.all.new.nodes.items c.all-2.new.nodes.items (of_exprs v xs)) c.deref-2.ensures.value c.in_ok-all-2.ensures in
    then-adds v c.body.result s c.all-2.new.nodes.items c.body.new.nodes.items (args ++ defaults) (of_stmts v n.body.items) (adds-on v s c.all.new.nodes.items c.all-2.new.nodes.items args defaults first second)
    (adds-as v c.body.result c.all-2.new.nodes.items c.body.new.nodes.items _ _ (ap (of_stmts v) c.deref-3.ensures.value) c.body.ensures)
