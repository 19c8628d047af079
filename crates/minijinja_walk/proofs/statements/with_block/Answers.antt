use Rattle.std.proofs.Common.{ap, subst}
use Rattle.minijinja_walk.specs.private.Added.{Adds}
use Rattle.minijinja_walk.proofs.Adding.{adds-as, then-adds}
use Rattle.minijinja_walk.proofs.Items.{of_bindings, of_stmts}
use Rattle.minijinja_walk.proofs.statements.with_block.Goals as goal

pub returns : goal.returns
returns g c =
    let v = g.V.TemplateValue.contents in
    let s = c.args.nodes.now.items in
    let n = c.args.block.now in
    let first : Adds v s c.pairs.new.nodes.items (of_bindings v n.assignments.items) = subst (λ xs. Adds v s c.pairs.new.nodes.items (of_bindings v xs)) c.deref.ensures.value c.in_ok-pairs.ensures in
    then-adds v c.body.result s c.pairs.new.nodes.items c.body.new.nodes.items (of_bindings v n.assignments.items) (of_stmts v n.body.items) first
    (adds-as v c.body.result c.pairs.new.nodes.items c.body.new.nodes.items _ _ (ap (of_stmts v) c.deref-2.ensures.value) c.body.ensures)
