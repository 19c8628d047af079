use Rattle.std.proofs.Common.{ap, subst}
use Rattle.minijinja_walk.specs.private.Added.{Adds}
use Rattle.minijinja_walk.proofs.Adding.{adds-as, then-adds}
use Rattle.minijinja_walk.proofs.Items.{of_exprs}
use Rattle.minijinja_walk.proofs.expressions.keys_and_values.Goals as goal

pub returns : goal.returns
returns g c =
    let v = g.V.TemplateValue.contents in
    let n = c.args.map.now in
    let s = c.args.nodes.now.items in
    let first : Adds v s c.all.new.nodes.items (of_exprs v n.keys.items) = subst (λ xs. Adds v s c.all.new.nodes.items (of_exprs v xs)) c.deref.ensures.value c.in_ok-all.ensures in
    then-adds v c.all-2.result s c.all.new.nodes.items c.all-2.new.nodes.items (of_exprs v n.keys.items) (of_exprs v n.values.items) first
    (adds-as v c.all-2.result c.all.new.nodes.items c.all-2.new.nodes.items _ _ (ap (of_exprs v) c.deref-2.ensures.value) c.all-2.ensures)
