use Rattle.minijinja_tree.proofs.StatementRows.{declared_of}
use Rattle.minijinja_nodes.proofs.stmt_nodes.declared.Goals as goal

pub returns : goal.returns
returns g c =
    let made = c.in_ok-node.ensures in
    record {
      tree = declared_of g.V.TemplateValue.contents c.in_ok-spanned.field-0 c.in_ok-node.node c.args.span c.args.name.now c.args.params.items c.args.body.items c.in_ok-spanned.ensures.node c.in_ok-spanned.ensures.span (record { name = made.name; args = made.args; defaults = made.defaults; body = made.body });
    }
