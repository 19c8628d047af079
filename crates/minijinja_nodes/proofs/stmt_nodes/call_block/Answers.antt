use Rattle.minijinja_tree.proofs.StatementRows.{call_block_of}
use Rattle.minijinja_nodes.proofs.stmt_nodes.call_block.Goals as goal

pub returns : goal.returns
returns g c =
    let made = c.in_ok-node.ensures in
    record {
      tree = call_block_of g.V.TemplateValue.contents c.in_ok-spanned.field-0 c.args.call c.in_ok-macro_decl.macro_decl c.in_ok-node.node c.args.span _ c.args.params.items c.args.body.items c.in_ok-spanned.ensures.node c.in_ok-spanned.ensures.span c.in_ok-macro_decl.ensures.node c.in_ok-macro_decl.ensures.span (record { name = made.name; args = made.args; defaults = made.defaults; body = made.body });
    }
