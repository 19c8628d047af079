use Rattle.minijinja_tree.proofs.StatementRows.{with_block_is}
use Rattle.minijinja_nodes.proofs.stmt_nodes.with_block.Goals as goal

pub returns : goal.returns
returns g c = record { tree = with_block_is g.V.TemplateValue.contents c.in_ok-spanned.field-0 _ _ c.in_ok-spanned.ensures.node c.in_ok-spanned.ensures.span }
