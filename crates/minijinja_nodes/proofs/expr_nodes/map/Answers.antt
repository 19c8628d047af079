use Rattle.minijinja_tree_expr.proofs.NodeRows.{map_is}
use Rattle.minijinja_nodes.proofs.expr_nodes.map.Goals as goal

pub returns : goal.returns
returns g c = record { tree = map_is g.V.TemplateValue.contents c.in_ok-spanned.field-0 _ _ c.in_ok-spanned.ensures.node c.in_ok-spanned.ensures.span }
