use Rattle.minijinja_walk.proofs.Items.{of_exprs}
use Rattle.minijinja_walk.proofs.Listing.{Adding}
use Rattle.minijinja_walk.proofs.parts.all.Given as goal

-- the nodes of what is left come next
abbrev pub invariant-loop-expr : goal.invariant-loop-expr
invariant-loop-expr g l = Adding g.V.TemplateValue.contents (of_exprs g.V.TemplateValue.contents) l.items l.initial.nodes.items l.nodes.items l.expr-index
