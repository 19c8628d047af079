use Rattle.minijinja_walk.proofs.Items.{of_args}
use Rattle.minijinja_walk.proofs.Listing.{Adding}
use Rattle.minijinja_walk.proofs.parts.arguments.Given as goal

-- the nodes of what is left come next
abbrev pub invariant-loop-arg : goal.invariant-loop-arg
invariant-loop-arg g l = Adding g.V.TemplateValue.contents (of_args g.V.TemplateValue.contents) l.args l.initial.nodes.items l.nodes.items l.arg-index
