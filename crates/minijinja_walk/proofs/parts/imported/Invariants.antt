use Rattle.minijinja_walk.proofs.Items.{of_names}
use Rattle.minijinja_walk.proofs.Listing.{Adding}
use Rattle.minijinja_walk.proofs.parts.imported.Given as goal

-- the nodes of what is left come next
abbrev pub invariant-loop-name : goal.invariant-loop-name
invariant-loop-name g l = Adding g.V.TemplateValue.contents (of_names g.V.TemplateValue.contents) l.names l.initial.nodes.items l.nodes.items l.name-index
