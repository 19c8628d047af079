use Rattle.minijinja_walk.proofs.Items.{of_bindings}
use Rattle.minijinja_walk.proofs.Listing.{Adding}
use Rattle.minijinja_walk.proofs.parts.pairs.Given as goal

-- the nodes of what is left come next
abbrev pub invariant-loop-target : goal.invariant-loop-target
invariant-loop-target g l = Adding g.V.TemplateValue.contents (of_bindings g.V.TemplateValue.contents) l.assignments l.initial.nodes.items l.nodes.items l.target-index
