use Rattle.minijinja_walk.proofs.Items.{of_comparisons}
use Rattle.minijinja_walk.proofs.Listing.{Adding}
use Rattle.minijinja_walk.proofs.parts.operands.Given as goal

-- the nodes of what is left come next
abbrev pub invariant-loop-comparison : goal.invariant-loop-comparison
invariant-loop-comparison g l = Adding g.V.TemplateValue.contents (of_comparisons g.V.TemplateValue.contents) l.comparisons l.initial.nodes.items l.nodes.items l.comparison-index
