use Rattle.minijinja_walk.proofs.Items.{of_stmts}
use Rattle.minijinja_walk.proofs.Listing.{Adding}
use Rattle.minijinja_walk.proofs.parts.body.Given as goal

-- the nodes of what is left come next
abbrev pub invariant-loop-stmt : goal.invariant-loop-stmt
invariant-loop-stmt g l = Adding g.V.TemplateValue.contents (of_stmts g.V.TemplateValue.contents) l.stmts l.initial.nodes.items l.nodes.items l.stmt-index
