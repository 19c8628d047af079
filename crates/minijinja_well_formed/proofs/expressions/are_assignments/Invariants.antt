use Rattle.std.proofs.Common.{◌≡◌, drop}
use Rattle.minijinja_tree_expr.specs.Erasure.{assignments_of}
use Rattle.minijinja_well_formed.specs.private.ExpressionTests.{are_assignments}
use Rattle.minijinja_well_formed.proofs.expressions.are_assignments.Given as goal

-- what is left decides
abbrev pub invariant-loop-target : goal.invariant-loop-target
invariant-loop-target g l = let c = g.V.TemplateValue.contents in are_assignments (assignments_of c l.assignments) ≡ are_assignments (assignments_of c (drop l.target-index l.assignments))
