use Rattle.std.proofs.Common.{◌≡◌, drop}
use Rattle.minijinja_tree_expr.specs.Erasure.{names_of}
use Rattle.minijinja_well_formed.specs.private.ExpressionTests.{are_names}
use Rattle.minijinja_well_formed.proofs.expressions.are_names.Given as goal

-- what is left decides
abbrev pub invariant-loop-name : goal.invariant-loop-name
invariant-loop-name g l = let c = g.V.TemplateValue.contents in are_names (names_of c l.names) ≡ are_names (names_of c (drop l.name-index l.names))
