use Rattle.std.proofs.Common.{◌≡◌, ◌+◌, ◌*◌, drop}
use Rattle.minijinja_well_formed.specs.private.StatementTests.{are_inner}
use Rattle.minijinja_tree.proofs.Rows.{body_of}
use Rattle.minijinja_well_formed.proofs.statements.+inner.Given as goal

-- how deep the argument is, and among equals the caller above what it calls
abbrev pub decreases-is_inner : goal.decreases-is_inner
decreases-is_inner g l = 3 * goal.size-is_inner g l + 1

abbrev pub decreases-has_bodies : goal.decreases-has_bodies
decreases-has_bodies g l = 3 * goal.size-has_bodies g l + 0

abbrev pub decreases-has_loop_bodies : goal.decreases-has_loop_bodies
decreases-has_loop_bodies g l = 3 * goal.size-has_loop_bodies g l + 0

abbrev pub decreases-has_macro_body : goal.decreases-has_macro_body
decreases-has_macro_body g l = 3 * goal.size-has_macro_body g l + 0

abbrev pub decreases-has_branches : goal.decreases-has_branches
decreases-has_branches g l = 3 * goal.size-has_branches g l + 0

abbrev pub decreases-are_inner : goal.decreases-are_inner
decreases-are_inner g l = 3 * goal.size-are_inner g l + 2

-- what is left decides
abbrev pub invariant-are_inner-loop-stmt : goal.invariant-are_inner-loop-stmt
invariant-are_inner-loop-stmt g l = let c = g.V.TemplateValue.contents in are_inner l.in_loop l.in_macro (body_of c l.stmts) ≡ are_inner l.in_loop l.in_macro (body_of c (drop l.stmt-index l.stmts))
