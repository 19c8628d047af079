use Rattle.std.proofs.Common.{◌+◌, ◌*◌, drop}
use Rattle.minijinja_meta.specs.Mentions.{through_stmts}
use Rattle.minijinja_meta.specs.private.Walked.{Walking}
use Rattle.minijinja_meta.proofs.StatementNodes.{body_of}
use Rattle.minijinja_meta.proofs.statements.+statements.Given as goal

-- how deep the argument is, and among equals the caller above what it calls
abbrev pub decreases-statement : goal.decreases-statement
decreases-statement g l = 4 * goal.size-statement g l + 1

abbrev pub decreases-branches : goal.decreases-branches
decreases-branches g l = 4 * goal.size-branches g l + 0

abbrev pub decreases-for_loop : goal.decreases-for_loop
decreases-for_loop g l = 4 * goal.size-for_loop g l + 0

abbrev pub decreases-with_block : goal.decreases-with_block
decreases-with_block g l = 4 * goal.size-with_block g l + 0

abbrev pub decreases-named_body : goal.decreases-named_body
decreases-named_body g l = 4 * goal.size-named_body g l + 0

abbrev pub decreases-within : goal.decreases-within
decreases-within g l = 4 * goal.size-within g l + 0

abbrev pub decreases-statements : goal.decreases-statements
decreases-statements g l = 4 * goal.size-statements g l + 2

abbrev pub decreases-body : goal.decreases-body
decreases-body g l = 4 * goal.size-body g l + 3

-- what is left is walked through next
abbrev pub invariant-statements-loop-stmt : goal.invariant-statements-loop-stmt
invariant-statements-loop-stmt g l =
    let c = g.V.TemplateValue.contents in
    Walking c l.initial.walker l.walker (through_stmts (body_of c l.stmts)) (through_stmts (body_of c (drop l.stmt-index l.stmts)))
