-- Chains of filters without an operand, as set blocks and filter blocks have them.
use Rattle.minijinja_tree.specs.Tree.{Expr, constant, filter, absent, present}

-- A chain with this value as the operand of its innermost filter: a chain without an operand means
-- for a value what this chain means.
abbrev pub fed : {C : Type 0} → C → Expr C → Expr C
fed v (filter absent x args) = filter (present (constant v)) x args
fed v (filter (present e) x args) = filter (present (fed v e)) x args
fed v e = e
