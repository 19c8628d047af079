use Rattle.std.proofs.Common.{◌≡◌, ◌+◌, ◌*◌, drop}
use Rattle.minijinja_tree.specs.SpannedErasure.{trees}
use Rattle.minijinja_tree.specs.SpannedTrees.{exprs_of}
use Rattle.minijinja_grammar.specs.internal.StmtForms as form
use Rattle.minijinja_parser_expr.proofs.storable.+storable.Given as goal

-- how deep the argument is, and among equals the items above each of them
abbrev pub decreases-is_storable : goal.decreases-is_storable
decreases-is_storable g l = 2 * goal.size-is_storable g l + 0

abbrev pub decreases-are_storable : goal.decreases-are_storable
decreases-are_storable g l = 2 * goal.size-are_storable g l + 1

-- the items from here on decide
abbrev pub invariant-are_storable-loop-item : goal.invariant-are_storable-loop-item
invariant-are_storable-loop-item g l =
    let v = g.V.TemplateValue.contents in
    form.are_storable (exprs_of (trees v l.items)) ≡ form.are_storable (exprs_of (trees v (drop l.item-index l.items)))
