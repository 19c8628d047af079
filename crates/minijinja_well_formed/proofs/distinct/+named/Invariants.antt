use Rattle.std.proofs.Common.{◌≡◌, ◌+◌, ◌*◌, drop}
use Rattle.minijinja_tree.specs.Erasure.{stmt_tree}
use Rattle.minijinja_tree.specs.Tree.{block_names, all_block_names}
use Rattle.minijinja_well_formed.specs.private.Sizes.{body_size, stmt_size}
use Rattle.minijinja_well_formed.specs.private.StatementTests.{are_single}
use Rattle.minijinja_tree.proofs.Rows.{body_of}
use Rattle.minijinja_well_formed.proofs.distinct.+named.Given as goal

-- how deep the argument is, and among equals a body above its statements
abbrev pub decreases-is_named_once : goal.decreases-is_named_once
decreases-is_named_once g l = 2 * stmt_size l.stmt.now + 1

abbrev pub decreases-are_named_once : goal.decreases-are_named_once
decreases-are_named_once g l = 2 * (body_size l.stmts.now + 1)

-- what is left decides
abbrev pub invariant-are_named_once-loop-stmt : goal.invariant-are_named_once-loop-stmt
invariant-are_named_once-loop-stmt g l =
    let c = g.V.TemplateValue.contents in
    let ys = block_names (stmt_tree c l.root) in
    are_single (all_block_names (body_of c l.stmts)) ys ≡ are_single (all_block_names (body_of c (drop l.stmt-index l.stmts))) ys
