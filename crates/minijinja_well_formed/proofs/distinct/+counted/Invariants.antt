use Rattle.std.proofs.Common.{◌≡◌, ◌+◌, ◌-◌, ◌*◌, ◌^◌, ◌≤◌, min, drop}
use Rattle.minijinja_tree.specs.Tree.{all_block_names}
use Rattle.minijinja_well_formed.specs.private.Sizes.{body_size, stmt_size}
use Rattle.minijinja_tree.proofs.Rows.{body_of}
use Rattle.minijinja_well_formed.proofs.NamesOfBlocks.{count}
use Rattle.minijinja_well_formed.proofs.distinct.+counted.Given as goal

-- how deep the argument is, and among equals a body above its statements
abbrev pub decreases-times : goal.decreases-times
decreases-times g l = 2 * stmt_size l.stmt.now + 1

abbrev pub decreases-all_times : goal.decreases-all_times
decreases-all_times g l = 2 * (body_size l.stmts.now + 1)

-- what is counted and what is left make the whole
abbrev pub invariant-all_times-loop-stmt : goal.invariant-all_times-loop-stmt
invariant-all_times-loop-stmt g l =
    let c = g.V.TemplateValue.contents in
    record {
      same : min (count l.name (all_block_names (body_of c l.stmts))) (2 ^ 64 - 1) ≡ min (l.count + count l.name (all_block_names (body_of c (drop l.stmt-index l.stmts)))) (2 ^ 64 - 1);
      fits : l.count ≤ 2 ^ 64 - 1;
    }
