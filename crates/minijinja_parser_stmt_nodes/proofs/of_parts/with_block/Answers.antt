use Rattle.std.proofs.Common.{sym}
use Rattle.minijinja_parser_stmt.specs.internal.Made.{statement_tree}
use Rattle.minijinja_parser_stmt_nodes.proofs.of_parts.with_block.Goals as goal

pub returns : goal.returns
unfolding statement_tree
returns g c = record { tree = rw (c.requires.kind, sym c.taken-assignments.ensures, sym c.taken.ensures) c.with_block.ensures.tree }
