use Rattle.std.proofs.Common.{sym}
use Rattle.minijinja_parser_stmt.specs.internal.Made.{statement_tree}
use Rattle.minijinja_parser_stmt_nodes.proofs.of_parts.declared.Goals as goal

pub returns : goal.returns
unfolding statement_tree
returns g c = record { tree = rw (c.requires.kind, c.unwrap-name.ensures, sym c.taken-names.ensures, sym c.taken.ensures) c.declared.ensures.tree }
