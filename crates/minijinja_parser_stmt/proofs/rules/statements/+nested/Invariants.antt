use Rattle.minijinja_parser_stmt.proofs.rules.statements.+nested.Given as goal

abbrev pub decreases-nested : goal.decreases-nested
decreases-nested g l = l.depth
