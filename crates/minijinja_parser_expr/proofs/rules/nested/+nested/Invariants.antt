use Rattle.minijinja_parser_expr.proofs.rules.nested.+nested.Given as goal

abbrev pub decreases-nested : goal.decreases-nested
decreases-nested g l = l.depth
