use Rattle.minijinja_grammar.specs.internal.ExprForms.{expr_at}
use Rattle.minijinja_parser_stmt.specs.internal.Made.{HasParts}
use Rattle.minijinja_parser_stmt.proofs.Calls.{call_read}
use Rattle.minijinja_parser_stmt.proofs.rules.statements.do_stmt.Goals as goal

pub statement-requires : goal.statement-requires
unfolding HasParts
statement-requires g c = rw (c.of_kind-parts.ensures.kind) (call_read (expr_at g.S.StmtBuilder.functions c.args.depth) _ _ _ c.in_ok-expr.ensures)
