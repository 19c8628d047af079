use Rattle.std.proofs.Common.{refl}
use Rattle.minijinja_grammar.specs.internal.StmtForms.{parts_at}
use Rattle.minijinja_parser_stmt.specs.internal.Made.{statement_tree}
use Rattle.minijinja_parser_stmt.specs.private.Parses.{context_of}
use Rattle.minijinja_parser_stmt.proofs.Loops.{for_is}
use Rattle.minijinja_parser_stmt.proofs.rules.StmtRules.for_stmt.Goals as goal

pub returns : goal.returns
unfolding statement_tree
returns g c =
    let parts = parts_at g.S.StmtBuilder.functions (context_of c.args.self.now.context) c.args.self.now.depth in
    rw (for_is parts c.args.from (g.S.Input.Tokens.place c.args.tokens.now), c.in_ok-target.ensures, c.in_ok-expect.ensures, c.in_ok-iter.ensures, c.in_ok-filter_expr.ensures, c.in_ok-recursive.ensures, c.in_ok-body.ensures, c.in_ok-else_body.ensures, c.in_ok-statement.ensures, c.of_kind-parts.ensures.kind, c.expand_span-span.ensures) refl
