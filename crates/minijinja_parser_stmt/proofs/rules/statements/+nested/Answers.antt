use Rattle.std.proofs.Common.{◌-◌, subst}
use Rattle.minijinja_grammar.specs.internal.Forms.{reads}
use Rattle.minijinja_grammar.specs.internal.StmtForms.{if_level, parts_at}
use Rattle.minijinja_parser_tokens.specs.internal.Reads.{Reads}
use Rattle.minijinja_parser_stmt.specs.private.Parses.{context_of}
use Rattle.minijinja_parser_stmt.proofs.Keywords.{if_is, stmt_is}
use Rattle.minijinja_parser_stmt.proofs.rules.statements.+nested.Goals as goal

pub returns-in-Statement : goal.returns-in-Statement
returns-in-Statement g t c =
    rw (c.in-Statement.is, stmt_is g.S.StmtBuilder.functions (context_of c.args.context) c.args.depth (g.S.Input.Tokens.place c.args.tokens.now) c.if-depth-eq0.false) c.any_stmt.ensures

pub returns-in-ElseIf : goal.returns-in-ElseIf
returns-in-ElseIf g t c =
    let f = g.S.StmtBuilder.functions in
    let p = g.S.Input.Tokens.place c.args.tokens.now in
    let x = context_of c.args.context in
    let d = c.args.depth - 1 in
    rw (c.in-ElseIf.is, if_is f x c.args.depth p.last p c.if-depth-eq0.false)
    (subst (λ s. Reads g.S.StmtBuilder.stmt (reads (if_level (parts_at f x d) s) p) c.if_stmt.result (g.S.Input.Tokens.place c.if_stmt.new.tokens)) c.last_span.ensures c.if_stmt.ensures)
