use Rattle.std.proofs.Common.{rules, refl}
use Rattle.minijinja_grammar.specs.internal.ExprForms.{expr_at}
use Rattle.minijinja_grammar.specs.internal.StmtForms.{parts_at}
use Rattle.minijinja_parser_stmt.specs.internal.Made.{HasParts, statement_tree}
use Rattle.minijinja_parser_stmt.specs.private.Parses.{context_of}
use Rattle.minijinja_parser_stmt.proofs.Calls.{call_block_is, call_read}
use Rattle.minijinja_parser_stmt.proofs.rules.StmtRules.call_stmt.Goals as goal

pub returns-in_err-params : goal.returns-in_err-params
returns-in_err-params g c =
    let parts = parts_at g.S.StmtBuilder.functions (context_of c.args.self.now.context) c.args.self.now.depth in
    rw (call_block_is parts c.args.from (g.S.Input.Tokens.place c.args.tokens.now)) (search rules)

pub returns-in_err-call : goal.returns-in_err-call
returns-in_err-call g c =
    let parts = parts_at g.S.StmtBuilder.functions (context_of c.args.self.now.context) c.args.self.now.depth in
    rw (call_block_is parts c.args.from (g.S.Input.Tokens.place c.args.tokens.now), c.in_ok-params.ensures) (search rules)

pub returns-in_err-body : goal.returns-in_err-body
returns-in_err-body g c =
    let parts = parts_at g.S.StmtBuilder.functions (context_of c.args.self.now.context) c.args.self.now.depth in
    rw (call_block_is parts c.args.from (g.S.Input.Tokens.place c.args.tokens.now), c.in_ok-params.ensures, c.in_ok-call.ensures) (search rules)

pub statement-requires : goal.statement-requires
unfolding HasParts
statement-requires g c = rw (c.of_kind-parts.ensures.kind) (call_read (expr_at g.S.StmtBuilder.functions c.args.self.now.depth) _ _ _ c.in_ok-call.ensures)

pub returns : goal.returns
unfolding statement_tree
returns g c =
    let parts = parts_at g.S.StmtBuilder.functions (context_of c.args.self.now.context) c.args.self.now.depth in
    rw (call_block_is parts c.args.from (g.S.Input.Tokens.place c.args.tokens.now), c.in_ok-params.ensures, c.in_ok-call.ensures, c.in_ok-body.ensures, c.in_ok-statement.ensures, c.of_kind-parts.ensures.kind, c.expand_span-span.ensures) refl
