use Rattle.std.proofs.Common.{rules, refl}
use Rattle.minijinja_grammar.specs.internal.StmtForms.{parts_at}
use Rattle.minijinja_parser_stmt.specs.internal.Made.{statement_tree}
use Rattle.minijinja_parser_stmt.specs.private.Parses.{context_of}
use Rattle.minijinja_parser_stmt.proofs.Blocks.{block_is}
use Rattle.minijinja_parser_stmt.proofs.rules.StmtRules.named_block.Goals as goal

pub returns-in_err-name : goal.returns-in_err-name
returns-in_err-name g c =
    let parts = parts_at g.S.StmtBuilder.functions (context_of c.args.self.now.context) c.args.self.now.depth in
    rw (block_is parts c.args.from (g.S.Input.Tokens.place c.args.tokens.now)) (search rules)

pub returns-in_err-body : goal.returns-in_err-body
returns-in_err-body g c =
    let parts = parts_at g.S.StmtBuilder.functions (context_of c.args.self.now.context) c.args.self.now.depth in
    rw (block_is parts c.args.from (g.S.Input.Tokens.place c.args.tokens.now), c.in_ok-name.ensures) (search rules)

pub returns-in_err-end_of_block : goal.returns-in_err-end_of_block
returns-in_err-end_of_block g c =
    let parts = parts_at g.S.StmtBuilder.functions (context_of c.args.self.now.context) c.args.self.now.depth in
    rw (block_is parts c.args.from (g.S.Input.Tokens.place c.args.tokens.now), c.in_ok-name.ensures, c.in_ok-body.ensures) (search rules)

pub returns : goal.returns
unfolding statement_tree
returns g c =
    let parts = parts_at g.S.StmtBuilder.functions (context_of c.args.self.now.context) c.args.self.now.depth in
    rw (block_is parts c.args.from (g.S.Input.Tokens.place c.args.tokens.now), c.in_ok-name.ensures, c.in_ok-body.ensures, c.in_ok-end_of_block.ensures, c.in_ok-statement.ensures, c.of_kind-parts.ensures.kind, c.expand_span-span.ensures) refl
