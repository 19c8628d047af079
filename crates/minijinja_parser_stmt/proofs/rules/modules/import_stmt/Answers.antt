use Rattle.std.proofs.Common.{rules, refl}
use Rattle.minijinja_parser_stmt.specs.internal.Made.{statement_tree}
use Rattle.minijinja_grammar.specs.internal.ExprForms.{expr_at}
use Rattle.minijinja_parser_stmt.proofs.Imports.{import_is}
use Rattle.minijinja_parser_stmt.proofs.rules.modules.import_stmt.Goals as goal

pub returns-in_err-name : goal.returns-in_err-name
returns-in_err-name g c =
    rw (import_is (expr_at g.S.StmtBuilder.functions c.args.depth) c.args.from (g.S.Input.Tokens.place c.args.tokens.now)) (search rules)

pub returns-in_err-expect : goal.returns-in_err-expect
returns-in_err-expect g c =
    rw (import_is (expr_at g.S.StmtBuilder.functions c.args.depth) c.args.from (g.S.Input.Tokens.place c.args.tokens.now), c.in_ok-name.ensures) (search rules)

pub returns-in_err-target : goal.returns-in_err-target
returns-in_err-target g c =
    rw (import_is (expr_at g.S.StmtBuilder.functions c.args.depth) c.args.from (g.S.Input.Tokens.place c.args.tokens.now), c.in_ok-name.ensures, c.in_ok-expect.ensures) (search rules)

pub returns-in_err-context_if_any : goal.returns-in_err-context_if_any
returns-in_err-context_if_any g c =
    rw (import_is (expr_at g.S.StmtBuilder.functions c.args.depth) c.args.from (g.S.Input.Tokens.place c.args.tokens.now), c.in_ok-name.ensures, c.in_ok-expect.ensures, c.in_ok-target.ensures) (search rules)

pub returns : goal.returns
unfolding statement_tree
returns g c =
    rw (import_is (expr_at g.S.StmtBuilder.functions c.args.depth) c.args.from (g.S.Input.Tokens.place c.args.tokens.now), c.in_ok-name.ensures, c.in_ok-expect.ensures, c.in_ok-target.ensures, c.in_ok-context_if_any.ensures, c.in_ok-statement.ensures, c.of_kind-parts.ensures.kind, c.expand_span-span.ensures) refl
