use Rattle.std.proofs.Common.{rules, ◌≡◌, ◌∙◌, true, false, refl, sym}
use Rattle.minijinja_grammar.specs.Ahead.{comes}
use Rattle.minijinja_grammar.specs.Words.{is_identifier}
use Rattle.minijinja_parser_stmt.proofs.Blocks.{end_name_is}
use Rattle.minijinja_parser_stmt.proofs.rules.blocks.end_name.Goals as goal

pub returns-then-not-begins : goal.returns-then-not-begins
returns-then-not-begins g c =
    let p = g.S.Input.Tokens.place c.args.tokens.now in
    let e : comes is_identifier p.tokens ≡ false = sym c.begins.ensures ∙ c.if-not-begins.true in
    rw (end_name_is (g.S.StmtBuilder.text c.args.name) p, e) refl

pub returns-in_err-end : goal.returns-in_err-end
returns-in_err-end g c =
    let p = g.S.Input.Tokens.place c.args.tokens.now in
    let e : comes is_identifier p.tokens ≡ true = sym c.begins.ensures ∙ c.if-not-begins.false in
    rw (end_name_is (g.S.StmtBuilder.text c.args.name) p, e) (search rules)
