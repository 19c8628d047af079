use Rattle.std.proofs.Common.{rules, ◌≡◌, ◌∙◌, true, false, Some, refl, sym, ap}
use Rattle.std.specs.Option.{option_map}
use Rattle.minijinja_syntax.specs.Tokens.{template_data, variable_start, block_start}
use Rattle.minijinja_grammar.specs.Ahead.{comes}
use Rattle.minijinja_grammar.specs.Statements.{ends_body}
use Rattle.minijinja_parser_tokens.specs.internal.Marks.{ends_view}
use Rattle.minijinja_parser_stmt.specs.internal.Made.{opening_tok}
use Rattle.minijinja_parser_stmt.proofs.Bodies.{opened}
use Rattle.minijinja_parser_stmt.proofs.rules.StmtRules.part.Goals as goal

pub returns-in_ok-data-in-Some-Data : goal.returns-in_ok-data-in-Some-Data
returns-in_ok-data-in-Some-Data g c =
    let t : g.S.Input.Tokens.tok c.args.token.now ≡ template_data (g.S.StmtBuilder.text c.in-Some-Data.raw) = opened _ _ (ap (option_map (opening_tok g.S.StmtBuilder.text)) (sym (c.in-Some-Data.is ∙ ap Some c.in-Some-Data.field-0-is)) ∙ c.opening.ensures) in
    rw (t, c.in_ok-data-in-Some-Data.ensures) refl

pub returns-in_ok-output-in-Some-Output : goal.returns-in_ok-output-in-Some-Output
returns-in_ok-output-in-Some-Output g c =
    let t : g.S.Input.Tokens.tok c.args.token.now ≡ variable_start = opened _ _ (ap (option_map (opening_tok g.S.StmtBuilder.text)) (sym (c.in-Some-Output.is ∙ ap Some c.in-Some-Output.field-0-is)) ∙ c.opening.ensures) in
    rw (t, c.in_ok-output-in-Some-Output.ensures) refl

pub returns-in_err-output-in-Some-Output : goal.returns-in_err-output-in-Some-Output
returns-in_err-output-in-Some-Output g c =
    let t : g.S.Input.Tokens.tok c.args.token.now ≡ variable_start = opened _ _ (ap (option_map (opening_tok g.S.StmtBuilder.text)) (sym (c.in-Some-Output.is ∙ ap Some c.in-Some-Output.field-0-is)) ∙ c.opening.ensures) in
    rw t (search rules)

pub returns-then-begins : goal.returns-then-begins
returns-then-begins g c =
    let t : g.S.Input.Tokens.tok c.args.token.now ≡ block_start = opened _ _ (ap (option_map (opening_tok g.S.StmtBuilder.text)) (sym (c.in-Some-Statement.is ∙ ap Some c.in-Some-Statement.field-0-is)) ∙ c.opening.ensures) in
    let e : comes (ends_body (ends_view c.args.ends)) (g.S.Input.Tokens.place c.args.tokens.now).tokens ≡ true = sym c.begins.ensures ∙ c.if-begins.true in
    rw (t, e) refl

pub returns-in_ok-tag-in-Some-Statement : goal.returns-in_ok-tag-in-Some-Statement
returns-in_ok-tag-in-Some-Statement g c =
    let t : g.S.Input.Tokens.tok c.args.token.now ≡ block_start = opened _ _ (ap (option_map (opening_tok g.S.StmtBuilder.text)) (sym (c.in-Some-Statement.is ∙ ap Some c.in-Some-Statement.field-0-is)) ∙ c.opening.ensures) in
    let e : comes (ends_body (ends_view c.args.ends)) (g.S.Input.Tokens.place c.args.tokens.now).tokens ≡ false = sym c.begins.ensures ∙ c.if-begins.false in
    rw (t, e, c.in_ok-tag-in-Some-Statement.ensures) refl

pub returns-in_err-tag-in-Some-Statement : goal.returns-in_err-tag-in-Some-Statement
returns-in_err-tag-in-Some-Statement g c =
    let t : g.S.Input.Tokens.tok c.args.token.now ≡ block_start = opened _ _ (ap (option_map (opening_tok g.S.StmtBuilder.text)) (sym (c.in-Some-Statement.is ∙ ap Some c.in-Some-Statement.field-0-is)) ∙ c.opening.ensures) in
    let e : comes (ends_body (ends_view c.args.ends)) (g.S.Input.Tokens.place c.args.tokens.now).tokens ≡ false = sym c.begins.ensures ∙ c.if-begins.false in
    rw (t, e) (search rules)
