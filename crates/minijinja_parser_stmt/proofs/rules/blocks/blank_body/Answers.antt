use Rattle.std.proofs.Common.{rules, ◌≡◌, true, false, ◌∷◌, ◌++◌, [], Some, None, map, refl, sym, ap, ◌∙◌}
use Rattle.std.proofs.lemmas.List.{map-append}
use Rattle.std.specs.Option.{option_map}
use Rattle.minijinja_syntax.specs.Streams.{SpannedTok}
use Rattle.minijinja_grammar.specs.Ahead.{comes}
use Rattle.minijinja_grammar.specs.internal.Forms.{got, one, reads}
use Rattle.minijinja_parser_tokens.specs.internal.Marks.{is_any}
use Rattle.minijinja_parser_tokens.proofs.Turned.{take_shorter}
use Rattle.minijinja_parser_stmt.specs.private.Blanks.{blank_piece, rest_of_blank}
use Rattle.minijinja_parser_stmt.proofs.Blanks.{blank_done, blank_is, blank_more}
use Rattle.minijinja_parser_stmt.proofs.rules.blocks.blank_body.Goals as goal

pub loop-builder-preserved : goal.loop-builder-preserved
loop-builder-preserved g c =
    let v = g.S.StmtBuilder.stmt in
    let p = g.S.Input.Tokens.place c.loop-builder.tokens in
    let q = g.S.Input.Tokens.place c.take.new.self in
    let t : SpannedTok = (g.S.Input.Tokens.tok c.in_ok-token.token, c.in_ok-token.span) in
    let ss = map v c.loop-builder.parts.items in
    let e : comes is_any p.tokens ≡ true = sym c.begins.ensures ∙ c.loop-builder-test.true in
    let h : reads (one Some) p ≡ got t q = c.in_ok-token.ensures in
    let k : blank_piece t q ≡ got (Some (v c.in-Some.part)) q = c.in_ok-part.ensures ∙ ap (λ o. got (option_map v o) q) c.in-Some.is in
    let pushed : ss ++ v c.in-Some.part ∷ [] ≡ map v c.push.new.self.items = rw (c.in_ok-push-in-Some.ensures.items, map-append) refl in
    c.loop-builder.invariant ∙ blank_more ss p e ∙ rw (h, k) refl ∙ ap (λ us. reads (rest_of_blank us) q) pushed

pub loop-builder-smaller : goal.loop-builder-smaller
loop-builder-smaller g c =
    let p = g.S.Input.Tokens.place c.loop-builder.tokens in
    let q = g.S.Input.Tokens.place c.take.new.self in
    take_shorter p q _ c.in_ok-token.ensures

pub returns-in_err-token : goal.returns-in_err-token
returns-in_err-token g c =
    let p = g.S.Input.Tokens.place c.loop-builder.tokens in
    let ss = map g.S.StmtBuilder.stmt c.loop-builder.parts.items in
    let e : comes is_any p.tokens ≡ true = sym c.begins.ensures ∙ c.loop-builder-test.true in
    let i = blank_is (g.S.Input.Tokens.place c.args.tokens.now) ∙ c.loop-builder.invariant ∙ blank_more ss p e in
    rw i (search rules)

pub returns-in_err-part : goal.returns-in_err-part
returns-in_err-part g c =
    let p = g.S.Input.Tokens.place c.loop-builder.tokens in
    let q = g.S.Input.Tokens.place c.take.new.self in
    let t : SpannedTok = (g.S.Input.Tokens.tok c.in_ok-token.token, c.in_ok-token.span) in
    let ss = map g.S.StmtBuilder.stmt c.loop-builder.parts.items in
    let e : comes is_any p.tokens ≡ true = sym c.begins.ensures ∙ c.loop-builder-test.true in
    let h : reads (one Some) p ≡ got t q = c.in_ok-token.ensures in
    let i = blank_is (g.S.Input.Tokens.place c.args.tokens.now) ∙ c.loop-builder.invariant ∙ blank_more ss p e in
    rw (i, h) (search rules)

pub returns-in-None : goal.returns-in-None
returns-in-None g c =
    let v = g.S.StmtBuilder.stmt in
    let p = g.S.Input.Tokens.place c.loop-builder.tokens in
    let q = g.S.Input.Tokens.place c.take.new.self in
    let t : SpannedTok = (g.S.Input.Tokens.tok c.in_ok-token.token, c.in_ok-token.span) in
    let ss = map v c.loop-builder.parts.items in
    let e : comes is_any p.tokens ≡ true = sym c.begins.ensures ∙ c.loop-builder-test.true in
    let h : reads (one Some) p ≡ got t q = c.in_ok-token.ensures in
    let k : blank_piece t q ≡ got None q = c.in_ok-part.ensures ∙ ap (λ o. got (option_map v o) q) c.in-None.is in
    let i = blank_is (g.S.Input.Tokens.place c.args.tokens.now) ∙ c.loop-builder.invariant ∙ blank_more ss p e in
    rw (i, h, k) refl

pub returns : goal.returns
returns g c =
    let p = g.S.Input.Tokens.place c.loop-builder.tokens in
    let ss = map g.S.StmtBuilder.stmt c.loop-builder.parts.items in
    let e : comes is_any p.tokens ≡ false = sym c.begins.ensures ∙ c.loop-builder-test.false in
    blank_is (g.S.Input.Tokens.place c.args.tokens.now) ∙ c.loop-builder.invariant ∙ blank_done ss p e
