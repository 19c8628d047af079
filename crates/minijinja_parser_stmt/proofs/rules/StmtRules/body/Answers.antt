use Rattle.std.proofs.Common.{rules, ◌≡◌, true, false, ◌∷◌, ◌++◌, [], Some, None, map, arith, refl, sym, ap, ◌∙◌}
use Rattle.std.proofs.lemmas.List.{map-append}
use Rattle.std.specs.Option.{option_map}
use Rattle.minijinja_syntax.specs.Streams.{SpannedTok}
use Rattle.minijinja_grammar.specs.Ahead.{comes}
use Rattle.minijinja_grammar.specs.internal.Forms.{got, one, reads}
use Rattle.minijinja_parser_tokens.specs.internal.Marks.{is_any}
use Rattle.minijinja_parser_tokens.specs.internal.Marks.{ends_view}
use Rattle.minijinja_parser_tokens.proofs.Turned.{take_shorter}
use Rattle.minijinja_parser_stmt.specs.private.Bodies.{piece, rest_of_body}
use Rattle.minijinja_parser_stmt.specs.private.Parses.{context_of}
use Rattle.minijinja_parser_stmt.proofs.Bodies.{body_done, body_is, body_more, part_no_longer}
use Rattle.minijinja_parser_stmt.proofs.rules.StmtRules.body.Goals as goal

pub loop-ends-smaller : goal.loop-ends-smaller
loop-ends-smaller g c =
    let p = g.S.Input.Tokens.place c.loop-ends.tokens in
    let q = g.S.Input.Tokens.place c.take.new.self in
    let r = g.S.Input.Tokens.place c.part.new.tokens in
    omega (
      arith,
      take_shorter p q _ c.in_ok-token.ensures,
      part_no_longer g.S.StmtBuilder.functions (context_of c.args.self.now.context) c.args.self.now.depth (ends_view c.args.ends) (g.S.Input.Tokens.tok c.in_ok-token.token, c.in_ok-token.span) q r
          (option_map g.S.StmtBuilder.stmt c.in_ok-part.field-0) c.in_ok-part.ensures,
    )

pub loop-ends-preserved : goal.loop-ends-preserved
loop-ends-preserved g c =
    let v = g.S.StmtBuilder.stmt in
    let p = g.S.Input.Tokens.place c.loop-ends.tokens in
    let q = g.S.Input.Tokens.place c.take.new.self in
    let r = g.S.Input.Tokens.place c.part.new.tokens in
    let f = g.S.StmtBuilder.functions in
    let x = context_of c.args.self.now.context in
    let d = c.args.self.now.depth in
    let ends = ends_view c.args.ends in
    let t : SpannedTok = (g.S.Input.Tokens.tok c.in_ok-token.token, c.in_ok-token.span) in
    let ss = map v c.loop-ends.parts.items in
    let e : comes is_any p.tokens ≡ true = sym c.begins.ensures ∙ c.loop-ends-test.true in
    let h : reads (one Some) p ≡ got t q = c.in_ok-token.ensures in
    let k : piece f x d ends t q ≡ got (Some (v c.in-Some.part)) r = c.in_ok-part.ensures ∙ ap (λ o. got (option_map v o) r) c.in-Some.is in
    let pushed : ss ++ v c.in-Some.part ∷ [] ≡ map v c.push.new.self.items = rw (c.in_ok-push-in-Some.ensures.items, map-append) refl in
    c.loop-ends.invariant ∙ body_more f x d ends ss p e ∙ rw (h, k) refl ∙ ap (λ us. reads (rest_of_body f x d ends us) r) pushed

pub returns-in_err-token : goal.returns-in_err-token
returns-in_err-token g c =
    let f = g.S.StmtBuilder.functions in
    let x = context_of c.args.self.now.context in
    let d = c.args.self.now.depth in
    let ends = ends_view c.args.ends in
    let p = g.S.Input.Tokens.place c.loop-ends.tokens in
    let ss = map g.S.StmtBuilder.stmt c.loop-ends.parts.items in
    let e : comes is_any p.tokens ≡ true = sym c.begins.ensures ∙ c.loop-ends-test.true in
    let i = body_is f x d ends (g.S.Input.Tokens.place c.args.tokens.now) ∙ c.loop-ends.invariant ∙ body_more f x d ends ss p e in
    rw i (search rules)

pub returns-in_err-part : goal.returns-in_err-part
returns-in_err-part g c =
    let f = g.S.StmtBuilder.functions in
    let x = context_of c.args.self.now.context in
    let d = c.args.self.now.depth in
    let ends = ends_view c.args.ends in
    let p = g.S.Input.Tokens.place c.loop-ends.tokens in
    let q = g.S.Input.Tokens.place c.take.new.self in
    let t : SpannedTok = (g.S.Input.Tokens.tok c.in_ok-token.token, c.in_ok-token.span) in
    let ss = map g.S.StmtBuilder.stmt c.loop-ends.parts.items in
    let e : comes is_any p.tokens ≡ true = sym c.begins.ensures ∙ c.loop-ends-test.true in
    let h : reads (one Some) p ≡ got t q = c.in_ok-token.ensures in
    let i = body_is f x d ends (g.S.Input.Tokens.place c.args.tokens.now) ∙ c.loop-ends.invariant ∙ body_more f x d ends ss p e in
    rw (i, h) (search rules)

pub returns-in-None : goal.returns-in-None
returns-in-None g c =
    let v = g.S.StmtBuilder.stmt in
    let f = g.S.StmtBuilder.functions in
    let x = context_of c.args.self.now.context in
    let d = c.args.self.now.depth in
    let ends = ends_view c.args.ends in
    let p = g.S.Input.Tokens.place c.loop-ends.tokens in
    let q = g.S.Input.Tokens.place c.take.new.self in
    let r = g.S.Input.Tokens.place c.part.new.tokens in
    let t : SpannedTok = (g.S.Input.Tokens.tok c.in_ok-token.token, c.in_ok-token.span) in
    let ss = map v c.loop-ends.parts.items in
    let e : comes is_any p.tokens ≡ true = sym c.begins.ensures ∙ c.loop-ends-test.true in
    let h : reads (one Some) p ≡ got t q = c.in_ok-token.ensures in
    let k : piece f x d ends t q ≡ got None r = c.in_ok-part.ensures ∙ ap (λ o. got (option_map v o) r) c.in-None.is in
    let i = body_is f x d ends (g.S.Input.Tokens.place c.args.tokens.now) ∙ c.loop-ends.invariant ∙ body_more f x d ends ss p e in
    rw (i, h, k) refl

pub returns : goal.returns
returns g c =
    let f = g.S.StmtBuilder.functions in
    let x = context_of c.args.self.now.context in
    let d = c.args.self.now.depth in
    let ends = ends_view c.args.ends in
    let p = g.S.Input.Tokens.place c.loop-ends.tokens in
    let ss = map g.S.StmtBuilder.stmt c.loop-ends.parts.items in
    let e : comes is_any p.tokens ≡ false = sym c.begins.ensures ∙ c.loop-ends-test.false in
    body_is f x d ends (g.S.Input.Tokens.place c.args.tokens.now) ∙ c.loop-ends.invariant ∙ body_done f x d ends ss p e
