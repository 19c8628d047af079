use Rattle.std.proofs.Common.{rules, ◌≡◌, true, false, arith, refl, sym, ap, ◌∙◌}
use Rattle.minijinja_syntax.specs.Tokens.{dot}
use Rattle.minijinja_grammar.specs.internal.Forms.{got, one, reads}
use Rattle.minijinja_grammar.specs.internal.ExprForms.{ident_and_span}
use Rattle.minijinja_grammar.specs.internal.TargetForms.{attributes}
use Rattle.minijinja_parser_tokens.specs.internal.Reads.{eaten}
use Rattle.minijinja_parser_tokens.proofs.Turned.{eaten_shorter, read_no_longer}
use Rattle.minijinja_parser_stmt.proofs.Names.{attributes_is}
use Rattle.minijinja_parser_stmt.proofs.rules.targets.attributes.Goals as goal

pub loop-builder-smaller : goal.loop-builder-smaller
loop-builder-smaller g c =
    let p = g.S.Input.Tokens.place c.loop-builder.tokens in
    let q = g.S.Input.Tokens.place c.eat.new.self in
    let r = g.S.Input.Tokens.place c.ident.new.tokens in
    let b : eaten dot p ≡ got true q = c.in_ok-eat.ensures ∙ ap (λ x. got x q) c.if-branch.true in
    omega (arith, eaten_shorter dot p q b, read_no_longer (one ident_and_span) q r _ c.in_ok-name.ensures)

pub loop-builder-preserved : goal.loop-builder-preserved
loop-builder-preserved g c =
    let v = g.S.StmtBuilder.tree in
    let p = g.S.Input.Tokens.place c.loop-builder.tokens in
    let q = g.S.Input.Tokens.place c.eat.new.self in
    let r = g.S.Input.Tokens.place c.ident.new.tokens in
    let b : eaten dot p ≡ got true q = c.in_ok-eat.ensures ∙ ap (λ x. got x q) c.if-branch.true in
    let h : reads (one ident_and_span) q ≡ got (g.S.StmtBuilder.text c.in_ok-name.name, c.in_ok-name.span) r = c.in_ok-name.ensures in
    c.loop-builder.invariant ∙ attributes_is (v c.loop-builder.target) p ∙ rw (b, h) refl ∙ ap (λ e. reads (attributes e) r) (sym c.in_ok-target.ensures)

pub returns-in_err-eat : goal.returns-in_err-eat
returns-in_err-eat g c =
    let e = c.loop-builder.invariant ∙ attributes_is (g.S.StmtBuilder.tree c.loop-builder.target) (g.S.Input.Tokens.place c.loop-builder.tokens) in
    rw e (search rules)

pub returns-in_err-name : goal.returns-in_err-name
returns-in_err-name g c =
    let p = g.S.Input.Tokens.place c.loop-builder.tokens in
    let q = g.S.Input.Tokens.place c.eat.new.self in
    let b : eaten dot p ≡ got true q = c.in_ok-eat.ensures ∙ ap (λ x. got x q) c.if-branch.true in
    let e = c.loop-builder.invariant ∙ attributes_is (g.S.StmtBuilder.tree c.loop-builder.target) p in
    rw (e, b) (search rules)

pub returns : goal.returns
returns g c =
    let p = g.S.Input.Tokens.place c.loop-builder.tokens in
    let q = g.S.Input.Tokens.place c.eat.new.self in
    let b : eaten dot p ≡ got false q = c.in_ok-eat.ensures ∙ ap (λ x. got x q) c.if-branch.false in
    let e = c.loop-builder.invariant ∙ attributes_is (g.S.StmtBuilder.tree c.loop-builder.target) p in
    rw (e, b) refl
