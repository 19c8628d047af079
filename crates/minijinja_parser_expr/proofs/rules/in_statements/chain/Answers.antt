use Rattle.std.proofs.Common.{rules, ◌≡◌, true, false, refl, Some, arith, ap, ◌∙◌}
use Rattle.minijinja_syntax.specs.Tokens.{pipe}
use Rattle.minijinja_grammar.specs.internal.Forms.{got}
use Rattle.minijinja_grammar.specs.internal.ExprForms.{expr_at}
use Rattle.minijinja_grammar.specs.internal.StmtForms as form
use Rattle.minijinja_parser_tokens.specs.internal.Reads.{eaten}
use Rattle.minijinja_parser_tokens.proofs.Turned.{eaten_shorter, read_no_longer}
use Rattle.minijinja_parser_expr.proofs.FilterChains.{links_is}
use Rattle.minijinja_parser_expr.proofs.rules.in_statements.chain.Goals as goal

pub loop-rules-smaller : goal.loop-rules-smaller
loop-rules-smaller g c =
    let p = g.N.Input.Tokens.place c.loop-rules.tokens in
    let q = g.N.Input.Tokens.place c.eat.new.self in
    let r = g.N.Input.Tokens.place c.link-in-loop-rules.new.tokens in
    let b : eaten pipe p ≡ got true q = c.in_ok-eat.ensures ∙ ap (λ x. got x q) c.if-branch.true in
    omega (
      arith,
      eaten_shorter pipe p q b,
      read_no_longer (form.chained (expr_at g.N.ExprBuilder.functions c.args.depth) (Some (g.N.ExprBuilder.tree c.loop-rules.chain))) q r _ c.in_ok-chain-2.ensures,
    )

pub returns-in_err-eat : goal.returns-in_err-eat
returns-in_err-eat g c =
    let p = g.N.Input.Tokens.place c.loop-rules.tokens in
    let e = c.loop-rules.invariant ∙ links_is (expr_at g.N.ExprBuilder.functions c.args.depth) (g.N.ExprBuilder.tree c.loop-rules.chain) p in
    rw e (search rules)

pub returns-in_err-chain-2 : goal.returns-in_err-chain-2
returns-in_err-chain-2 g c =
    let p = g.N.Input.Tokens.place c.loop-rules.tokens in
    let e = c.loop-rules.invariant ∙ links_is (expr_at g.N.ExprBuilder.functions c.args.depth) (g.N.ExprBuilder.tree c.loop-rules.chain) p in
    let q = g.N.Input.Tokens.place c.eat.new.self in
    let b : eaten pipe p ≡ got true q = c.in_ok-eat.ensures ∙ ap (λ x. got x q) c.if-branch.true in
    rw (e, b) (search rules)

pub returns : goal.returns
returns g c =
    let p = g.N.Input.Tokens.place c.loop-rules.tokens in
    let e = c.loop-rules.invariant ∙ links_is (expr_at g.N.ExprBuilder.functions c.args.depth) (g.N.ExprBuilder.tree c.loop-rules.chain) p in
    let q = g.N.Input.Tokens.place c.eat.new.self in
    let b : eaten pipe p ≡ got false q = c.in_ok-eat.ensures ∙ ap (λ x. got x q) c.if-branch.false in
    rw (e, b) refl
