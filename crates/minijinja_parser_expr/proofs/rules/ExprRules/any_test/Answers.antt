use Rattle.std.proofs.Common.{rules, ◌≡◌, ◌∙◌, true, ap}
use Rattle.minijinja_grammar.specs.Words.{not_word}
use Rattle.minijinja_grammar.specs.internal.Forms.{got}
use Rattle.minijinja_grammar.specs.internal.ExprForms.{below}
use Rattle.minijinja_parser_tokens.specs.internal.Reads.{eaten}
use Rattle.minijinja_parser_expr.proofs.Following.{any_test_is}
use Rattle.minijinja_parser_expr.proofs.rules.ExprRules.any_test.Goals as goal

pub returns-in_err-eat : goal.returns-in_err-eat
returns-in_err-eat g c =
    let f = g.N.ExprBuilder.functions in let d = c.args.self.now.depth in
    rw (any_test_is f (below f d) (g.N.ExprBuilder.tree c.args.expr) (g.N.Input.Tokens.place c.args.tokens.now)) (search rules)

pub returns-in_err-test : goal.returns-in_err-test
returns-in_err-test g c =
    let f = g.N.ExprBuilder.functions in let d = c.args.self.now.depth in
    let e = any_test_is f (below f d) (g.N.ExprBuilder.tree c.args.expr) (g.N.Input.Tokens.place c.args.tokens.now) in
    let b : eaten not_word (g.N.Input.Tokens.place c.args.tokens.now) ≡ got true (g.N.Input.Tokens.place c.eat.new.self) = c.in_ok-eat.ensures ∙ ap (λ x. got x (g.N.Input.Tokens.place c.eat.new.self)) c.if-not-branch.false in
    rw (e, b) (search rules)

pub returns : goal.returns
returns g c =
    let f = g.N.ExprBuilder.functions in let d = c.args.self.now.depth in
    let e = any_test_is f (below f d) (g.N.ExprBuilder.tree c.args.expr) (g.N.Input.Tokens.place c.args.tokens.now) in
    let b : eaten not_word (g.N.Input.Tokens.place c.args.tokens.now) ≡ got true (g.N.Input.Tokens.place c.eat.new.self) = c.in_ok-eat.ensures ∙ ap (λ x. got x (g.N.Input.Tokens.place c.eat.new.self)) c.if-not-branch.false in
    rw (e, b, c.in_ok-test.ensures, ← c.current_span-from.ensures) c.spanned.ensures
