use Rattle.std.proofs.Common.{rules, refl, ◌≡◌, ◌∙◌, true, false, ap}
use Rattle.minijinja_syntax.specs.Tokens.{comma}
use Rattle.minijinja_grammar.specs.internal.Forms.{got}
use Rattle.minijinja_grammar.specs.internal.ExprForms.{expr_at}
use Rattle.minijinja_parser_tokens.specs.internal.Reads.{eaten}
use Rattle.minijinja_parser_expr.proofs.Following.{rest_of_group_is}
use Rattle.minijinja_parser_expr.proofs.rules.ExprRules.rest_of_group.Goals as goal

pub returns-in_err-eat : goal.returns-in_err-eat
returns-in_err-eat g c =
    rw (rest_of_group_is (expr_at g.N.ExprBuilder.functions c.args.self.now.depth) c.args.from (g.N.ExprBuilder.tree c.args.expr) (g.N.Input.Tokens.place c.args.tokens.now)) (search rules)

pub returns-then-branch : goal.returns-then-branch
returns-then-branch g c =
    let e = rest_of_group_is (expr_at g.N.ExprBuilder.functions c.args.self.now.depth) c.args.from (g.N.ExprBuilder.tree c.args.expr) (g.N.Input.Tokens.place c.args.tokens.now) in
    let b : eaten comma (g.N.Input.Tokens.place c.args.tokens.now) ≡ got true (g.N.Input.Tokens.place c.eat.new.self) = c.in_ok-eat.ensures ∙ ap (λ x. got x (g.N.Input.Tokens.place c.eat.new.self)) c.if-branch.true in
    rw (e, b) c.rest_of_tuple.ensures

pub returns-in_err-expect : goal.returns-in_err-expect
returns-in_err-expect g c =
    let e = rest_of_group_is (expr_at g.N.ExprBuilder.functions c.args.self.now.depth) c.args.from (g.N.ExprBuilder.tree c.args.expr) (g.N.Input.Tokens.place c.args.tokens.now) in
    let b : eaten comma (g.N.Input.Tokens.place c.args.tokens.now) ≡ got false (g.N.Input.Tokens.place c.eat.new.self) = c.in_ok-eat.ensures ∙ ap (λ x. got x (g.N.Input.Tokens.place c.eat.new.self)) c.if-branch.false in
    rw (e, b) (search rules)

pub returns : goal.returns
returns g c =
    let e = rest_of_group_is (expr_at g.N.ExprBuilder.functions c.args.self.now.depth) c.args.from (g.N.ExprBuilder.tree c.args.expr) (g.N.Input.Tokens.place c.args.tokens.now) in
    let b : eaten comma (g.N.Input.Tokens.place c.args.tokens.now) ≡ got false (g.N.Input.Tokens.place c.eat.new.self) = c.in_ok-eat.ensures ∙ ap (λ x. got x (g.N.Input.Tokens.place c.eat.new.self)) c.if-branch.false in
    rw (e, b, c.in_ok-expect.ensures) refl
