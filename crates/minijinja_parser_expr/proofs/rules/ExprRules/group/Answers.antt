use Rattle.std.proofs.Common.{rules, ◌≡◌, ◌∙◌, true, false, ap}
use Rattle.minijinja_syntax.specs.Tokens.{paren_close}
use Rattle.minijinja_grammar.specs.internal.Forms.{got}
use Rattle.minijinja_grammar.specs.internal.ExprForms.{expr_at}
use Rattle.minijinja_parser_tokens.specs.internal.Reads.{eaten}
use Rattle.minijinja_parser_expr.proofs.Following.{group_is}
use Rattle.minijinja_parser_expr.proofs.rules.ExprRules.group.Goals as goal

pub returns-in_err-eat : goal.returns-in_err-eat
returns-in_err-eat g c =
    rw (group_is (expr_at g.N.ExprBuilder.functions c.args.self.now.depth) c.args.from (g.N.Input.Tokens.place c.args.tokens.now)) (search rules)

pub returns-then-branch : goal.returns-then-branch
returns-then-branch g c =
    let e = group_is (expr_at g.N.ExprBuilder.functions c.args.self.now.depth) c.args.from (g.N.Input.Tokens.place c.args.tokens.now) in
    let b : eaten paren_close (g.N.Input.Tokens.place c.args.tokens.now) ≡ got true (g.N.Input.Tokens.place c.eat.new.self) = c.in_ok-eat.ensures ∙ ap (λ x. got x (g.N.Input.Tokens.place c.eat.new.self)) c.if-branch.true in
    rw (e, b) (search rules)

pub returns-in_err-expr : goal.returns-in_err-expr
returns-in_err-expr g c =
    let e = group_is (expr_at g.N.ExprBuilder.functions c.args.self.now.depth) c.args.from (g.N.Input.Tokens.place c.args.tokens.now) in
    let b : eaten paren_close (g.N.Input.Tokens.place c.args.tokens.now) ≡ got false (g.N.Input.Tokens.place c.eat.new.self) = c.in_ok-eat.ensures ∙ ap (λ x. got x (g.N.Input.Tokens.place c.eat.new.self)) c.if-branch.false in
    rw (e, b) (search rules)

pub returns : goal.returns
returns g c =
    let e = group_is (expr_at g.N.ExprBuilder.functions c.args.self.now.depth) c.args.from (g.N.Input.Tokens.place c.args.tokens.now) in
    let b : eaten paren_close (g.N.Input.Tokens.place c.args.tokens.now) ≡ got false (g.N.Input.Tokens.place c.eat.new.self) = c.in_ok-eat.ensures ∙ ap (λ x. got x (g.N.Input.Tokens.place c.eat.new.self)) c.if-branch.false in
    rw (e, b, c.in_ok-expr.ensures) c.rest_of_group.ensures
