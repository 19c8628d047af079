use Rattle.std.proofs.Common.{rules, ◌≡◌, ◌∙◌, true, false, ap}
use Rattle.minijinja_syntax.specs.Tokens.{colon}
use Rattle.minijinja_grammar.specs.internal.Forms.{got}
use Rattle.minijinja_grammar.specs.internal.ExprForms.{expr_at}
use Rattle.minijinja_parser_tokens.specs.internal.Reads.{eaten}
use Rattle.minijinja_parser_expr.proofs.Following.{subscript_is}
use Rattle.minijinja_parser_expr.proofs.rules.ExprRules.subscript.Goals as goal

pub returns-in_err-eat : goal.returns-in_err-eat
returns-in_err-eat g c =
    rw (subscript_is (expr_at g.N.ExprBuilder.functions c.args.self.now.depth) (g.N.ExprBuilder.tree c.args.expr) c.args.from (g.N.Input.Tokens.place c.args.tokens.now)) (search rules)

pub returns-then-branch : goal.returns-then-branch
returns-then-branch g c =
    let e = subscript_is (expr_at g.N.ExprBuilder.functions c.args.self.now.depth) (g.N.ExprBuilder.tree c.args.expr) c.args.from (g.N.Input.Tokens.place c.args.tokens.now) in
    let b : eaten colon (g.N.Input.Tokens.place c.args.tokens.now) ≡ got true (g.N.Input.Tokens.place c.eat.new.self) = c.in_ok-eat.ensures ∙ ap (λ x. got x (g.N.Input.Tokens.place c.eat.new.self)) c.if-branch.true in
    rw (e, b) c.range.ensures

pub returns-in_err-index : goal.returns-in_err-index
returns-in_err-index g c =
    let e = subscript_is (expr_at g.N.ExprBuilder.functions c.args.self.now.depth) (g.N.ExprBuilder.tree c.args.expr) c.args.from (g.N.Input.Tokens.place c.args.tokens.now) in
    let b : eaten colon (g.N.Input.Tokens.place c.args.tokens.now) ≡ got false (g.N.Input.Tokens.place c.eat.new.self) = c.in_ok-eat.ensures ∙ ap (λ x. got x (g.N.Input.Tokens.place c.eat.new.self)) c.if-branch.false in
    rw (e, b) (search rules)

pub returns : goal.returns
returns g c =
    let e = subscript_is (expr_at g.N.ExprBuilder.functions c.args.self.now.depth) (g.N.ExprBuilder.tree c.args.expr) c.args.from (g.N.Input.Tokens.place c.args.tokens.now) in
    let b : eaten colon (g.N.Input.Tokens.place c.args.tokens.now) ≡ got false (g.N.Input.Tokens.place c.eat.new.self) = c.in_ok-eat.ensures ∙ ap (λ x. got x (g.N.Input.Tokens.place c.eat.new.self)) c.if-branch.false in
    rw (e, b, c.in_ok-index.ensures) c.rest_of_subscript.ensures
