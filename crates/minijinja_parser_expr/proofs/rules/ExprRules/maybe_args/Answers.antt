use Rattle.std.proofs.Common.{rules, ◌≡◌, ◌∙◌, true, false, ap}
use Rattle.minijinja_syntax.specs.Tokens.{paren_open}
use Rattle.minijinja_grammar.specs.internal.Forms.{got}
use Rattle.minijinja_grammar.specs.internal.ExprForms.{expr_at}
use Rattle.minijinja_parser_tokens.specs.internal.Reads.{eaten}
use Rattle.minijinja_parser_expr.proofs.Following.{maybe_args_is}
use Rattle.minijinja_parser_expr.proofs.rules.ExprRules.maybe_args.Goals as goal

pub returns-in_err-eat : goal.returns-in_err-eat
returns-in_err-eat g c =
    rw (maybe_args_is (expr_at g.N.ExprBuilder.functions c.args.self.now.depth) (g.N.Input.Tokens.place c.args.tokens.now)) (search rules)

pub returns-then-not-branch : goal.returns-then-not-branch
returns-then-not-branch g c =
    let e = maybe_args_is (expr_at g.N.ExprBuilder.functions c.args.self.now.depth) (g.N.Input.Tokens.place c.args.tokens.now) in
    let b : eaten paren_open (g.N.Input.Tokens.place c.args.tokens.now) ≡ got false (g.N.Input.Tokens.place c.eat.new.self) = c.in_ok-eat.ensures ∙ ap (λ x. got x (g.N.Input.Tokens.place c.eat.new.self)) c.if-not-branch.true in
    rw (e, b) (search rules)

pub returns : goal.returns
returns g c =
    let e = maybe_args_is (expr_at g.N.ExprBuilder.functions c.args.self.now.depth) (g.N.Input.Tokens.place c.args.tokens.now) in
    let b : eaten paren_open (g.N.Input.Tokens.place c.args.tokens.now) ≡ got true (g.N.Input.Tokens.place c.eat.new.self) = c.in_ok-eat.ensures ∙ ap (λ x. got x (g.N.Input.Tokens.place c.eat.new.self)) c.if-not-branch.false in
    rw (e, b) (search rules)
