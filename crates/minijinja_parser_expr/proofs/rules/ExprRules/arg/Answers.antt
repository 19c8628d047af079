use Rattle.std.proofs.Common.{rules, ◌≡◌, ◌∙◌, true, false, refl, ap}
use Rattle.minijinja_syntax.specs.Tokens.{mul, pow}
use Rattle.minijinja_grammar.specs.internal.Forms.{got}
use Rattle.minijinja_grammar.specs.internal.ExprForms.{expr_at}
use Rattle.minijinja_parser_tokens.specs.internal.Reads.{eaten}
use Rattle.minijinja_parser_expr.proofs.CallArgs.{arg_is}
use Rattle.minijinja_parser_expr.proofs.rules.ExprRules.arg.Goals as goal

pub returns-in_err-eat : goal.returns-in_err-eat
returns-in_err-eat g c = rw (arg_is (expr_at g.N.ExprBuilder.functions c.args.self.now.depth) (g.N.Input.Tokens.place c.args.tokens.now)) (search rules)

pub returns-in_err-nested : goal.returns-in_err-nested
returns-in_err-nested g c =
    let e = arg_is (expr_at g.N.ExprBuilder.functions c.args.self.now.depth) (g.N.Input.Tokens.place c.args.tokens.now) in
    let b : eaten mul (g.N.Input.Tokens.place c.args.tokens.now) ≡ got true (g.N.Input.Tokens.place c.eat.new.self) = c.in_ok-eat.ensures ∙ ap (λ x. got x (g.N.Input.Tokens.place c.eat.new.self)) c.if-branch.true in
    rw (e, b) (search rules)

pub returns-then-branch : goal.returns-then-branch
returns-then-branch g c =
    let e = arg_is (expr_at g.N.ExprBuilder.functions c.args.self.now.depth) (g.N.Input.Tokens.place c.args.tokens.now) in
    let b : eaten mul (g.N.Input.Tokens.place c.args.tokens.now) ≡ got true (g.N.Input.Tokens.place c.eat.new.self) = c.in_ok-eat.ensures ∙ ap (λ x. got x (g.N.Input.Tokens.place c.eat.new.self)) c.if-branch.true in
    rw (e, b, c.in_ok-nested.ensures) refl

pub returns-in_err-eat-2 : goal.returns-in_err-eat-2
returns-in_err-eat-2 g c =
    let e = arg_is (expr_at g.N.ExprBuilder.functions c.args.self.now.depth) (g.N.Input.Tokens.place c.args.tokens.now) in
    let b : eaten mul (g.N.Input.Tokens.place c.args.tokens.now) ≡ got false (g.N.Input.Tokens.place c.eat.new.self) = c.in_ok-eat.ensures ∙ ap (λ x. got x (g.N.Input.Tokens.place c.eat.new.self)) c.if-branch.false in
    rw (e, b) (search rules)

pub returns-in_err-nested-2 : goal.returns-in_err-nested-2
returns-in_err-nested-2 g c =
    let e = arg_is (expr_at g.N.ExprBuilder.functions c.args.self.now.depth) (g.N.Input.Tokens.place c.args.tokens.now) in
    let b : eaten mul (g.N.Input.Tokens.place c.args.tokens.now) ≡ got false (g.N.Input.Tokens.place c.eat.new.self) = c.in_ok-eat.ensures ∙ ap (λ x. got x (g.N.Input.Tokens.place c.eat.new.self)) c.if-branch.false in
    let d : eaten pow (g.N.Input.Tokens.place c.eat.new.self) ≡ got true (g.N.Input.Tokens.place c.eat-2.new.self) = c.in_ok-eat-2.ensures ∙ ap (λ x. got x (g.N.Input.Tokens.place c.eat-2.new.self)) c.if-branch-2.true in
    rw (e, b, d) (search rules)

pub returns-then-branch-2 : goal.returns-then-branch-2
returns-then-branch-2 g c =
    let e = arg_is (expr_at g.N.ExprBuilder.functions c.args.self.now.depth) (g.N.Input.Tokens.place c.args.tokens.now) in
    let b : eaten mul (g.N.Input.Tokens.place c.args.tokens.now) ≡ got false (g.N.Input.Tokens.place c.eat.new.self) = c.in_ok-eat.ensures ∙ ap (λ x. got x (g.N.Input.Tokens.place c.eat.new.self)) c.if-branch.false in
    let d : eaten pow (g.N.Input.Tokens.place c.eat.new.self) ≡ got true (g.N.Input.Tokens.place c.eat-2.new.self) = c.in_ok-eat-2.ensures ∙ ap (λ x. got x (g.N.Input.Tokens.place c.eat-2.new.self)) c.if-branch-2.true in
    rw (e, b, d, c.in_ok-nested-2.ensures) refl

pub returns-in_err-expr : goal.returns-in_err-expr
returns-in_err-expr g c =
    let e = arg_is (expr_at g.N.ExprBuilder.functions c.args.self.now.depth) (g.N.Input.Tokens.place c.args.tokens.now) in
    let b : eaten mul (g.N.Input.Tokens.place c.args.tokens.now) ≡ got false (g.N.Input.Tokens.place c.eat.new.self) = c.in_ok-eat.ensures ∙ ap (λ x. got x (g.N.Input.Tokens.place c.eat.new.self)) c.if-branch.false in
    let d : eaten pow (g.N.Input.Tokens.place c.eat.new.self) ≡ got false (g.N.Input.Tokens.place c.eat-2.new.self) = c.in_ok-eat-2.ensures ∙ ap (λ x. got x (g.N.Input.Tokens.place c.eat-2.new.self)) c.if-branch-2.false in
    rw (e, b, d) (search rules)

pub returns : goal.returns
returns g c =
    let e = arg_is (expr_at g.N.ExprBuilder.functions c.args.self.now.depth) (g.N.Input.Tokens.place c.args.tokens.now) in
    let b : eaten mul (g.N.Input.Tokens.place c.args.tokens.now) ≡ got false (g.N.Input.Tokens.place c.eat.new.self) = c.in_ok-eat.ensures ∙ ap (λ x. got x (g.N.Input.Tokens.place c.eat.new.self)) c.if-branch.false in
    let d : eaten pow (g.N.Input.Tokens.place c.eat.new.self) ≡ got false (g.N.Input.Tokens.place c.eat-2.new.self) = c.in_ok-eat-2.ensures ∙ ap (λ x. got x (g.N.Input.Tokens.place c.eat-2.new.self)) c.if-branch-2.false in
    rw (e, b, d, c.in_ok-expr.ensures) c.rest_of_arg.ensures
