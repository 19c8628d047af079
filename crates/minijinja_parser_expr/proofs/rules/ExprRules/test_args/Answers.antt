use Rattle.std.proofs.Common.{rules, ◌≡◌, ◌∙◌, true, false, ap, sym}
use Rattle.minijinja_syntax.specs.Tokens.{paren_open}
use Rattle.minijinja_grammar.specs.internal.Forms.{got}
use Rattle.minijinja_grammar.specs.internal.ExprForms.{below}
use Rattle.minijinja_parser_tokens.specs.internal.Reads.{eaten}
use Rattle.minijinja_parser_expr.proofs.Following.{test_args_is}
use Rattle.minijinja_parser_expr.proofs.rules.ExprRules.test_args.Goals as goal

pub returns-in_err-eat : goal.returns-in_err-eat
returns-in_err-eat g c =
    rw (test_args_is g.N.ExprBuilder.functions (below g.N.ExprBuilder.functions c.args.self.now.depth) (g.N.Input.Tokens.place c.args.tokens.now)) (search rules)

pub returns-then-branch : goal.returns-then-branch
returns-then-branch g c =
    let e = test_args_is g.N.ExprBuilder.functions (below g.N.ExprBuilder.functions c.args.self.now.depth) (g.N.Input.Tokens.place c.args.tokens.now) in
    let b : eaten paren_open (g.N.Input.Tokens.place c.args.tokens.now) ≡ got true (g.N.Input.Tokens.place c.eat.new.self) = c.in_ok-eat.ensures ∙ ap (λ x. got x (g.N.Input.Tokens.place c.eat.new.self)) c.if-branch.true in
    rw (e, b) (search rules)

pub returns-in_err-operand : goal.returns-in_err-operand
returns-in_err-operand g c =
    let e = test_args_is g.N.ExprBuilder.functions (below g.N.ExprBuilder.functions c.args.self.now.depth) (g.N.Input.Tokens.place c.args.tokens.now) in
    let b : eaten paren_open (g.N.Input.Tokens.place c.args.tokens.now) ≡ got false (g.N.Input.Tokens.place c.eat.new.self) = c.in_ok-eat.ensures ∙ ap (λ x. got x (g.N.Input.Tokens.place c.eat.new.self)) c.if-branch.false in
    let k = sym c.begins.ensures ∙ c.if-begins.true in
    rw (e, b, k) (search rules)
