use Rattle.std.proofs.Common.{rules, ◌≡◌, ◌∙◌, true, false, Some, None, refl, sym, ap}
use Rattle.minijinja_syntax.specs.Tokens.{assign}
use Rattle.minijinja_grammar.specs.internal.Forms.{got, reads}
use Rattle.minijinja_grammar.specs.internal.ExprForms as form
use Rattle.minijinja_grammar.specs.internal.ExprForms.{expr_at, name_of_variable}
use Rattle.minijinja_parser_tokens.specs.internal.Reads.{eaten}
use Rattle.minijinja_parser_expr.specs.private.Made.{argument_of}
use Rattle.minijinja_parser_expr.proofs.CallArgs.{named_none, named_some, rest_of_arg_is}
use Rattle.minijinja_parser_expr.proofs.Refused.{refuses}
use Rattle.minijinja_parser_expr.proofs.rules.ExprRules.rest_of_arg.Goals as goal

pub returns-in_err-eat : goal.returns-in_err-eat
returns-in_err-eat g c =
    rw (rest_of_arg_is (expr_at g.N.ExprBuilder.functions c.args.self.now.depth) (g.N.ExprBuilder.tree c.args.expr) (g.N.Input.Tokens.place c.args.tokens.now)) (search rules)

pub returns-then-not-branch : goal.returns-then-not-branch
returns-then-not-branch g c =
    let p = g.N.Input.Tokens.place c.args.tokens.now in let q = g.N.Input.Tokens.place c.eat.new.self in
    let b : eaten assign p ≡ got false q = c.in_ok-eat.ensures ∙ ap (λ x. got x q) c.if-not-branch.true in
    rw (rest_of_arg_is (expr_at g.N.ExprBuilder.functions c.args.self.now.depth) (g.N.ExprBuilder.tree c.args.expr) p, b) refl

pub returns-in_default : goal.returns-in_default
returns-in_default g c =
    let v = g.N.ExprBuilder.tree in let expr = expr_at g.N.ExprBuilder.functions c.args.self.now.depth in
    let p = g.N.Input.Tokens.place c.args.tokens.now in let q = g.N.Input.Tokens.place c.eat.new.self in
    let b : eaten assign p ≡ got true q = c.in_ok-eat.ensures ∙ ap (λ x. got x q) c.if-not-branch.false in
    let n : name_of_variable (v c.args.expr) ≡ None = sym c.in_default.ensures in
    refuses (argument_of g.N.ExprBuilder.text v) (reads (form.rest_of_arg expr (v c.args.expr)) p) q c.misfit.result (named_none expr (v c.args.expr) p q b n) c.misfit.ensures

pub returns-in_err-nested : goal.returns-in_err-nested
returns-in_err-nested g c =
    let v = g.N.ExprBuilder.tree in let expr = expr_at g.N.ExprBuilder.functions c.args.self.now.depth in
    let p = g.N.Input.Tokens.place c.args.tokens.now in let q = g.N.Input.Tokens.place c.eat.new.self in
    let b : eaten assign p ≡ got true q = c.in_ok-eat.ensures ∙ ap (λ x. got x q) c.if-not-branch.false in
    let n : name_of_variable (v c.args.expr) ≡ Some (g.N.ExprBuilder.text c.in-Some.name) = sym c.in-Some.ensures in
    rw (named_some expr (v c.args.expr) (g.N.ExprBuilder.text c.in-Some.name) p q b n) (search rules)

pub returns : goal.returns
returns g c =
    let v = g.N.ExprBuilder.tree in let expr = expr_at g.N.ExprBuilder.functions c.args.self.now.depth in
    let p = g.N.Input.Tokens.place c.args.tokens.now in let q = g.N.Input.Tokens.place c.eat.new.self in
    let b : eaten assign p ≡ got true q = c.in_ok-eat.ensures ∙ ap (λ x. got x q) c.if-not-branch.false in
    let n : name_of_variable (v c.args.expr) ≡ Some (g.N.ExprBuilder.text c.in-Some.name) = sym c.in-Some.ensures in
    rw (named_some expr (v c.args.expr) (g.N.ExprBuilder.text c.in-Some.name) p q b n, c.in_ok-nested.ensures) refl
