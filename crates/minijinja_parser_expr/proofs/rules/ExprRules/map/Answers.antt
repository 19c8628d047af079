use Rattle.std.proofs.Common.{rules}
use Rattle.minijinja_grammar.specs.internal.ExprForms.{expr_at}
use Rattle.minijinja_parser_expr.proofs.Following.{in_braces_is}
use Rattle.minijinja_parser_expr.proofs.rules.ExprRules.map.Goals as goal

pub returns-in_err-keys : goal.returns-in_err-keys
returns-in_err-keys g c =
    rw (in_braces_is (expr_at g.N.ExprBuilder.functions c.args.self.now.depth) c.args.from (g.N.Input.Tokens.place c.args.tokens.now)) (search rules)

pub returns-in_err-expect : goal.returns-in_err-expect
returns-in_err-expect g c =
    let e = in_braces_is (expr_at g.N.ExprBuilder.functions c.args.self.now.depth) c.args.from (g.N.Input.Tokens.place c.args.tokens.now) in
    rw (e, c.in_ok-keys.ensures) (search rules)

pub returns : goal.returns
returns g c =
    let e = in_braces_is (expr_at g.N.ExprBuilder.functions c.args.self.now.depth) c.args.from (g.N.Input.Tokens.place c.args.tokens.now) in
    rw (e, c.in_ok-keys.ensures, c.in_ok-expect.ensures) c.spanned.ensures
