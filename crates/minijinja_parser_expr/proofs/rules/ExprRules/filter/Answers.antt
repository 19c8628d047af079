use Rattle.std.proofs.Common.{rules}
use Rattle.minijinja_grammar.specs.internal.ExprForms.{below}
use Rattle.minijinja_parser_expr.proofs.Following.{filter_is}
use Rattle.minijinja_parser_expr.proofs.rules.ExprRules.filter.Goals as goal

pub returns-in_err-name : goal.returns-in_err-name
returns-in_err-name g c =
    let f = g.N.ExprBuilder.functions in let d = c.args.self.now.depth in
    rw (filter_is f (below f d) (g.N.ExprBuilder.tree c.args.expr) (g.N.Input.Tokens.place c.args.tokens.now)) (search rules)

pub returns-in_err-args : goal.returns-in_err-args
returns-in_err-args g c =
    let f = g.N.ExprBuilder.functions in let d = c.args.self.now.depth in
    let e = filter_is f (below f d) (g.N.ExprBuilder.tree c.args.expr) (g.N.Input.Tokens.place c.args.tokens.now) in
    rw (e, c.in_ok-name.ensures) (search rules)

pub returns : goal.returns
returns g c =
    let f = g.N.ExprBuilder.functions in let d = c.args.self.now.depth in
    let e = filter_is f (below f d) (g.N.ExprBuilder.tree c.args.expr) (g.N.Input.Tokens.place c.args.tokens.now) in
    rw (e, c.in_ok-name.ensures, c.in_ok-args.ensures, ← c.current_span-from.ensures) c.spanned.ensures
