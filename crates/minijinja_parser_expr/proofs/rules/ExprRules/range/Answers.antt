use Rattle.std.specs.Option.{option_map}
use Rattle.std.proofs.lemmas.Result.{err_from_is_err_and}
use Rattle.minijinja_grammar.specs.internal.ExprForms.{expr_at}
use Rattle.minijinja_parser_expr.proofs.Following.{range_refused}
use Rattle.minijinja_parser_expr.proofs.rules.ExprRules.range.Goals as goal

pub returns-in_err-expect : goal.returns-in_err-expect
returns-in_err-expect g c =
    let contents = g.N.ExprBuilder.tree in
    let p = err_from_is_err_and c.from_residual-in_err-expect.result c.from_residual-in_err-expect.ensures.1 in
    rw (p.1, p.2) (range_refused (expr_at g.N.ExprBuilder.functions c.args.self.now.depth) (contents c.args.expr) c.args.from
    (option_map contents c.args.start) (option_map contents c.in_ok-stop.stop) (option_map contents c.in_ok-step.step) (g.N.Input.Tokens.place c.args.tokens.now) (g.N.Input.Tokens.place c.maybe_expr.new.tokens) (g.N.Input.Tokens.place c.step.new.tokens) (g.N.Input.Tokens.place c.expect.new.self)
    c.in_err-expect.field-0.0 c.in_ok-stop.ensures c.in_ok-step.ensures c.in_err-expect.ensures)
