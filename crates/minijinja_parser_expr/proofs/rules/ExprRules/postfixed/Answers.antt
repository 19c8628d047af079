use Rattle.std.proofs.Common.{rules, ◌∙◌, refl, sym}
use Rattle.minijinja_grammar.specs.internal.ExprForms.{below}
use Rattle.minijinja_parser_expr.proofs.Operands.{postfixed_done, postfixed_is, postfixed_more, turn_shorter}
use Rattle.minijinja_parser_expr.proofs.rules.ExprRules.postfixed.Goals as goal

pub returns-in_err-expr : goal.returns-in_err-expr
returns-in_err-expr g c =
    let f = g.N.ExprBuilder.functions in let d = c.args.self.now.depth in
    rw (postfixed_is f (below f d) (g.N.Input.Tokens.place c.args.tokens.now)) (search rules)

pub returns-in_err-expr-2 : goal.returns-in_err-expr-2
returns-in_err-expr-2 g c =
    let f = g.N.ExprBuilder.functions in let d = c.args.self.now.depth in
    let e = c.loop-from.invariant ∙ postfixed_more f (below f d) (g.N.ExprBuilder.tree c.loop-from.expr) c.loop-from.from (g.N.Input.Tokens.place c.loop-from.tokens) (sym c.loop-from-test.ensures) in
    rw e (search rules)

pub loop-from-smaller : goal.loop-from-smaller
loop-from-smaller g c = turn_shorter _ _ _ _ c.in_ok-expr-2.ensures

pub loop-from-preserved : goal.loop-from-preserved
loop-from-preserved g c =
    let f = g.N.ExprBuilder.functions in let d = c.args.self.now.depth in
    let e = c.loop-from.invariant ∙ postfixed_more f (below f d) (g.N.ExprBuilder.tree c.loop-from.expr) c.loop-from.from (g.N.Input.Tokens.place c.loop-from.tokens) (sym c.loop-from-test.ensures) in
    e ∙ rw (c.in_ok-expr-2.ensures, c.current_span-begin.ensures) refl

pub returns : goal.returns
returns g c =
    let f = g.N.ExprBuilder.functions in let d = c.args.self.now.depth in
    c.loop-from.invariant ∙ postfixed_done f (below f d) (g.N.ExprBuilder.tree c.loop-from.expr) c.loop-from.from (g.N.Input.Tokens.place c.loop-from.tokens) (sym c.loop-from-test.ensures)
