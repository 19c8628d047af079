use Rattle.std.proofs.Common.{rules, ◌∙◌, refl, sym}
use Rattle.minijinja_grammar.specs.internal.ExprForms.{below}
use Rattle.minijinja_parser_expr.proofs.Operands.{suffixed_done, suffixed_is, suffixed_more, turn_shorter}
use Rattle.minijinja_parser_expr.proofs.rules.ExprRules.suffixed.Goals as goal

pub returns-in_err-expr : goal.returns-in_err-expr
returns-in_err-expr g c =
    let f = g.N.ExprBuilder.functions in let d = c.args.self.now.depth in
    rw (suffixed_is f (below f d) (g.N.Input.Tokens.place c.args.tokens.now)) (search rules)

pub returns-in_err-expr-2 : goal.returns-in_err-expr-2
returns-in_err-expr-2 g c =
    let f = g.N.ExprBuilder.functions in let d = c.args.self.now.depth in
    let e = c.loop-tokens.invariant ∙ suffixed_more f (below f d) (g.N.ExprBuilder.tree c.loop-tokens.expr) (g.N.Input.Tokens.place c.loop-tokens.tokens) (sym c.loop-tokens-test.ensures) in
    rw e (search rules)

pub loop-tokens-smaller : goal.loop-tokens-smaller
loop-tokens-smaller g c = turn_shorter _ _ _ _ c.in_ok-expr-2.ensures

pub loop-tokens-preserved : goal.loop-tokens-preserved
loop-tokens-preserved g c =
    let f = g.N.ExprBuilder.functions in let d = c.args.self.now.depth in
    let e = c.loop-tokens.invariant ∙ suffixed_more f (below f d) (g.N.ExprBuilder.tree c.loop-tokens.expr) (g.N.Input.Tokens.place c.loop-tokens.tokens) (sym c.loop-tokens-test.ensures) in
    e ∙ rw c.in_ok-expr-2.ensures refl

pub returns : goal.returns
returns g c =
    let f = g.N.ExprBuilder.functions in let d = c.args.self.now.depth in
    c.loop-tokens.invariant ∙ suffixed_done f (below f d) (g.N.ExprBuilder.tree c.loop-tokens.expr) (g.N.Input.Tokens.place c.loop-tokens.tokens) (sym c.loop-tokens-test.ensures)
