use Rattle.minijinja_grammar.specs.internal.Forms.{reads}
use Rattle.minijinja_grammar.specs.internal.ExprForms.{below}
use Rattle.minijinja_parser_expr.specs.private.Nests.{nested_in}
use Rattle.minijinja_parser_expr.proofs.Nested.{expr_is, negated_is, none_is, opposite_is, power_is}
use Rattle.minijinja_parser_expr.proofs.Refused.{refuses}
use Rattle.minijinja_parser_expr.proofs.rules.nested.+nested.Goals as goal

pub returns-then-depth-eq0 : goal.returns-then-depth-eq0
returns-then-depth-eq0 g t c =
    let f = g.N.ExprBuilder.functions in let p = g.N.Input.Tokens.place c.args.tokens.now in
    refuses g.N.ExprBuilder.tree (reads (nested_in c.args.nest (below f c.args.depth)) p) p c.misfit.result (none_is f c.args.nest c.args.depth p c.if-depth-eq0.true) c.misfit.ensures

pub returns-in-Expr : goal.returns-in-Expr
returns-in-Expr g t c = rw (expr_is g.N.ExprBuilder.functions c.args.nest c.args.depth (g.N.Input.Tokens.place c.args.tokens.now) c.in-Expr.is c.if-depth-eq0.false) c.cond.ensures

pub returns-in-Opposite : goal.returns-in-Opposite
returns-in-Opposite g t c = rw (opposite_is g.N.ExprBuilder.functions c.args.nest c.args.depth (g.N.Input.Tokens.place c.args.tokens.now) c.in-Opposite.is c.if-depth-eq0.false) c.level.ensures

pub returns-in-Power : goal.returns-in-Power
returns-in-Power g t c = rw (power_is g.N.ExprBuilder.functions c.args.nest c.args.depth (g.N.Input.Tokens.place c.args.tokens.now) c.in-Power.is c.if-depth-eq0.false) c.level-in-Power.ensures

pub returns-in-Negated : goal.returns-in-Negated
returns-in-Negated g t c = rw (negated_is g.N.ExprBuilder.functions c.args.nest c.args.depth (g.N.Input.Tokens.place c.args.tokens.now) c.in-Negated.is c.if-depth-eq0.false) c.operand.ensures
