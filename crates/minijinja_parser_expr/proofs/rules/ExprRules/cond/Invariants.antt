use Rattle.std.proofs.Common.{◌≡◌, length}
use Rattle.minijinja_grammar.specs.internal.Forms.{reads}
use Rattle.minijinja_grammar.specs.internal.ExprForms.{below, cond_level, expr_at}
use Rattle.minijinja_parser_tokens.specs.declared.operators.Level.TheVariants as level
use Rattle.minijinja_parser_expr.specs.private.Levels.{level_at}
use Rattle.minijinja_parser_expr.proofs.Ifs.{ifs}
use Rattle.minijinja_parser_expr.proofs.rules.ExprRules.cond.Given as goal

-- reading the ifs after the expression so far comes to what reading all comes to
abbrev pub invariant-loop-from : goal.invariant-loop-from
invariant-loop-from g l =
    let f = g.N.ExprBuilder.functions in let d = l.self.depth in
    reads (cond_level f (below f d)) (g.N.Input.Tokens.place l.fn.tokens) ≡
    ifs (level_at f d level.Or) (expr_at f d) (g.N.ExprBuilder.tree l.expr) l.from (g.N.Input.Tokens.place l.tokens)

abbrev pub decreases-loop-from : goal.decreases-loop-from
decreases-loop-from g l = length (g.N.Input.Tokens.place l.tokens).tokens
