use Rattle.std.proofs.Common.{◌≡◌, length}
use Rattle.minijinja_grammar.specs.internal.Forms.{reads}
use Rattle.minijinja_grammar.specs.internal.ExprForms as form
use Rattle.minijinja_grammar.specs.internal.ExprForms.{below}
use Rattle.minijinja_parser_expr.proofs.Operands.{postfixes}
use Rattle.minijinja_parser_expr.proofs.rules.ExprRules.postfixed.Given as goal

abbrev pub invariant-loop-from : goal.invariant-loop-from
invariant-loop-from g l =
    let f = g.N.ExprBuilder.functions in let d = l.self.depth in
    reads (form.postfixed f (below f d)) (g.N.Input.Tokens.place l.fn.tokens) ≡
    postfixes f (below f d) (g.N.ExprBuilder.tree l.expr) l.from (g.N.Input.Tokens.place l.tokens)

abbrev pub decreases-loop-from : goal.decreases-loop-from
decreases-loop-from g l = length (g.N.Input.Tokens.place l.tokens).tokens
