use Rattle.std.proofs.Common.{◌≡◌, length}
use Rattle.minijinja_grammar.specs.internal.Forms.{reads}
use Rattle.minijinja_grammar.specs.internal.ExprForms as form
use Rattle.minijinja_grammar.specs.internal.ExprForms.{below}
use Rattle.minijinja_parser_expr.proofs.Operands.{suffixes}
use Rattle.minijinja_parser_expr.proofs.rules.ExprRules.suffixed.Given as goal

abbrev pub invariant-loop-tokens : goal.invariant-loop-tokens
invariant-loop-tokens g l =
    let f = g.N.ExprBuilder.functions in let d = l.self.depth in
    reads (form.unary_level f (below f d)) (g.N.Input.Tokens.place l.fn.tokens) ≡
    reads (suffixes f (below f d) (g.N.ExprBuilder.tree l.expr)) (g.N.Input.Tokens.place l.tokens)

abbrev pub decreases-loop-tokens : goal.decreases-loop-tokens
decreases-loop-tokens g l = length (g.N.Input.Tokens.place l.tokens).tokens
