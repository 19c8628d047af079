use Rattle.std.proofs.Common.{◌≡◌, length}
use Rattle.minijinja_grammar.specs.internal.Forms.{reads}
use Rattle.minijinja_grammar.specs.internal.ExprForms.{expr_at}
use Rattle.minijinja_grammar.specs.internal.StmtForms as form
use Rattle.minijinja_parser_expr.proofs.FilterChains.{links}
use Rattle.minijinja_parser_expr.proofs.rules.in_statements.chain.Given as goal

-- reading the filters after those so far comes to what reading all comes to
abbrev pub invariant-loop-rules : goal.invariant-loop-rules
invariant-loop-rules g l =
    reads (form.chain (expr_at g.N.ExprBuilder.functions l.depth)) (g.N.Input.Tokens.place l.fn.tokens) ≡
    links (expr_at g.N.ExprBuilder.functions l.depth) (g.N.ExprBuilder.tree l.chain) (g.N.Input.Tokens.place l.tokens)

abbrev pub decreases-loop-rules : goal.decreases-loop-rules
decreases-loop-rules g l = length (g.N.Input.Tokens.place l.tokens).tokens
