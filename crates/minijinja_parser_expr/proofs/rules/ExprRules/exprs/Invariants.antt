use Rattle.std.proofs.Common.{◌≡◌, length, map}
use Rattle.minijinja_grammar.specs.internal.Forms.{reads}
use Rattle.minijinja_grammar.specs.internal.ExprForms as form
use Rattle.minijinja_grammar.specs.internal.ExprForms.{expr_at}
use Rattle.minijinja_parser_expr.proofs.rules.ExprRules.exprs.Given as goal

-- reading the others after those so far comes to what reading all comes to
abbrev pub invariant-loop-items : goal.invariant-loop-items
invariant-loop-items g l =
    let c = g.N.ExprBuilder.tree in
    let exprs = form.exprs (expr_at g.N.ExprBuilder.functions l.self.depth) in
    reads (exprs (map c l.initial.items.items)) (g.N.Input.Tokens.place l.initial.tokens) ≡ reads (exprs (map c l.items.items)) (g.N.Input.Tokens.place l.tokens)

abbrev pub decreases-loop-items : goal.decreases-loop-items
decreases-loop-items g l = length (g.N.Input.Tokens.place l.tokens).tokens
