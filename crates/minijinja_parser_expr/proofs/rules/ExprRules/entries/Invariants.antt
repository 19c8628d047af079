use Rattle.std.proofs.Common.{◌≡◌, [], length, map}
use Rattle.minijinja_grammar.specs.internal.Forms.{reads}
use Rattle.minijinja_grammar.specs.internal.ExprForms as form
use Rattle.minijinja_grammar.specs.internal.ExprForms.{expr_at}
use Rattle.minijinja_parser_expr.proofs.rules.ExprRules.entries.Given as goal

-- reading the others after those so far comes to what reading all comes to
abbrev pub invariant-loop-keys : goal.invariant-loop-keys
invariant-loop-keys g l =
    let c = g.N.ExprBuilder.tree in
    let entries = form.entries (expr_at g.N.ExprBuilder.functions l.self.depth) in
    reads (entries ([], [])) (g.N.Input.Tokens.place l.initial.tokens) ≡ reads (entries (map c l.keys.items, map c l.values.items)) (g.N.Input.Tokens.place l.tokens)

abbrev pub decreases-loop-keys : goal.decreases-loop-keys
decreases-loop-keys g l = length (g.N.Input.Tokens.place l.tokens).tokens
