use Rattle.std.proofs.Common.{◌≡◌, [], length, map}
use Rattle.minijinja_grammar.specs.internal.Forms.{reads}
use Rattle.minijinja_grammar.specs.internal.ExprForms as form
use Rattle.minijinja_grammar.specs.internal.ExprForms.{expr_at, has_named}
use Rattle.minijinja_parser_expr.proofs.rules.ExprRules.arg_items.Given as goal

-- reading the others after those so far comes to what reading all comes to
abbrev pub invariant-loop-tokens : goal.invariant-loop-tokens
invariant-loop-tokens g l =
    let args = map g.N.ExprBuilder.arg l.args.items in
    let items = form.arg_items (expr_at g.N.ExprBuilder.functions l.self.depth) in
    record {
      read : reads (items []) (g.N.Input.Tokens.place l.initial.tokens) ≡ reads (items args) (g.N.Input.Tokens.place l.tokens);
      named : has_named args ≡ l.named;
    }

abbrev pub decreases-loop-tokens : goal.decreases-loop-tokens
decreases-loop-tokens g l = length (g.N.Input.Tokens.place l.tokens).tokens
