use Rattle.std.proofs.Common.{◌≡◌, [], length, map}
use Rattle.minijinja_grammar.specs.internal.Forms.{reads}
use Rattle.minijinja_grammar.specs.internal.ExprForms.{expr_at}
use Rattle.minijinja_grammar.specs.internal.StmtForms as form
use Rattle.minijinja_parser_stmt.specs.private.Macros.{param_items}
use Rattle.minijinja_parser_stmt.specs.internal.Made.{param_of}
use Rattle.minijinja_parser_stmt.proofs.rules.macros.param_items.Given as goal

-- reading the arguments after those so far comes to what reading all comes to
abbrev pub invariant-loop-builder : goal.invariant-loop-builder
invariant-loop-builder g l =
    let v = param_of g.S.StmtBuilder.tree in
    let items = param_items (expr_at g.S.StmtBuilder.functions l.depth) in
    record {
      same : reads (items []) (g.S.Input.Tokens.place l.fn.tokens) ≡ reads (items (map v l.params.items)) (g.S.Input.Tokens.place l.tokens);
      flag : l.has_default ≡ form.have_default (map v l.params.items);
    }

abbrev pub decreases-loop-builder : goal.decreases-loop-builder
decreases-loop-builder g l = length (g.S.Input.Tokens.place l.tokens).tokens
