use Rattle.std.proofs.Common.{◌≡◌, length, map}
use Rattle.minijinja_grammar.specs.internal.Forms.{reads}
use Rattle.minijinja_grammar.specs.internal.ExprForms.{expr_at}
use Rattle.minijinja_grammar.specs.internal.StmtForms as form
use Rattle.minijinja_parser_stmt.specs.internal.Made.{binding_of}
use Rattle.minijinja_parser_stmt.proofs.Bindings.{more_bindings}
use Rattle.minijinja_parser_stmt.proofs.rules.scopes.bindings.Given as goal

-- reading the bindings after those so far comes to what reading all comes to
abbrev pub invariant-loop-bindings : goal.invariant-loop-bindings
invariant-loop-bindings g l =
    reads (form.bindings (form.bound_target l.depth) (expr_at g.S.StmtBuilder.functions l.depth)) (g.S.Input.Tokens.place l.fn.tokens) ≡
    more_bindings (form.bound_target l.depth) (expr_at g.S.StmtBuilder.functions l.depth) (map (binding_of g.S.StmtBuilder.tree) l.bindings.items) (g.S.Input.Tokens.place l.tokens)

abbrev pub decreases-loop-bindings : goal.decreases-loop-bindings
decreases-loop-bindings g l = length (g.S.Input.Tokens.place l.tokens).tokens
