use Rattle.std.proofs.Common.{◌≡◌, [], length, map}
use Rattle.minijinja_grammar.specs.internal.Forms.{reads}
use Rattle.minijinja_parser_tokens.specs.internal.Marks.{ends_view}
use Rattle.minijinja_parser_stmt.specs.private.Bodies.{rest_of_body}
use Rattle.minijinja_parser_stmt.specs.private.Parses.{context_of}
use Rattle.minijinja_parser_stmt.proofs.rules.StmtRules.body.Given as goal

-- reading the rest after the parts so far comes to what reading all comes to
abbrev pub invariant-loop-ends : goal.invariant-loop-ends
invariant-loop-ends g l =
    let body = rest_of_body g.S.StmtBuilder.functions (context_of l.self.context) l.self.depth (ends_view l.ends) in
    reads (body []) (g.S.Input.Tokens.place l.initial.tokens) ≡ reads (body (map g.S.StmtBuilder.stmt l.parts.items)) (g.S.Input.Tokens.place l.tokens)

abbrev pub decreases-loop-ends : goal.decreases-loop-ends
decreases-loop-ends g l = length (g.S.Input.Tokens.place l.tokens).tokens
