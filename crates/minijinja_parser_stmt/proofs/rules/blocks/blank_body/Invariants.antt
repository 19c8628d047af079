use Rattle.std.proofs.Common.{◌≡◌, [], length, map}
use Rattle.minijinja_grammar.specs.internal.Forms.{reads}
use Rattle.minijinja_parser_stmt.specs.private.Blanks.{rest_of_blank}
use Rattle.minijinja_parser_stmt.proofs.rules.blocks.blank_body.Given as goal

-- reading the rest after the parts so far comes to what reading all comes to
abbrev pub invariant-loop-builder : goal.invariant-loop-builder
invariant-loop-builder g l = reads (rest_of_blank []) (g.S.Input.Tokens.place l.initial.tokens) ≡ reads (rest_of_blank (map g.S.StmtBuilder.stmt l.parts.items)) (g.S.Input.Tokens.place l.tokens)

abbrev pub decreases-loop-builder : goal.decreases-loop-builder
decreases-loop-builder g l = length (g.S.Input.Tokens.place l.tokens).tokens
