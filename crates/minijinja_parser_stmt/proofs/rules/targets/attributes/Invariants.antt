use Rattle.std.proofs.Common.{◌≡◌, length}
use Rattle.minijinja_grammar.specs.internal.Forms.{reads}
use Rattle.minijinja_grammar.specs.internal.TargetForms as form
use Rattle.minijinja_parser_stmt.proofs.rules.targets.attributes.Given as goal

-- reading the attributes after those so far comes to what reading all comes to
abbrev pub invariant-loop-builder : goal.invariant-loop-builder
invariant-loop-builder g l =
    reads (form.attributes (g.S.StmtBuilder.tree l.fn.target)) (g.S.Input.Tokens.place l.fn.tokens) ≡
    reads (form.attributes (g.S.StmtBuilder.tree l.target)) (g.S.Input.Tokens.place l.tokens)

abbrev pub decreases-loop-builder : goal.decreases-loop-builder
decreases-loop-builder g l = length (g.S.Input.Tokens.place l.tokens).tokens
