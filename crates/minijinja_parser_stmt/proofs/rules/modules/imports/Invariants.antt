use Rattle.std.proofs.Common.{◌≡◌, length, map}
use Rattle.minijinja_grammar.specs.internal.Forms.{reads}
use Rattle.minijinja_grammar.specs.internal.StmtForms as form
use Rattle.minijinja_parser_stmt.specs.internal.Made.{name_of}
use Rattle.minijinja_parser_stmt.proofs.Imports.{more_imports}
use Rattle.minijinja_parser_stmt.proofs.rules.modules.imports.Given as goal

-- reading the names after those so far comes to what reading all comes to
abbrev pub invariant-loop-names : goal.invariant-loop-names
invariant-loop-names g l =
    reads form.imports (g.S.Input.Tokens.place l.fn.tokens) ≡ more_imports (map (name_of g.S.StmtBuilder.tree) l.names.items) (g.S.Input.Tokens.place l.tokens)

abbrev pub decreases-loop-names : goal.decreases-loop-names
decreases-loop-names g l = length (g.S.Input.Tokens.place l.tokens).tokens
