-- Bodies, as they are read a part at a time.
use Rattle.std.specs.Prelude.{ℕ, List, [], ◌∷◌, ◌++◌, Option, Some, None, if◌then◌else◌}
use Rattle.minijinja_syntax.specs.Tokens.{template_data, variable_start, block_start}
use Rattle.minijinja_syntax.specs.Streams.{SpannedTok}
use Rattle.minijinja_value.specs.Values.{Functions}
use Rattle.minijinja_tree.specs.SpannedTrees.{Stmt, data_text}
use Rattle.minijinja_grammar.specs.internal.Forms.{Form, Read, Turn, go_on, over, got, many, misfit, read_then, reads}
use Rattle.minijinja_grammar.specs.Places.{Place}
use Rattle.minijinja_grammar.specs.Ahead.{comes}
use Rattle.minijinja_grammar.specs.internal.ExprForms.{expr_at}
use Rattle.minijinja_grammar.specs.Statements.{Context, Ends, ends_body}
use Rattle.minijinja_grammar.specs.internal.StmtForms.{any_token, part, shown, stmt_at, tag}

-- what was read, as a part
abbrev pub some_of : {C : Type 0} → Read (Stmt C) → Read (Option (Stmt C))
some_of o = read_then o (λ s q. got (Some s) q)

-- a part, after its first token; none where that begins the word that the body ends at
abbrev pub piece : {C F : Type 0} → Functions C F → Context → ℕ → Ends → SpannedTok → Place → Read (Option (Stmt C))
piece f c d ends (template_data t, s) p = got (Some (data_text t s)) p
piece f c d ends (variable_start, s) p = some_of (reads (shown (expr_at f d) s) p)
piece f c d ends (block_start, s) p = if comes (ends_body ends) p.tokens then got None p else some_of (reads (tag (stmt_at f c d)) p)
piece f c d ends _ p = misfit p p.tokens

-- the rest of a body, after these parts
abbrev pub rest_of_body : {C F : Type 0} → Functions C F → Context → ℕ → Ends → List (Stmt C) → Form (List (Stmt C))
rest_of_body f c d ends = many any_token (part (expr_at f d) (stmt_at f c d) ends)

-- what a part makes of those before it
abbrev pub with_part : {C : Type 0} → List (Stmt C) → Option (Stmt C) → Turn (List (Stmt C))
with_part ss None = over ss
with_part ss (Some s) = go_on (ss ++ s ∷ [])

-- after a part the rest of the body comes, and after the last one nothing
abbrev pub further : {C F : Type 0} → Functions C F → Context → ℕ → Ends → List (Stmt C) → Option (Stmt C) → Place → Read (List (Stmt C))
further f c d ends ss None p = got ss p
further f c d ends ss (Some s) p = reads (rest_of_body f c d ends (ss ++ s ∷ [])) p
