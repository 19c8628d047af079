-- Bodies of whitespace, as they are read a part at a time.
use Rattle.std.specs.Prelude.{List, ◌∷◌, ◌++◌, [], Option, Some, None, if◌then◌else◌}
use Rattle.minijinja_syntax.specs.Tokens.{template_data, block_start}
use Rattle.minijinja_syntax.specs.Streams.{SpannedTok}
use Rattle.minijinja_tree.specs.SpannedTrees.{Stmt, data_text}
use Rattle.minijinja_grammar.specs.internal.Forms.{Form, Read, got, many, misfit, reads}
use Rattle.minijinja_grammar.specs.Places.{Place}
use Rattle.minijinja_grammar.specs.internal.StmtForms.{any_token, blank_part}
use Rattle.minijinja_grammar.specs.Statements.{is_blank}

-- a part, after its first token; none where that begins a tag
abbrev pub blank_piece : {C : Type 0} → SpannedTok → Place → Read (Option (Stmt C))
blank_piece (template_data t, s) p = if is_blank t then got (Some (data_text t s)) p else misfit p p.tokens
blank_piece (block_start, s) p = got None p
blank_piece _ p = misfit p p.tokens

-- the rest of a body, after these parts
abbrev pub rest_of_blank : {C : Type 0} → List (Stmt C) → Form (List (Stmt C))
rest_of_blank = many any_token blank_part

-- after a part the rest of the body comes, and after the last one nothing
abbrev pub blank_further : {C : Type 0} → List (Stmt C) → Option (Stmt C) → Place → Read (List (Stmt C))
blank_further ss None p = got ss p
blank_further ss (Some s) p = reads (rest_of_blank (ss ++ s ∷ [])) p
