-- Parts of the statements on other templates.
use Rattle.std.specs.Prelude.{Bool, true, false}
use Rattle.minijinja_grammar.specs.Words.{ignore_word, missing_word}
use Rattle.minijinja_grammar.specs.internal.Forms.{Form, pure, ◌>>◌}
use Rattle.minijinja_grammar.specs.internal.ExprForms.{behind, next}
use Rattle.minijinja_grammar.specs.internal.StmtForms.{context_unless}

-- "ignore" "missing", and a context after it, unless one stood before
abbrev pub ignored_if_any : Bool → Form Bool
ignored_if_any had = behind ignore_word (next missing_word >> context_unless had >> pure true) (pure false)
