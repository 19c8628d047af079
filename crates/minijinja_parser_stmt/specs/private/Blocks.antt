-- Parts of a block.
use Rattle.std.specs.Prelude.{Bool, true, false}
use Rattle.minijinja_syntax.specs.Texts.{Text}
use Rattle.minijinja_grammar.specs.Words.{endblock_word, required_word}
use Rattle.minijinja_grammar.specs.internal.Forms.{Form, pure, ◌>>=◌, ◌>>◌}
use Rattle.minijinja_grammar.specs.internal.ExprForms.{behind, next}
use Rattle.minijinja_grammar.specs.internal.StmtForms.{block_name, end_name, scoped_if_any}

-- Ident ["scoped"] ["required"]: the name, and whether it is required
abbrev pub block_head : Form (Text × Bool)
block_head = block_name >>= (λ x. scoped_if_any >> (behind required_word (pure true) (pure false) >>= (λ required. pure (x, required))))

-- "endblock" [Ident]
abbrev pub block_end : Text → Form (Unit {0})
block_end x = next endblock_word >> end_name x
