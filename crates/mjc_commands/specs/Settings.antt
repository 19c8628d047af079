-- The options of a command: their words, and the syntax that they specify.
use Rattle.std.specs.Prelude.{List, [], ◌∷◌, map, true, codes}
use Rattle.std.specs.List.{fold}
use Rattle.std.specs.Borrow.{Bor}
use Rattle.minijinja_syntax.specs.Texts.{Text}
use Rattle.minijinja_syntax.specs.Syntax.{Syntax, default_syntax}

-- words without where they lie in memory
abbrev pub texts : List (Bor Text) → List Text
texts words = map (λ word. word.now) words

-- what an option says: the start and the end of a tag, a prefix, or a flag
pub data Setting : Type 0 where
  block variable comment : (start stop : Text) → Setting
  line_statement line_comment : (prefix : Text) → Setting
  trim_blocks lstrip_blocks keep_newline : Setting

-- the option as it is written; what stands after its first word is taken as it is
abbrev pub words_of : Setting → List Text
words_of (block start stop) = codes "--block" ∷ start ∷ stop ∷ []
words_of (variable start stop) = codes "--variable" ∷ start ∷ stop ∷ []
words_of (comment start stop) = codes "--comment" ∷ start ∷ stop ∷ []
words_of (line_statement prefix) = codes "--line-statement" ∷ prefix ∷ []
words_of (line_comment prefix) = codes "--line-comment" ∷ prefix ∷ []
words_of trim_blocks = codes "--trim-blocks" ∷ []
words_of lstrip_blocks = codes "--lstrip-blocks" ∷ []
words_of keep_newline = codes "--keep-newline" ∷ []

-- the syntax with what the option says
abbrev pub with_setting : Syntax → Setting → Syntax
with_setting s (block start stop) = record s { block_start = start; block_end = stop }
with_setting s (variable start stop) = record s { variable_start = start; variable_end = stop }
with_setting s (comment start stop) = record s { comment_start = start; comment_end = stop }
with_setting s (line_statement prefix) = record s { line_statement = prefix }
with_setting s (line_comment prefix) = record s { line_comment = prefix }
with_setting s trim_blocks = record s { trim_blocks = true }
with_setting s lstrip_blocks = record s { lstrip_blocks = true }
with_setting s keep_newline = record s { keep_trailing_newline = true }

-- what options ask for: each is heeded in turn, so that of a repeated one the last counts
abbrev pub syntax_with : List Setting → Syntax
syntax_with settings = fold with_setting default_syntax settings
