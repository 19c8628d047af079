-- How commands are read from words.
use Rattle.std.specs.Prelude.{◌≡◌, ◌⊎◌, List, [], ◌∷◌, codes}
use Rattle.std.specs.List.{All}
use Rattle.std.specs.Borrow.{Bor}
use Rattle.minijinja_syntax.specs.Texts.{Text}
use Rattle.mjc_commands.specs.Settings.{texts}
use Rattle.mjc_commands.specs.Usage.{Task, expression, Request, Asks, Mark, bare, AreApart, IsFile, command_word, path_words, paths_of}

-- the first of these words may name a file, or it is `--`: they begin with no option
abbrev pub BeginWithFile : List Text → Type 0
BeginWithFile [] = ⊥
BeginWithFile (word ∷ rest) = IsFile bare word ⊎ (word ≡ codes "--")

-- the words name these paths
pub data Name (words paths : List Text) : Type 0 where
  stands : (mark : Mark) → words ≡ path_words mark paths → All (IsFile mark) paths → Name words paths

-- the task is on a template
abbrev pub IsOnTemplate : Task → Type 0
IsOnTemplate expression = ⊥
IsOnTemplate _ = Unit {0}

-- the words ask for something of a template
pub record IsTemplateUsage (args : List (Bor Text)) : Type 0 where
  pub request : Request
  pub asks : Asks args request
  pub template : IsOnTemplate request.task

-- the words ask for the code of the expression that standard input holds
abbrev pub AsksInput : List (Bor Text) → Type 0
AsksInput args = texts args ≡ codes "expr" ∷ codes "-" ∷ []

-- what they ask for
abbrev pub input_request : Request
input_request = record { task = expression; settings = []; mark = bare; file = codes "-" }

-- a word and paths ask for a task on a template
pub record IsActionOn (word : Text) (paths : List Text) (task : Task) (file : Text) : Type 0 where
  pub template : IsOnTemplate task
  pub named : word ≡ command_word task
  pub listed : paths ≡ paths_of task file
  pub apart : AreApart task file
