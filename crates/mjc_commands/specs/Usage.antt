-- The command lines of `mjc`.
use Rattle.std.specs.Prelude.{◌≡◌, ◌≢◌, ◌⊎◌, List, [], ◌∷◌, ◌++◌, false, nat_eq, codes}
use Rattle.std.specs.List.{All, starts_with, flat_map}
use Rattle.std.specs.Borrow.{Bor}
use Rattle.minijinja_syntax.specs.Texts.{Text}
use Rattle.minijinja_syntax.specs.Syntax.{IsBuildable}
use Rattle.mjc_commands.specs.Settings.{Setting, texts, words_of, syntax_with}

-- how paths stand after options: bare, or marked by the word `--`, after which no word is an option
pub data Mark : Type 0 where
  bare marked : Mark

-- the words for paths
abbrev pub path_words : Mark → (paths : List Text) → List Text
path_words bare paths = paths
path_words marked paths = codes "--" ∷ paths

-- a word that may name a file: a bare one that begins with `--` is an option
abbrev pub IsFile : Mark → Text → Type 0
IsFile bare word = starts_with nat_eq word (codes "--") ≡ false
IsFile marked word = Unit {0}

-- what is shown of a file: its tokens, its code, the names that it needs from outside, what a
-- linter finds in it, the code of the expression that it is, or a run of its code on the answers
-- that the file of another path has
pub data Task : Type 0 where
  tokens code names lint expression : Task
  replay : (answers : Text) → Task

-- the task runs code on answers
abbrev pub IsReplay : Task → Type 0
IsReplay (replay answers) = Unit {0}
IsReplay _ = ⊥

-- the word of a command
abbrev pub command_word : Task → Text
command_word tokens = codes "tokens"
command_word code = codes "code"
command_word names = codes "names"
command_word lint = codes "lint"
command_word expression = codes "expr"
command_word (replay answers) = codes "replay"

-- the paths that a command ends with
abbrev pub paths_of : Task → (file : Text) → List Text
paths_of (replay answers) file = file ∷ answers ∷ []
paths_of _ file = file ∷ []

-- of the two files of a command, one at most is standard input
abbrev pub AreApart : Task → (file : Text) → Type 0
AreApart (replay answers) file = ¬ ((file ≡ codes "-") × (answers ≡ codes "-"))
AreApart _ file = Unit {0}

-- an expression is read from standard input, and the words for it are `expr -` alone
abbrev pub IsPlain : Task → List Setting → Mark → (file : Text) → Type 0
IsPlain expression settings mark file = (settings ≡ []) × (mark ≡ bare) × (file ≡ codes "-")
IsPlain _ settings mark file = Unit {0}

-- options and, after them, the words for paths
abbrev pub option_words : List Setting → (behind : List Text) → List Text
option_words settings behind = flat_map words_of settings ++ behind

-- what the program may be asked for
pub record Request : Type 0 where
  pub task : Task
  pub settings : List Setting
  pub mark : Mark
  pub file : Text

-- the words after the program's name are the command, its options and its paths
pub record Asks (args : List (Bor Text)) (request : Request) : Type 0 where
  pub words : texts args ≡ command_word request.task ∷ option_words request.settings (path_words request.mark (paths_of request.task request.file))
  pub files : All (IsFile request.mark) (paths_of request.task request.file)
  pub apart : AreApart request.task request.file
  pub plain : IsPlain request.task request.settings request.mark request.file

-- the words ask for something of a file
pub record IsFileUsage (args : List (Bor Text)) : Type 0 where
  pub request : Request
  pub asks : Asks args request

-- the words ask for what a linter finds
pub record IsLintUsage (args : List (Bor Text)) : Type 0 where
  pub request : Request
  pub asks : Asks args request
  pub lints : request.task ≡ lint

-- the words ask for a run on answers
pub record IsReplayUsage (args : List (Bor Text)) : Type 0 where
  pub request : Request
  pub asks : Asks args request
  pub replays : IsReplay request.task

-- the words ask for the code of the expression that this text is; `-` is none, but stands for
-- standard input
pub record AsksExpr (args : List (Bor Text)) (text : Text) : Type 0 where
  pub words : texts args ≡ codes "expr" ∷ text ∷ []
  pub stands : text ≢ codes "-"

-- the words ask for the code of an expression that stands in them
pub record IsExprUsage (args : List (Bor Text)) : Type 0 where
  pub text : Text
  pub asks : AsksExpr args text

-- the words ask how the program is used
abbrev pub AsksHelp : List (Bor Text) → Type 0
AsksHelp args = (texts args ≡ codes "--help" ∷ []) ⊎ (texts args ≡ codes "-h" ∷ []) ⊎ (texts args ≡ codes "help" ∷ [])

-- the words ask for the program's version
abbrev pub AsksVersion : List (Bor Text) → Type 0
AsksVersion args = texts args ≡ codes "--version" ∷ []

-- the words ask about the program itself
abbrev pub IsAboutUsage : List (Bor Text) → Type 0
IsAboutUsage args = AsksHelp args ⊎ AsksVersion args

-- the words ask for something
abbrev pub IsUsage : List (Bor Text) → Type 0
IsUsage args = IsFileUsage args ⊎ IsExprUsage args ⊎ IsAboutUsage args

-- the words ask for a syntax that cannot be built
pub record IsUnbuildable (args : List (Bor Text)) : Type 0 where
  pub request : Request
  pub asks : Asks args request
  pub unbuildable : ¬ IsBuildable (syntax_with request.settings)
