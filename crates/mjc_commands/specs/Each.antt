-- Commands on each of several files: what they ask for, and what their statuses mean.
use Rattle.std.specs.Prelude.{◌≡◌, ◌==◌, ◌≤◌, ◌<◌, ◌^◌, codes, count_by, false, length, ℕ, List, ◌∷◌, Option, None, Some, if◌then◌else◌}
use Rattle.std.specs.Borrow.{Bor}
use Rattle.std.specs.List.{All}
use Rattle.std.specs.Str.{bytes_eq}
use Rattle.minijinja_syntax.specs.Syntax.{Syntax}
use Rattle.minijinja_syntax.specs.Texts.{Text}
use Rattle.mjc_commands.specs.Linting.{IsLinted}
use Rattle.mjc_commands.specs.Reading.{IsNoText}
use Rattle.mjc_commands.specs.Settings.{Setting, syntax_with, texts}
use Rattle.mjc_commands.specs.Showing.{IsShowable}
use Rattle.mjc_commands.specs.Usage.{IsFile, Mark, Task, command_word, lint, names, option_words, path_words}
use Rattle.mjc_commands.specs.declared.each.Endings.{Endings}
use Rattle.mjc_commands.specs.declared.run.Ending.TheVariants.{Done}

-- success, then what a linter found, then a refused text, then the rest
abbrev pub rank : ℕ → ℕ
rank status = if status == 0 then 0 else (if status == 3 then 1 else (if status == 1 then 2 else 3))

-- the tasks that may be asked for on several files
abbrev pub IsOnEach : Task → Type 0
IsOnEach names = Unit {0}
IsOnEach lint = Unit {0}
IsOnEach _ = ⊥

-- the words ask for a task on each of these files, whose texts are in a syntax
pub record AskForEach (args : List (Bor Text)) (task : Task) (syntax : Syntax) (paths : List Text) : Type 0 where
  pub each : IsOnEach task
  pub settings : List Setting
  pub mark : Mark
  pub words : texts args ≡ command_word task ∷ option_words settings (path_words mark paths)
  pub files : All (IsFile mark) paths
  pub specified : syntax ≡ syntax_with settings

-- they ask for it on several, at most one of which is standard input
pub record AskForSeveral (args : List (Bor Text)) (task : Task) (syntax : Syntax) (paths : List Text) : Type 0 where
  pub asked : AskForEach args task syntax paths
  pub several : 2 ≤ length paths
  pub apart : count_by (λ path. bytes_eq path (codes "-")) paths ≤ 1

-- where it is known what a file holds, a run on it may end with this status of success: its text
-- can be shown, and if the status is 0, a linter finds nothing in it
pub record MayEnd (task : Task) (syntax : Syntax) (held : Option (List ℕ)) (status : ℕ) : Type 0 where
  pub readable : ¬ IsNoText held
  pub shown : (source : Text) → held ≡ Some source → IsShowable task syntax source
  pub clean : (source : Text) → held ≡ Some source → task ≡ lint → status ≡ 0 → IsLinted syntax source Done

-- a run on each of the files that the words name may end with this status of success
pub record HasGoneThrough (args : List (Bor Text)) (held : Text → Option (List ℕ)) (status : ℕ) : Type 0 where
  pub task : Task
  pub syntax : Syntax
  pub paths : List Text
  pub asked : AskForEach args task syntax paths
  pub ended : All (λ path. MayEnd task syntax (held path) status) paths

-- a file is known to hold a text of fewer than 2^32 bytes that can be shown
pub record HoldsFit (task : Task) (syntax : Syntax) (held : Option (List ℕ)) : Type 0 where
  pub source : Text
  pub known : held ≡ Some source
  pub shown : IsShowable task syntax source
  pub short : length source < 2 ^ 32

-- no read and no write has failed, and memory has not run out
pub record HasMetNothing (endings : Endings) : Type 0 where
  pub read : endings.read_error ≡ None
  pub written : endings.write_error ≡ None
  pub allocated : endings.is_out_of_memory ≡ false
