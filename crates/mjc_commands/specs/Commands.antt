-- Commands that were read from words, and what they are for.
use Rattle.std.specs.Prelude.{◌≡◌, List, Option, None, Some}
use Rattle.std.specs.Borrow.{Bor}
use Rattle.minijinja_syntax.specs.Texts.{Text}
use Rattle.minijinja_syntax.specs.Syntax.{Syntax, IsBuildable}
use Rattle.mjc_commands.specs.Settings.{syntax_with}
use Rattle.mjc_commands.specs.Usage.{Task, tokens, code, names, lint, expression, replay, Request, AsksExpr, AsksHelp, AsksVersion, IsFileUsage}
use Rattle.mjc_commands.specs.declared.options.Options.{Options}
use Rattle.mjc_commands.specs.declared.usage.Action.{Action}
use Rattle.mjc_commands.specs.declared.usage.Action.TheVariants.{Tokens, Code, Names, Lint, Expression, Replay}
use Rattle.mjc_commands.specs.declared.usage.Command.{Command}
use Rattle.mjc_commands.specs.declared.usage.Command.TheVariants.{File, Expr, Help, Version}
use Rattle.mjc_commands.specs.declared.usage.FileCommand.{FileCommand}

-- the task of an action
abbrev pub task_of : Action → Task
task_of Tokens = tokens
task_of Code = code
task_of Names = names
task_of Lint = lint
task_of Expression = expression
task_of (Replay answers) = replay answers.now

-- the syntax that options specify
abbrev pub syntax_of : Options → Syntax
syntax_of o = record {
  block_start = o.block.0.now;
  block_end = o.block.1.now;
  variable_start = o.variable.0.now;
  variable_end = o.variable.1.now;
  comment_start = o.comment.0.now;
  comment_end = o.comment.1.now;
  line_statement = o.line_statement.now;
  line_comment = o.line_comment.now;
  trim_blocks = o.trim_blocks;
  lstrip_blocks = o.lstrip_blocks;
  keep_trailing_newline = o.keep_newline;
}

-- the path of the file that a command reads, if it reads one
abbrev pub file_of : Command → Option Text
file_of (File command) = Some command.file.now
file_of _ = None

-- that of the answers, if the task is to run code on them
abbrev pub answers_in : Task → Option Text
answers_in (replay answers) = Some answers
answers_in _ = None

-- that of the answers that a command reads, if it reads some
abbrev pub answers_of : Command → Option Text
answers_of (File command) = answers_in (task_of command.action)
answers_of _ = None

-- the command does what is asked for
pub record IsCommandFor (request : Request) (command : FileCommand) : Type 0 where
  pub task : task_of command.action ≡ request.task
  pub syntax : syntax_of command.options ≡ syntax_with request.settings
  pub file : command.file.now ≡ request.file

-- the command does what is asked for of a file
abbrev pub IsFileCommandFor : Request → Command → Type 0
IsFileCommandFor request (File command) = IsCommandFor request command
IsFileCommandFor request _ = ⊥

-- the command is for the code of this text
abbrev pub IsExprCommandFor : Text → Command → Type 0
IsExprCommandFor text (Expr t) = t.now ≡ text
IsExprCommandFor text _ = ⊥

-- the words ask for what the command does
abbrev pub IsAskedBy : List (Bor Text) → Command → Type 0
IsAskedBy args (File command) = IsFileUsage args
IsAskedBy args (Expr text) = AsksExpr args text.now
IsAskedBy args Help = AsksHelp args
IsAskedBy args Version = AsksVersion args

-- the syntax that the command specifies can be built, if it specifies one
abbrev pub HasBuildable : Command → Type 0
HasBuildable (File command) = IsBuildable (syntax_of command.options)
HasBuildable _ = Unit {0}

-- the command is for what a linter finds
abbrev pub IsLintCommand : Command → Type 0
IsLintCommand (File command) = task_of command.action ≡ lint
IsLintCommand _ = ⊥

-- the command is for what the program says of itself
abbrev pub IsAboutCommand : Command → Type 0
IsAboutCommand Help = Unit {0}
IsAboutCommand Version = Unit {0}
IsAboutCommand _ = ⊥
