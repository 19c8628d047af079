-- Reading from the current word on gives what reading from the first word on gives.
use Rattle.std.proofs.Common.{◌-◌, ◌≤◌, List, length, drop}
use Rattle.minijinja_syntax.specs.Texts.{Text}
use Rattle.minijinja_syntax.specs.Syntax.{Syntax}
use Rattle.mjc_commands.specs.Settings.{texts}
use Rattle.mjc_commands.specs.Commands.{syntax_of}
use Rattle.mjc_commands.proofs.Requests.{Reads}
use Rattle.mjc_commands.proofs.usage.read_options.Given as goal

abbrev pub invariant-loop-count : goal.invariant-loop-count
invariant-loop-count l = record {
  within : l.start ≤ length l.words;
  onward : (t : Syntax) (paths : List Text) → Reads (syntax_of l.initial.options) (texts l.words) t paths → Reads (syntax_of l.options) (texts (drop l.start l.words)) t paths;
  back : (t : Syntax) (paths : List Text) → Reads (syntax_of l.options) (texts (drop l.start l.words)) t paths → Reads (syntax_of l.initial.options) (texts l.words) t paths;
}

abbrev pub decreases-loop-count : goal.decreases-loop-count
decreases-loop-count l = length l.words - l.start
