-- Runs of the code of a template.
use Rattle.std.specs.Prelude.{List, []}
use Rattle.minijinja_syntax.specs.Syntax.{Syntax}
use Rattle.minijinja_syntax.specs.Texts.{Text}
use Rattle.minijinja_value.specs.ValueContents.{Contents}
use Rattle.minijinja_value.specs.ValueFunctions.{value_functions}
use Rattle.minijinja_value.specs.ValueViews.{contents_of}
use Rattle.minijinja_value.specs.declared.value.Value.{Value}
use Rattle.minijinja_value.specs.declared.value.ValueFault.{ValueFault}
use Rattle.minijinja_semantics.specs.Correct.{fresh}
use Rattle.minijinja_semantics.specs.Events.{Answer}
use Rattle.minijinja_semantics.specs.Meaning.{Signal, stmt}
use Rattle.minijinja_semantics.specs.Pieces.{start}
use Rattle.minijinja_semantics.specs.Places.{placed_stmt}
use Rattle.minijinja_instructions.specs.Instructions.{code_of}
use Rattle.minijinja_compiler.specs.Headline.{IsCompiled}
use Rattle.minijinja_compiler.specs.declared.compile.Compiled.{Compiled}
use Rattle.minijinja_replay.specs.Meant.{IsMeant}
use Rattle.minijinja_replay.specs.declared.replay.Run.{Run}

-- it was compiled of some text in some syntax
pub record IsCode (code : Compiled Value ValueFault) : Type 0 where
  pub syntax : Syntax
  pub source : Text
  pub filename : Text
  pub compiled : IsCompiled value_functions contents_of syntax source filename code

-- of whatever text it was compiled, the run goes as the one tree of that text means, on these
-- answers
abbrev pub RunsAsMeant : Compiled Value ValueFault → List (Answer Contents) → Run Value ValueFault → Type 0
RunsAsMeant code answers r =
    (syntax : Syntax) (source filename : Text) (is : IsCompiled value_functions contents_of syntax source filename code) →
    IsMeant contents_of (λ fault. fault) (code_of contents_of code.instructions) (λ (g : Signal). []) (stmt value_functions (placed_stmt value_functions is.tree start) (fresh answers)) answers r
