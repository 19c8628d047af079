-- What a run prints of a text.
use Rattle.std.specs.Prelude.{◌≡◌, ℕ, List, [], Option, IfSome}
use Rattle.std.specs.Io.KnownBytes.{Appends}
use Rattle.std.specs.Str.Lines.{lines}
use Rattle.minijinja_syntax.specs.Syntax.{Syntax}
use Rattle.minijinja_syntax.specs.Texts.{Text}
use Rattle.minijinja_value.specs.ValueContents.{Contents}
use Rattle.minijinja_value.specs.ValueFunctions.{value_functions}
use Rattle.minijinja_value.specs.ValueViews.{contents_of}
use Rattle.minijinja_value.specs.declared.value.Value.{Value}
use Rattle.minijinja_value.specs.declared.value.ValueFault.{ValueFault}
use Rattle.minijinja_lexer.specs.TextTokens.{tokens_of_template}
use Rattle.minijinja_tree.specs.Erasure.{stmt_tree}
use Rattle.minijinja_tree.specs.SpannedErasure.{stmt_node}
use Rattle.minijinja_tree.specs.declared.ast.Stmt.{Stmt}
use Rattle.minijinja_meta.specs.Mentions.{nested_names, plain_names, way}
use Rattle.minijinja_lint.specs.Findings.{AreFindings, Remark}
use Rattle.minijinja_parser.specs.Answers.{HasPlacesAt}
use Rattle.minijinja_parser.specs.Derived.{IsDerived, template_place}
use Rattle.minijinja_semantics.specs.Events.{Answer}
use Rattle.minijinja_instructions.specs.InstructionLists.{Instructions}
use Rattle.minijinja_instructions.specs.Instructions.{code_of}
use Rattle.minijinja_compiler.specs.Headline.{IsCompiled, IsCompiledExpr}
use Rattle.minijinja_compiler.specs.declared.compile.Compiled.{Compiled}
use Rattle.minijinja_replay.specs.Replay.{IsRun}
use Rattle.minijinja_replay.specs.declared.replay.Entry.TheVariants as entry
use Rattle.minijinja_replay.specs.declared.replay.Run.{Run}
use Rattle.mjc_commands.specs.AnswerFile.{SayAnswers}
use Rattle.mjc_commands.specs.Printed.{code_words, expression_words, findings_words, names_words, run_words}
use Rattle.mjc_commands.specs.PrintedTokens.{tokens_words}
use Rattle.mjc_commands.specs.TemplateRuns.{RunsAsMeant}
use Rattle.mjc_commands.specs.Usage.{Task, tokens, code, names, lint, expression, replay}
use Rattle.mjc_commands.specs.Watched.{IsWritten}
use Rattle.mjc_commands.specs.declared.watched.Watched.{Watched}

-- the code that is compiled of the text, under some name of its file
pub record IsCodeOutput (syntax : Syntax) (source printed : Text) : Type 0 where
  pub filename : Text
  pub code : Compiled Value ValueFault
  pub compiled : IsCompiled value_functions contents_of syntax source filename code
  pub words : printed ≡ code_words code

-- the names that the tree of the text needs from outside
pub record IsNamesOutput (syntax : Syntax) (source printed : Text) : Type 0 where
  pub template : Stmt Value ValueFault
  pub derived : IsDerived value_functions syntax source (stmt_tree contents_of template)
  pub words : printed ≡ names_words (plain_names (way (stmt_node contents_of template))) (nested_names (way (stmt_node contents_of template)))

-- what a linter finds in a template
pub record AreFindingsIn (template : Stmt Value ValueFault) (printed : Text) : Type 0 where
  pub remarks : List Remark
  pub findings : AreFindings (way (stmt_node contents_of template)) remarks
  pub words : printed ≡ findings_words remarks

-- in the tree of the text, whose nodes stand in it
pub record IsFindingsOutput (syntax : Syntax) (source printed : Text) : Type 0 where
  pub template : Stmt Value ValueFault
  pub derived : IsDerived value_functions syntax source (stmt_tree contents_of template)
  pub places : HasPlacesAt value_functions contents_of (template_place syntax source) template
  pub findings : AreFindingsIn template printed

-- the code that is compiled of the expression that the text is
pub record IsExprOutput (source printed : Text) : Type 0 where
  pub code : Instructions Value ValueFault
  pub compiled : IsCompiledExpr value_functions contents_of source code
  pub words : printed ≡ expression_words code

-- the run of the code of a template, from its start, on the answers that the lines of a text say;
-- it goes as the tree means that the code was made of
pub record IsRunOf (code : Compiled Value ValueFault) (given printed : Text) : Type 0 where
  pub answers : List (Answer Contents)
  pub said : SayAnswers (lines given) answers
  pub run : Run Value ValueFault
  pub ran : IsRun value_functions contents_of (λ fault. fault) (code_of contents_of code.instructions) entry.Start [] answers run
  pub meant : RunsAsMeant code answers run
  pub words : printed ≡ run_words code.instructions run

-- such a run of the code that is compiled of the text, on what the file of answers holds
pub record IsRunOutput (syntax : Syntax) (source : Text) (held : Option (List ℕ)) (printed : Text) : Type 0 where
  pub filename : Text
  pub code : Compiled Value ValueFault
  pub compiled : IsCompiled value_functions contents_of syntax source filename code
  pub given : Text
  pub known : IfSome held (λ bytes. given ≡ bytes)
  pub run : IsRunOf code given printed

-- what is printed of the text for a task, of which only a run asks what the file of answers holds
abbrev pub IsOutput : Task → Syntax → (source : Text) → (held : Option (List ℕ)) → (printed : Text) → Type 0
IsOutput tokens syntax source held printed = printed ≡ tokens_words (tokens_of_template syntax source).tokens
IsOutput code syntax source held printed = IsCodeOutput syntax source printed
IsOutput names syntax source held printed = IsNamesOutput syntax source printed
IsOutput lint syntax source held printed = IsFindingsOutput syntax source printed
IsOutput expression syntax source held printed = IsExprOutput source printed
IsOutput (replay answers) syntax source held printed = IsRunOutput syntax source held printed

-- where it is known what a writer holds, such a text was added to it, and nothing else
pub record Adds (old new : Option (List ℕ)) (Is : Text → Type 0) : Type 0 where
  pub printed : Text
  pub is : Is printed
  pub added : Appends old new printed

-- what was written, and nothing else, is such a text
pub record Prints {W : Type 0} (contents : W → Option (List ℕ)) (old new : Watched W) (Is : Text → Type 0) : Type 0 where
  pub printed : Text
  pub is : Is printed
  pub written : IsWritten contents old new printed
