-- What a run of a command does with its streams, and how it ends.
use Rattle.std.specs.Prelude.{◌≡◌, ℕ, List, Option, Some, IfErr, IfOk, IfSome, IsErr, MatchResult, OnOk, Result, ◌++◌, codes}
use Rattle.std.specs.Io.KnownBytes.{IsAtEnd}
use Rattle.minijinja_syntax.specs.Syntax.{Syntax, IsBuildable}
use Rattle.minijinja_syntax.specs.Texts.{Text}
use Rattle.mjc_commands.specs.AnswerFile.{IsAnswerFile}
use Rattle.mjc_commands.specs.Failure.{IsRefused, ending_status}
use Rattle.mjc_commands.specs.FailureWords.{failure_words}
use Rattle.mjc_commands.specs.Linting.{IsLinted}
use Rattle.mjc_commands.specs.Output.{IsExprOutput, IsOutput, Prints}
use Rattle.mjc_commands.specs.Reading.{IsNoText}
use Rattle.mjc_commands.specs.Refusals.{IsExprRefusal, IsRefusalOf}
use Rattle.mjc_commands.specs.Showing.{HasAnswers, IsOfContents, IsShowable, IsShowableExpr, Succeeds, SucceedsExpr}
use Rattle.mjc_commands.specs.Usage.{IsReplay, Task, lint}
use Rattle.mjc_commands.specs.Watched.{IsUnfailed, IsWritten, Stops, stream_of}
use Rattle.mjc_commands.specs.declared.failure.Failure.{Failure}
use Rattle.mjc_commands.specs.declared.run.Ending.{Ending}
use Rattle.mjc_commands.specs.declared.run.Ending.TheVariants.{Found}
use Rattle.mjc_commands.specs.declared.watched.Watched.{Watched}

-- A run for a task on a file, whose text is in a syntax: of its file, of that of the answers and of
-- its output the first one is how it was before the run. What of these is known, `read`, `asked`
-- and `holds` say.
--
-- A file that is no text fails (`unreadable`), and nothing is printed of it (`unprinted`). A
-- success has read all of it (`whole`), of a text that is not refused, by the tokenizer or the
-- grammar (`shown`), and has printed what is asked for and no more (`printed`). A refusal tells of
-- the text's own, or of refused memory (`told`).
--
-- Only a replay reads answers (`unasked`), and none where the text is refused (`unanswered`). Its
-- success has read all of them (`answers_whole`), and each of their lines is one (`answered`).
--
-- Only a linter finds something (`found`): that of the tree of the text (`linted`).
--
-- A text that is not refused, with answers that can be read, is always a success where no read and
-- no write fails, memory and its length aside (`succeeds`). A read or a write that fails ends the
-- run: in status 1 if memory is refused, otherwise 2 (`file_read`, `answers_read`, `out_written`).
-- Where none fails, what is wrong lies in what was read (`unfailed`).
pub record RunsOn {R Q W : Type 0} (read : R → Option (List ℕ)) (asked : Q → Option (List ℕ)) (holds : W → Option (List ℕ)) (task : Task) (syntax : Syntax) (file file_after : Watched R) (answers answers_after : Watched Q) (out out_after : Watched W) (ending : Result Ending Failure) : Type 0 where
  pub unreadable : IsNoText (read (stream_of file)) → IsErr ending
  pub unprinted : IsNoText (read (stream_of file)) → out_after ≡ out
  pub whole : OnOk ending (IsAtEnd (read (stream_of file_after)))
  pub shown : OnOk ending ((source : Text) → read (stream_of file) ≡ Some source → IsShowable task syntax source)
  pub printed : OnOk ending ((source : Text) → read (stream_of file) ≡ Some source → Prints holds out out_after (IsOutput task syntax source (asked (stream_of answers))))
  pub told : IfErr ending (λ failure. (source : Text) → read (stream_of file) ≡ Some source → IsBuildable syntax → IsRefused failure → IsRefusalOf task syntax source failure)
  pub unasked : ¬ IsReplay task → answers_after ≡ answers
  pub unanswered : (source : Text) → read (stream_of file) ≡ Some source → ¬ IsShowable task syntax source → answers_after ≡ answers
  pub answers_whole : IsReplay task → OnOk ending (IsAtEnd (asked (stream_of answers_after)))
  pub answered : IsReplay task → OnOk ending (IfSome (asked (stream_of answers)) IsAnswerFile)
  pub found : IfOk ending (λ e. e ≡ Found → task ≡ lint)
  pub linted : (source : Text) → read (stream_of file) ≡ Some source → task ≡ lint → IfOk ending (IsLinted syntax source)
  pub succeeds : IsUnfailed file_after → IsUnfailed answers_after → IsUnfailed out_after → IsBuildable syntax → (source : Text) → read (stream_of file) ≡ Some source → IsShowable task syntax source → HasAnswers task (asked (stream_of answers)) → Succeeds task syntax source ending
  pub file_read : Stops file file_after (ending_status ending)
  pub answers_read : Stops answers answers_after (ending_status ending)
  pub out_written : Stops out out_after (ending_status ending)
  pub unfailed : IsUnfailed file_after → IsUnfailed answers_after → IsUnfailed out_after → IfErr ending (IsOfContents (asked (stream_of answers)))

-- a run on an expression that stands in the words reads nothing; of its output the first one is how
-- it was before the run, of which `holds` says what is known
pub record RunsOnExpr {W : Type 0} {A : Type 0} (holds : W → Option (List ℕ)) (source : Text) (out out_after : Watched W) (ending : Result A Failure) : Type 0 where
  pub shown : OnOk ending (IsShowableExpr source)
  pub printed : OnOk ending (Prints holds out out_after (IsExprOutput source))
  pub told : IfErr ending (λ failure. IsRefused failure → IsExprRefusal source failure)
  pub succeeds : IsUnfailed out_after → IsShowableExpr source → SucceedsExpr source ending
  pub out_written : Stops out out_after (ending_status ending)
  pub unfailed : IsUnfailed out_after → IfErr ending IsRefused

-- a failure is told in one line, where no write fails, and a success leaves the writer as it was
abbrev pub Tells : {X A : Type 0} → (holds : X → Option (List ℕ)) → (err err_after : Watched X) → Result A Failure → Type 0
Tells holds err err_after ending = MatchResult ending
    (λ _. err_after ≡ err)
    (λ failure. IsUnfailed err_after → IsWritten holds err err_after (failure_words failure ++ codes "\n"))
