-- How a run ends, and the status of the process for each ending.
use Rattle.std.specs.Prelude.{◌≡◌, ◌≢◌, ◌⊎◌, ℕ, Option, None, Some, Result, Ok, Err}
use Rattle.std.specs.IoError.{error_kind}
use Rattle.std.specs.declared.io.Error as io
use Rattle.std.specs.declared.io.ErrorKind.TheVariants as kind
use Rattle.minijinja_syntax.specs.Errors.{kind_of, span_of}
use Rattle.minijinja_syntax.specs.declared.error.Error.{Error}
use Rattle.minijinja_syntax.specs.declared.error.ErrorKind.{ErrorKind}
use Rattle.minijinja_syntax.specs.declared.tokens.Span.{Span}
use Rattle.mjc_commands.specs.declared.failure.Failure.{Failure}
use Rattle.mjc_commands.specs.declared.failure.Failure.TheVariants.{Usage, CannotRead, Refused, BadAnswer, CannotWrite}
use Rattle.mjc_commands.specs.declared.run.Ending.{Ending}
use Rattle.mjc_commands.specs.declared.run.Ending.TheVariants.{Done, Found}

-- 1 for a refused syntax, text or memory, otherwise 2
abbrev pub status_of : Failure → ℕ
status_of (Refused kind line column) = 1
status_of Usage = 2
status_of (CannotRead path) = 2
status_of (BadAnswer line) = 2
status_of CannotWrite = 2

-- 0 where nothing fails
abbrev pub ending_status : {A : Type 0} → Result A Failure → ℕ
ending_status (Ok done) = 0
ending_status (Err failure) = status_of failure

-- the status of the process: 0 is success, and so is 3, where a linter has found something
abbrev pub exit_status : Result Ending Failure → ℕ
exit_status (Ok Done) = 0
exit_status (Ok Found) = 3
exit_status (Err failure) = status_of failure

-- a status of success
abbrev pub IsSuccess : ℕ → Type 0
IsSuccess status = (status ≡ 0) ⊎ (status ≡ 3)

-- the syntax or the text is refused, or memory ran out
abbrev pub IsRefused : Failure → Type 0
IsRefused failure = status_of failure ≡ 1

-- the failure is a refusal of this kind
abbrev pub IsRefusedAs : ErrorKind → Failure → Type 0
IsRefusedAs kind (Refused k line column) = k ≡ kind
IsRefusedAs kind Usage = ⊥
IsRefusedAs kind (CannotRead path) = ⊥
IsRefusedAs kind (BadAnswer line) = ⊥
IsRefusedAs kind CannotWrite = ⊥

-- the failure that tells of an error: its kind, and where it starts, which is 0:0 without a place
abbrev pub refusal_at : ErrorKind → Option Span → Failure
refusal_at kind None = Refused kind 0 0
refusal_at kind (Some s) = Refused kind s.start_line s.start_col

abbrev pub refusal_of : Error → Failure
refusal_of e = refusal_at (kind_of e) (span_of e)

-- the failure is a line of the answers of which this holds
abbrev pub IsBadAnswer : (ℕ → Type 0) → Failure → Type 0
IsBadAnswer P (BadAnswer line) = P line
IsBadAnswer P (Refused kind line column) = ⊥
IsBadAnswer P Usage = ⊥
IsBadAnswer P (CannotRead path) = ⊥
IsBadAnswer P CannotWrite = ⊥

-- the status that an error of a reader or a writer leads to: 1 if memory is refused, otherwise 2
pub record IsStatusOf (error : io.Error) (status : ℕ) : Type 0 where
  pub memory : error_kind error ≡ kind.OutOfMemory → status ≡ 1
  pub other : error_kind error ≢ kind.OutOfMemory → status ≡ 2
