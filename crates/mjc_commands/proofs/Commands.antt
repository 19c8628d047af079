-- What is known of a result, and what a command that was read is asked for.
use Rattle.std.proofs.Common.{◌≡◌, subst, sym}
use Rattle.std.specs.Prelude.{ℕ, IfErr, IfOk, IsErrAnd, Result, Ok, Err}
use Rattle.minijinja_syntax.specs.Syntax.{IsBuildable}
use Rattle.mjc_commands.specs.Commands.{HasBuildable, IsFileCommandFor}
use Rattle.mjc_commands.specs.Failure.{exit_status}
use Rattle.mjc_commands.specs.Settings.{syntax_with}
use Rattle.mjc_commands.specs.Usage.{Request}
use Rattle.mjc_commands.specs.declared.failure.Failure.{Failure}
use Rattle.mjc_commands.specs.declared.failure.Failure.TheVariants.{Usage, CannotRead, Refused, BadAnswer, CannotWrite}
use Rattle.mjc_commands.specs.declared.run.Ending.{Ending}
use Rattle.mjc_commands.specs.declared.run.Ending.TheVariants.{Done, Found}
use Rattle.mjc_commands.specs.declared.usage.Command.{Command}
use Rattle.mjc_commands.specs.declared.usage.Command.TheVariants.{File, Expr, Help, Version}

-- what a success has can be turned into what follows from it
pub if_ok : {A E : Type 0} {P Q : A → Type 0} (r : Result A E) → ((v : A) → P v → Q v) → IfOk r P → IfOk r Q
if_ok (Ok v) f has = f v has
if_ok (Err e) f has = has

pub if_err : {A E : Type 0} {P Q : E → Type 0} (r : Result A E) → ((e : E) → P e → Q e) → IfErr r P → IfErr r Q
if_err (Ok v) f has = has
if_err (Err e) f has = f e has

-- a failure that is passed on is what it was
pub passed_on : {A E : Type 0} (P : E → Type 0) (r : Result A E) (x : E) → IsErrAnd r (λ e. e ≡ x) → P x → IfErr r P
passed_on P (Ok v) x none has = absurd none
passed_on P (Err e) x same has = subst P (sym same) has

-- a run that ends with success ends as its status says
pub ends_as : (ending : Result Ending Failure) (status : ℕ) (P : Ending → Type 0) → status ≡ exit_status ending → IfOk ending P → (status ≡ 0 → P Done) × (status ≡ 3 → P Found)
ends_as (Ok Done) status P e is = (λ zero. is, λ three. absurd cc)
ends_as (Ok Found) status P e is = (λ zero. absurd cc, λ three. is)
ends_as (Err (Refused kind line column)) status P e is = (λ zero. absurd cc, λ three. absurd cc)
ends_as (Err Usage) status P e is = (λ zero. absurd cc, λ three. absurd cc)
ends_as (Err (CannotRead path)) status P e is = (λ zero. absurd cc, λ three. absurd cc)
ends_as (Err (BadAnswer line)) status P e is = (λ zero. absurd cc, λ three. absurd cc)
ends_as (Err CannotWrite) status P e is = (λ zero. absurd cc, λ three. absurd cc)

-- a command that is asked for with a syntax that cannot be built has none that can
pub unbuilt_command : (request : Request) (command : Command) → IsFileCommandFor request command → ¬ IsBuildable (syntax_with request.settings) → ¬ HasBuildable command
unbuilt_command request (File command) is unbuildable builds = unbuildable (subst IsBuildable is.syntax builds)
unbuilt_command request (Expr text) is unbuildable builds = is
unbuilt_command request Help is unbuildable builds = is
unbuilt_command request Version is unbuildable builds = is
