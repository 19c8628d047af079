-- What the worst of several statuses says of each.
use Rattle.std.proofs.Common.{inl, inr, ◌∙◌, ◌≡◌, ◌≤◌, ◌<◌, ◌⊎◌, ◌^◌, Bool, false, true, arith, ap, ne_eqb, refl, subst, sym, ℕ, zero, suc, length}
use Rattle.std.specs.declared.io.Error as io
use Rattle.std.specs.Prelude.{Option, None, Some, IfErr, IfOk, IfSome, IsErr, IsErrAnd, IsSome, IsTrue, OnOk, Result, Ok, Err, List}
use Rattle.minijinja_syntax.specs.Syntax.{Syntax, IsBuildable}
use Rattle.minijinja_syntax.specs.Texts.{Text}
use Rattle.mjc_commands.specs.Each.{HoldsFit, IsOnEach, MayEnd, rank}
use Rattle.mjc_commands.specs.Failure.{IsStatusOf, IsSuccess, ending_status, exit_status, status_of}
use Rattle.mjc_commands.specs.Linting.{IsLinted}
use Rattle.mjc_commands.specs.Reading.{IsNoText}
use Rattle.mjc_commands.specs.Runs.{RunsOn}
use Rattle.mjc_commands.specs.Showing.{IsMemory, IsShowable}
use Rattle.mjc_commands.specs.Usage.{Task, tokens, code, names, lint, expression, replay}
use Rattle.mjc_commands.specs.Watched.{IsUnfailed, stream_of}
use Rattle.mjc_commands.specs.declared.failure.Failure.{Failure}
use Rattle.mjc_commands.specs.declared.failure.Failure.TheVariants.{Usage, CannotRead, Refused, BadAnswer, CannotWrite}
use Rattle.mjc_commands.specs.declared.run.Ending.{Ending}
use Rattle.mjc_commands.specs.declared.run.Ending.TheVariants.{Done, Found}
use Rattle.mjc_commands.specs.declared.watched.Watched.{Watched}

rank_of_others : (n : ℕ) → rank (suc (suc (suc (suc n)))) ≡ 3
rank_of_others n =
    let status : ℕ = suc (suc (suc (suc n))) in
    rw (ne_eqb status 0 (omega arith), ne_eqb status 3 (omega arith), ne_eqb status 1 (omega arith))

low_is_success : (status : ℕ) → rank status ≤ 1 → IsSuccess status
low_is_success zero low = inl refl
low_is_success (suc zero) low = absurd (omega arith)
low_is_success (suc (suc zero)) low = absurd (omega arith)
low_is_success (suc (suc (suc zero))) low = inr refl
low_is_success (suc (suc (suc (suc n)))) low = absurd (omega (arith, low, rank_of_others n))

lowest_is_zero : (status : ℕ) → rank status ≤ 0 → status ≡ 0
lowest_is_zero zero low = refl
lowest_is_zero (suc zero) low = absurd (omega arith)
lowest_is_zero (suc (suc zero)) low = absurd (omega arith)
lowest_is_zero (suc (suc (suc zero))) low = absurd (omega arith)
lowest_is_zero (suc (suc (suc (suc n)))) low = absurd (omega (arith, low, rank_of_others n))

-- where the worst status is one of success, so is each
pub each_succeeds : (status worst : ℕ) → rank status ≤ rank worst → IsSuccess worst → IsSuccess status
each_succeeds status worst best (inl none) = let low : rank worst ≡ 0 = ap rank none in low_is_success status (omega (arith, best, low))
each_succeeds status worst best (inr three) = let low : rank worst ≡ 1 = ap rank three in low_is_success status (omega (arith, best, low))

-- where it is 0, so is each
pub each_is_zero : (status worst : ℕ) → rank status ≤ rank worst → worst ≡ 0 → status ≡ 0
each_is_zero status worst best none = let low : rank worst ≡ 0 = ap rank none in lowest_is_zero status (omega (arith, best, low))

-- a run that may end with a status may end with a worse one of success
pub may_end_worse : {task : Task} {syntax : Syntax} {held : Option (List ℕ)} (status worst : ℕ) → rank status ≤ rank worst → MayEnd task syntax held status → MayEnd task syntax held worst
may_end_worse status worst best may = record {
  readable = may.readable;
  shown = may.shown;
  clean = λ source e is none. may.clean source e is (each_is_zero status worst best none);
}

one_fails : IsSuccess 1 → ⊥
one_fails (inl none) = cc
one_fails (inr three) = cc

two_fails : IsSuccess 2 → ⊥
two_fails (inl none) = cc
two_fails (inr three) = cc

ended_so : {task : Task} {syntax : Syntax} {held : Option (List ℕ)} (ending : Result Ending Failure) → (IsNoText held → IsErr ending) → OnOk ending ((source : Text) → held ≡ Some source → IsShowable task syntax source) → ((source : Text) → held ≡ Some source → task ≡ lint → IfOk ending (IsLinted syntax source)) → IsSuccess (exit_status ending) → MayEnd task syntax held (exit_status ending)
ended_so (Ok Done) unreadable shown linted success = record { readable = λ bytes. let error = unreadable bytes in cc; shown = shown; clean = λ source e is none. linted source e is }
ended_so (Ok Found) unreadable shown linted success = record { readable = λ bytes. let error = unreadable bytes in cc; shown = shown; clean = λ source e is none. absurd cc }
ended_so (Err (Refused kind line column)) unreadable shown linted success = absurd (one_fails success)
ended_so (Err Usage) unreadable shown linted success = absurd (two_fails success)
ended_so (Err (CannotRead path)) unreadable shown linted success = absurd (two_fails success)
ended_so (Err (BadAnswer line)) unreadable shown linted success = absurd (two_fails success)
ended_so (Err CannotWrite) unreadable shown linted success = absurd (two_fails success)

-- a run that ends with a status of success may end so
pub ended : {t task : Task} {syntax : Syntax} {known held : Option (List ℕ)} (ending : Result Ending Failure) (status : ℕ) → t ≡ task → known ≡ held → status ≡ exit_status ending → (IsNoText known → IsErr ending) → OnOk ending ((source : Text) → known ≡ Some source → IsShowable t syntax source) → ((source : Text) → known ≡ Some source → t ≡ lint → IfOk ending (IsLinted syntax source)) → IsSuccess status → MayEnd task syntax held status
ended {t = t} {task = task} {syntax = syntax} {known = known} {held = held} ending status same_task same_bytes is unreadable shown linted success =
    let so = ended_so ending unreadable shown linted (subst IsSuccess is success) in
    let of_task : MayEnd task syntax known (exit_status ending) = subst (λ u. MayEnd u syntax known (exit_status ending)) same_task so in
    let of_bytes : MayEnd task syntax held (exit_status ending) = subst (λ h. MayEnd task syntax h (exit_status ending)) same_bytes of_task in
    subst (λ n. MayEnd task syntax held n) (sym is) of_bytes

-- what holds of a run that does not fail holds where its status is one of success
pub on_success : (ending : Result Ending Failure) (status : ℕ) (P : Type 0) → status ≡ exit_status ending → IsSuccess status → OnOk ending P → P
on_success (Ok done) status P is success holds = holds
on_success (Err (Refused kind line column)) status P is success holds = absurd (one_fails (subst IsSuccess is success))
on_success (Err Usage) status P is success holds = absurd (two_fails (subst IsSuccess is success))
on_success (Err (CannotRead path)) status P is success holds = absurd (two_fails (subst IsSuccess is success))
on_success (Err (BadAnswer line)) status P is success holds = absurd (two_fails (subst IsSuccess is success))
on_success (Err CannotWrite) status P is success holds = absurd (two_fails (subst IsSuccess is success))

-- a run that fails with status 1 has that status
pub refused_exit : (ending : Result Ending Failure) → ending_status ending ≡ 1 → exit_status ending ≡ 1
refused_exit (Ok done) is = absurd cc
refused_exit (Err failure) is = is

-- a failure's status is none of success
pub failure_fails : (failure : Failure) → IsSuccess (status_of failure) → ⊥
failure_fails (Refused kind line column) success = one_fails success
failure_fails Usage success = two_fails success
failure_fails (CannotRead path) success = two_fails success
failure_fails (BadAnswer line) success = two_fails success
failure_fails CannotWrite success = two_fails success

-- nor is that of a run in which a write fails
pub stopped_fails : (ending : Result Ending Failure) (met : Option io.Error) → IfSome met (λ e. IsStatusOf e (ending_status ending)) → IsSome met → IsSuccess (exit_status ending) → ⊥
stopped_fails ending None stops some success = let no : false ≡ true = some in cc
stopped_fails (Ok done) (Some e) stops some success =
    let two : 0 ≡ 2 = stops.other (λ memory. let one : 0 ≡ 1 = stops.memory memory in omega (arith, one)) in
    omega (arith, two)
stopped_fails (Err failure) (Some e) stops some success = failure_fails failure success

only_memory : (source : Text) (ending : Result Ending Failure) → length source < 2 ^ 32 → IfErr ending (λ failure. IsMemory failure ⊎ (2 ^ 32 ≤ length source)) → IfErr ending IsMemory
only_memory source (Ok done) short succeeds = succeeds
only_memory source (Err failure) short (inl memory) = memory
only_memory source (Err failure) short (inr long) = absurd (omega arith)

-- names and findings of a text that can be shown fail only if memory is refused, where nothing else
-- fails
pub fits_each : {R Q W : Type 0} {read : R → Option (List ℕ)} {asked : Q → Option (List ℕ)} {holds : W → Option (List ℕ)} {syntax : Syntax} {file file_after : Watched R} {answers answers_after : Watched Q} {out out_after : Watched W} (task : Task) (ending : Result Ending Failure) → RunsOn read asked holds task syntax file file_after answers answers_after out out_after ending → IsUnfailed answers → IsUnfailed file_after → IsUnfailed out_after → IsOnEach task → IsBuildable syntax → HoldsFit task syntax (read (stream_of file)) → IfErr ending IsMemory
fits_each names ending runs unasked unread unwritten each builds fit =
    only_memory fit.source ending fit.short (runs.succeeds unread (subst IsUnfailed (sym (runs.unasked (λ none. none))) unasked) unwritten builds fit.source fit.known fit.shown tt)
fits_each lint ending runs unasked unread unwritten each builds fit =
    only_memory fit.source ending fit.short (runs.succeeds unread (subst IsUnfailed (sym (runs.unasked (λ none. none))) unasked) unwritten builds fit.source fit.known fit.shown tt)
fits_each tokens ending runs unasked unread unwritten each builds fit = absurd each
fits_each code ending runs unasked unread unwritten each builds fit = absurd each
fits_each expression ending runs unasked unread unwritten each builds fit = absurd each
fits_each (replay answers) ending runs unasked unread unwritten each builds fit = absurd each

-- a run that fails only if memory is refused succeeds where memory did not run out
pub succeeds_in_memory : (ending : Result Ending Failure) (ran_out : Bool) → (IsErrAnd ending IsMemory → IsTrue ran_out) → ran_out ≡ false → IfErr ending IsMemory → IsSuccess (exit_status ending)
succeeds_in_memory (Ok Done) ran_out told enough only = inl refl
succeeds_in_memory (Ok Found) ran_out told enough only = inr refl
succeeds_in_memory (Err failure) ran_out told enough only = let out : IsTrue ran_out = told only in cc

-- one of two statuses is one of success where both are
pub either_succeeds : (status other result : ℕ) → (result ≡ status) ⊎ (result ≡ other) → IsSuccess status → IsSuccess other → IsSuccess result
either_succeeds status other result (inl is) first second = subst IsSuccess (sym is) first
either_succeeds status other result (inr is) first second = subst IsSuccess (sym is) second

pub either_within : (status other result : ℕ) → (result ≡ status) ⊎ (result ≡ other) → status ≤ 3 → other ≤ 3 → result ≤ 3
either_within status other result (inl is) first second = omega (arith, is, first)
either_within status other result (inr is) first second = omega (arith, is, second)

-- a run that fails has no status of success
pub failed_exit : (ending : Result Ending Failure) (status : ℕ) → status ≡ exit_status ending → IsErr ending → IsSuccess status → ⊥
failed_exit (Ok done) status is failed success = let no : false ≡ true = failed in cc
failed_exit (Err failure) status is failed success = failure_fails failure (subst IsSuccess is success)

-- memory that ran out did
pub ran_out : (told : Bool) → IsTrue told → told ≡ false → ⊥
ran_out told out enough = let no : false ≡ true = sym enough ∙ out in cc
