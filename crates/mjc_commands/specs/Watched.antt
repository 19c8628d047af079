-- A stream, and the error that it is known to have met.
use Rattle.std.specs.Prelude.{◌≡◌, ℕ, List, Option, None, Some, IfSome, Result, MatchResult}
use Rattle.std.specs.Borrow.{MutBor}
use Rattle.std.specs.Io.KnownBytes.{Appends, Keeps}
use Rattle.std.specs.declared.io.Error.{Error}
use Rattle.minijinja_syntax.specs.Texts.{Text}
use Rattle.mjc_commands.specs.Failure.{IsStatusOf}
use Rattle.mjc_commands.specs.declared.watched.Watched.{Watched}

-- the stream as it is now
abbrev pub stream_of : {S : Type 0} → Watched S → S
stream_of w = w.stream.now

-- it is the stream that is watched
abbrev pub Watches : {S : Type 0} → Watched S → MutBor S → Type 0
Watches w stream = w.stream.ghost_name ≡ stream.ghost_name

-- the stream that was watched still is
abbrev pub WatchesOn : {S : Type 0} → (old new : Watched S) → Type 0
WatchesOn old new = Watches new old.stream

-- what the last call that failed answered
abbrev pub error_of : {S : Type 0} → Watched S → Option Error
error_of w = w.error

-- a call that fails leaves its error, any other what there was
abbrev pub Notes : {S A : Type 0} → Watched S → Watched S → Result A Error → Type 0
Notes old new result = MatchResult result (λ _. error_of new ≡ error_of old) (λ e. error_of new ≡ Some e)

-- no call has failed
abbrev pub IsUnfailed : {S : Type 0} → Watched S → Type 0
IsUnfailed w = error_of w ≡ None

-- this text was written and nothing else, where it is known what the writer holds
pub record IsWritten {W : Type 0} (contents : W → Option (List ℕ)) (old new : Watched W) (text : Text) : Type 0 where
  pub appended : Appends (contents (stream_of old)) (contents (stream_of new)) text
  pub watched : WatchesOn old new

-- nothing was written
pub record IsKept {W : Type 0} (contents : W → Option (List ℕ)) (old new : Watched W) : Type 0 where
  pub kept : Keeps (contents (stream_of old)) (contents (stream_of new))
  pub watched : WatchesOn old new

-- a run with this status stops where a call fails: success met no error, and the error that it met
-- has that status
pub record Stops {S : Type 0} (old new : Watched S) (status : ℕ) : Type 0 where
  pub success : status ≡ 0 → error_of new ≡ error_of old
  pub failure : IsUnfailed old → IfSome (error_of new) (λ e. IsStatusOf e status)
