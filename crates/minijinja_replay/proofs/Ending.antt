-- Code that does what is meant is over when it has done it.
use Rattle.std.proofs.Common.{◌≡◌, ℕ, ◌+◌, ◌*◌, List, [], ◌++◌, length, Some, None, IsSome, refl, ap, ◌∙◌, sym, subst, arith}
use Rattle.std.specs.Prelude.{◌==◌, Bool, true, if◌then◌else◌}
use Rattle.std.proofs.lemmas.List.{append-nil}
use Rattle.std.proofs.lemmas.Bool.Decides.{nat_tests}
use Rattle.minijinja_value.specs.Values.{Functions}
use Rattle.minijinja_semantics.specs.Code.{Instr}
use Rattle.minijinja_semantics.specs.Correct as Correct
use Rattle.minijinja_semantics.specs.Correct.{DoesFrom, fresh, over}
use Rattle.minijinja_semantics.specs.Events.{Answer, Did, Event, Gave, Ended}
use Rattle.minijinja_semantics.specs.Machine.{State, At, Returned, Halted, Jammed, Asked, AtPlace, AtReturn, Finish, finished, run, traced}
use Rattle.minijinja_semantics.specs.Naming.{event_of, state_as}
use Rattle.minijinja_replay.specs.Replay.{EndsInTime, Finished, ending, finish_of, place_of}
use Rattle.minijinja_replay.specs.declared.replay.Entry.{Entry}
use Rattle.minijinja_replay.proofs.Running.{is_some_of}

-- a place is itself
same_place : (n : ℕ) → (n == n) ≡ true
same_place n = grind (arith, nat_tests)

-- notes are not looked at
pub named : {E E' C F : Type 0} (g : E → E') (finish : Finish) (s : State E C F) → ending finish (state_as g s) ≡ ending finish s
named g finish (At p ops ls w) = refl
named g finish (Returned ops ls w) = refl
named g finish (Halted w e) = refl
named g finish Jammed = refl

-- a run that has finished is over
pub is_finished : {E C F : Type 0} (finish : Finish) (ops : List C) (ls : List Bool) (w : _) → ending {E = E} {F = F} finish (finished finish ops ls w) ≡ Some Finished
is_finished (AtPlace end) ops ls w = ap (λ b. if b then Some Finished else None) (same_place end)
is_finished AtReturn ops ls w = refl

-- so is one that has come to what it means
pub is_over_at : {E C F X : Type 0} (u : Correct.Entry C X) (ls : List Bool) (meaning : Did E C F X) → IsSome (ending u.finish (over u [] ls meaning))
is_over_at u ls (Gave w x) = is_some_of (ending u.finish (finished u.finish (u.leaves x ++ []) ls w)) Finished (is_finished u.finish (u.leaves x ++ []) ls w)
is_over_at u ls (Ended w e) = refl

-- a run that does what is meant is over in time
pub in_time_by : {C F X : Type 0} (f : Functions C F) (code : List (Instr C)) (u : Correct.Entry C X) (meaning : Did (Event ℕ C) C F X) (answers : List (Answer C)) (e : Entry) →
    DoesFrom f code u meaning [] [] answers → place_of e ≡ u.place → finish_of code e ≡ u.finish → EndsInTime f code e u.given answers
in_time_by {C = C} {F = F} f code u meaning answers e does place finish =
    let limit = (length answers + 1) * (length code + 1) in
    let ran : Finish → ℕ → List C → State (Asked C) C F = λ y p given. run f traced code y limit (At p given [] (fresh answers)) in
    let same : ending (finish_of code e) (ran (finish_of code e) (place_of e) u.given) ≡ ending u.finish (over u [] [] meaning) =
    ap (λ y. ending y (ran y (place_of e) u.given)) finish
    ∙ ap (λ p. ending u.finish (ran u.finish p u.given)) place
    ∙ ap (λ given. ending u.finish (ran u.finish u.place given)) (sym (append-nil u.given))
    ∙ sym (named event_of u.finish (ran u.finish u.place (u.given ++ [])))
    ∙ ap (ending u.finish) (does.ends limit does.within) in
    subst IsSome (sym same) (is_over_at u [] meaning)
