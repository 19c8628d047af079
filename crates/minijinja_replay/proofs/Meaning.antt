-- A run of code that does what is meant goes as that is meant.
use Rattle.std.proofs.Common.{rules, inl, inr, ◌≡◌, ℕ, ◌+◌, ◌<◌, ◌≤◌, List, [], ◌∷◌, ◌++◌, map, Option, Some, None, IsSome, refl, ap, ◌∙◌, sym, subst, arith}
use Rattle.std.specs.Prelude.{◌⊎◌, Bool, reverse}
use Rattle.std.proofs.lemmas.List.{append-nil, reverse-reverse}
use Rattle.std.proofs.lemmas.Bool.{cases_lt}
use Rattle.minijinja_value.specs.Values.{Functions}
use Rattle.minijinja_semantics.specs.Code.{Instr}
use Rattle.minijinja_semantics.specs.Correct as Correct
use Rattle.minijinja_semantics.specs.Correct.{DoesFrom, fresh, over}
use Rattle.minijinja_semantics.specs.Events as event
use Rattle.minijinja_semantics.specs.Events.{Did, Event, Gave, Ended, World}
use Rattle.minijinja_semantics.specs.Machine.{State, At, Returned, Halted, Jammed, Asked, AtPlace, AtReturn, Finish, finished, run, traced}
use Rattle.minijinja_semantics.specs.Naming.{event_of, record_as, state_as}
use Rattle.minijinja_replay.specs.Replay.{IsRun, ending, end_of, finish_of, noted, operands_of, place_of, record_of, steps_of}
use Rattle.minijinja_replay.specs.Meant.{IsMeant, ending_meant, events_of, operands_meant, record_meant}
use Rattle.minijinja_replay.specs.declared.replay.Entry.{Entry}
use Rattle.minijinja_replay.specs.declared.replay.Event.{Event as Row}
use Rattle.minijinja_replay.specs.declared.replay.Run.{Run}
use Rattle.minijinja_replay.proofs.Ending.{is_finished, is_over_at, named}
use Rattle.minijinja_replay.proofs.Running.{run_more, run_stays, stays}
use Rattle.minijinja_replay.proofs.Stacks.{map_reverse}

-- what there is of two equal ones is equal
some_same : {X : Type 0} {x y : X} → Some x ≡ Some y → x ≡ y
some_same e = cc

-- of a state whose events are noted in another way, the record is, and the operands are the same
record_named : {E E' C F : Type 0} (g : E → E') (s : State E C F) → record_of (state_as g s) ≡ record_as g (record_of s)
record_named g (At p ops ls w) = refl
record_named g (Returned ops ls w) = refl
record_named g (Halted w e) = refl
record_named g Jammed = refl

operands_named : {E E' C F : Type 0} (g : E → E') (s : State E C F) → operands_of (state_as g s) ≡ operands_of s
operands_named g (At p ops ls w) = refl
operands_named g (Returned ops ls w) = refl
operands_named g (Halted w e) = refl
operands_named g Jammed = refl

-- the record and the operands where a run has finished
record_finished : {E C : Type 0} (F : Type 0) (finish : Finish) (ops : List C) (ls : List Bool) (w : World E C) → record_of {F = F} (finished finish ops ls w) ≡ w.record_so_far
record_finished F (AtPlace end) ops ls w = refl
record_finished F AtReturn ops ls w = refl

operands_finished : {E C : Type 0} (F : Type 0) (finish : Finish) (ops : List C) (ls : List Bool) (w : World E C) → operands_of {F = F} (finished finish ops ls w) ≡ ops
operands_finished F (AtPlace end) ops ls w = refl
operands_finished F AtReturn ops ls w = refl

module _ {C X : Type 0} (u : Correct.Entry C X) where
  -- the ending, the record and the operands in the state in which a unit is over
  ends_over : {E F : Type 0} (meaning : Did E C F X) → ending u.finish (over u [] [] meaning) ≡ Some (ending_meant meaning)
  ends_over (Gave w x) = is_finished u.finish (u.leaves x ++ []) [] w
  ends_over (Ended w e) = refl

  record_over : {E F : Type 0} (meaning : Did E C F X) → record_of (over u [] [] meaning) ≡ record_meant meaning
  record_over (Gave w x) = record_finished _ u.finish (u.leaves x ++ []) [] w
  record_over (Ended w e) = refl

  operands_over : {E F : Type 0} (meaning : Did E C F X) → operands_of (over u [] [] meaning) ≡ operands_meant u.leaves meaning
  operands_over (Gave w x) = operands_finished _ u.finish (u.leaves x ++ []) [] w ∙ append-nil (u.leaves x)
  operands_over (Ended w e) = refl

-- the events that were noted, without their places
joined : {V C : Type 0} (c : V → C) (code : List (Instr C)) (rows : List (Row V)) → record_as event_of (map (noted c code) rows) ≡ events_of c code rows
joined c code [] = refl
joined c code (r ∷ rows) = ap (λ l. ((noted c code r).0.event, (noted c code r).1) ∷ l) (joined c code rows)

-- what there is is not none
not_none : {X : Type 0} {o : Option X} → IsSome o → o ≡ None → ⊥
not_none {o = None} is e = search rules
not_none {o = Some x} is e = cc

module _ {V G C F X : Type 0} (f : Functions C F) (c : V → C) (fc : G → F) (code : List (Instr C)) (u : Correct.Entry C X)
    (meaning : Did (Event ℕ C) C F X) (answers : List (event.Answer C)) (e : Entry) (r : Run V G)
    (does : DoesFrom f code u meaning [] [] answers) (place : place_of e ≡ u.place) (finish : finish_of code e ≡ u.finish)
    (is : IsRun f c fc code e u.given answers r) where
  -- the state after the given number of steps
  abbrev ran : ℕ → State (Asked C) C F
  ran n = steps_of f code e u.given answers n

  -- what the run of the unit came to when it was over
  meant_at : (n : ℕ) → does.steps ≤ n → state_as event_of (ran n) ≡ over u [] [] meaning
  meant_at n late =
      let at : Finish → ℕ → List C → State (Asked C) C F = λ y p given. run f traced code y n (At p given [] (fresh answers)) in
      ap (λ y. state_as event_of (at y (place_of e) u.given)) finish
      ∙ ap (λ p. state_as event_of (at u.finish p u.given)) place
      ∙ ap (λ given. state_as event_of (at u.finish u.place given)) (sym (append-nil u.given))
      ∙ does.ends n late

  stayed : ran (r.steps + does.steps) ≡ ran r.steps
  stayed =
      run_more f traced code (finish_of code e) r.steps does.steps _
      ∙ run_stays f traced code (finish_of code e) does.steps (ran r.steps) (stays f traced code (finish_of code e) (ran r.steps) (end_of fc r.ending) is.over)

  came : state_as event_of (ran r.steps) ≡ over u [] [] meaning
  came = ap (state_as event_of) (sym stayed) ∙ meant_at (r.steps + does.steps) (omega arith)

  ended : ending (finish_of code e) (ran r.steps) ≡ Some (ending_meant meaning)
  ended =
      sym (named event_of (finish_of code e) (ran r.steps)) ∙ ap (ending (finish_of code e)) came
      ∙ ap (λ y. ending y (over u [] [] meaning)) finish ∙ ends_over u meaning

  ended_then : IsSome (ending (finish_of code e) (ran does.steps))
  ended_then =
      subst IsSome (sym (sym (named event_of (finish_of code e) (ran does.steps)) ∙ ap (ending (finish_of code e)) (meant_at does.steps (omega arith))
      ∙ ap (λ y. ending y (over u [] [] meaning)) finish)) (is_over_at u [] meaning)

  in_steps : (does.steps < r.steps) ⊎ (r.steps ≤ does.steps) → r.steps ≤ does.steps
  in_steps (inl before) = absurd (not_none ended_then (is.first does.steps before))
  in_steps (inr within) = within

  recorded : record_as event_of (reverse (map (noted c code) r.events.items)) ≡ record_meant meaning
  recorded = ap (record_as event_of) (sym is.events) ∙ sym (record_named event_of (ran r.steps)) ∙ ap record_of came ∙ record_over u meaning

  -- the run goes as the unit means
  pub is_meant : IsMeant c fc code u.leaves meaning answers r
  is_meant = record {
    events =
        sym (joined c code r.events.items) ∙ sym (reverse-reverse (record_as event_of (map (noted c code) r.events.items)))
        ∙ ap reverse (sym (map_reverse (λ a. (event_of a.0, a.1)) (map (noted c code) r.events.items)) ∙ recorded);
    ending = some_same (sym is.over ∙ ended);
    operands = sym is.operands ∙ sym (operands_named event_of (ran r.steps)) ∙ ap operands_of came ∙ operands_over u meaning;
    within = let most = does.within in let steps = in_steps (cases_lt does.steps r.steps) in omega arith;
  }
