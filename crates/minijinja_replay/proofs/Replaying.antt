-- A run of the machine, from what its steps came to.
use Rattle.std.proofs.Common.{◌≡◌, ℕ, ◌+◌, ◌-◌, ◌<◌, ◌≤◌, List, [], Some, None, IsSome, map, ap, ◌∙◌, sym, subst, arith}
use Rattle.std.specs.Prelude.{false, reverse, slice_get}
use Rattle.minijinja_value.specs.Values.{Functions}
use Rattle.minijinja_semantics.specs.Events as event
use Rattle.minijinja_semantics.specs.Events.{World}
use Rattle.minijinja_semantics.specs.Correct.{fresh}
use Rattle.minijinja_semantics.specs.Machine.{State, At, Jammed, Asked, act, is_over, run, traced}
use Rattle.minijinja_instructions.specs.InstructionLists.{Instructions}
use Rattle.minijinja_instructions.specs.Instructions.{code_of}
use Rattle.minijinja_replay.specs.Replay.{Ending, IsRun, end_of, ending, ending_after, finish_of, noted, operands_of, place_of, record_of, steps_of}
use Rattle.minijinja_replay.specs.private.AtMachine.{Does, came_to, loops, stack, state, world}
use Rattle.minijinja_replay.specs.declared.machine.Machine.{Machine}
use Rattle.minijinja_replay.specs.declared.machine.Step.{Step}
use Rattle.minijinja_replay.specs.declared.machine.Step.TheVariants as step
use Rattle.minijinja_replay.specs.declared.replay.Entry.{Entry}
use Rattle.minijinja_replay.specs.declared.replay.Run.{Run}
use Rattle.minijinja_replay.proofs.Running.{goes_on, is_some_of, jams, run_more, run_stays, stays, still_none}

-- two worlds of equal parts
pub world_same : {E C : Type 0} {r r' : List (E × event.Answer C)} {a a' : List (event.Answer C)} → r ≡ r' → a ≡ a' → ◌≡◌ {A = World E C} (record { record_so_far = r; answers = a }) (record { record_so_far = r'; answers = a' })
world_same x y = cc

module _ {V G C F : Type 0} (f : Functions C F) (c : V → C) (fc : G → F) (program : Instructions V G) (e : Entry) (given : List C) (answers : List (event.Answer C)) where
  -- what has run is the run
  pub is_run : (n : ℕ) (s : State (Asked C) C F) (r : Run V G) → steps_of f (code_of c program) e given answers n ≡ s → r.steps ≡ n →
      ending (finish_of (code_of c program) e) s ≡ Some (end_of fc r.ending) →
      ((k : ℕ) → k < n → ending_after k f (code_of c program) e given answers ≡ None) →
      record_of s ≡ reverse (map (noted c (code_of c program)) r.events.items) → operands_of s ≡ reverse (map c r.operands.items) →
      IsRun f c fc (code_of c program) e given answers r
  is_run n s r came is over first events operands = record {
    over = ap (λ k. ending_after k f (code_of c program) e given answers) is ∙ ap (ending (finish_of (code_of c program) e)) came ∙ over;
    first = λ k below. first k (subst (λ x. k < x) is below);
    events = ap (λ k. record_of (steps_of f (code_of c program) e given answers k)) is ∙ ap record_of came ∙ events;
    operands = ap (λ k. operands_of (steps_of f (code_of c program) e given answers k)) is ∙ ap operands_of came ∙ operands;
  }

  -- it is over from then on
  pub in_time : (n limit : ℕ) (s : State (Asked C) C F) (x : Ending F) → steps_of f (code_of c program) e given answers n ≡ s → ending (finish_of (code_of c program) e) s ≡ Some x → n ≤ limit →
      IsSome (ending_after limit f (code_of c program) e given answers)
  in_time n limit s x came over le =
      let start : State (Asked C) C F = At (place_of e) given [] (fresh answers) in
      let code = code_of c program in
      let finish = finish_of code e in
      let there : run f traced code finish n start ≡ s = came in
      let later : run f traced code finish (limit - n) s ≡ s = run_stays f traced code finish (limit - n) s (stays f traced code finish s x over) in
      let sum : n + (limit - n) ≡ limit = omega (arith, le) in
      let all : run f traced code finish limit start ≡ s =
      ap (λ k. run f traced code finish k start) (sym sum) ∙ run_more f traced code finish n (limit - n) start ∙ ap (run f traced code finish (limit - n)) there ∙ later in
      is_some_of (ending finish (run f traced code finish limit start)) x (ap (ending finish) all ∙ over)

  -- the events that were noted are the record
  pub recorded : (m : Machine V G) (r : Run V G) → m.code.now ≡ program → r.events ≡ m.events → (world c m).record_so_far ≡ reverse (map (noted c (code_of c program)) r.events.items)
  recorded m r same events =
      ap (λ k. reverse (map (noted c (code_of c k)) m.events.items)) same ∙ ap (λ es. reverse (map (noted c (code_of c program)) es.items)) (sym events)

module _ {V G C F : Type 0} (f : Functions C F) (c : V → C) (fc : G → F) (program : Instructions V G) (e : Entry) (given : List C) (answers : List (event.Answer C))
    (n : ℕ) (m : Machine V G) (at : steps_of f (code_of c program) e given answers n ≡ state c m) (going : is_over (finish_of (code_of c program) e) m.place ≡ false) (same : m.code.now ≡ program) where
  -- a step more
  pub goes : (m' : Machine V G) (s : Step G) → Does f c fc m (slice_get (code_of c m.code.now) m.place) m' s → steps_of f (code_of c program) e given answers (n + 1) ≡ came_to c fc m' s
  goes m' s does =
      goes_on f traced (code_of c program) (finish_of (code_of c program) e) n m.place (stack c m) (loops c m) (world c m) (At (place_of e) given [] (fresh answers)) (came_to c fc m' s) at going
      (subst (λ k. act f traced (slice_get (code_of c k) m.place) m.place (stack c m) (loops c m) (world c m) ≡ came_to c fc m' s) same does)

  -- nor was it before
  pub none_yet : ((k : ℕ) → k < n → ending_after k f (code_of c program) e given answers ≡ None) → (k : ℕ) → k < n + 1 → ending_after k f (code_of c program) e given answers ≡ None
  none_yet first = still_none f traced (code_of c program) (finish_of (code_of c program) e) n m.place (stack c m) (loops c m) (world c m) (At (place_of e) given [] (fresh answers)) at going first

  -- where the next step jams, it is never over
  pub never : (m' : Machine V G) → Does f c fc m (slice_get (code_of c m.code.now) m.place) m' step.Jammed → (limit : ℕ) → IsSome (ending_after limit f (code_of c program) e given answers) → ⊥
  never m' does limit over =
      jams f traced (code_of c program) (finish_of (code_of c program) e) n limit m.place (stack c m) (loops c m) (world c m) (At (place_of e) given [] (fresh answers)) at going
      (subst (λ k. act f traced (slice_get (code_of c k) m.place) m.place (stack c m) (loops c m) (world c m) ≡ Jammed) same does) over
