-- What a run of the machine shows: its record, how it is over and after how many steps.
use Rattle.std.specs.Prelude.{◌≡◌, ℕ, ◌+◌, ◌*◌, ◌<◌, List, [], ◌∷◌, length, map, reverse, slice_get, Option, Some, None, IsSome, if◌then◌else◌}
use Rattle.minijinja_value.specs.Values.{Functions}
use Rattle.minijinja_semantics.specs.Events as event
use Rattle.minijinja_semantics.specs.Events.{Event, Stop, AnswerFault, Starved, Unfit, OperatorFault}
use Rattle.minijinja_semantics.specs.Correct.{fresh}
use Rattle.minijinja_semantics.specs.Code.{Instr, Do, Call, Apply, UnpackList, PushLoop, Iterate, PushDidNotIterate, BuildMacro}
use Rattle.minijinja_semantics.specs.Places.{Extent}
use Rattle.minijinja_semantics.specs.Units.{Enterable, RecursiveLoop, MacroBody}
use Rattle.minijinja_semantics.specs.Machine.{State, At, Returned, Halted, Jammed, Finish, AtPlace, AtReturn, is_over, run, Asked, traced, loop_at}
use Rattle.minijinja_replay.specs.declared.replay.Answer.{Answer}
use Rattle.minijinja_replay.specs.declared.replay.Answer.TheVariants as answer
use Rattle.minijinja_replay.specs.declared.replay.End.{End}
use Rattle.minijinja_replay.specs.declared.replay.End.TheVariants as end
use Rattle.minijinja_replay.specs.declared.replay.Event.{Event as Row}
use Rattle.minijinja_replay.specs.declared.replay.Entry.{Entry}
use Rattle.minijinja_replay.specs.declared.replay.Entry.TheVariants as entry
use Rattle.minijinja_replay.specs.declared.replay.Run.{Run}

-- ---- where a run is entered, and where it is over

-- the place after a loop that leads to the place e where no item is left: at e stands what ends the
-- loop, or before that what pushes whether no item came
abbrev pub past_end : {C : Type 0} → Option (Instr C) → ℕ → ℕ
past_end (Some PushDidNotIterate) e = e + 2
past_end _ e = e + 1

-- the place after a loop that asks for its items by this instruction; of another instruction, the
-- end of the list
abbrev pub past_items : {C : Type 0} → List (Instr C) → Option (Instr C) → ℕ
past_items code (Some (Iterate e)) = past_end (slice_get code e) e
past_items code _ = length code

-- the code of a recursive loop asks for its items right behind its start, and its extent ends after
-- what ends the loop; of what a macro runs nothing is said
abbrev pub EndsWhereItLeads : {C : Type 0} → List (Instr C) → Enterable C Extent → Type 0
EndsWhereItLeads code (RecursiveLoop x e body has_else) = past_items code (slice_get code (x.begin + 1)) ≡ x.end
EndsWhereItLeads code (MacroBody x ps body) = Unit {0}

-- the place where a run from an entry begins
abbrev pub place_of : Entry → ℕ
place_of entry.Start = 0
place_of (entry.Macro p) = p
place_of (entry.Loop p) = p

-- where a run from an entry finishes
abbrev pub finish_of : {C : Type 0} → List (Instr C) → Entry → Finish
finish_of code entry.Start = AtPlace (length code)
finish_of code (entry.Macro p) = AtReturn
finish_of code (entry.Loop p) = AtPlace (past_items code (slice_get code (p + 1)))

-- ---- how a run is over

-- a run finished, or it stopped for a reason
pub data Ending (F : Type 0) : Type 0 where
  Finished : Ending F
  Stopped : Stop F → Ending F

-- how a run is over in this state, if it is; one that has jammed is not
abbrev pub ending : {E C F : Type 0} → Finish → State E C F → Option (Ending F)
ending finish (At p ops ls w) = if is_over finish p then Some Finished else None
ending finish (Returned ops ls w) = Some Finished
ending finish (Halted w e) = Some (Stopped e)
ending finish Jammed = None

-- the record of a run, latest event first
abbrev pub record_of : {E C F : Type 0} → State E C F → List (E × event.Answer C)
record_of (At p ops ls w) = w.record_so_far
record_of (Returned ops ls w) = w.record_so_far
record_of (Halted w e) = w.record_so_far
record_of Jammed = []

-- the operands that are left, the topmost first; a run that has stopped leaves none
abbrev pub operands_of : {E C F : Type 0} → State E C F → List C
operands_of (At p ops ls w) = ops
operands_of (Returned ops ls w) = ops
operands_of (Halted w e) = []
operands_of Jammed = []

-- the state after the first n steps of the run from an entry, with these operands alone, the
-- topmost first, no open loop, and these answers
abbrev pub steps_of : {C F : Type 0} → Functions C F → List (Instr C) → Entry → List C → List (event.Answer C) → ℕ → State (Asked C) C F
steps_of f code e given answers n = run f traced code (finish_of code e) n (At (place_of e) given [] (fresh answers))

-- how that run is over after n steps, if it is
abbrev pub ending_after : {C F : Type 0} → ℕ → Functions C F → List (Instr C) → Entry → List C → List (event.Answer C) → Option (Ending F)
ending_after n f code e given answers = ending (finish_of code e) (steps_of f code e given answers n)

-- that run is over after n steps, or was before: it stays as it is once it is over
abbrev pub IsOverWithin : {C F : Type 0} → ℕ → Functions C F → List (Instr C) → Entry → List C → List (event.Answer C) → Type 0
IsOverWithin n f code e given answers = IsSome (ending_after n f code e given answers)

-- that run is over within (answers + 1) * (code length + 1) steps
abbrev pub EndsInTime : {C F : Type 0} → Functions C F → List (Instr C) → Entry → List C → List (event.Answer C) → Type 0
EndsInTime f code e given answers = IsOverWithin ((length answers + 1) * (length code + 1)) f code e given answers

-- a run of this unit is over in time on these answers, with any value for a loop to go over, and
-- with any values for the parameters of a macro, one for each
abbrev pub UnitEndsInTime : {C F : Type 0} → Functions C F → List (Instr C) → List (event.Answer C) → Enterable C Extent → Type 0
UnitEndsInTime f code answers (RecursiveLoop x e body has_else) = (v : _) → EndsInTime f code (entry.Loop x.begin) (v ∷ []) answers
UnitEndsInTime f code answers (MacroBody x ps body) = (vs : List _) → length vs ≡ length ps → EndsInTime f code (entry.Macro x.begin) vs answers

-- ---- what is answered

-- The event that an instruction asks at a place with these operands: of its own kind and text, and
-- with the loop or macro that it names. The last line is for `PopLoopFrame`; the instructions that
-- ask nothing are in no record.
abbrev pub asks : {C : Type 0} → Option (Instr C) → ℕ → List C → Event ℕ C
asks (Some (Do k t n)) p vs = event.event None k t vs
asks (Some (Call k t n)) p vs = event.event None k t vs
asks (Some (Apply k t n id)) p vs = event.event None k t vs
asks (Some (UnpackList n)) p vs = event.event None (event.UnpackList n) [] vs
asks (Some (PushLoop flags)) p vs = event.event (loop_at flags p) (event.PushLoop flags) [] vs
asks (Some (Iterate past)) p vs = event.event None event.Iterate [] vs
asks (Some (BuildMacro x body flags)) p vs = event.event (Some body) (event.BuildMacro flags) x vs
asks _ p vs = event.event None event.PopLoopFrame [] vs

-- an answer, seen as what its values contain
abbrev pub answer_of : {V C : Type 0} → (V → C) → Answer V → event.Answer C
answer_of c answer.Fault = event.Fault
answer_of c (answer.Values vs) = event.Values (map c vs.items)

-- an event with its answer, as a record has it: with the index of the instruction that asked
abbrev pub noted : {V C : Type 0} → (V → C) → List (Instr C) → Row V → Asked C × event.Answer C
noted c code r = (record { place = r.index; event = asks (slice_get code r.index) r.index (map c r.operands.items) }, answer_of c r.answer)

-- how a run is over, seen as what its fault contains
abbrev pub end_of : {G F : Type 0} → (G → F) → End G → Ending F
end_of c end.Finished = Finished
end_of c end.AnswerFault = Stopped AnswerFault
end_of c (end.OperatorFault e) = Stopped (OperatorFault (c e))
end_of c end.Starved = Stopped Starved
end_of c end.Unfit = Stopped Unfit

-- The run from an entry is over after `steps` steps (`over`) and not before (`first`), in the way
-- that `ending` says. Then its record is `events`, in order, and the operands that are left are
-- `operands`, the topmost last: none, unless it finished.
pub record IsRun {V G C F : Type 0} (f : Functions C F) (contents : V → C) (fault_contents : G → F) (code : List (Instr C)) (e : Entry) (given : List C) (answers : List (event.Answer C)) (r : Run V G) : Type 0 where
  pub over : ending_after r.steps f code e given answers ≡ Some (end_of fault_contents r.ending)
  pub first : (n : ℕ) → n < r.steps → ending_after n f code e given answers ≡ None
  pub events : record_of (steps_of f code e given answers r.steps) ≡ reverse (map (noted contents code) r.events.items)
  pub operands : operands_of (steps_of f code e given answers r.steps) ≡ reverse (map contents r.operands.items)
