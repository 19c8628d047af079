-- The machine that runs a list of instructions.
use Rattle.std.specs.Prelude.{ℕ, zero, suc, ◌+◌, ◌%◌, ◌==◌, List, [], ◌∷◌, ◌++◌, length, Option, Some, None, Bool, true, false, not, if◌then◌else◌, slice_get}
use Rattle.minijinja_syntax.specs.Texts.{Text}
use Rattle.minijinja_value.specs.Values.{Functions}
use Rattle.minijinja_tree.specs.Operators.{compute}
use Rattle.minijinja_tree.specs.Comparisons.{compares}
use Rattle.minijinja_semantics.specs.Events as event
use Rattle.minijinja_semantics.specs.Events.{Kind, EmitRaw, Emit, CallBlock, FastSuper, FastRecurse, LoadBlocks, Include, Lookup, StoreLocal, GetAttr, SetAttr, GetItem, Slice, Div, ApplyFilter, PerformTest, CallFunction, CallMethod, CallObject, MergeKwargs, UnpackLists, PushWith, PopFrame, PushAutoEscape, PopAutoEscape, BeginCapture, EndCapture, Enclose, GetClosure, ExportLocals, Event, World, Stop, Did, Gave, Ended, operated, ask, none_fits, one_fits, item_fits, if_as_many, all_fit}
use Rattle.minijinja_semantics.specs.Code.{Instr, Load, Do, Call, Apply, UnpackList, PushLoop, Iterate, PopLoopFrame, PushDidNotIterate, BuildMacro, Operate, Neg, Not, IsUndefined, CompareAndPreserve, BuildMap, BuildKwargs, BuildList, BuildTuple, DupTop, DiscardTop, Swap, Jump, JumpIfFalse, JumpIfFalseOrPop, JumpIfTrueOrPop, Return}

-- a place, the operands with the topmost first, for each open loop with the innermost first whether
-- an item came, and the world; or the same where the run has returned; or the run has ended; or the
-- instruction does not apply
pub data State (E C F : Type 0) : Type 0 where
  At : (place : ℕ) (operands : List C) (loops : List Bool) (world : World E C) → State E C F
  Returned : (operands : List C) (loops : List Bool) (world : World E C) → State E C F
  Halted : World E C → Stop F → State E C F
  Jammed : State E C F

-- the state after what a piece came to
abbrev pub after : {E C F X : Type 0} → (X → World E C → State E C F) → Did E C F X → State E C F
after k (Gave w x) = k x w
after k (Ended w e) = Halted w e

-- what an event is answered by: nothing, one value, which is pushed, or values, which are pushed in
-- order and then their count
pub data Size : Type 0 where
  Nothing OneValue AllValues : Size

-- what each kind of event is answered by
abbrev pub size : Kind → Size
size EmitRaw = Nothing
size Emit = Nothing
size CallBlock = Nothing
size FastSuper = Nothing
size FastRecurse = Nothing
size LoadBlocks = Nothing
size (Include ignore_missing) = Nothing
size Lookup = OneValue
size StoreLocal = Nothing
size GetAttr = OneValue
size SetAttr = Nothing
size GetItem = OneValue
size Slice = OneValue
size Div = OneValue
size ApplyFilter = OneValue
size PerformTest = OneValue
size CallFunction = OneValue
size CallMethod = OneValue
size CallObject = OneValue
size MergeKwargs = OneValue
size UnpackLists = AllValues
size PushWith = Nothing
size PopFrame = Nothing
size PushAutoEscape = Nothing
size PopAutoEscape = Nothing
size (BeginCapture mode) = Nothing
size EndCapture = OneValue
size Enclose = Nothing
size GetClosure = OneValue
size ExportLocals = OneValue
-- these five have instructions of their own, which say below what they are answered by, and are
-- asked by no others in a layout
size (event.UnpackList n) = Nothing
size (event.PushLoop flags) = Nothing
size event.PopLoopFrame = Nothing
size event.Iterate = Nothing
size (event.BuildMacro flags) = Nothing

-- values on the operands, the last on top
abbrev pub pushed : {C : Type 0} → List C → List C → List C
pushed [] ops = ops
pushed (v ∷ vs) ops = pushed vs (v ∷ ops)

-- the given number of operands, the topmost last, and those below
unfoldable pub popped : {C : Type 0} → ℕ → List C → List C → Option (List C × List C)
popped zero ops vs = Some (vs, ops)
popped (suc n) [] vs = None
popped (suc n) (v ∷ ops) vs = popped n ops (v ∷ vs)

-- the given number of pairs of a key and the value above it, the topmost last, and the operands
-- below
unfoldable pub popped_pairs : {C : Type 0} → ℕ → List C → List (C × C) → Option (List (C × C) × List C)
popped_pairs zero ops ps = Some (ps, ops)
popped_pairs (suc n) [] ps = None
popped_pairs (suc n) (v ∷ []) ps = None
popped_pairs (suc n) (v ∷ k ∷ ops) ps = popped_pairs n ops ((k, v) ∷ ps)

-- that number of operands, if the number is known
unfoldable pub popped_by : {C : Type 0} → Option ℕ → List C → Option (List C × List C)
popped_by None ops = None
popped_by (Some n) ops = popped n ops []

-- that number of operands, or as many as a count on top of them says
unfoldable pub popped_counted : {C F : Type 0} → Functions C F → Option ℕ → List C → Option (List C × List C)
popped_counted f (Some n) ops = popped n ops []
popped_counted f None [] = None
popped_counted f None (v ∷ ops) = popped_by (f.as_count v) ops

-- how the events of a run are noted, by the index of the instruction that asks
abbrev pub Notes : Type 0 → Type 0 → Type 0
Notes E C = ℕ → Event ℕ C → E

-- an event is asked, and what it is answered by is pushed
unfoldable pub did : {E C F : Type 0} → Functions C F → Size → E → ℕ → List C → List Bool → World E C → State E C F
did f Nothing e p ops ls w = after (λ _ w'. At (p + 1) ops ls w') (ask none_fits e w)
did f OneValue e p ops ls w = after (λ v w'. At (p + 1) (v ∷ ops) ls w') (ask one_fits e w)
did f AllValues e p ops ls w = after (λ vs w'. At (p + 1) (f.of_u64 (length vs) ∷ pushed vs ops) ls w') (ask all_fit e w)

-- an event on the operands that were popped
unfoldable pub asked : {E C F : Type 0} → Functions C F → Notes E C → Kind → Text → ℕ → Option (List C × List C) → List Bool → World E C → State E C F
asked f note k t p None ls w = Jammed
asked f note k t p (Some a) ls w = did f (size k) (note p (event.event None k t a.0)) p a.1 ls w

-- a value made of what was popped
unfoldable pub built : {E C F X : Type 0} → (X → C) → ℕ → Option (X × List C) → List Bool → World E C → State E C F
built make p None ls w = Jammed
built make p (Some a) ls w = At (p + 1) (make a.0 ∷ a.1) ls w

-- what follows with the topmost operand
abbrev pub on_one : {E C F : Type 0} → List C → (C → List C → State E C F) → State E C F
on_one [] k = Jammed
on_one (v ∷ ops) k = k v ops

-- what follows with the two topmost operands, the upper one last
abbrev pub on_two : {E C F : Type 0} → List C → (C → C → List C → State E C F) → State E C F
on_two [] k = Jammed
on_two (v ∷ []) k = Jammed
on_two (v ∷ u ∷ ops) k = k u v ops

-- what follows in the innermost loop, with whether an item came to it
abbrev pub in_loop : {E C F : Type 0} → List Bool → (Bool → List Bool → State E C F) → State E C F
in_loop [] k = Jammed
in_loop (l ∷ ls) k = k l ls

-- a loop with these flags has a loop variable
abbrev pub has_variable : (flags : ℕ) → Bool
has_variable flags = flags % 2 == 1

-- the place of a loop with a loop variable, by which its start names it
abbrev pub loop_at : (flags place : ℕ) → Option ℕ
loop_at flags p = if has_variable flags then Some p else None

-- an item goes on the operands, and the loop has come to one; without it the run goes on elsewhere
unfoldable pub iterated : {E C F : Type 0} → (past here : ℕ) → List C → Bool → List Bool → Option C → World E C → State E C F
iterated past p ops came ls None w = At past ops (came ∷ ls) w
iterated past p ops came ls (Some v) w = At (p + 1) (v ∷ ops) (true ∷ ls) w

-- one instruction
abbrev pub act : {E C F : Type 0} → Functions C F → Notes E C → Option (Instr C) → ℕ → List C → List Bool → World E C → State E C F
act f note None p ops ls w = Jammed
act f note (Some (Load c)) p ops ls w = At (p + 1) (c ∷ ops) ls w
act f note (Some (Do k t n)) p ops ls w = asked f note k t p (popped n ops []) ls w
act f note (Some (Call k t n)) p ops ls w = asked f note k t p (popped_counted f n ops) ls w
act f note (Some (Apply k t n id)) p ops ls w = asked f note k t p (popped_counted f n ops) ls w
act f note (Some (UnpackList n)) p ops ls w = on_one ops (λ v below.
    after (λ vs w'. At (p + 1) (vs ++ below) ls w') (ask (if_as_many n) (note p (event.event None (event.UnpackList n) [] (v ∷ []))) w))
act f note (Some (PushLoop flags)) p ops ls w = on_one ops (λ v below.
    after (λ _ w'. At (p + 1) below (false ∷ ls) w') (ask none_fits (note p (event.event (loop_at flags p) (event.PushLoop flags) [] (v ∷ []))) w))
act f note (Some (Iterate past)) p ops ls w = in_loop ls (λ came outer.
    after (iterated past p ops came outer) (ask item_fits (note p (event.event None event.Iterate [] [])) w))
act f note (Some PopLoopFrame) p ops ls w = in_loop ls (λ came outer.
    after (λ _ w'. At (p + 1) ops outer w') (ask none_fits (note p (event.event None event.PopLoopFrame [] [])) w))
act f note (Some PushDidNotIterate) p ops ls w = in_loop ls (λ came outer. At (p + 1) (f.of_bool (not came) ∷ ops) ls w)
act f note (Some (BuildMacro x body flags)) p ops ls w = on_two ops (λ closure names below.
    after (λ v w'. At (p + 1) (v ∷ below) ls w') (ask one_fits (note p (event.event (Some body) (event.BuildMacro flags) x (closure ∷ names ∷ []))) w))
act f note (Some (Operate o)) p ops ls w = on_two ops (λ a b below. after (λ v w'. At (p + 1) (v ∷ below) ls w') (operated (compute f o a b) w))
act f note (Some Neg) p ops ls w = on_one ops (λ a below. after (λ v w'. At (p + 1) (v ∷ below) ls w') (operated (f.neg a) w))
act f note (Some Not) p ops ls w = on_one ops (λ a below. At (p + 1) (f.of_bool (not (f.is_true a)) ∷ below) ls w)
act f note (Some IsUndefined) p ops ls w = on_one ops (λ a below. At (p + 1) (f.of_bool (f.is_undefined a) ∷ below) ls w)
act f note (Some (CompareAndPreserve o)) p ops ls w = on_two ops (λ a b below. after (λ holds w'. At (p + 1) (f.of_bool holds ∷ b ∷ below) ls w') (operated (compares f o a b) w))
act f note (Some (BuildMap n)) p ops ls w = built f.map p (popped_pairs n ops []) ls w
act f note (Some (BuildKwargs n)) p ops ls w = built f.kwargs p (popped_pairs n ops []) ls w
act f note (Some (BuildList n)) p ops ls w = built f.list p (popped_counted f n ops) ls w
act f note (Some (BuildTuple n)) p ops ls w = built f.tuple p (popped_counted f n ops) ls w
act f note (Some DupTop) p ops ls w = on_one ops (λ a below. At (p + 1) (a ∷ a ∷ below) ls w)
act f note (Some DiscardTop) p ops ls w = on_one ops (λ a below. At (p + 1) below ls w)
act f note (Some Swap) p ops ls w = on_two ops (λ a b below. At (p + 1) (a ∷ b ∷ below) ls w)
act f note (Some (Jump l)) p ops ls w = At l ops ls w
act f note (Some (JumpIfFalse l)) p ops ls w = on_one ops (λ a below. if f.is_true a then At (p + 1) below ls w else At l below ls w)
act f note (Some (JumpIfFalseOrPop l)) p ops ls w = on_one ops (λ a below. if f.is_true a then At (p + 1) below ls w else At l (a ∷ below) ls w)
act f note (Some (JumpIfTrueOrPop l)) p ops ls w = on_one ops (λ a below. if f.is_true a then At l (a ∷ below) ls w else At (p + 1) below ls w)
act f note (Some Return) p ops ls w = Returned ops ls w

-- where a run finishes: at a place, or where it returns
pub data Finish : Type 0 where
  AtPlace : ℕ → Finish
  AtReturn : Finish

-- whether the run is over at this place
abbrev pub is_over : Finish → ℕ → Bool
is_over (AtPlace end) p = p == end
is_over AtReturn p = false

-- the state in which the run is over, with these operands and open loops
abbrev pub finished : {E C F : Type 0} → Finish → List C → List Bool → World E C → State E C F
finished (AtPlace end) ops ls w = At end ops ls w
finished AtReturn ops ls w = Returned ops ls w

-- A step does the instruction at the place. A run that has finished or ended stays as it is.
unfoldable pub step : {E C F : Type 0} → Functions C F → Notes E C → List (Instr C) → Finish → State E C F → State E C F
step f note code finish (At p ops ls w) = if is_over finish p then At p ops ls w else act f note (slice_get code p) p ops ls w
step f note code finish (Returned ops ls w) = Returned ops ls w
step f note code finish (Halted w e) = Halted w e
step f note code finish Jammed = Jammed

-- the first n steps
unfoldable pub run : {E C F : Type 0} → Functions C F → Notes E C → List (Instr C) → Finish → ℕ → State E C F → State E C F
run f note code finish zero s = s
run f note code finish (suc n) s = run f note code finish n (step f note code finish s)

-- an event, and the index of the instruction that asked it
pub record Asked (C : Type 0) : Type 0 where
  pub place : ℕ
  pub event : Event ℕ C

-- each event is noted with the index of the instruction that asked it
abbrev pub traced : {C : Type 0} → Notes (Asked C) C
traced p e = record { place = p; event = e }
