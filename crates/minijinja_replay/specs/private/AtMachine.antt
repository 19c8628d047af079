-- The machine as its definition sees it.
use Rattle.std.specs.Prelude.{◌≡◌, ℕ, ◌==◌, List, [], ◌∷◌, ◌++◌, length, map, reverse, Option, Some, None, Bool, true, if◌then◌else◌, nat_lt, slice_get}
use Rattle.minijinja_value.specs.Values.{Functions}
use Rattle.minijinja_tree.specs.Operators as operator
use Rattle.minijinja_tree.specs.Operators.{Operator}
use Rattle.minijinja_semantics.specs.Events as event
use Rattle.minijinja_semantics.specs.Events.{World, Did, Gave, Ended}
use Rattle.minijinja_semantics.specs.Code.{Instr}
use Rattle.minijinja_semantics.specs.Machine.{State, At, Returned, Halted, Jammed, Asked, Size, Nothing, OneValue, AllValues, act, traced}
use Rattle.minijinja_instructions.specs.Instructions.{code_of}
use Rattle.minijinja_replay.specs.Replay.{noted, answer_of, asks}
use Rattle.minijinja_replay.specs.declared.asking.Fit.{Fit}
use Rattle.minijinja_replay.specs.declared.asking.Fit.TheVariants as fit
use Rattle.minijinja_replay.specs.declared.asking.Pushed.{Pushed}
use Rattle.minijinja_replay.specs.declared.asking.Pushed.TheVariants as pushed
use Rattle.minijinja_replay.specs.declared.asking.Taken.{Taken}
use Rattle.minijinja_replay.specs.declared.asking.Taken.TheVariants as taken
use Rattle.minijinja_replay.specs.declared.machine.Machine.{Machine}
use Rattle.minijinja_replay.specs.declared.machine.Step.{Step}
use Rattle.minijinja_replay.specs.declared.machine.Step.TheVariants as step
use Rattle.minijinja_replay.specs.declared.machine.Stop.{Stop}
use Rattle.minijinja_replay.specs.declared.machine.Stop.TheVariants as stop
use Rattle.minijinja_replay.specs.declared.operate.Binary.{Binary}
use Rattle.minijinja_replay.specs.declared.operate.Binary.TheVariants as binary

module _ {V G C : Type 0} (c : V → C) where
  -- the code that it runs
  abbrev pub code : Machine V G → List (Instr C)
  code m = code_of c m.code.now

  -- the operands, the topmost first
  abbrev pub stack : Machine V G → List C
  stack m = reverse (map c m.operands.items)

  -- for each open loop whether an item came, the innermost first
  abbrev pub loops : Machine V G → List Bool
  loops m = reverse m.loops.items

  -- the record and the answers left
  abbrev pub world : Machine V G → World (Asked C) C
  world m = record {
    record_so_far = reverse (map (noted c (code m)) m.events.items);
    answers = reverse (map (answer_of c) m.answers.items);
  }

  -- the event that its instruction asks with these operands, as it is noted
  abbrev pub note : Machine V G → List C → Asked C
  note m vs = record { place = m.place; event = asks (slice_get (code m) m.place) m.place vs }

  -- its state, while the run goes on
  abbrev pub state : {F : Type 0} → Machine V G → State (Asked C) C F
  state m = At m.place (stack m) (loops m) (world m)

-- why a run stops
abbrev pub stop_of : {G F : Type 0} → (G → F) → Stop G → event.Stop F
stop_of fc stop.AnswerFault = event.AnswerFault
stop_of fc (stop.OperatorFault e) = event.OperatorFault (fc e)
stop_of fc stop.Starved = event.Starved
stop_of fc stop.Unfit = event.Unfit

-- the state that a step came to
abbrev pub came_to : {V G C F : Type 0} → (V → C) → (G → F) → Machine V G → Step G → State (Asked C) C F
came_to c fc m step.On = state c m
came_to c fc m step.Returned = Returned (stack c m) (loops c m) (world c m)
came_to c fc m (step.Stopped e) = Halted (world c m) (stop_of fc e)
came_to c fc m step.Jammed = Jammed

-- from the old machine an instruction leads to what the step came to
abbrev pub Does : {V G C F : Type 0} → Functions C F → (V → C) → (G → F) → Machine V G → Option (Instr C) → Machine V G → Step G → Type 0
Does f c fc old i new s = act f traced i old.place (stack c old) (loops c old) (world c old) ≡ came_to c fc new s

-- the instruction asks this event, whatever its operands
abbrev pub Asks : {V G C : Type 0} → (V → C) → Machine V G → Option (Instr C) → Type 0
Asks {C = C} c m i = (vs : List C) → note c m vs ≡ traced m.place (asks i m.place vs)

-- what follows with the topmost operand, and with the two topmost ones
abbrev pub Following : Type 0 → Type 0 → Type 0
Following C F = C → List C → State (Asked C) C F

abbrev pub FollowingTwo : Type 0 → Type 0 → Type 0
FollowingTwo C F = C → C → List C → State (Asked C) C F

-- whether the given number of values fits
abbrev pub fits : Fit → ℕ → Bool
fits fit.Nothing n = n == 0
fits fit.One n = n == 1
fits fit.AtMostOne n = nat_lt n 2
fits (fit.Exactly k) n = n == k
fits fit.Any n = true

-- the values, if they are that many
abbrev pub fitting : {C : Type 0} → Fit → List C → Option (List C)
fitting y vs = if fits y (length vs) then Some vs else None

-- what asking came to
abbrev pub took : {V G C F : Type 0} → (V → C) → (G → F) → Taken V G → World (Asked C) C → Did (Asked C) C F (List C)
took c fc (taken.Values vs) w = Gave w (map c vs.items)
took c fc (taken.Stopped e) w = Ended w (stop_of fc e)

-- what is pushed, as the definition of the machine has it
abbrev pub pushed_by : Pushed → Size
pushed_by pushed.Nothing = Nothing
pushed_by pushed.OneValue = OneValue
pushed_by pushed.AllValues = AllValues

-- the operands with these values of an answer on them, and their count where that is pushed too
abbrev pub put_on : {C F : Type 0} → Functions C F → Pushed → (values operands : List C) → List C
put_on f pushed.Nothing vs ops = reverse vs ++ ops
put_on f pushed.OneValue vs ops = reverse vs ++ ops
put_on f pushed.AllValues vs ops = f.of_u64 (length vs) ∷ (reverse vs ++ ops)

-- the first one, if there is one
abbrev pub head_of : {C : Type 0} → List C → Option C
head_of [] = None
head_of (v ∷ vs) = Some v

-- how many values fit that are pushed so
abbrev pub fit_of : Size → Fit
fit_of Nothing = fit.Nothing
fit_of OneValue = fit.One
fit_of AllValues = fit.Any

-- the operator, as trees have it
abbrev pub operator_of : Binary → Operator
operator_of binary.Add = operator.Add
operator_of binary.Sub = operator.Sub
operator_of binary.Mul = operator.Mul
operator_of binary.IntDiv = operator.IntDiv
operator_of binary.Rem = operator.Rem
operator_of binary.Pow = operator.Pow
operator_of binary.StringConcat = operator.StringConcat
operator_of binary.Eq = operator.Eq
operator_of binary.Ne = operator.Ne
operator_of binary.Lt = operator.Lt
operator_of binary.Lte = operator.Lte
operator_of binary.Gt = operator.Gt
operator_of binary.Gte = operator.Gte
operator_of binary.In = operator.In
