-- Instructions over the contents of values.
use Rattle.std.specs.Prelude.{ℕ, Option}
use Rattle.minijinja_syntax.specs.Texts.{Text}
use Rattle.minijinja_tree.specs.CompareOps.{CompareOp}
use Rattle.minijinja_tree.specs.Operators.{Operator}
use Rattle.minijinja_semantics.specs.Events.{Kind}

-- one instruction
pub data Instr (C : Type 0) : Type 0 where
  -- pushes a constant
  Load : C → Instr C
  -- is an event, with a text and a number of operands
  Do : Kind → Text → ℕ → Instr C
  -- is the event of a call, with a text and that number of operands, or as many as a count on top
  -- of them says
  Call : Kind → Text → Option ℕ → Instr C
  -- is the event of a filter or test, with its name, its number of operands as a call has it, and
  -- the id of its name
  Apply : Kind → Text → Option ℕ → (id : ℕ) → Instr C
  -- takes a value apart into the given number of items, the first on top
  UnpackList : ℕ → Instr C
  -- begins a loop over the value on top, with its flags; asks for the loop's next item, or goes on
  -- elsewhere; ends the loop
  PushLoop : (flags : ℕ) → Instr C
  Iterate : (past : ℕ) → Instr C
  PopLoopFrame : Instr C
  -- whether no item came to the innermost loop
  PushDidNotIterate : Instr C
  -- makes a macro of its closure and its argument names, with its name, the place of its body and
  -- its flags
  BuildMacro : Text → (body : ℕ) → (flags : ℕ) → Instr C
  -- make a value of the two on top, or of the one
  Operate : Operator → Instr C
  Neg Not IsUndefined : Instr C
  -- keeps the second of two values, and pushes whether their comparison holds
  CompareAndPreserve : CompareOp → Instr C
  -- make one value of a number of pairs, or of a number of values, or of as many as a count on top
  -- of them says
  BuildMap BuildKwargs : ℕ → Instr C
  BuildList BuildTuple : Option ℕ → Instr C
  -- put the topmost operands in order
  DupTop DiscardTop Swap : Instr C
  -- go to a place: always; where the value on top is false, which is taken off; where it is false
  -- or true, and then it stays
  Jump JumpIfFalse JumpIfFalseOrPop JumpIfTrueOrPop : ℕ → Instr C
  -- ends the run
  Return : Instr C
