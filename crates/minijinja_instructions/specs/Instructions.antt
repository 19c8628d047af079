-- The table of instructions: each as the machine's definition has it, over the contents of values.
use Rattle.std.specs.Prelude.{List, [], map}
use Rattle.minijinja_tree.specs.CompareOps as cmp
use Rattle.minijinja_semantics.specs.Events as event
use Rattle.minijinja_tree.specs.Operators as operator
use Rattle.minijinja_semantics.specs.Code as code
use Rattle.minijinja_semantics.specs.Code.{Instr}
use Rattle.minijinja_instructions.specs.InstructionLists.{instructions_of}
use Rattle.minijinja_instructions.specs.declared.instructions.CaptureMode.{CaptureMode}
use Rattle.minijinja_instructions.specs.declared.instructions.CaptureMode.TheVariants as capture_mode
use Rattle.minijinja_instructions.specs.declared.instructions.CompareOp.{CompareOp}
use Rattle.minijinja_instructions.specs.declared.instructions.CompareOp.TheVariants as compare_op
use Rattle.minijinja_instructions.specs.declared.instructions.Instruction.{Instruction}
use Rattle.minijinja_instructions.specs.declared.instructions.Instruction.TheVariants.{EmitRaw, StoreLocal, Lookup, GetAttr, SetAttr, GetItem, Slice, LoadConst, BuildMap, BuildKwargs, MergeKwargs, BuildList, BuildTuple, UnpackList, UnpackLists, Add, Sub, Mul, Div, IntDiv, Rem, Pow, Neg, Eq, Ne, Gt, Gte, Lt, Lte, Not, StringConcat, In, CompareAndPreserve, ApplyFilter, PerformTest, Emit, PushLoop, PushWith, Iterate, PushDidNotIterate, PopFrame, PopLoopFrame, Jump, JumpIfFalse, JumpIfFalseOrPop, JumpIfTrueOrPop, PushAutoEscape, PopAutoEscape, BeginCapture, EndCapture, CallFunction, CallMethod, CallObject, DupTop, DiscardTop, FastSuper, FastRecurse, Swap, CallBlock, LoadBlocks, Include, ExportLocals, Enclose, GetClosure, BuildMacro, Return, IsUndefined}
use Rattle.minijinja_instructions.specs.InstructionLists.{Instructions}

-- a comparison of a chain
abbrev pub compared_by : CompareOp → cmp.CompareOp
compared_by compare_op.Eq = cmp.eq
compared_by compare_op.Ne = cmp.ne
compared_by compare_op.Lt = cmp.lt
compared_by compare_op.Lte = cmp.lte
compared_by compare_op.Gt = cmp.gt
compared_by compare_op.Gte = cmp.gte
compared_by compare_op.In = cmp.is_in
compared_by compare_op.NotIn = cmp.not_in

-- whether what is written is kept
abbrev pub captured_as : CaptureMode → event.CaptureMode
captured_as capture_mode.Capture = event.Capture
captured_as capture_mode.Discard = event.Discard

-- what an instruction of a list is
abbrev pub instr_of : {V F C : Type 0} → (V → C) → Instruction V F → Instr C
instr_of c (EmitRaw t) = code.Do event.EmitRaw t.now 0
instr_of c (StoreLocal x) = code.Do event.StoreLocal x.now 1
instr_of c (Lookup x) = code.Do event.Lookup x.now 0
instr_of c (GetAttr x) = code.Do event.GetAttr x.now 1
instr_of c (SetAttr x) = code.Do event.SetAttr x.now 2
instr_of c GetItem = code.Do event.GetItem [] 2
instr_of c Slice = code.Do event.Slice [] 4
instr_of c (LoadConst v) = code.Load (c v)
instr_of c (BuildMap n) = code.BuildMap n
instr_of c (BuildKwargs n) = code.BuildKwargs n
instr_of c (MergeKwargs n) = code.Do event.MergeKwargs [] n
instr_of c (BuildList n) = code.BuildList n
instr_of c (BuildTuple n) = code.BuildTuple n
instr_of c (UnpackList n) = code.UnpackList n
instr_of c (UnpackLists n) = code.Do event.UnpackLists [] n
instr_of c Add = code.Operate operator.Add
instr_of c Sub = code.Operate operator.Sub
instr_of c Mul = code.Operate operator.Mul
instr_of c Div = code.Do event.Div [] 2
instr_of c IntDiv = code.Operate operator.IntDiv
instr_of c Rem = code.Operate operator.Rem
instr_of c Pow = code.Operate operator.Pow
instr_of c Neg = code.Neg
instr_of c Eq = code.Operate operator.Eq
instr_of c Ne = code.Operate operator.Ne
instr_of c Gt = code.Operate operator.Gt
instr_of c Gte = code.Operate operator.Gte
instr_of c Lt = code.Operate operator.Lt
instr_of c Lte = code.Operate operator.Lte
instr_of c Not = code.Not
instr_of c StringConcat = code.Operate operator.StringConcat
instr_of c In = code.Operate operator.In
instr_of c (CompareAndPreserve o) = code.CompareAndPreserve (compared_by o)
instr_of c (ApplyFilter x n id) = code.Apply event.ApplyFilter x.now n id
instr_of c (PerformTest x n id) = code.Apply event.PerformTest x.now n id
instr_of c Emit = code.Do event.Emit [] 1
instr_of c (PushLoop flags) = code.PushLoop flags
instr_of c PushWith = code.Do event.PushWith [] 0
instr_of c (Iterate l) = code.Iterate l
instr_of c PushDidNotIterate = code.PushDidNotIterate
instr_of c PopFrame = code.Do event.PopFrame [] 0
instr_of c PopLoopFrame = code.PopLoopFrame
instr_of c (Jump l) = code.Jump l
instr_of c (JumpIfFalse l) = code.JumpIfFalse l
instr_of c (JumpIfFalseOrPop l) = code.JumpIfFalseOrPop l
instr_of c (JumpIfTrueOrPop l) = code.JumpIfTrueOrPop l
instr_of c PushAutoEscape = code.Do event.PushAutoEscape [] 1
instr_of c PopAutoEscape = code.Do event.PopAutoEscape [] 0
instr_of c (BeginCapture m) = code.Do (event.BeginCapture (captured_as m)) [] 0
instr_of c EndCapture = code.Do event.EndCapture [] 0
instr_of c (CallFunction x n) = code.Call event.CallFunction x.now n
instr_of c (CallMethod x n) = code.Call event.CallMethod x.now n
instr_of c (CallObject n) = code.Call event.CallObject [] n
instr_of c DupTop = code.DupTop
instr_of c DiscardTop = code.DiscardTop
instr_of c FastSuper = code.Do event.FastSuper [] 0
instr_of c FastRecurse = code.Do event.FastRecurse [] 1
instr_of c Swap = code.Swap
instr_of c (CallBlock x) = code.Do event.CallBlock x.now 0
instr_of c LoadBlocks = code.Do event.LoadBlocks [] 1
instr_of c (Include ignore) = code.Do (event.Include ignore) [] 1
instr_of c ExportLocals = code.Do event.ExportLocals [] 0
instr_of c (Enclose x) = code.Do event.Enclose x.now 0
instr_of c GetClosure = code.Do event.GetClosure [] 0
instr_of c (BuildMacro x entry flags) = code.BuildMacro x.now entry flags
instr_of c Return = code.Return
instr_of c IsUndefined = code.IsUndefined

-- the instructions of a list
abbrev pub code_of : {V F C : Type 0} → (V → C) → Instructions V F → List (Instr C)
code_of c code = map (instr_of c) (instructions_of code)
