-- The words of an instruction, as it is printed.
use Rattle.std.specs.Prelude.{ℕ, Bool, if◌then◌else◌, codes, List, [], ◌∷◌, ◌++◌, Option, Some, None}
use Rattle.std.specs.Fmt.{decimal}
use Rattle.std.specs.Option.{option_map}
use Rattle.minijinja_syntax.specs.Texts.{Text}
use Rattle.minijinja_syntax.specs.Quotes.{quoted}
use Rattle.minijinja_value.specs.ValueWords.{joined}
use Rattle.minijinja_instructions.specs.declared.instructions.CaptureMode.{CaptureMode}
use Rattle.minijinja_instructions.specs.declared.instructions.CaptureMode.TheVariants.{Capture, Discard}
use Rattle.minijinja_instructions.specs.declared.instructions.CompareOp.{CompareOp}
use Rattle.minijinja_instructions.specs.declared.instructions.CompareOp.TheVariants as compare_op
use Rattle.minijinja_instructions.specs.declared.instructions.Instruction.{Instruction}
use Rattle.minijinja_instructions.specs.declared.instructions.Instruction.TheVariants.{EmitRaw, StoreLocal, Lookup, GetAttr, SetAttr, GetItem, Slice, LoadConst, BuildMap, BuildKwargs, MergeKwargs, BuildList, BuildTuple, UnpackList, UnpackLists, Add, Sub, Mul, Div, IntDiv, Rem, Pow, Neg, Eq, Ne, Gt, Gte, Lt, Lte, Not, StringConcat, In, CompareAndPreserve, ApplyFilter, PerformTest, Emit, PushLoop, PushWith, Iterate, PushDidNotIterate, PopFrame, PopLoopFrame, Jump, JumpIfFalse, JumpIfFalseOrPop, JumpIfTrueOrPop, PushAutoEscape, PopAutoEscape, BeginCapture, EndCapture, CallFunction, CallMethod, CallObject, DupTop, DiscardTop, FastSuper, FastRecurse, Swap, CallBlock, LoadBlocks, Include, ExportLocals, Enclose, GetClosure, BuildMacro, Return, IsUndefined}

-- a comparison of a chain
abbrev pub compare_words : CompareOp → Text
compare_words compare_op.Eq = codes "Eq"
compare_words compare_op.Ne = codes "Ne"
compare_words compare_op.Lt = codes "Lt"
compare_words compare_op.Lte = codes "Lte"
compare_words compare_op.Gt = codes "Gt"
compare_words compare_op.Gte = codes "Gte"
compare_words compare_op.In = codes "In"
compare_words compare_op.NotIn = codes "NotIn"

-- what happens to captured output
abbrev pub capture_words : CaptureMode → Text
capture_words Capture = codes "Capture"
capture_words Discard = codes "Discard"

-- a count, or `none` where it stands on top of the operands that it counts
abbrev pub count_words : Option ℕ → Text
count_words None = codes "none"
count_words (Some n) = decimal n

-- a count whose own words may not be known
abbrev pub count_output : {N : Type 0} → (N → Option Text) → Option N → Option Text
count_output words None = Some (codes "none")
count_output words (Some n) = words n

abbrev pub flag_words : Bool → Text
flag_words b = if b then codes "true" else codes "false"

-- the name of an instruction
abbrev pub instruction_name : {V F : Type 0} → Instruction V F → Text
instruction_name (EmitRaw x) = codes "EmitRaw"
instruction_name (StoreLocal x) = codes "StoreLocal"
instruction_name (Lookup x) = codes "Lookup"
instruction_name (GetAttr x) = codes "GetAttr"
instruction_name (SetAttr x) = codes "SetAttr"
instruction_name GetItem = codes "GetItem"
instruction_name Slice = codes "Slice"
instruction_name (LoadConst x) = codes "LoadConst"
instruction_name (BuildMap x) = codes "BuildMap"
instruction_name (BuildKwargs x) = codes "BuildKwargs"
instruction_name (MergeKwargs x) = codes "MergeKwargs"
instruction_name (BuildList x) = codes "BuildList"
instruction_name (BuildTuple x) = codes "BuildTuple"
instruction_name (UnpackList x) = codes "UnpackList"
instruction_name (UnpackLists x) = codes "UnpackLists"
instruction_name Add = codes "Add"
instruction_name Sub = codes "Sub"
instruction_name Mul = codes "Mul"
instruction_name Div = codes "Div"
instruction_name IntDiv = codes "IntDiv"
instruction_name Rem = codes "Rem"
instruction_name Pow = codes "Pow"
instruction_name Neg = codes "Neg"
instruction_name Eq = codes "Eq"
instruction_name Ne = codes "Ne"
instruction_name Gt = codes "Gt"
instruction_name Gte = codes "Gte"
instruction_name Lt = codes "Lt"
instruction_name Lte = codes "Lte"
instruction_name Not = codes "Not"
instruction_name StringConcat = codes "StringConcat"
instruction_name In = codes "In"
instruction_name (CompareAndPreserve x) = codes "CompareAndPreserve"
instruction_name (ApplyFilter x n k) = codes "ApplyFilter"
instruction_name (PerformTest x n k) = codes "PerformTest"
instruction_name Emit = codes "Emit"
instruction_name (PushLoop x) = codes "PushLoop"
instruction_name PushWith = codes "PushWith"
instruction_name (Iterate x) = codes "Iterate"
instruction_name PushDidNotIterate = codes "PushDidNotIterate"
instruction_name PopFrame = codes "PopFrame"
instruction_name PopLoopFrame = codes "PopLoopFrame"
instruction_name (Jump x) = codes "Jump"
instruction_name (JumpIfFalse x) = codes "JumpIfFalse"
instruction_name (JumpIfFalseOrPop x) = codes "JumpIfFalseOrPop"
instruction_name (JumpIfTrueOrPop x) = codes "JumpIfTrueOrPop"
instruction_name PushAutoEscape = codes "PushAutoEscape"
instruction_name PopAutoEscape = codes "PopAutoEscape"
instruction_name (BeginCapture x) = codes "BeginCapture"
instruction_name EndCapture = codes "EndCapture"
instruction_name (CallFunction x n) = codes "CallFunction"
instruction_name (CallMethod x n) = codes "CallMethod"
instruction_name (CallObject x) = codes "CallObject"
instruction_name DupTop = codes "DupTop"
instruction_name DiscardTop = codes "DiscardTop"
instruction_name FastSuper = codes "FastSuper"
instruction_name FastRecurse = codes "FastRecurse"
instruction_name Swap = codes "Swap"
instruction_name (CallBlock x) = codes "CallBlock"
instruction_name LoadBlocks = codes "LoadBlocks"
instruction_name (Include x) = codes "Include"
instruction_name ExportLocals = codes "ExportLocals"
instruction_name (Enclose x) = codes "Enclose"
instruction_name GetClosure = codes "GetClosure"
instruction_name (BuildMacro x n k) = codes "BuildMacro"
instruction_name Return = codes "Return"
instruction_name IsUndefined = codes "IsUndefined"

-- what stands in parentheses after the name, where a value has these words
abbrev pub instruction_parts : {V F : Type 0} → (V → Text) → Instruction V F → List Text
instruction_parts words (EmitRaw t) = quoted t.now ∷ []
instruction_parts words (StoreLocal x) = quoted x.now ∷ []
instruction_parts words (Lookup x) = quoted x.now ∷ []
instruction_parts words (GetAttr x) = quoted x.now ∷ []
instruction_parts words (SetAttr x) = quoted x.now ∷ []
instruction_parts words (LoadConst v) = words v ∷ []
instruction_parts words (BuildMap n) = decimal n ∷ []
instruction_parts words (BuildKwargs n) = decimal n ∷ []
instruction_parts words (MergeKwargs n) = decimal n ∷ []
instruction_parts words (BuildList n) = count_words n ∷ []
instruction_parts words (BuildTuple n) = count_words n ∷ []
instruction_parts words (UnpackList n) = decimal n ∷ []
instruction_parts words (UnpackLists n) = decimal n ∷ []
instruction_parts words (CompareAndPreserve o) = compare_words o ∷ []
instruction_parts words (ApplyFilter x n id) = quoted x.now ∷ count_words n ∷ decimal id ∷ []
instruction_parts words (PerformTest x n id) = quoted x.now ∷ count_words n ∷ decimal id ∷ []
instruction_parts words (PushLoop flags) = decimal flags ∷ []
instruction_parts words (Iterate l) = decimal l ∷ []
instruction_parts words (Jump l) = decimal l ∷ []
instruction_parts words (JumpIfFalse l) = decimal l ∷ []
instruction_parts words (JumpIfFalseOrPop l) = decimal l ∷ []
instruction_parts words (JumpIfTrueOrPop l) = decimal l ∷ []
instruction_parts words (BeginCapture m) = capture_words m ∷ []
instruction_parts words (CallFunction x n) = quoted x.now ∷ count_words n ∷ []
instruction_parts words (CallMethod x n) = quoted x.now ∷ count_words n ∷ []
instruction_parts words (CallObject n) = count_words n ∷ []
instruction_parts words (CallBlock x) = quoted x.now ∷ []
instruction_parts words (Include ignore) = flag_words ignore ∷ []
instruction_parts words (Enclose x) = quoted x.now ∷ []
instruction_parts words (BuildMacro x entry flags) = quoted x.now ∷ decimal entry ∷ decimal flags ∷ []
instruction_parts words i = []

-- a name and, in parentheses, parts with `, ` between
abbrev pub with_parts : Text → List Text → Text
with_parts name [] = name
with_parts name ts = name ++ codes "(" ++ joined ts ++ codes ")"

-- the words of an instruction, where a value has these words
abbrev pub instruction_words : {V F : Type 0} → (V → Text) → Instruction V F → Text
instruction_words words i = with_parts (instruction_name i) (instruction_parts words i)

-- what is known of them where some values may have words that are not known
abbrev pub instruction_output : {V F : Type 0} → (V → Option Text) → Instruction V F → Option Text
instruction_output words (LoadConst v) = option_map (λ w. with_parts (codes "LoadConst") (w ∷ [])) (words v)
instruction_output words i = Some (instruction_words (λ _. []) i)
