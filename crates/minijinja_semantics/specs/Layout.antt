-- The code of a tree: the instructions of each construct, with the places that they jump to.
use Rattle.std.specs.Prelude.{ℕ, zero, suc, ◌+◌, Bool, true, false, List, [], ◌∷◌, ◌++◌, Option, Some, None}
use Rattle.minijinja_syntax.specs.Texts.{Text}
use Rattle.minijinja_value.specs.Values.{Functions}
use Rattle.minijinja_tree.specs.CompareOps.{CompareOp, eq, ne, lt, lte, gt, gte, is_in, not_in}
use Rattle.minijinja_tree.specs.Operators.{Working, Makes, Divides, IfTrue, IfFalse, working, Add, Eq, Ne, Lt, Lte, Gt, Gte, In}
use Rattle.minijinja_tree.specs.Tree.{UnaryOp, logical_not, negation, Expr, variable, constant, slice, unary, binary, compare, if_expr, filter, test, attribute, item, call, list, tuple, map, Optional, absent, present, Exprs, no_more, more, Comparisons, compared, against, Args, no_args, pos, pos_splat, kwarg, kwarg_splat, Stmt, template, data_text, output, assignment, for_loop, if_cond, with_block, set_block, auto_escape, filter_block, named_block, extends, include, import_all, from_import, declare, call_block, do_call, break_loop, continue_loop, Stmts, done, also, Macro, macro, macro_name, Parameter, parameters, stored_as, are_any}
use Rattle.minijinja_tree.specs.Callees.{Callee, function, method, block, object, callee}
use Rattle.minijinja_tree.specs.Folding.{fold, constant_keywords, fold_keywords}
use Rattle.minijinja_tree.specs.WellFormed.{expr_count}
use Rattle.minijinja_semantics.specs.Events.{LoadBlocks, Include, Enclose, GetClosure, ExportLocals, Discard, PushWith, PopFrame, PushAutoEscape, PopAutoEscape, SetAttr, EmitRaw, Emit, Lookup, StoreLocal, GetAttr, GetItem, Slice, Div, ApplyFilter, PerformTest, CallFunction, CallMethod, CallObject, MergeKwargs, UnpackLists, BeginCapture, EndCapture, CallBlock, FastSuper, FastRecurse, CaptureMode, Capture}
use Rattle.minijinja_semantics.specs.Calls.{Written, Super, Recursion, BlockOf, Plain, written}
use Rattle.minijinja_semantics.specs.Macros.{caller, enclosed, macro_flags, argument_names}
use Rattle.minijinja_semantics.specs.Meaning.{loop_flags}
use Rattle.minijinja_semantics.specs.Code.{Instr, Load, Do, Call, Apply, UnpackList, PushLoop, PopLoopFrame, PushDidNotIterate, BuildMacro, Operate, Neg, Not, IsUndefined, CompareAndPreserve, BuildMap, BuildKwargs, BuildList, BuildTuple, DupTop, DiscardTop, Swap, Jump, JumpIfFalse, JumpIfFalseOrPop, JumpIfTrueOrPop, Return}
use Rattle.minijinja_semantics.specs.Pieces.{Here, behind, start, Piece, Leading, leading_to, Exits, outside, Open, OpenScope, OpenAutoEscape, OpenCapture, nothing, one, ◌▸◌, plain, ◌▹◌, skipping, branches, skipping_out, branches_out, turning, leaving, id_of, noted}

-- a constant in place of the piece that computes it
unfoldable pub folded : {C : Type 0} → Option C → Piece C → Piece C
folded None p = p
folded (Some c) p = one (Load c)

-- an operator of one side
abbrev pub unary_instr : {C : Type 0} → UnaryOp → Instr C
unary_instr logical_not = Not
unary_instr negation = Neg

-- an operator of two sides, after the code of its left side
abbrev pub operation : {C : Type 0} → Working → Piece C → Piece C
operation (Makes o) right = right ▸ one (Operate o)
operation Divides right = right ▸ one (Do Div [] 2)
operation IfTrue right = skipping JumpIfFalseOrPop right
operation IfFalse right = skipping JumpIfTrueOrPop right

-- the last comparison of a chain
abbrev pub comparison : {C : Type 0} → CompareOp → Piece C
comparison eq = one (Operate Eq)
comparison ne = one (Operate Ne)
comparison lt = one (Operate Lt)
comparison lte = one (Operate Lte)
comparison gt = one (Operate Gt)
comparison gte = one (Operate Gte)
comparison is_in = one (Operate In)
comparison not_in = one (Operate In) ▸ one Not

-- comparisons after their two first operands, which lead to a place where one is false
abbrev pub Failing : Type 0 → Type 0
Failing C = Leading ℕ C

-- a comparison, and then the next operand and the others
abbrev pub and_then : {C : Type 0} → CompareOp → Piece C → Failing C → Failing C
and_then o p r = record {
  past = λ h. r.past (p.past (behind 1 (behind 1 h)));
  code = λ failed h. CompareAndPreserve o ∷ JumpIfFalseOrPop failed ∷ (p.code (behind 1 (behind 1 h)) ++ r.code failed (p.past (behind 1 (behind 1 h))));
}

-- the second operand of a chain and its comparisons; where one is false, the operand kept below its
-- answer is dropped
abbrev pub chained : {C : Type 0} → Piece C → Failing C → Piece C
chained p r = record {
  past = λ h. behind 1 (behind 1 (behind 1 (r.past (p.past h))));
  code = λ h.
      let failed = behind 1 (r.past (p.past h)) in
      p.code h ++ (r.code failed.place (p.past h) ++ Jump (behind 1 (behind 1 failed)).place ∷ Swap ∷ DiscardTop ∷ []);
}

-- keys and values in turn
abbrev pub paired : {C : Type 0} → List (Piece C) → List (Piece C) → Piece C
paired [] vs = nothing
paired (k ∷ ks) [] = nothing
paired (k ∷ ks) (v ∷ vs) = k ▸ v ▸ paired ks vs

-- how many batches of arguments are complete, and how many arguments wait for the rest of their
-- batch
pub record Count : Type 0 where
  pub batches : ℕ
  pub waiting : ℕ

-- where arguments wait, their batch is one more
abbrev pub batch_count : (waiting : ℕ) → ℕ
batch_count zero = 0
batch_count (suc n) = 1

-- one more argument waits
abbrev pub count_one : Count → Count
count_one c = record c { waiting = suc c.waiting }

-- those that wait are a batch, where there are any, and one more batch stands after it
abbrev pub count_batch : Count → Count
count_batch c = record { batches = suc (c.batches + batch_count c.waiting); waiting = 0 }

-- what the positional arguments leave, after what was counted
abbrev pub count_positional : {C : Type 0} → Args C → Count → Count
count_positional no_args c = c
count_positional (pos e args) c = count_positional args (count_one c)
count_positional (pos_splat e args) c = count_positional args (count_batch c)
count_positional (kwarg x e args) c = count_positional args c
count_positional (kwarg_splat e args) c = count_positional args c

-- what the keyword arguments leave, after what was counted
abbrev pub count_keyword : {C : Type 0} → Args C → Count → Count
count_keyword no_args c = c
count_keyword (pos e args) c = count_keyword args c
count_keyword (pos_splat e args) c = count_keyword args c
count_keyword (kwarg x e args) c = count_keyword args (count_one c)
count_keyword (kwarg_splat e args) c = count_keyword args (count_batch c)

-- the batch of the given number of waiting arguments, where there are any
abbrev pub batch : {C : Type 0} → (ℕ → Instr C) → (waiting : ℕ) → Piece C
batch build zero = nothing
batch build (suc n) = one (build (suc n))

-- the batch of positional arguments is a list
abbrev pub list_batch : {C : Type 0} → (waiting : ℕ) → Piece C
list_batch = batch (λ n. BuildList (Some n))

-- the batch of keyword arguments is a map
abbrev pub map_batch : {C : Type 0} → (waiting : ℕ) → Piece C
map_batch = batch BuildKwargs

-- the map of the keyword arguments: of one batch, or of several that are merged
unfoldable pub merged : {C : Type 0} → (batches waiting : ℕ) → Piece C
merged zero zero = nothing
merged zero (suc n) = one (BuildKwargs (suc n))
merged (suc b) n = map_batch n ▸ one (Do MergeKwargs [] (suc b + batch_count n))

-- the number of maps of keyword arguments, which are one more argument: none or one
unfoldable pub map_count : (batches waiting : ℕ) → ℕ
map_count zero zero = 0
map_count zero (suc n) = 1
map_count (suc b) n = 1

-- the batches are spread, where there are any
unfoldable pub spreading : {C : Type 0} → (batches waiting : ℕ) → Piece C
spreading zero n = nothing
spreading (suc b) n = list_batch n ▸ one (Do UnpackLists [] (suc b + batch_count n))

-- how many arguments a call has: none says that their count is on top of them
unfoldable pub counted : (batches waiting : ℕ) → Option ℕ
counted zero n = Some n
counted (suc b) n = None

-- what all the arguments leave, where the given number of operands stands before them
abbrev pub count_all : {C : Type 0} → Args C → (front : ℕ) → Count
count_all args front =
    let c = count_positional args (record { batches = 0; waiting = front }) in
    let k = count_keyword args (record { batches = 0; waiting = 0 }) in
    record { batches = c.batches; waiting = c.waiting + map_count k.batches k.waiting }

-- the arguments of a call after a number of operands, of the pieces of the positional ones and of
-- those with a keyword
abbrev pub arguments : {C F : Type 0} → Functions C F → Args C → (front : ℕ) → Piece C → Piece C → Piece C
arguments f args front positional_ones keyword_ones =
    let k = count_keyword args (record { batches = 0; waiting = 0 }) in
    let c = count_all args front in
    positional_ones ▸ folded (fold_keywords f (constant_keywords f args)) (keyword_ones ▸ merged k.batches k.waiting) ▸ spreading c.batches c.waiting

-- how many arguments a call has after the given number of operands, or none where their count is on
-- top of them
abbrev pub argument_count : {C : Type 0} → Args C → (front : ℕ) → Option ℕ
argument_count args front = let c = count_all args front in counted c.batches c.waiting

-- a filter is applied by its name and id; the name is noted
abbrev pub apply_filter : {C : Type 0} → Text → Option ℕ → Piece C
apply_filter x n = record {
  past = λ h. record { place = h.place + 1; filters = noted x h.filters; tests = h.tests };
  code = λ h. Apply ApplyFilter x n (id_of x h.filters) ∷ [];
}

-- a test is performed by its name and id; the name is noted
abbrev pub perform_test : {C : Type 0} → Text → Option ℕ → Piece C
perform_test x n = record {
  past = λ h. record { place = h.place + 1; filters = h.filters; tests = noted x h.tests };
  code = λ h. Apply PerformTest x n (id_of x h.tests) ∷ [];
}

-- a call of this, of the pieces of what it is an attribute of, of its value, and of the arguments
-- after the given number of operands
abbrev pub call_of : {C : Type 0} → Callee C → Piece C → Piece C → (ℕ → Piece C) → (ℕ → Option ℕ) → Piece C
call_of (function x) base value given count = given 0 ▸ one (Call CallFunction x (count 0))
call_of (block x) base value given count = one (Do (BeginCapture Capture) [] 0) ▸ one (Do CallBlock x 0) ▸ one (Do EndCapture [] 0)
call_of (method e x) base value given count = base ▸ given 1 ▸ one (Call CallMethod x (count 1))
call_of (object e) base value given count = value ▸ given 1 ▸ one (Call CallObject [] (count 1))

-- an expression
abbrev mutual
  pub expr : {C F : Type 0} → Functions C F → Expr C → Piece C
  expr f (variable x) = one (Do Lookup x 0)
  expr f (constant c) = one (Load c)
  expr f (slice e start stop step) =
      expr f e ▸ optional f f.none start ▸ optional f f.none stop ▸ optional f f.none step ▸ one (Do Slice [] 4)
  expr f (unary o e) = folded (fold f (unary o e)) (expr f e ▸ one (unary_instr o))
  expr f (binary o a b) = folded (fold f (binary o a b)) (expr f a ▸ operation (working o) (expr f b))
  expr f (compare e cs) = folded (fold f (compare e cs)) (expr f e ▸ chain f cs)
  expr f (if_expr t a b) = expr f t ▸ branches (expr f a) (optional f f.silent_undefined b)
  expr f (filter o x args) =
      operand f o ▸ arguments f args 1 (positional f args 1) (keyword f args 0) ▸ apply_filter x (argument_count args 1)
  expr f (test e x args) =
      expr f e ▸ arguments f args 1 (positional f args 1) (keyword f args 0) ▸ perform_test x (argument_count args 1)
  expr f (attribute e x) = expr f e ▸ one (Do GetAttr x 1)
  expr f (item e k) = expr f e ▸ expr f k ▸ one (Do GetItem [] 2)
  expr f (call e args) = call_of (callee e) (base f e) (expr f e) (λ n. arguments f args n (positional f args n) (keyword f args 0)) (argument_count args)
  expr f (list es) = folded (fold f (list es)) (items f es ▸ one (BuildList (Some (expr_count es))))
  expr f (tuple es) = folded (fold f (tuple es)) (items f es ▸ one (BuildTuple (Some (expr_count es))))
  expr f (map ks vs) = folded (fold f (map ks vs)) (paired (each f ks) (each f vs) ▸ one (BuildMap (expr_count ks)))

  -- what an attribute is taken of; what is no attribute has no base, and none stands in for it
  pub base : {C F : Type 0} → Functions C F → Expr C → Piece C
  base f (attribute e x) = expr f e
  base f _ = one (Load f.none)

  -- an expression, or what stands in for it
  pub optional : {C F : Type 0} → Functions C F → C → Optional C → Piece C
  optional f d absent = one (Load d)
  optional f d (present e) = expr f e

  -- the operand of a filter; an absent one is there already
  pub operand : {C F : Type 0} → Functions C F → Optional C → Piece C
  operand f absent = nothing
  operand f (present e) = expr f e

  -- expressions in order
  pub items : {C F : Type 0} → Functions C F → Exprs C → Piece C
  items f no_more = nothing
  items f (more e es) = expr f e ▸ items f es

  -- expressions, each by itself
  pub each : {C F : Type 0} → Functions C F → Exprs C → List (Piece C)
  each f no_more = []
  each f (more e es) = expr f e ∷ each f es

  -- comparisons after the first operand
  pub chain : {C F : Type 0} → Functions C F → Comparisons C → Piece C
  chain f compared = nothing
  chain f (against o e cs) = chained (expr f e) (comparisons f o cs)

  -- a comparison whose operands are there, and those after it
  pub comparisons : {C F : Type 0} → Functions C F → CompareOp → Comparisons C → Failing C
  comparisons f o compared = plain (comparison o)
  comparisons f o (against o' e cs) = and_then o (expr f e) (comparisons f o' cs)

  -- positional and `*` arguments, where the given number waits
  pub positional : {C F : Type 0} → Functions C F → Args C → (waiting : ℕ) → Piece C
  positional f no_args n = nothing
  positional f (pos e args) n = expr f e ▸ positional f args (suc n)
  positional f (pos_splat e args) n = list_batch n ▸ expr f e ▸ positional f args 0
  positional f (kwarg x e args) n = positional f args n
  positional f (kwarg_splat e args) n = positional f args n

  -- keyword and `**` arguments, where the given number waits
  pub keyword : {C F : Type 0} → Functions C F → Args C → (waiting : ℕ) → Piece C
  keyword f no_args n = nothing
  keyword f (pos e args) n = keyword f args n
  keyword f (pos_splat e args) n = keyword f args n
  keyword f (kwarg x e args) n = one (Load (f.of_str x)) ▸ expr f e ▸ keyword f args (suc n)
  keyword f (kwarg_splat e args) n = map_batch n ▸ expr f e ▸ keyword f args 0

-- a value on top goes where a target says; what is no target has no code
abbrev mutual
  pub target : {C F : Type 0} → Functions C F → Expr C → Piece C
  target f (variable x) = one (Do StoreLocal x 1)
  target f (attribute e x) = expr f e ▸ one (Do SetAttr x 2)
  target f (list es) = one (UnpackList (expr_count es)) ▸ targets f es
  target f _ = nothing

  -- targets in order
  pub targets : {C F : Type 0} → Functions C F → Exprs C → Piece C
  targets f no_more = nothing
  targets f (more e es) = target f e ▸ targets f es

-- targets with their values, in turn
abbrev pub assignments : {C F : Type 0} → Functions C F → List (Expr C × Expr C) → Piece C
assignments f [] = nothing
assignments f (a ∷ rest) = expr f a.1 ▸ target f a.0 ▸ assignments f rest

-- the code that writes an output, from the piece of its expression
abbrev pub write : {C F : Type 0} → Functions C F → Written C → Piece C → Piece C
write f Super value = one (Do FastSuper [] 0)
write f (Recursion e) value = expr f e ▸ one (Do FastRecurse [] 1)
write f (BlockOf x) value = one (Do CallBlock x 0)
write f Plain value = value ▸ one (Do Emit [] 1)

-- if the test is true the item is counted and stays below the count; otherwise it is dropped
abbrev pub counting : {C F : Type 0} → Functions C F → Piece C
counting f = branches (one Swap ▸ one (Load (f.of_u64 1)) ▸ one (Operate Add)) (one DiscardTop)

-- the items of what a piece gives that pass the test, if there is one: they are kept on the
-- operands, their count on top
abbrev pub passing : {C F : Type 0} → Functions C F → (target : Expr C) → Optional C → Piece C → Piece C
passing f e absent p = p
passing f e (present condition) p =
    one (Load (f.of_u64 0)) ▸ p ▸ one (PushLoop 0) ▸ turning (plain (one DupTop ▸ target f e ▸ expr f condition ▸ counting f)) ▸ one PopLoopFrame ▸ one (BuildList None)

-- the end of a loop, which leaves whether no item came where its else body asks for that
abbrev pub popping : {C : Type 0} → (has_else : Bool) → Piece C
popping true = one PushDidNotIterate ▸ one PopLoopFrame
popping false = one PopLoopFrame

-- a loop over the items of the value on top, of its target and the piece of its body
abbrev pub looping : {C F : Type 0} → Functions C F → (target : Expr C) → (recursive has_else : Bool) → Leading Exits C → Piece C
looping f e recursive has_else body = one (PushLoop (loop_flags recursive)) ▸ turning (plain (target f e) ▹ body) ▸ popping has_else

-- a piece where the value on top is true, if there is a piece
abbrev pub if_true : {X C : Type 0} → (is_there : Bool) → Leading X C → Leading X C
if_true true p = skipping_out JumpIfFalse p
if_true false p = plain nothing

-- the first piece where the value on top is true, otherwise the second, if there is one
abbrev pub either : {X C : Type 0} → (has_second : Bool) → Leading X C → Leading X C → Leading X C
either true p q = branches_out p q
either false p q = skipping_out JumpIfFalse p

-- the filters of a chain, if there is one
abbrev pub filters : {C F : Type 0} → Functions C F → Optional C → Piece C
filters f absent = nothing
filters f (present chain) = expr f chain

-- ---- macros

-- the default of an argument in the place of the value on top, where that is undefined
abbrev pub defaulting : {C F : Type 0} → Functions C F → Optional C → Piece C
defaulting f absent = nothing
defaulting f (present e) = one DupTop ▸ one IsUndefined ▸ skipping JumpIfFalse (one DiscardTop ▸ expr f e)

-- the values of arguments, the first of them on top
abbrev pub taking : {C F : Type 0} → Functions C F → List (Parameter C) → Piece C
taking f [] = nothing
taking f (p ∷ ps) = defaulting f p.default ▸ target f p.target ▸ taking f ps

-- the names that a macro encloses
abbrev pub enclosing : {C : Type 0} → List Text → Piece C
enclosing [] = nothing
enclosing (x ∷ xs) = one (Do Enclose x 0) ▸ enclosing xs

-- a macro is made, of the piece that it runs, which is passed by, and the place where that begins
abbrev pub making : {C L F : Type 0} → Functions C F → Macro C L → Piece C → (entry : ℕ) → Piece C
making f (macro n x args defaults body) runs entry =
    skipping Jump runs ▸ enclosing (enclosed (macro n x args defaults body)) ▸ one (Do GetClosure [] 0) ▸ one (Load (argument_names f args)) ▸ one (BuildMacro x entry (macro_flags (macro n x args defaults body)))

-- a piece that begins with a jump past what may be entered after that jump, of the place where it
-- is entered, on which no length depends
abbrev pub entered : {C : Type 0} → (ℕ → Piece C) → Piece C
entered p = record { past = (p 0).past; code = λ h. (p (behind 1 h).place).code h }

-- ---- calls that take a macro along

-- what the keyword arguments leave, with the macro that a call takes along as the last of them
abbrev pub count_with_caller : {C : Type 0} → Args C → Count
count_with_caller args = count_one (count_keyword args (record { batches = 0; waiting = 0 }))

-- what all the arguments leave, where the given number of operands stands before them: the map of
-- the keyword arguments is one of them
abbrev pub count_all_with_caller : {C : Type 0} → Args C → (front : ℕ) → Count
count_all_with_caller args front = count_one (count_positional args (record { batches = 0; waiting = front }))

-- the arguments of a call up to the macro that it takes along
abbrev pub up_to_caller : {C F : Type 0} → Functions C F → Args C → (front : ℕ) → Piece C
up_to_caller f args front = positional f args front ▸ keyword f args 0 ▸ one (Load (f.of_str caller))

-- all the arguments of a call that takes along the macro that a piece is
abbrev pub arguments_with : {C F : Type 0} → Functions C F → Args C → (front : ℕ) → Piece C → Piece C
arguments_with f args front m =
    let k = count_with_caller args in
    let c = count_all_with_caller args front in
    up_to_caller f args front ▸ m ▸ merged k.batches k.waiting ▸ spreading c.batches c.waiting

-- how many arguments a call has that takes a macro along, or none where their count is on top of
-- them
abbrev pub argument_count_with : {C : Type 0} → Args C → (front : ℕ) → Option ℕ
argument_count_with args front = let c = count_all_with_caller args front in counted c.batches c.waiting

-- a call that takes along the macro that a piece is
abbrev pub call_with : {C F : Type 0} → Functions C F → Expr C → Args C → Piece C → Piece C
call_with f e args m = call_of (callee e) (base f e) (expr f e) (λ n. arguments_with f args n m) (argument_count_with args)

-- ---- other templates

-- the names that are imported from a template are looked up
abbrev pub looking_up : {C F : Type 0} → Functions C F → List (Expr C × Optional C) → Piece C
looking_up f [] = nothing
looking_up f (n ∷ ns) = expr f n.0 ▸ looking_up f ns

-- the values of these names are stored, the last one first
abbrev pub storing_back : {C F : Type 0} → Functions C F → List (Expr C × Optional C) → Piece C
storing_back f [] = nothing
storing_back f (n ∷ ns) = storing_back f ns ▸ target f (stored_as n)

-- what another template stores, in a scope of its own; what it writes is captured
abbrev pub within : {C F : Type 0} → Functions C F → CaptureMode → Expr C → Piece C
within f mode e = one (Do (BeginCapture mode) [] 0) ▸ one (Do PushWith [] 0) ▸ expr f e ▸ one (Do (Include false) [] 1)

-- ---- statements

-- a statement, where this is open within its loop
abbrev mutual
  pub stmt : {C L F : Type 0} → Functions C F → List Open → Stmt C L → Leading Exits C
  stmt f os (template ss) = stmts f os ss
  stmt f os (data_text t) = plain (one (Do EmitRaw t 0))
  stmt f os (output e) = plain (write f (written e) (expr f e))
  stmt f os (assignment e v) = plain (expr f v ▸ target f e)
  stmt f os (for_loop n e v only recursive body else_body) =
      plain (passing f e only (expr f v) ▸ looping f e recursive (are_any else_body) (stmts f [] body)) ▹ if_true (are_any else_body) (stmts f os else_body)
  stmt f os (if_cond e true_body false_body) = plain (expr f e) ▹ either (are_any false_body) (stmts f os true_body) (stmts f os false_body)
  stmt f os (with_block ts body) =
      plain (one (Do PushWith [] 0) ▸ assignments f ts) ▹ stmts f (OpenScope ∷ os) body ▹ plain (one (Do PopFrame [] 0))
  stmt f os (set_block e chain body) =
      plain (one (Do (BeginCapture Capture) [] 0)) ▹ stmts f (OpenCapture ∷ os) body ▹ plain (one (Do EndCapture [] 0) ▸ filters f chain ▸ target f e)
  stmt f os (auto_escape e body) =
      plain (expr f e ▸ one (Do PushAutoEscape [] 1)) ▹ stmts f (OpenAutoEscape ∷ os) body ▹ plain (one (Do PopAutoEscape [] 0))
  stmt f os (filter_block chain body) =
      plain (one (Do (BeginCapture Capture) [] 0)) ▹ stmts f (OpenCapture ∷ os) body ▹ plain (one (Do EndCapture [] 0) ▸ expr f chain ▸ one (Do Emit [] 1))
  stmt f os (named_block x required body) = plain (one (Do CallBlock x 0))
  stmt f os (extends e) = plain (expr f e ▸ one (Do LoadBlocks [] 1))
  stmt f os (include e ignore) = plain (expr f e ▸ one (Do (Include ignore) [] 1))
  stmt f os (import_all e t) =
      plain (within f Capture e ▸ one (Do EndCapture [] 0) ▸ one DiscardTop ▸ one (Do ExportLocals [] 0) ▸ one (Do PopFrame [] 0) ▸ target f t)
  stmt f os (from_import e names) =
      plain (within f Discard e ▸ looking_up f names ▸ one (Do PopFrame [] 0) ▸ storing_back f names ▸ one (Do EndCapture [] 0) ▸ one DiscardTop)
  stmt f os (declare m) = plain (macro_value f m ▸ one (Do StoreLocal (macro_name m) 1))
  stmt f os (call_block e args m) = plain (call_with f e args (macro_value f m) ▸ one (Do Emit [] 1))
  stmt f os (do_call e args) = plain (expr f (call e args) ▸ one DiscardTop)
  stmt f os break_loop = leaving (λ x. x.break_to) os
  stmt f os continue_loop = leaving (λ x. x.continue_to) os

  -- statements in order
  pub stmts : {C L F : Type 0} → Functions C F → List Open → Stmts C L → Leading Exits C
  stmts f os done = plain nothing
  stmts f os (also s rest) = stmt f os s ▹ stmts f os rest

  -- a macro, as a value on top
  pub macro_value : {C L F : Type 0} → Functions C F → Macro C L → Piece C
  macro_value f (macro n x args defaults body) =
      entered (making f (macro n x args defaults body) (taking f (parameters args defaults) ▸ leading_to outside (stmts f [] body) ▸ one Return))

-- the instructions of a block: its body has a list of its own
abbrev pub block_code : {C L F : Type 0} → Functions C F → Stmts C L → List (Instr C)
block_code f body = (stmts f [] body).code outside start

-- what stands after the code of an expression
abbrev pub past_expr : {C F : Type 0} → Functions C F → Expr C → Here → Here
past_expr f e = (expr f e).past

-- its instructions
abbrev pub expr_code : {C F : Type 0} → Functions C F → Expr C → Here → List (Instr C)
expr_code f e = (expr f e).code

-- what stands after the code of a statement outside of all loops
abbrev pub past_stmt : {C L F : Type 0} → Functions C F → Stmt C L → Here → Here
past_stmt f s = (stmt f [] s).past

-- its instructions
abbrev pub stmt_code : {C L F : Type 0} → Functions C F → Stmt C L → Here → List (Instr C)
stmt_code f s = (stmt f [] s).code outside

-- what stands after the code of an assignment to a target
abbrev pub past_target : {C F : Type 0} → Functions C F → Expr C → Here → Here
past_target f e = (target f e).past

-- its instructions
abbrev pub target_code : {C F : Type 0} → Functions C F → Expr C → Here → List (Instr C)
target_code f e = (target f e).code
