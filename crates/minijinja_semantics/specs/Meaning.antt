-- The meaning of a tree: its events with their operands, in order, without code, stack or jumps.
use Rattle.std.specs.Prelude.{◌≡◌, ℕ, zero, suc, Bool, true, false, not, if◌then◌else◌, List, [], ◌∷◌, ◌++◌, length, Option, Some, None}
use Rattle.minijinja_syntax.specs.Texts.{Text}
use Rattle.minijinja_value.specs.Values.{Functions}
use Rattle.minijinja_tree.specs.Operators.{Working, Makes, Divides, IfTrue, IfFalse, working, compute}
use Rattle.minijinja_tree.specs.Comparisons.{compares}
use Rattle.minijinja_tree.specs.Callees.{Callee, function, method, block, object, callee}
use Rattle.minijinja_tree.specs.Tree.{UnaryOp, logical_not, negation, Expr, variable, constant, slice, unary, binary, compare, if_expr, filter, test, attribute, item, call, list, tuple, map, Optional, absent, present, Exprs, no_more, more, Comparisons, compared, against, Args, no_args, pos, pos_splat, kwarg, kwarg_splat, Stmt, template, data_text, output, assignment, for_loop, if_cond, with_block, set_block, auto_escape, filter_block, named_block, extends, include, import_all, from_import, declare, call_block, do_call, break_loop, continue_loop, Stmts, done, also, Macro, macro, macro_name, Parameter, stored_as}
use Rattle.minijinja_tree.specs.WellFormed.{expr_count}
use Rattle.minijinja_semantics.specs.Events.{EmitRaw, Emit, LoadBlocks, Include, Lookup, StoreLocal, GetAttr, SetAttr, GetItem, Slice, Div, ApplyFilter, PerformTest, CallFunction, CallMethod, CallObject, MergeKwargs, UnpackLists, PushWith, PopFrame, PushLoop, PopLoopFrame, Iterate, PushAutoEscape, PopAutoEscape, BeginCapture, EndCapture, Enclose, GetClosure, ExportLocals, BuildMacro, CallBlock, FastSuper, FastRecurse, CaptureMode, Capture, Discard, Starved, Event, World, Ended, Means, next, ◌>>=◌, ◌>>◌, give, choose, operated, ask, none_fits, one_fits, item_fits, event, tell, get, get_all, take_apart}
use Rattle.minijinja_semantics.specs.FilterChains.{fed}
use Rattle.minijinja_semantics.specs.Macros.{caller, enclosed, macro_flags, argument_names}
use Rattle.minijinja_semantics.specs.Calls.{Written, Super, Recursion, BlockOf, Plain, written}

-- an operator of one side
abbrev pub operate_one : {N C F : Type 0} → Functions C F → UnaryOp → C → Means N C F C
operate_one f logical_not v = give (f.of_bool (not (f.is_true v)))
operate_one f negation v = operated (f.neg v)

-- an operator of two sides, on the left value and the piece that gives the right one
abbrev pub operate : {N C F : Type 0} → Functions C F → Working → C → Means N C F C → Means N C F C
operate f (Makes o) x right = do
  y ← right
  operated (compute f o x y)
operate f Divides x right = do
  y ← right
  get Div [] (x ∷ y ∷ [])
operate f IfTrue x right = choose (f.is_true x) right (give x)
operate f IfFalse x right = choose (f.is_true x) (give x) right

-- keys and values in turn: a key, its value, the next key
abbrev pub in_pairs : {N C F : Type 0} → List (Means N C F C) → List (Means N C F C) → Means N C F (List (C × C))
in_pairs [] values = give []
in_pairs (k ∷ keys) [] = give []
in_pairs (k ∷ keys) (v ∷ values) = do
  x ← k
  y ← v
  rest ← in_pairs keys values
  give ((x, y) ∷ rest)

-- arguments that were taken: the batches that are complete, and those that wait for the rest of
-- their batch
pub record Taken (C X : Type 0) : Type 0 where
  pub batches : List C
  pub waiting : List X

-- no argument was taken
abbrev pub nothing_yet : {C X : Type 0} → Taken C X
nothing_yet = record { batches = []; waiting = [] }

-- one more argument that waits
abbrev pub with_one : {C X : Type 0} → X → Taken C X → Taken C X
with_one x t = record t { waiting = t.waiting ++ x ∷ [] }

-- those that wait are a batch, where there are any
abbrev pub completed : {C X : Type 0} → (List X → C) → List X → List C
completed make [] = []
completed make (x ∷ xs) = make (x ∷ xs) ∷ []

-- a value that is a batch by itself, after those that wait
abbrev pub with_batch : {C X : Type 0} → (List X → C) → C → Taken C X → Taken C X
with_batch make v t = record { batches = t.batches ++ completed make t.waiting ++ v ∷ []; waiting = [] }

-- Keyword arguments are one more argument, their map, if there are any. Where `**` is among them
-- the batches are merged.
unfoldable pub keyword_map : {N C F : Type 0} → Functions C F → List C → List (C × C) → Means N C F (List C)
keyword_map f [] [] = give []
keyword_map f [] (p ∷ pairs) = give (f.kwargs (p ∷ pairs) ∷ [])
keyword_map f (b ∷ batches) pairs = do
  m ← get MergeKwargs [] (b ∷ batches ++ completed f.kwargs pairs)
  give (m ∷ [])

-- where `*` is among the arguments the batches are spread: the arguments are what that answers
unfoldable pub spread : {N C F : Type 0} → Functions C F → List C → List C → Means N C F (List C)
spread f [] vs = give vs
spread f (b ∷ batches) vs = get_all UnpackLists [] (b ∷ batches ++ completed f.list vs)

-- the arguments of a call, of the pieces that take the positional ones and those with a keyword
abbrev pub arguments : {N C F : Type 0} → Functions C F → Means N C F (Taken C C) → Means N C F (Taken C (C × C)) → Means N C F (List C)
arguments f positional_ones keyword_ones = do
  t ← positional_ones
  k ← keyword_ones
  m ← keyword_map f k.batches k.waiting
  spread f t.batches (t.waiting ++ m)

-- a call of this, of the pieces of what it is an attribute of, of its value, and of the arguments
-- after those that were taken
abbrev pub call_of : {N C F : Type 0} → Callee C → Means N C F C → Means N C F C → (Taken C C → Means N C F (List C)) → Means N C F C
call_of (function x) base value given = do
  vs ← given nothing_yet
  get CallFunction x vs
call_of (block x) base value given = do
  tell (BeginCapture Capture) [] []
  tell CallBlock x []
  get EndCapture [] []
call_of (method e x) base value given = do
  v ← base
  vs ← given (with_one v nothing_yet)
  get CallMethod x vs
call_of (object e) base value given = do
  v ← value
  vs ← given (with_one v nothing_yet)
  get CallObject [] vs

-- an expression gives its value
abbrev mutual
  pub expr : {N C F : Type 0} → Functions C F → Expr C → Means N C F C
  expr f (variable x) = get Lookup x []
  expr f (constant c) = give c
  expr f (slice e start stop step) = do
    v ← expr f e
    a ← optional f f.none start
    b ← optional f f.none stop
    c ← optional f f.none step
    get Slice [] (v ∷ a ∷ b ∷ c ∷ [])
  expr f (unary o e) = do
    v ← expr f e
    operate_one f o v
  expr f (binary o a b) = do
    x ← expr f a
    operate f (working o) x (expr f b)
  expr f (compare e cs) = do
    v ← expr f e
    chain f v cs
  expr f (if_expr t a b) = do
    v ← expr f t
    choose (f.is_true v) (expr f a) (optional f f.silent_undefined b)
  expr f (filter o x args) = do
    v ← optional f f.silent_undefined o
    vs ← arguments f (positional f args (with_one v nothing_yet)) (keyword f args nothing_yet)
    get ApplyFilter x vs
  expr f (test e x args) = do
    v ← expr f e
    vs ← arguments f (positional f args (with_one v nothing_yet)) (keyword f args nothing_yet)
    get PerformTest x vs
  expr f (attribute e x) = do
    v ← expr f e
    get GetAttr x (v ∷ [])
  expr f (item e k) = do
    v ← expr f e
    u ← expr f k
    get GetItem [] (v ∷ u ∷ [])
  expr f (call e args) =
      call_of (callee e) (base f e) (expr f e) (λ t. arguments f (positional f args t) (keyword f args nothing_yet))
  expr f (list es) = do
    vs ← items f es
    give (f.list vs)
  expr f (tuple es) = do
    vs ← items f es
    give (f.tuple vs)
  expr f (map ks vs) = do
    pairs ← in_pairs (each f ks) (each f vs)
    give (f.map pairs)

  -- what an attribute is taken of; what is no attribute has no base, and none stands in for it
  pub base : {N C F : Type 0} → Functions C F → Expr C → Means N C F C
  base f (attribute e x) = expr f e
  base f _ = give f.none

  -- what stands in for an absent expression, or its value
  pub optional : {N C F : Type 0} → Functions C F → C → Optional C → Means N C F C
  optional f d absent = give d
  optional f d (present e) = expr f e

  -- the values of expressions, in order
  pub items : {N C F : Type 0} → Functions C F → Exprs C → Means N C F (List C)
  items f no_more = give []
  items f (more e es) = do
    v ← expr f e
    vs ← items f es
    give (v ∷ vs)

  -- the pieces of expressions
  pub each : {N C F : Type 0} → Functions C F → Exprs C → List (Means N C F C)
  each f no_more = []
  each f (more e es) = expr f e ∷ each f es

  -- Comparisons of a value, each with the operand after it: they stop at the first that is false.
  pub chain : {N C F : Type 0} → Functions C F → C → Comparisons C → Means N C F C
  chain f v compared = give (f.of_bool true)
  chain f v (against o e cs) = do
    u ← expr f e
    holds ← operated (compares f o v u)
    choose holds (chain f u cs) (give (f.of_bool false))

  -- the positional arguments and the `*` ones, after what was taken
  pub positional : {N C F : Type 0} → Functions C F → Args C → Taken C C → Means N C F (Taken C C)
  positional f no_args t = give t
  positional f (pos e args) t = do
    v ← expr f e
    positional f args (with_one v t)
  positional f (pos_splat e args) t = do
    v ← expr f e
    positional f args (with_batch f.list v t)
  positional f (kwarg x e args) t = positional f args t
  positional f (kwarg_splat e args) t = positional f args t

  -- the keyword arguments and the `**` ones, after what was taken
  pub keyword : {N C F : Type 0} → Functions C F → Args C → Taken C (C × C) → Means N C F (Taken C (C × C))
  keyword f no_args t = give t
  keyword f (pos e args) t = keyword f args t
  keyword f (pos_splat e args) t = keyword f args t
  keyword f (kwarg x e args) t = do
    v ← expr f e
    keyword f args (with_one (f.of_str x, v) t)
  keyword f (kwarg_splat e args) t = do
    v ← expr f e
    keyword f args (with_batch f.kwargs v t)

-- how a statement ends: the next one follows, or the loop around it is left, or its next turn
-- begins
pub data Signal : Type 0 where
  On Broke Continued : Signal

-- what follows a statement, where it does not leave a loop's turn
unfoldable pub if_on : {N C F : Type 0} → Signal → Means N C F Signal → Means N C F Signal
if_on On m = m
if_on Broke m = give Broke
if_on Continued m = give Continued

-- a value goes where a target says: to a name, to an attribute of what its base gives, or taken
-- apart to targets in order; what is no target takes it and does nothing
abbrev mutual
  pub assign : {N C F : Type 0} → Functions C F → Expr C → C → Means N C F (Unit {0})
  assign f (variable x) v = tell StoreLocal x (v ∷ [])
  assign f (attribute e x) v = do
    u ← expr f e
    tell SetAttr x (v ∷ u ∷ [])
  assign f (list es) v = do
    vs ← take_apart (expr_count es) v
    assign_each f es vs
  assign f _ v = give tt

  -- each value to its target
  pub assign_each : {N C F : Type 0} → Functions C F → Exprs C → List C → Means N C F (Unit {0})
  assign_each f no_more vs = give tt
  assign_each f (more e es) [] = give tt
  assign_each f (more e es) (v ∷ vs) = do
    assign f e v
    assign_each f es vs

-- targets with their values, in turn
abbrev pub assign_all : {N C F : Type 0} → Functions C F → List (Expr C × Expr C) → Means N C F (Unit {0})
assign_all f [] = give tt
assign_all f (a ∷ rest) = do
  v ← expr f a.1
  assign f a.0 v
  assign_all f rest

-- a value goes through a chain of filters, if there is one
abbrev pub filtered : {N C F : Type 0} → Functions C F → Optional C → C → Means N C F C
filtered f absent v = give v
filtered f (present chain) v = expr f (fed v chain)

-- an output writes the value of its expression, except where that is a call that is written apart
abbrev pub write : {N C F : Type 0} → Functions C F → Written C → Means N C F C → Means N C F Signal
write f Super value = do
  tell FastSuper [] []
  give On
write f (Recursion e) value = do
  v ← expr f e
  tell FastRecurse [] (v ∷ [])
  give On
write f (BlockOf x) value = do
  tell CallBlock x []
  give On
write f Plain value = do
  v ← value
  tell Emit [] (v ∷ [])
  give On

-- a loop's turn with an item gives whether the loop goes on, and what it keeps
abbrev pub LoopTurn : Type 0 → Type 0 → Type 0 → Type 0 → Type 0
LoopTurn N C F S = C → S → Means N C F (Bool × S)

-- the item's turn, if there is an item, and then the others; gives whether an item came, and what
-- the turns keep
unfoldable pub with_item : {N C F S : Type 0} → Option C → LoopTurn N C F S → (came : Bool) → S → (S → Means N C F (Bool × S)) → Means N C F (Bool × S)
with_item None turn came s others = give (came, s)
with_item (Some v) turn came s others = do
  r ← turn v s
  choose r.0 (others r.1) (give (true, r.1))

-- the turns of a loop, where at most the given number of answers is left: each turn takes one when
-- it asks for its item
unfoldable pub turns : {N C F S : Type 0} → ℕ → LoopTurn N C F S → (came : Bool) → S → Means N C F (Bool × S)
turns zero turn came s = λ w. Ended w Starved
turns (suc n) turn came s = do
  i ← ask item_fits (event None Iterate [] [])
  with_item i turn came s (turns n turn true)

-- all the remaining turns of a loop
unfoldable pub all_turns : {N C F S : Type 0} → LoopTurn N C F S → (came : Bool) → S → Means N C F (Bool × S)
unfolding turns
all_turns turn came s w = turns (length w.answers) turn came s w

-- the remaining turns are the next one and then those after it: their bound, the number of answers
-- left, is never reached
abbrev pub HasNoBound : {N C F S : Type 0} → LoopTurn N C F S → Type 0
HasNoBound {N} {C} turn =
    (came : Bool) (s : _) (w : World (Event N C) C) →
    all_turns turn came s w ≡ next (ask item_fits (event None Iterate [] []) w) (λ i. with_item i turn came s (all_turns turn true))

-- a filter keeps the items for which its test is true
abbrev pub keep_if : {N C F : Type 0} → Functions C F → (target condition : Expr C) → LoopTurn N C F (List C)
keep_if f target condition v kept = do
  assign f target v
  u ← expr f condition
  give (true, if f.is_true u then kept ++ v ∷ [] else kept)

-- those of a value's items that pass the test, if there is one: a loop of its own, without a loop
-- variable, finds their list
abbrev pub passing : {N C F : Type 0} → Functions C F → (target : Expr C) → Optional C → C → Means N C F C
passing f target absent v = give v
passing f target (present condition) v = do
  tell (PushLoop 0) [] (v ∷ [])
  t ← all_turns (keep_if f target condition) false []
  tell PopLoopFrame [] []
  give (f.list t.1)

-- whether the loop goes on after a turn that ends so
abbrev pub goes_on : Signal → Bool
goes_on On = true
goes_on Broke = false
goes_on Continued = true

-- a turn stores the item, and then does the body
abbrev pub do_body : {N C F : Type 0} → Functions C F → (target : Expr C) → Means N C F Signal → LoopTurn N C F (Unit {0})
do_body f target body v s = do
  assign f target v
  g ← body
  give (goes_on g, tt)

-- the flags of a loop that has a loop variable: 1, and 2 more if it is recursive
abbrev pub loop_flags : (recursive : Bool) → ℕ
loop_flags true = 3
loop_flags false = 1

-- a loop over the items of a value, named by this node; gives whether an item came
abbrev pub looped : {N C F : Type 0} → Functions C F → N → (target : Expr C) → (recursive : Bool) → Means N C F Signal → C → Means N C F Bool
looped f n target recursive body v = do
  ask none_fits (event (Some n) (PushLoop (loop_flags recursive)) [] (v ∷ []))
  t ← all_turns (do_body f target body) false tt
  tell PopLoopFrame [] []
  give t.0

-- a macro encloses these names, in order
abbrev pub enclose : {N C F : Type 0} → List Text → Means N C F (Unit {0})
enclose [] = give tt
enclose (x ∷ xs) = do
  tell Enclose x []
  enclose xs

-- a macro is made, with the names that it encloses, their closure and the names of its arguments;
-- its node names it
abbrev pub made : {N C F : Type 0} → Functions C F → Macro C N → Means N C F C
made f (macro n x args defaults body) = do
  enclose (enclosed (macro n x args defaults body))
  closure ← get GetClosure [] []
  ask one_fits (event (Some n) (BuildMacro (macro_flags (macro n x args defaults body))) x (closure ∷ argument_names f args ∷ []))

-- the keyword arguments of a call, and the macro that it takes along as the last of them
abbrev pub keyword_and_caller : {N C F : Type 0} → Functions C F → Args C → Macro C N → Means N C F (Taken C (C × C))
keyword_and_caller f args m = do
  t ← keyword f args nothing_yet
  v ← made f m
  give (with_one (f.of_str caller, v) t)

-- a call that takes a macro along
abbrev pub call_with : {N C F : Type 0} → Functions C F → Expr C → Args C → Macro C N → Means N C F C
call_with f e args m =
    call_of (callee e) (base f e) (expr f e) (λ t. arguments f (positional f args t) (keyword_and_caller f args m))

-- a value goes where an argument of a macro says; where it is undefined, the default does in its
-- place
abbrev pub store_argument : {N C F : Type 0} → Functions C F → Parameter C → C → Means N C F (Unit {0})
store_argument f p v = do
  u ← choose (f.is_undefined v) (optional f v p.default) (give v)
  assign f p.target u

-- each value to its argument
abbrev pub store_arguments : {N C F : Type 0} → Functions C F → List (Parameter C) → List C → Means N C F (Unit {0})
store_arguments f [] vs = give tt
store_arguments f (p ∷ ps) [] = give tt
store_arguments f (p ∷ ps) (v ∷ vs) = do
  store_argument f p v
  store_arguments f ps vs

-- what another template stores, in a scope of its own; what it writes is captured
abbrev pub within : {N C F : Type 0} → Functions C F → CaptureMode → Expr C → Means N C F (Unit {0})
within f mode e = do
  tell (BeginCapture mode) [] []
  tell PushWith [] []
  v ← expr f e
  tell (Include false) [] (v ∷ [])

-- the values of the names that are imported from a template
abbrev pub look_up : {N C F : Type 0} → Functions C F → List (Expr C × Optional C) → Means N C F (List C)
look_up f [] = give []
look_up f (n ∷ ns) = do
  v ← expr f n.0
  vs ← look_up f ns
  give (v ∷ vs)

-- the values of these names are stored, the last one first
abbrev pub store_back : {N C F : Type 0} → Functions C F → List (Expr C × Optional C) → List C → Means N C F (Unit {0})
store_back f [] vs = give tt
store_back f (n ∷ ns) [] = give tt
store_back f (n ∷ ns) (v ∷ vs) = do
  store_back f ns vs
  assign f (stored_as n) v

-- a statement gives how it ends; what it opens is closed however it ends
abbrev mutual
  pub stmt : {N C F : Type 0} → Functions C F → Stmt C N → Means N C F Signal
  stmt f (template ss) = stmts f ss
  stmt f (data_text t) = do
    tell EmitRaw t []
    give On
  stmt f (output e) = write f (written e) (expr f e)
  stmt f (assignment target e) = do
    v ← expr f e
    assign f target v
    give On
  stmt f (for_loop n target e only recursive body else_body) = do
    v ← expr f e
    u ← passing f target only v
    came ← looped f n target recursive (stmts f body) u
    choose came (give On) (stmts f else_body)
  stmt f (if_cond e true_body false_body) = do
    v ← expr f e
    choose (f.is_true v) (stmts f true_body) (stmts f false_body)
  stmt f (with_block assignments body) = do
    tell PushWith [] []
    assign_all f assignments
    g ← stmts f body
    tell PopFrame [] []
    give g
  stmt f (set_block target chain body) = do
    tell (BeginCapture Capture) [] []
    g ← stmts f body
    v ← get EndCapture [] []
    if_on g (filtered f chain v >>= (λ u. assign f target u) >> give On)
  stmt f (auto_escape e body) = do
    v ← expr f e
    tell PushAutoEscape [] (v ∷ [])
    g ← stmts f body
    tell PopAutoEscape [] []
    give g
  stmt f (filter_block chain body) = do
    tell (BeginCapture Capture) [] []
    g ← stmts f body
    v ← get EndCapture [] []
    if_on g (expr f (fed v chain) >>= (λ u. tell Emit [] (u ∷ [])) >> give On)
  -- its body is written by who calls the block
  stmt f (named_block x required body) = do
    tell CallBlock x []
    give On
  stmt f (extends e) = do
    v ← expr f e
    tell LoadBlocks [] (v ∷ [])
    give On
  stmt f (include e ignore) = do
    v ← expr f e
    tell (Include ignore) [] (v ∷ [])
    give On
  stmt f (import_all e target) = do
    within f Capture e
    get EndCapture [] []
    u ← get ExportLocals [] []
    tell PopFrame [] []
    assign f target u
    give On
  stmt f (from_import e names) = do
    within f Discard e
    vs ← look_up f names
    tell PopFrame [] []
    store_back f names vs
    get EndCapture [] []
    give On
  stmt f (declare m) = do
    v ← made f m
    tell StoreLocal (macro_name m) (v ∷ [])
    give On
  stmt f (call_block e args m) = do
    v ← call_with f e args m
    tell Emit [] (v ∷ [])
    give On
  stmt f (do_call e args) = do
    expr f (call e args)
    give On
  stmt f break_loop = give Broke
  stmt f continue_loop = give Continued

  -- statements in order, while each goes on
  pub stmts : {N C F : Type 0} → Functions C F → Stmts C N → Means N C F Signal
  stmts f done = give On
  stmts f (also s rest) = do
    g ← stmt f s
    if_on g (stmts f rest)

-- what a macro does that is called with a value for each argument, the last one first: it stores
-- them, and then does its body
abbrev pub macro_run : {N C F : Type 0} → Functions C F → List (Parameter C) → Stmts C N → List C → Means N C F Signal
macro_run f ps body vs = do
  store_arguments f ps vs
  stmts f body
