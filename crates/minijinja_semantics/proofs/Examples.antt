-- The definitions, computed on small templates.
use Rattle.std.proofs.Common.{◌≡◌, ℕ, List, [], ◌∷◌, refl}
use Rattle.std.specs.Prelude.{replicate, Some, None, codes, true, false}
use Rattle.minijinja_syntax.specs.Texts.{Text}
use Rattle.minijinja_tree.specs.BinOps.{sc_and, div, floor_div, pow, is_in}
use Rattle.minijinja_tree.specs.CompareOps.{lt, gt}
use Rattle.minijinja_tree.specs.Tree.{Expr, variable, constant, slice, unary, binary, compare, if_expr, filter, test, attribute, item, call, list, map, negation, logical_not, absent, present, no_more, more, compared, against, no_args, pos, pos_splat, kwarg, kwarg_splat, Stmt, output}
use Rattle.minijinja_tree.specs.Operators.{Lt, IntDiv, compute}
use Rattle.minijinja_tree.specs.Comparisons.{compares}
use Rattle.minijinja_tree.specs.Folding.{fold, if_some, fold_on, fold_keywords}
use Rattle.minijinja_semantics.specs.Events.{PerformTest, Lookup, GetItem, Slice, Div, ApplyFilter, CallFunction, CallMethod, CallObject, MergeKwargs, UnpackLists, BeginCapture, EndCapture, CallBlock, FastSuper, FastRecurse, Emit, Capture, Answer, Values, OperatorFault, Event, event, next, choose, operated, fitted, answered, ask}
use Rattle.minijinja_semantics.specs.Meaning.{keyword_map, spread, if_on, stmt}
use Rattle.minijinja_semantics.specs.Machine.{State, At, Halted, after, AtPlace, run, step, asked, did, built, popped, popped_by, popped_counted, popped_pairs, traced}
use Rattle.minijinja_semantics.specs.Naming.{state_as, event_of}
use Rattle.minijinja_semantics.specs.Code.{Instr, Load, Do, Call, Apply, Operate, CompareAndPreserve, BuildMap, BuildKwargs, BuildList, DiscardTop, Swap, Jump, JumpIfFalse, JumpIfFalseOrPop}
use Rattle.minijinja_semantics.specs.Pieces.{start, id_of, noted}
use Rattle.minijinja_semantics.specs.Places.{placed_stmt}
use Rattle.minijinja_semantics.specs.Layout.{folded, merged, map_count, spreading, counted, expr_code, stmt_code}
use Rattle.minijinja_semantics.proofs.Samples.{Value, WrongOperand, Wrong, Truth, Words, ListOf, KeywordsOf, Nothing, Silent, end, and, end_of_map, entry, sample, number}

-- a variable
abbrev name : Text → Expr Value
name x = variable x

-- variables of one letter
abbrev a : Expr Value
a = variable (codes "a")

-- the name b
abbrev b : Expr Value
b = variable (codes "b")

-- the name c
abbrev c : Expr Value
c = variable (codes "c")

-- the name x
abbrev x : Expr Value
x = variable (codes "x")

-- the name y
abbrev y : Expr Value
y = variable (codes "y")

-- a number that is written
abbrev n : ℕ → Expr Value
n k = constant (number k)

-- the look-up of a variable
abbrev look : Text → Instr Value
look t = Do Lookup t 0

-- the code of an expression at the start of a list
unfoldable code : Expr Value → List (Instr Value)
unfolding folded merged map_count spreading counted fold if_some fold_on fold_keywords compute compares
code e = expr_code sample e start

-- a and b
and_code : code (binary sc_and a b) ≡ look (codes "a") ∷ JumpIfFalseOrPop 3 ∷ look (codes "b") ∷ []
unfolding code
and_code = refl

-- a < b < c
chain_code : code (compare a (against lt b (against lt c compared))) ≡ look (codes "a") ∷ look (codes "b") ∷ CompareAndPreserve lt ∷ JumpIfFalseOrPop 7 ∷ look (codes "c") ∷ Operate Lt ∷ Jump 9 ∷ Swap ∷ DiscardTop ∷ []
unfolding code
chain_code = refl

-- 1 > 2 > x
false_chain_code : code (compare (n 1) (against gt (n 2) (against gt x compared))) ≡ Load (Truth false) ∷ []
unfolding code
false_chain_code = refl

-- -2**2
power_code : code (binary pow (unary negation (n 2)) (n 2)) ≡ Load (number 4) ∷ []
unfolding code
power_code = refl

-- 2**3**2
powers_code : code (binary pow (binary pow (n 2) (n 3)) (n 2)) ≡ Load (number 64) ∷ []
unfolding code
powers_code = refl

-- [1, 2]
list_code : code (list (more (n 1) (more (n 2) no_more))) ≡ Load (ListOf (and (number 1) (and (number 2) end))) ∷ []
unfolding code
list_code = refl

-- [[1]]
nested_list_code : code (list (more (list (more (n 1) no_more)) no_more)) ≡ Load (ListOf (and (number 1) end)) ∷ BuildList (Some 1) ∷ []
unfolding code
nested_list_code = refl

-- {1: a}
map_code : code (map (more (n 1) no_more) (more a no_more)) ≡ Load (number 1) ∷ look (codes "a") ∷ BuildMap 1 ∷ []
unfolding code
map_code = refl

-- 1 / 2
quotient_code : code (binary div (n 1) (n 2)) ≡ Load (number 1) ∷ Load (number 2) ∷ Do Div [] 2 ∷ []
unfolding code
quotient_code = refl

-- f(b=x, *y)
arguments_code : code (call (name (codes "f")) (kwarg (codes "b") x (pos_splat y no_args))) ≡ look (codes "y") ∷ Load (Words (codes "b")) ∷ look (codes "x") ∷ BuildKwargs 1 ∷ BuildList (Some 1) ∷ Do UnpackLists [] 2 ∷ Call CallFunction (codes "f") None ∷ []
unfolding code
arguments_code = refl

-- x|f
filter_code : code (filter (present x) (codes "f") no_args) ≡ look (codes "x") ∷ Apply ApplyFilter (codes "f") (Some 1) 0 ∷ []
unfolding code
filter_code = refl

-- x|f|g|f
filters_code : code (filter (present (filter (present (filter (present x) (codes "f") no_args)) (codes "g") no_args)) (codes "f") no_args) ≡ look (codes "x") ∷ Apply ApplyFilter (codes "f") (Some 1) 0 ∷ Apply ApplyFilter (codes "g") (Some 1) 1 ∷ Apply ApplyFilter (codes "f") (Some 1) 0 ∷ []
unfolding code
filters_code = refl

-- foo.1.0
items_code : code (item (item (name (codes "foo")) (n 1)) (n 0)) ≡ look (codes "foo") ∷ Load (number 1) ∷ Do GetItem [] 2 ∷ Load (number 0) ∷ Do GetItem [] 2 ∷ []
unfolding code
items_code = refl

-- a if b else c
if_code : code (if_expr b a (present c)) ≡ look (codes "b") ∷ JumpIfFalse 4 ∷ look (codes "a") ∷ Jump 5 ∷ look (codes "c") ∷ []
unfolding code
if_code = refl

-- a if b
if_without_else_code : code (if_expr b a absent) ≡ look (codes "b") ∷ JumpIfFalse 4 ∷ look (codes "a") ∷ Jump 5 ∷ Load Silent ∷ []
unfolding code
if_without_else_code = refl

-- x[1:]
slice_code : code (slice x (present (n 1)) absent absent) ≡ look (codes "x") ∷ Load (number 1) ∷ Load Nothing ∷ Load Nothing ∷ Do Slice [] 4 ∷ []
unfolding code
slice_code = refl

-- f(*a, **b)
stars_code : code (call (name (codes "f")) (pos_splat a (kwarg_splat b no_args))) ≡ look (codes "a") ∷ look (codes "b") ∷ Do MergeKwargs [] 1 ∷ BuildList (Some 1) ∷ Do UnpackLists [] 2 ∷ Call CallFunction (codes "f") None ∷ []
unfolding code
stars_code = refl

-- f(a=1, b="x")
keywords_code : code (call (name (codes "f")) (kwarg (codes "a") (n 1) (kwarg (codes "b") (constant (Words (codes "x"))) no_args))) ≡ Load (KeywordsOf (entry (Words (codes "a")) (number 1) (entry (Words (codes "b")) (Words (codes "x")) end_of_map))) ∷ Call CallFunction (codes "f") (Some 1) ∷ []
unfolding code
keywords_code = refl

-- self.b(x)
block_code : code (call (attribute (name (codes "self")) (codes "b")) (pos x no_args)) ≡ Do (BeginCapture Capture) [] 0 ∷ Do CallBlock (codes "b") 0 ∷ Do EndCapture [] 0 ∷ []
unfolding code
block_code = refl

-- x.m(a)
method_code : code (call (attribute x (codes "m")) (pos a no_args)) ≡ look (codes "x") ∷ look (codes "a") ∷ Call CallMethod (codes "m") (Some 2) ∷ []
unfolding code
method_code = refl

-- x[a](b)
object_code : code (call (item x a) (pos b no_args)) ≡ look (codes "x") ∷ look (codes "a") ∷ Do GetItem [] 2 ∷ look (codes "b") ∷ Call CallObject [] (Some 2) ∷ []
unfolding code
object_code = refl

-- 1 not in [2]
not_in_code : code (unary logical_not (binary is_in (n 1) (list (more (n 2) no_more)))) ≡ Load (Truth true) ∷ []
unfolding code
not_in_code = refl

-- false and 1 // 0
fault_code : code (binary sc_and (constant (Truth false)) (binary floor_div (n 1) (n 0))) ≡ Load (Truth false) ∷ JumpIfFalseOrPop 5 ∷ Load (number 1) ∷ Load (number 0) ∷ Operate IntDiv ∷ []
unfolding code
fault_code = refl

-- (x|f) is f: filters and tests are numbered apart
test_code : code (test (filter (present x) (codes "f") no_args) (codes "f") no_args) ≡ look (codes "x") ∷ Apply ApplyFilter (codes "f") (Some 1) 0 ∷ Apply PerformTest (codes "f") (Some 1) 0 ∷ []
unfolding code
test_code = refl

-- the last name that gets an id of its own, the first that gets none, and one that has one already
last_id : id_of (codes "z") (replicate 49 (codes "y")) ≡ 49
last_id = refl

no_id : id_of (codes "z") (replicate 50 (codes "y")) ≡ 255
no_id = refl

first_id : id_of (codes "y") (noted (codes "z") (replicate 50 (codes "y"))) ≡ 0
first_id = refl

-- the code of a statement at the start of a list
unfoldable statement : Stmt Value (Unit {0}) → List (Instr Value)
unfolding folded merged map_count spreading counted fold if_some fold_on fold_keywords compute compares
statement s = stmt_code sample s start

-- {{ loop(x) }}
recursion_code : statement (output (call (name (codes "loop")) (pos x no_args))) ≡ look (codes "x") ∷ Do FastRecurse [] 1 ∷ []
unfolding statement
recursion_code = refl

-- {{ loop(*x) }}
loop_code : statement (output (call (name (codes "loop")) (pos_splat x no_args))) ≡ look (codes "x") ∷ Do UnpackLists [] 1 ∷ Call CallFunction (codes "loop") None ∷ Do Emit [] 1 ∷ []
unfolding statement
loop_code = refl

-- {{ super() }}
super_code : statement (output (call (name (codes "super")) no_args)) ≡ Do FastSuper [] 0 ∷ []
unfolding statement
super_code = refl

-- {{ self.b() }}
block_output_code : statement (output (call (attribute (name (codes "self")) (codes "b")) no_args)) ≡ Do CallBlock (codes "b") 0 ∷ []
unfolding statement
block_output_code = refl

-- a run over code, up to its end, with nothing below
unfoldable ran : List (Instr Value) → ℕ → ℕ → List (Answer Value) → State (Event ℕ Value) Value WrongOperand
unfolding run step asked did built popped popped_by popped_counted popped_pairs ask answered fitted operated compute compares
ran is finish steps answers = state_as event_of (run sample traced is (AtPlace finish) steps (At 0 [] [] (record { record_so_far = []; answers = answers })))

-- the state in which the meaning of a statement leaves a machine
unfoldable meant : Stmt Value (Unit {0}) → ℕ → List (Answer Value) → State (Event ℕ Value) Value WrongOperand
unfolding next choose ask answered fitted operated if_on compute compares spread keyword_map
meant s finish answers = after (λ g w. At finish [] [] w) (stmt sample (placed_stmt sample s start) (record { record_so_far = []; answers = answers }))

-- {{ f(*a) }}
abbrev spread_call : Stmt Value (Unit {0})
spread_call = output (call (name (codes "f")) (pos_splat a no_args))

-- its code
abbrev spread_code : List (Instr Value)
spread_code = look (codes "a") ∷ Do UnpackLists [] 1 ∷ Call CallFunction (codes "f") None ∷ Do Emit [] 1 ∷ []

-- its answers
abbrev spread_answers : List (Answer Value)
spread_answers = Values (Words (codes "l") ∷ []) ∷ Values (number 1 ∷ number 2 ∷ []) ∷ Values (Words (codes "r") ∷ []) ∷ Values [] ∷ []

-- what the run of {{ f(*a) }} comes to
abbrev spread_ends : State (Event ℕ Value) Value WrongOperand
spread_ends = At 4 [] [] (record {
  record_so_far =
      (event None Emit [] (Words (codes "r") ∷ []), Values [])
      ∷ (event None CallFunction (codes "f") (number 1 ∷ number 2 ∷ []), Values (Words (codes "r") ∷ []))
      ∷ (event None UnpackLists [] (Words (codes "l") ∷ []), Values (number 1 ∷ number 2 ∷ []))
      ∷ (event None Lookup (codes "a") [], Values (Words (codes "l") ∷ []))
      ∷ [];
  answers = [];
})

spread_layout : statement spread_call ≡ spread_code
unfolding statement
spread_layout = refl

spread_runs : ran spread_code 4 4 spread_answers ≡ spread_ends
unfolding ran
spread_runs = refl

spread_means : meant spread_call 4 spread_answers ≡ spread_ends
unfolding meant
spread_means = refl

-- {{ 1 // 0 }}
fault_runs : ran (Load (number 1) ∷ Load (number 0) ∷ Operate IntDiv ∷ Do Emit [] 1 ∷ []) 4 3 [] ≡ Halted (record { record_so_far = []; answers = [] }) (OperatorFault Wrong)
unfolding ran
fault_runs = refl

fault_means : meant (output (binary floor_div (n 1) (n 0))) 4 [] ≡ Halted (record { record_so_far = []; answers = [] }) (OperatorFault Wrong)
unfolding meant
fault_means = refl

-- {{ 2 < a < c }} where the first comparison is false: the kept operand is dropped, and c is not
-- looked up
abbrev chain : Stmt Value (Unit {0})
chain = output (compare (n 2) (against lt a (against lt c compared)))

-- its answers
abbrev chain_answers : List (Answer Value)
chain_answers = Values (number 1 ∷ []) ∷ Values [] ∷ []

-- what it comes to
abbrev chain_ends : State (Event ℕ Value) Value WrongOperand
chain_ends = At 10 [] [] (record {
  record_so_far = (event None Emit [] (Truth false ∷ []), Values []) ∷ (event None Lookup (codes "a") [], Values (number 1 ∷ [])) ∷ [];
  answers = [];
})

chain_runs : ran (Load (number 2) ∷ look (codes "a") ∷ CompareAndPreserve lt ∷ JumpIfFalseOrPop 7 ∷ look (codes "c") ∷ Operate Lt ∷ Jump 9 ∷ Swap ∷ DiscardTop ∷ Do Emit [] 1 ∷ []) 10 7 chain_answers ≡ chain_ends
unfolding ran
chain_runs = refl

chain_means : meant chain 10 chain_answers ≡ chain_ends
unfolding meant
chain_means = refl

-- {{ a and b }} where a is false: b is not looked up
abbrev both : Stmt Value (Unit {0})
both = output (binary sc_and a b)

-- its answers
abbrev both_answers : List (Answer Value)
both_answers = Values (number 0 ∷ []) ∷ Values [] ∷ []

-- what it comes to
abbrev both_ends : State (Event ℕ Value) Value WrongOperand
both_ends = At 4 [] [] (record {
  record_so_far = (event None Emit [] (number 0 ∷ []), Values []) ∷ (event None Lookup (codes "a") [], Values (number 0 ∷ [])) ∷ [];
  answers = [];
})

both_runs : ran (statement both) 4 3 both_answers ≡ both_ends
unfolding ran statement
both_runs = refl

both_means : meant both 4 both_answers ≡ both_ends
unfolding meant
both_means = refl

-- {{ f(b=x, *y) }}: y is taken before x, and one spread event gets y and the map of the keyword
abbrev mixed : Stmt Value (Unit {0})
mixed = output (call (name (codes "f")) (kwarg (codes "b") x (pos_splat y no_args)))

-- the map of its keyword
abbrev mixed_map : Value
mixed_map = KeywordsOf (entry (Words (codes "b")) (number 2) end_of_map)

-- its answers
abbrev mixed_answers : List (Answer Value)
mixed_answers = Values (number 1 ∷ []) ∷ Values (number 2 ∷ []) ∷ Values (number 3 ∷ number 4 ∷ []) ∷ Values (number 5 ∷ []) ∷ Values [] ∷ []

-- what it comes to
abbrev mixed_ends : State (Event ℕ Value) Value WrongOperand
mixed_ends = At 8 [] [] (record {
  record_so_far =
      (event None Emit [] (number 5 ∷ []), Values [])
      ∷ (event None CallFunction (codes "f") (number 3 ∷ number 4 ∷ []), Values (number 5 ∷ []))
      ∷ (event None UnpackLists [] (number 1 ∷ ListOf (and mixed_map end) ∷ []), Values (number 3 ∷ number 4 ∷ []))
      ∷ (event None Lookup (codes "x") [], Values (number 2 ∷ []))
      ∷ (event None Lookup (codes "y") [], Values (number 1 ∷ []))
      ∷ [];
  answers = [];
})

mixed_runs : ran (statement mixed) 8 8 mixed_answers ≡ mixed_ends
unfolding ran statement
mixed_runs = refl

mixed_means : meant mixed 8 mixed_answers ≡ mixed_ends
unfolding meant
mixed_means = refl

-- {{ f(a, k=x, **c) }}: the value of `**` is merged by itself
abbrev merging : Stmt Value (Unit {0})
merging = output (call (name (codes "f")) (pos a (kwarg (codes "k") x (kwarg_splat c no_args))))

-- its answers
abbrev merging_answers : List (Answer Value)
merging_answers = Values (number 1 ∷ []) ∷ Values (number 2 ∷ []) ∷ Values (number 3 ∷ []) ∷ Values (number 4 ∷ []) ∷ Values (number 5 ∷ []) ∷ Values [] ∷ []

-- what it comes to
abbrev merging_ends : State (Event ℕ Value) Value WrongOperand
merging_ends = At 8 [] [] (record {
  record_so_far =
      (event None Emit [] (number 5 ∷ []), Values [])
      ∷ (event None CallFunction (codes "f") (number 1 ∷ number 4 ∷ []), Values (number 5 ∷ []))
      ∷ (event None MergeKwargs [] (KeywordsOf (entry (Words (codes "k")) (number 2) end_of_map) ∷ number 3 ∷ []), Values (number 4 ∷ []))
      ∷ (event None Lookup (codes "c") [], Values (number 3 ∷ []))
      ∷ (event None Lookup (codes "x") [], Values (number 2 ∷ []))
      ∷ (event None Lookup (codes "a") [], Values (number 1 ∷ []))
      ∷ [];
  answers = [];
})

merging_runs : ran (statement merging) 8 8 merging_answers ≡ merging_ends
unfolding ran statement
merging_runs = refl

merging_means : meant merging 8 merging_answers ≡ merging_ends
unfolding meant
merging_means = refl
