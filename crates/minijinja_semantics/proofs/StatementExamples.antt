-- The definitions, computed on small templates with loops, scopes and captures.
use Rattle.std.proofs.Common.{◌≡◌, ℕ, List, [], ◌∷◌, refl}
use Rattle.std.specs.Prelude.{Some, None, codes, true, false}
use Rattle.minijinja_syntax.specs.Texts.{Text}
use Rattle.minijinja_tree.specs.Tree.{Expr, variable, filter, call, attribute, list, absent, present, no_more, more, no_args, pos, Stmt, data_text, output, assignment, for_loop, if_cond, with_block, set_block, auto_escape, filter_block, do_call, break_loop, continue_loop, Stmts, done, also}
use Rattle.minijinja_tree.specs.Operators.{Add, compute}
use Rattle.minijinja_tree.specs.Comparisons.{compares}
use Rattle.minijinja_tree.specs.Folding.{fold, if_some, fold_on, fold_keywords}
use Rattle.minijinja_semantics.specs.Events as events
use Rattle.minijinja_semantics.specs.Events.{Kind, EmitRaw, Emit, Lookup, StoreLocal, SetAttr, FastRecurse, ApplyFilter, CallFunction, PushWith, PopFrame, PushAutoEscape, PopAutoEscape, BeginCapture, EndCapture, Capture, Answer, Values, Starved, Event, event, next, choose, operated, fitted, answered, ask}
use Rattle.minijinja_semantics.specs.Meaning.{keyword_map, spread, if_on, with_item, turns, all_turns, stmt}
use Rattle.minijinja_semantics.specs.Machine.{State, At, Halted, after, iterated, AtPlace, run, step, asked, did, built, popped, popped_by, popped_counted, popped_pairs, traced}
use Rattle.minijinja_semantics.specs.Naming.{state_as, event_of}
use Rattle.minijinja_semantics.specs.Code.{Instr, Load, Do, Call, Apply, UnpackList, PushLoop, Iterate, PopLoopFrame, PushDidNotIterate, Operate, BuildList, DupTop, DiscardTop, Swap, Jump, JumpIfFalse}
use Rattle.minijinja_semantics.specs.Pieces.{start}
use Rattle.minijinja_semantics.specs.Layout.{folded, merged, map_count, spreading, counted, stmt_code}
use Rattle.minijinja_semantics.specs.Places.{Extent, placed_stmt}
use Rattle.minijinja_semantics.specs.Units.{Enterable, RecursiveLoop, units}
use Rattle.minijinja_semantics.proofs.Samples.{Value, WrongOperand, Truth, Words, ListOf, end, and, sample, number}

-- trees whose loops have no names
abbrev Tree : Type 0
Tree = Stmt Value (Unit {0})

-- a variable
abbrev name : Text → Expr Value
name x = variable x

-- variables of one letter
abbrev x : Expr Value
x = variable (codes "x")

-- the name y
abbrev y : Expr Value
y = variable (codes "y")

-- a template of one statement
abbrev only : Tree → Stmts Value (Unit {0})
only s = also s done

-- a loop over y whose items are x
abbrev each : Stmts Value (Unit {0}) → Stmts Value (Unit {0}) → Tree
each body else_body = for_loop tt x y absent false body else_body

-- the code of a tree at the start of a list
unfoldable layout : Tree → List (Instr Value)
unfolding folded merged map_count spreading counted fold if_some fold_on fold_keywords compute compares
layout s = stmt_code sample s start

-- a run over code, up to its end, with nothing below
unfoldable ran : List (Instr Value) → ℕ → ℕ → List (Answer Value) → State (Event ℕ Value) Value WrongOperand
unfolding run step asked did iterated built popped popped_by popped_counted popped_pairs ask answered fitted operated compute compares
ran is finish steps answers = state_as event_of (run sample traced is (AtPlace finish) steps (At 0 [] [] (record { record_so_far = []; answers = answers })))

-- the state in which the meaning of a tree leaves a machine
unfoldable meant : Tree → ℕ → List (Answer Value) → State (Event ℕ Value) Value WrongOperand
unfolding folded merged map_count spreading counted fold if_some fold_on fold_keywords next choose ask answered fitted operated if_on compute compares spread keyword_map with_item turns all_turns
meant s finish answers = after (λ g w. At finish [] [] w) (stmt sample (placed_stmt sample s start) (record { record_so_far = []; answers = answers }))

-- instructions that are events of no operand, of one, and of two
abbrev tells : Kind → Instr Value
tells k = Do k [] 0

-- a variable is looked up
abbrev look : Text → Instr Value
look t = Do Lookup t 0

-- a variable is stored
abbrev store : Text → Instr Value
store t = Do StoreLocal t 1

-- {% if a %}x{% else %}y{% endif %}
if_code : layout (if_cond (name (codes "a")) (only (data_text (codes "x"))) (only (data_text (codes "y")))) ≡ look (codes "a") ∷ JumpIfFalse 4 ∷ Do EmitRaw (codes "x") 0 ∷ Jump 5 ∷ Do EmitRaw (codes "y") 0 ∷ []
unfolding layout
if_code = refl

-- {% if a %}x{% endif %}
if_alone_code : layout (if_cond (name (codes "a")) (only (data_text (codes "x"))) done) ≡ look (codes "a") ∷ JumpIfFalse 3 ∷ Do EmitRaw (codes "x") 0 ∷ []
unfolding layout
if_alone_code = refl

-- {% for x in y if x %}{{ x }}{% endfor %}
abbrev filtered : Tree
filtered = for_loop tt x y (present x) false (only (output x)) done

filter_pass_code : layout filtered ≡
    Load (number 0) ∷ look (codes "y") ∷ PushLoop 0 ∷ Iterate 14 ∷ DupTop ∷ store (codes "x") ∷ look (codes "x") ∷ JumpIfFalse 12 ∷ Swap ∷ Load (number 1) ∷ Operate Add ∷ Jump 13 ∷ DiscardTop ∷ Jump 3 ∷ PopLoopFrame ∷ BuildList None
    ∷ PushLoop 1 ∷ Iterate 22 ∷ store (codes "x") ∷ look (codes "x") ∷ Do Emit [] 1 ∷ Jump 17 ∷ PopLoopFrame ∷ []
unfolding layout
filter_pass_code = refl

-- {% for x in y %}{% with %}{% break %}{% endwith %}{% endfor %}
with_break_code : layout (each (only (with_block [] (only break_loop))) done) ≡
    look (codes "y") ∷ PushLoop 1 ∷ Iterate 9 ∷ store (codes "x") ∷ tells PushWith ∷ tells PopFrame ∷ Jump 9 ∷ tells PopFrame ∷ Jump 2 ∷ PopLoopFrame ∷ []
unfolding layout
with_break_code = refl

-- {% for x in y %}{% set s %}a{% continue %}{% endset %}{% endfor %}
set_continue_code : layout (each (only (set_block (name (codes "s")) absent (also (data_text (codes "a")) (only continue_loop)))) done) ≡
    look (codes "y") ∷ PushLoop 1 ∷ Iterate 12 ∷ store (codes "x") ∷ tells (BeginCapture Capture) ∷ Do EmitRaw (codes "a") 0 ∷ tells EndCapture ∷ DiscardTop ∷ Jump 2 ∷ tells EndCapture ∷ store (codes "s") ∷ Jump 2 ∷ PopLoopFrame ∷ []
unfolding layout
set_continue_code = refl

-- {% for x in y %}{% else %}{% break %}{% endfor %} in the body of another loop leaves that loop
else_break_code : layout (each (only (each done (only break_loop))) done) ≡
    look (codes "y") ∷ PushLoop 1 ∷ Iterate 14 ∷ store (codes "x") ∷ look (codes "y") ∷ PushLoop 1 ∷ Iterate 9 ∷ store (codes "x") ∷ Jump 6 ∷ PushDidNotIterate ∷ PopLoopFrame ∷ JumpIfFalse 13 ∷ Jump 14 ∷ Jump 2 ∷ PopLoopFrame ∷ []
unfolding layout
else_break_code = refl

-- {% set a.b, c = x %}
targets_code : layout (assignment (list (more (attribute (name (codes "a")) (codes "b")) (more (name (codes "c")) no_more))) x) ≡
    look (codes "x") ∷ UnpackList 2 ∷ look (codes "a") ∷ Do SetAttr (codes "b") 2 ∷ store (codes "c") ∷ []
unfolding layout
targets_code = refl

-- {% with a = x %}{% endwith %}
with_code : layout (with_block ((name (codes "a"), x) ∷ []) done) ≡ tells PushWith ∷ look (codes "x") ∷ store (codes "a") ∷ tells PopFrame ∷ []
unfolding layout
with_code = refl

-- {% set s | f %}a{% endset %}
set_block_code : layout (set_block (name (codes "s")) (present (filter absent (codes "f") no_args)) (only (data_text (codes "a")))) ≡
    tells (BeginCapture Capture) ∷ Do EmitRaw (codes "a") 0 ∷ tells EndCapture ∷ Apply ApplyFilter (codes "f") (Some 1) 0 ∷ store (codes "s") ∷ []
unfolding layout
set_block_code = refl

-- {% filter f | g %}a{% endfilter %}
filter_block_code : layout (filter_block (filter (present (filter absent (codes "f") no_args)) (codes "g") no_args) (only (data_text (codes "a")))) ≡
    tells (BeginCapture Capture) ∷ Do EmitRaw (codes "a") 0 ∷ tells EndCapture ∷ Apply ApplyFilter (codes "f") (Some 1) 0 ∷ Apply ApplyFilter (codes "g") (Some 1) 1 ∷ Do Emit [] 1 ∷ []
unfolding layout
filter_block_code = refl

-- {% autoescape x %}a{% endautoescape %}
auto_escape_code : layout (auto_escape x (only (data_text (codes "a")))) ≡ look (codes "x") ∷ Do PushAutoEscape [] 1 ∷ Do EmitRaw (codes "a") 0 ∷ tells PopAutoEscape ∷ []
unfolding layout
auto_escape_code = refl

-- {% do f() %}
do_code : layout (do_call (name (codes "f")) no_args) ≡ Call CallFunction (codes "f") (Some 0) ∷ DiscardTop ∷ []
unfolding layout
do_code = refl

-- {% for x in y recursive %}{{ loop(x) }}{% else %}n{% endfor %}: its unit is entered at its start
-- and is over after its end
abbrev recursive : Tree
recursive = for_loop tt x y absent true (only (output (call (name (codes "loop")) (pos x no_args)))) (only (data_text (codes "n")))

recursive_code : layout recursive ≡
    look (codes "y") ∷ PushLoop 3 ∷ Iterate 7 ∷ store (codes "x") ∷ look (codes "x") ∷ Do FastRecurse [] 1 ∷ Jump 2 ∷ PushDidNotIterate ∷ PopLoopFrame ∷ JumpIfFalse 11 ∷ Do EmitRaw (codes "n") 0 ∷ []
unfolding layout
recursive_code = refl

-- its units
unfoldable units_of : Tree → List (Enterable Value Extent)
unfolding folded merged map_count spreading counted fold if_some fold_on fold_keywords compute compares
units_of s = units sample [] s start

recursive_units : units_of recursive ≡ RecursiveLoop (record { begin = 1; end = 9 }) x (also (output (call (name (codes "loop")) (pos x no_args))) done) true ∷ []
unfolding units_of
recursive_units = refl

-- what was asked, latest first
abbrev Record : Type 0
Record = List (Event ℕ Value × Answer Value)

-- an event that names no loop, and its answer
abbrev was : Kind → Text → List Value → List Value → Event ℕ Value × Answer Value
was k t operands values = (event None k t operands, Values values)

-- the start of a loop with a loop variable at a place
abbrev started : ℕ → ℕ → Value → Event ℕ Value × Answer Value
started p flags v = (event (Some p) (events.PushLoop flags) [] (v ∷ []), Values [])

-- {% for x in y %}{{ x }}{% else %}n{% endfor %} where no item comes
abbrev or_else : Tree
or_else = each (only (output x)) (only (data_text (codes "n")))

-- its answers
abbrev else_answers : List (Answer Value)
else_answers = Values (Words (codes "v") ∷ []) ∷ Values [] ∷ Values [] ∷ Values [] ∷ Values [] ∷ []

-- what it comes to
abbrev else_ends : State (Event ℕ Value) Value WrongOperand
else_ends = At 11 [] [] (record {
  record_so_far =
      was EmitRaw (codes "n") [] []
      ∷ was events.PopLoopFrame [] [] []
      ∷ was events.Iterate [] [] []
      ∷ started 1 1 (Words (codes "v"))
      ∷ was Lookup (codes "y") [] (Words (codes "v") ∷ [])
      ∷ [];
  answers = [];
})

else_runs : ran (layout or_else) 11 7 else_answers ≡ else_ends
unfolding ran layout
else_runs = refl

else_means : meant or_else 11 else_answers ≡ else_ends
unfolding meant
else_means = refl

-- a run with one answer fewer
abbrev few_answers : List (Answer Value)
few_answers = Values (Words (codes "v") ∷ []) ∷ Values [] ∷ Values [] ∷ Values [] ∷ []

-- what it comes to
abbrev starved_ends : State (Event ℕ Value) Value WrongOperand
starved_ends = Halted (record {
  record_so_far =
      was events.PopLoopFrame [] [] []
      ∷ was events.Iterate [] [] []
      ∷ started 1 1 (Words (codes "v"))
      ∷ was Lookup (codes "y") [] (Words (codes "v") ∷ [])
      ∷ [];
  answers = [];
}) Starved

starved_runs : ran (layout or_else) 11 7 few_answers ≡ starved_ends
unfolding ran layout
starved_runs = refl

starved_means : meant or_else 11 few_answers ≡ starved_ends
unfolding meant
starved_means = refl

-- the answers of the loop with a filter, over 1 and 0: the first alone passes
abbrev filter_answers : List (Answer Value)
filter_answers =
    Values (Words (codes "v") ∷ []) ∷ Values []
    ∷ Values (number 1 ∷ []) ∷ Values [] ∷ Values (number 1 ∷ [])
    ∷ Values (number 0 ∷ []) ∷ Values [] ∷ Values (number 0 ∷ [])
    ∷ Values [] ∷ Values [] ∷ Values [] ∷ Values [] ∷ Values [] ∷ []

-- what it comes to: all items are tested before the first turn
abbrev filter_ends : State (Event ℕ Value) Value WrongOperand
filter_ends = At 23 [] [] (record {
  record_so_far =
      was events.PopLoopFrame [] [] []
      ∷ was events.Iterate [] [] []
      ∷ started 16 1 (ListOf (and (number 1) end))
      ∷ was events.PopLoopFrame [] [] []
      ∷ was events.Iterate [] [] []
      ∷ was Lookup (codes "x") [] (number 0 ∷ [])
      ∷ was StoreLocal (codes "x") (number 0 ∷ []) []
      ∷ was events.Iterate [] [] (number 0 ∷ [])
      ∷ was Lookup (codes "x") [] (number 1 ∷ [])
      ∷ was StoreLocal (codes "x") (number 1 ∷ []) []
      ∷ was events.Iterate [] [] (number 1 ∷ [])
      ∷ (event None (events.PushLoop 0) [] (Words (codes "v") ∷ []), Values [])
      ∷ was Lookup (codes "y") [] (Words (codes "v") ∷ [])
      ∷ [];
  answers = [];
})

filter_runs : ran (layout filtered) 23 40 filter_answers ≡ filter_ends
unfolding ran layout
filter_runs = refl

filter_means : meant filtered 23 filter_answers ≡ filter_ends
unfolding meant
filter_means = refl

-- {% for x in y %}{% autoescape x %}{% break %}{% endautoescape %}{% endfor %}: what is open is
-- closed on the way out
abbrev leaves : Tree
leaves = each (only (auto_escape x (only break_loop))) done

-- its answers
abbrev leaves_answers : List (Answer Value)
leaves_answers = Values (number 2 ∷ []) ∷ Values [] ∷ Values (number 1 ∷ []) ∷ Values [] ∷ Values (number 1 ∷ []) ∷ Values [] ∷ Values [] ∷ Values [] ∷ []

-- what it comes to
abbrev leaves_ends : State (Event ℕ Value) Value WrongOperand
leaves_ends = At 11 [] [] (record {
  record_so_far =
      was events.PopLoopFrame [] [] []
      ∷ was PopAutoEscape [] [] []
      ∷ was PushAutoEscape [] (number 1 ∷ []) []
      ∷ was Lookup (codes "x") [] (number 1 ∷ [])
      ∷ was StoreLocal (codes "x") (number 1 ∷ []) []
      ∷ was events.Iterate [] [] (number 1 ∷ [])
      ∷ started 1 1 (number 2)
      ∷ was Lookup (codes "y") [] (number 2 ∷ [])
      ∷ [];
  answers = [];
})

leaves_code : layout leaves ≡
    look (codes "y") ∷ PushLoop 1 ∷ Iterate 10 ∷ store (codes "x") ∷ look (codes "x") ∷ Do PushAutoEscape [] 1 ∷ tells PopAutoEscape ∷ Jump 10 ∷ tells PopAutoEscape ∷ Jump 2 ∷ PopLoopFrame ∷ []
unfolding layout
leaves_code = refl

leaves_runs : ran (layout leaves) 11 40 leaves_answers ≡ leaves_ends
unfolding ran layout
leaves_runs = refl

leaves_means : meant leaves 11 leaves_answers ≡ leaves_ends
unfolding meant
leaves_means = refl

-- the unit of the recursive loop, entered with an iterable over an operand and an open loop: it
-- leaves whether no item came
unfoldable entered : List (Answer Value) → State (Event ℕ Value) Value WrongOperand
unfolding run step asked did iterated built popped popped_by popped_counted popped_pairs ask answered fitted operated compute compares layout
entered answers = state_as event_of (run sample traced (layout recursive) (AtPlace 9) 40 (At 1 (number 7 ∷ number 5 ∷ []) (false ∷ []) (record { record_so_far = []; answers = answers })))

unit_runs : entered (Values [] ∷ Values [] ∷ Values [] ∷ []) ≡ At 9 (Truth true ∷ number 5 ∷ []) (false ∷ []) (record {
  record_so_far = was events.PopLoopFrame [] [] [] ∷ was events.Iterate [] [] [] ∷ started 1 3 (number 7) ∷ [];
  answers = [];
})
unfolding entered
unit_runs = refl
