-- The definitions, computed on small templates with macros, blocks and other templates.
use Rattle.std.proofs.Common.{◌≡◌, ℕ, List, [], ◌∷◌, refl}
use Rattle.std.specs.Prelude.{Some, None, codes, true, false}
use Rattle.minijinja_syntax.specs.Texts.{Text}
use Rattle.minijinja_tree.specs.Tree.{Expr, variable, constant, attribute, call, absent, present, no_args, pos, pos_splat, kwarg, Stmt, data_text, output, named_block, extends, include, import_all, from_import, declare, call_block, Stmts, done, also, macro, blocks}
use Rattle.minijinja_tree.specs.FreeNames.{closure}
use Rattle.minijinja_tree.specs.Folding.{fold, if_some, fold_on, fold_keywords}
use Rattle.minijinja_tree.specs.Operators.{compute}
use Rattle.minijinja_tree.specs.Comparisons.{compares}
use Rattle.minijinja_semantics.specs.Events.{Kind, EmitRaw, Emit, LoadBlocks, Include, Lookup, StoreLocal, CallFunction, CallMethod, CallBlock, UnpackLists, PushWith, PopFrame, BeginCapture, EndCapture, Capture, Discard, Enclose, GetClosure, ExportLocals, Answer, Values, Event, event, operated, fitted, answered, ask}
use Rattle.minijinja_semantics.specs.Machine.{State, At, Returned, iterated, AtReturn, run, step, asked, did, built, popped, popped_by, popped_counted, popped_pairs, traced}
use Rattle.minijinja_semantics.specs.Naming.{state_as, event_of}
use Rattle.minijinja_semantics.specs.Code.{Instr, Load, Do, Call, BuildMacro, BuildKwargs, BuildList, DupTop, DiscardTop, IsUndefined, Jump, JumpIfFalse, Return}
use Rattle.minijinja_semantics.specs.Pieces.{start}
use Rattle.minijinja_semantics.specs.Layout.{folded, merged, map_count, spreading, counted, stmt_code, block_code}
use Rattle.minijinja_semantics.specs.Places.{Extent}
use Rattle.minijinja_semantics.specs.Units.{Enterable, MacroBody, units}
use Rattle.minijinja_semantics.proofs.Samples.{Value, WrongOperand, Words, ListOf, end, and, sample, number}

-- trees whose loops and macros have no names
abbrev Tree : Type 0
Tree = Stmt Value (Unit {0})

-- a variable
abbrev name : Text → Expr Value
name x = variable x

-- a text
abbrev words : Text → Expr Value
words t = constant (Words t)

-- a template of one statement
abbrev only : Tree → Stmts Value (Unit {0})
only s = also s done

-- a macro without defaults
abbrev plain_macro : Text → List (Expr Value) → Stmts Value (Unit {0}) → Tree
plain_macro x args body = declare (macro tt x args [] body)

-- the code of a tree at the start of a list
unfoldable layout : Tree → List (Instr Value)
unfolding folded merged map_count spreading counted fold if_some fold_on fold_keywords compute compares
layout s = stmt_code sample s start

-- the code of a block
unfoldable body_layout : Stmts Value (Unit {0}) → List (Instr Value)
unfolding folded merged map_count spreading counted fold if_some fold_on fold_keywords compute compares
body_layout ss = block_code sample ss

-- instructions that are events of no operand
abbrev tells : Kind → Instr Value
tells k = Do k [] 0

-- a variable is looked up
abbrev look : Text → Instr Value
look t = Do Lookup t 0

-- a variable is stored
abbrev store : Text → Instr Value
store t = Do StoreLocal t 1

-- a value is written
abbrev emit : Instr Value
emit = Do Emit [] 1

-- the names of arguments
abbrev no_names : Instr Value
no_names = Load (ListOf end)

-- {% macro f(a, b=a) %}{% endmacro %}
abbrev with_default : Tree
with_default = declare (macro tt (codes "f") (name (codes "a") ∷ name (codes "b") ∷ []) (name (codes "a") ∷ []) done)

default_code : layout with_default ≡
    Jump 9 ∷ DupTop ∷ IsUndefined ∷ JumpIfFalse 6 ∷ DiscardTop ∷ look (codes "a") ∷ store (codes "b") ∷ store (codes "a") ∷ Return
    ∷ Do Enclose (codes "a") 0 ∷ tells GetClosure ∷ Load (ListOf (and (Words (codes "a")) (and (Words (codes "b")) end))) ∷ BuildMacro (codes "f") 1 0 ∷ store (codes "f") ∷ []
unfolding layout
default_code = refl

-- {% macro f(a) %}{{ a }}{{ b }}{% endmacro %}
abbrev writes : Tree
writes = plain_macro (codes "f") (name (codes "a") ∷ []) (also (output (name (codes "a"))) (only (output (name (codes "b")))))

writes_code : layout writes ≡
    Jump 7 ∷ store (codes "a") ∷ look (codes "a") ∷ emit ∷ look (codes "b") ∷ emit ∷ Return
    ∷ Do Enclose (codes "b") 0 ∷ tells GetClosure ∷ Load (ListOf (and (Words (codes "a")) end)) ∷ BuildMacro (codes "f") 1 0 ∷ store (codes "f") ∷ []
unfolding layout
writes_code = refl

-- what it runs is its unit
unfoldable units_of : Tree → List (Enterable Value Extent)
unfolding folded merged map_count spreading counted fold if_some fold_on fold_keywords compute compares
units_of s = units sample [] s start

writes_units : units_of writes ≡ MacroBody (record { begin = 1; end = 7 }) (record { target = name (codes "a"); default = absent } ∷ []) (also (output (name (codes "a"))) (also (output (name (codes "b"))) done)) ∷ []
unfolding units_of
writes_units = refl

-- what was asked, and its answer
abbrev was : Kind → Text → List Value → List Value → Event ℕ Value × Answer Value
was k t operands values = (event None k t operands, Values values)

-- a run of what the macro runs, over an operand that stays
unfoldable entered : List (Answer Value) → State (Event ℕ Value) Value WrongOperand
unfolding run step asked did iterated built popped popped_by popped_counted popped_pairs ask answered fitted operated compute compares layout
entered answers = state_as event_of (run sample traced (layout writes) AtReturn 6 (At 1 (Words (codes "p") ∷ number 5 ∷ []) [] (record { record_so_far = []; answers = answers })))

-- what that comes to
abbrev returned : State (Event ℕ Value) Value WrongOperand
returned = Returned (number 5 ∷ []) [] (record {
  record_so_far =
      was Emit [] (Words (codes "r") ∷ []) []
      ∷ was Lookup (codes "b") [] (Words (codes "r") ∷ [])
      ∷ was Emit [] (Words (codes "q") ∷ []) []
      ∷ was Lookup (codes "a") [] (Words (codes "q") ∷ [])
      ∷ was StoreLocal (codes "a") (Words (codes "p") ∷ []) []
      ∷ [];
  answers = [];
})

-- its answers
abbrev given : List (Answer Value)
given = Values [] ∷ Values (Words (codes "q") ∷ []) ∷ Values [] ∷ Values (Words (codes "r") ∷ []) ∷ Values [] ∷ []

macro_runs : entered given ≡ returned
unfolding entered
macro_runs = refl

-- {% macro m() %}{{ caller() }}{% endmacro %}
calls_code : layout (plain_macro (codes "m") [] (only (output (call (name (codes "caller")) no_args)))) ≡
    Jump 4 ∷ Call CallFunction (codes "caller") (Some 0) ∷ emit ∷ Return ∷ tells GetClosure ∷ no_names ∷ BuildMacro (codes "m") 1 2 ∷ store (codes "m") ∷ []
unfolding layout
calls_code = refl

-- {% macro a() %}{% macro b() %}{{ x }}{{ a }}{% endmacro %}{% endmacro %}
abbrev nested : Tree
nested = plain_macro (codes "a") [] (only (plain_macro (codes "b") [] (also (output (name (codes "x"))) (only (output (name (codes "a")))))))

nested_code : layout nested ≡
    Jump 14 ∷ Jump 7 ∷ look (codes "x") ∷ emit ∷ look (codes "a") ∷ emit ∷ Return
    ∷ Do Enclose (codes "a") 0 ∷ Do Enclose (codes "x") 0 ∷ tells GetClosure ∷ no_names ∷ BuildMacro (codes "b") 2 0 ∷ store (codes "b") ∷ Return
    ∷ Do Enclose (codes "a") 0 ∷ Do Enclose (codes "x") 0 ∷ tells GetClosure ∷ no_names ∷ BuildMacro (codes "a") 1 0 ∷ store (codes "a") ∷ []
unfolding layout
nested_code = refl

-- {% call f() %}x{% endcall %}
abbrev calls : Expr Value → Tree
calls e = call_block e no_args (macro tt (codes "caller") [] [] (only (data_text (codes "x"))))

call_code : layout (calls (name (codes "f"))) ≡
    Load (Words (codes "caller")) ∷ Jump 4 ∷ Do EmitRaw (codes "x") 0 ∷ Return ∷ tells GetClosure ∷ no_names ∷ BuildMacro (codes "caller") 2 0
    ∷ BuildKwargs 1 ∷ Call CallFunction (codes "f") (Some 1) ∷ emit ∷ []
unfolding layout
call_code = refl

-- {% call a.f(1, *b, c=2) %}x{% endcall %}
spread_code : layout (call_block (attribute (name (codes "a")) (codes "f")) (pos (constant (number 1)) (pos_splat (name (codes "b")) (kwarg (codes "c") (constant (number 2)) no_args))) (macro tt (codes "caller") [] [] (only (data_text (codes "x"))))) ≡
    look (codes "a") ∷ Load (number 1) ∷ BuildList (Some 2) ∷ look (codes "b") ∷ Load (Words (codes "c")) ∷ Load (number 2)
    ∷ Load (Words (codes "caller")) ∷ Jump 10 ∷ Do EmitRaw (codes "x") 0 ∷ Return ∷ tells GetClosure ∷ no_names ∷ BuildMacro (codes "caller") 8 0
    ∷ BuildKwargs 2 ∷ BuildList (Some 1) ∷ Do UnpackLists [] 3 ∷ Call CallMethod (codes "f") None ∷ emit ∷ []
unfolding layout
spread_code = refl

-- {% call self.b() %}x{% endcall %} takes nothing along
self_code : layout (calls (attribute (name (codes "self")) (codes "b"))) ≡ tells (BeginCapture Capture) ∷ Do CallBlock (codes "b") 0 ∷ tells EndCapture ∷ emit ∷ []
unfolding layout
self_code = refl

self_units : units_of (calls (attribute (name (codes "self")) (codes "b"))) ≡ []
unfolding units_of
self_units = refl

-- {% import 'a' as m %}
import_code : layout (import_all (words (codes "a")) (name (codes "m"))) ≡
    tells (BeginCapture Capture) ∷ tells PushWith ∷ Load (Words (codes "a")) ∷ Do (Include false) [] 1 ∷ tells EndCapture ∷ DiscardTop ∷ tells ExportLocals ∷ tells PopFrame ∷ store (codes "m") ∷ []
unfolding layout
import_code = refl

-- {% from 'a' import x as y, z %}
from_code : layout (from_import (words (codes "a")) ((name (codes "x"), present (name (codes "y"))) ∷ (name (codes "z"), absent) ∷ [])) ≡
    tells (BeginCapture Discard) ∷ tells PushWith ∷ Load (Words (codes "a")) ∷ Do (Include false) [] 1 ∷ look (codes "x") ∷ look (codes "z") ∷ tells PopFrame ∷ store (codes "z") ∷ store (codes "y") ∷ tells EndCapture ∷ DiscardTop ∷ []
unfolding layout
from_code = refl

-- {% include 'a' ignore missing %}
include_code : layout (include (words (codes "a")) true) ≡ Load (Words (codes "a")) ∷ Do (Include true) [] 1 ∷ []
unfolding layout
include_code = refl

-- {% extends 'p' %}
extends_code : layout (extends (words (codes "p"))) ≡ Load (Words (codes "p")) ∷ Do LoadBlocks [] 1 ∷ []
unfolding layout
extends_code = refl

-- {% block a %}{% block b %}x{% endblock b %}{% endblock %}
abbrev inner_block : Stmts Value (Unit {0})
inner_block = only (named_block (codes "b") false (only (data_text (codes "x"))))

abbrev outer_block : Tree
outer_block = named_block (codes "a") false inner_block

outer_code : layout outer_block ≡ Do CallBlock (codes "a") 0 ∷ []
unfolding layout
outer_code = refl

inner_code : body_layout inner_block ≡ Do CallBlock (codes "b") 0 ∷ []
unfolding body_layout
inner_code = refl

text_code : body_layout (only (data_text (codes "x"))) ≡ Do EmitRaw (codes "x") 0 ∷ []
unfolding body_layout
text_code = refl

all_blocks_of : blocks outer_block ≡ record { name = codes "a"; required = false; body = inner_block } ∷ record { name = codes "b"; required = false; body = only (data_text (codes "x")) } ∷ []
all_blocks_of = refl

-- {% macro f(a=b, c=a) %}{{ f }}{{ caller }}{% endmacro %}: the last default is taken first
default_closure : closure (macro tt (codes "f") (name (codes "a") ∷ name (codes "c") ∷ []) (name (codes "b") ∷ name (codes "a") ∷ []) (also (output (name (codes "f"))) (only (output (name (codes "caller")))))) ≡ codes "a" ∷ codes "b" ∷ codes "caller" ∷ codes "f" ∷ []
default_closure = refl
