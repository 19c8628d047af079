-- Units, which can be entered by themselves: recursive loops, the bodies of macros, and blocks.
use Rattle.std.specs.Prelude.{◌≡◌, ℕ, Bool, true, false, not, List, [], ◌∷◌, ◌++◌, length, if◌then◌else◌, All}
use Rattle.minijinja_value.specs.Values.{Functions}
use Rattle.minijinja_tree.specs.Tree.{Expr, Stmt, template, data_text, output, assignment, for_loop, if_cond, with_block, set_block, auto_escape, filter_block, named_block, extends, include, import_all, from_import, declare, call_block, do_call, break_loop, continue_loop, Stmts, done, also, Macro, macro, Parameter, parameters, blocks, are_any}
use Rattle.minijinja_tree.specs.Callees.{Callee, block, callee}
use Rattle.minijinja_semantics.specs.Pieces.{Here, start, Open}
use Rattle.minijinja_semantics.specs.Layout.{block_code}
use Rattle.minijinja_semantics.specs.Meaning.{Signal, stmts, looped, macro_run}
use Rattle.minijinja_semantics.specs.Machine.{AtPlace, AtReturn}
use Rattle.minijinja_semantics.specs.Naming.{relabel_all}
use Rattle.minijinja_semantics.specs.Places.{Extent, begin_of, spanned, all_spanned, spanned_macro, placed_block}
use Rattle.minijinja_semantics.specs.Code.{Instr}
use Rattle.minijinja_semantics.specs.Correct.{Entry, Does, a_statement}

-- What of a tree can be entered by itself: a recursive loop by its label, its target, its body, and
-- whether an else body follows it; or what a macro runs, by the macro's label, its arguments with
-- the last one first, and its body.
pub data Enterable (C L : Type 0) : Type 0 where
  RecursiveLoop : L → Expr C → Stmts C L → (has_else : Bool) → Enterable C L
  MacroBody : L → List (Parameter C) → Stmts C L → Enterable C L

-- what can be entered of a tree with other labels
abbrev pub relabel_enterable : {C L M : Type 0} → (L → M) → Enterable C L → Enterable C M
relabel_enterable g (RecursiveLoop n e body has_else) = RecursiveLoop (g n) e (relabel_all g body) has_else
relabel_enterable g (MacroBody n ps body) = MacroBody (g n) ps (relabel_all g body)

-- one more before others, if a loop is recursive
abbrev pub and_if : {X : Type 0} → (recursive : Bool) → X → List X → List X
and_if true u us = u ∷ us
and_if false u us = us

-- code is made of the macro that a call of this takes along, unless it is a block that is called
abbrev pub if_coded : {C X : Type 0} → Callee C → List X → List X
if_coded (block x) us = []
if_coded _ us = us

-- the recursive loops and macros of a statement except those in blocks, each before those within it
abbrev mutual
  pub enterable : {C L : Type 0} → Stmt C L → List (Enterable C L)
  enterable (template ss) = all_enterable ss
  enterable (data_text t) = []
  enterable (output e) = []
  enterable (assignment e v) = []
  enterable (for_loop n e v only recursive body else_body) = and_if recursive (RecursiveLoop n e body (are_any else_body)) (all_enterable body ++ all_enterable else_body)
  enterable (if_cond e true_body false_body) = all_enterable true_body ++ all_enterable false_body
  enterable (with_block ts body) = all_enterable body
  enterable (set_block e chain body) = all_enterable body
  enterable (auto_escape e body) = all_enterable body
  enterable (filter_block chain body) = all_enterable body
  enterable (named_block x required body) = []
  enterable (extends e) = []
  enterable (include e ignore) = []
  enterable (import_all e t) = []
  enterable (from_import e names) = []
  enterable (declare m) = enterable_macro m
  enterable (call_block e args m) = if_coded (callee e) (enterable_macro m)
  enterable (do_call e args) = []
  enterable break_loop = []
  enterable continue_loop = []

  -- what can be entered of statements in order
  pub all_enterable : {C L : Type 0} → Stmts C L → List (Enterable C L)
  all_enterable done = []
  all_enterable (also s rest) = enterable s ++ all_enterable rest

  -- what can be entered of a macro: itself, and what is within it
  pub enterable_macro : {C L : Type 0} → Macro C L → List (Enterable C L)
  enterable_macro (macro n x args defaults body) = MacroBody n (parameters args defaults) body ∷ all_enterable body

-- the units of a statement whose code stands here: what of it can be entered, by its extent; those
-- of a block stand in its own list
abbrev pub units : {C L F : Type 0} → Functions C F → List Open → Stmt C L → Here → List (Enterable C Extent)
units f os s h = enterable (spanned f os s h)

-- the units of statements in order
abbrev pub all_units : {C L F : Type 0} → Functions C F → List Open → Stmts C L → Here → List (Enterable C Extent)
all_units f os ss h = all_enterable (all_spanned f os ss h)

-- the units of a macro
abbrev pub macro_units : {C L F : Type 0} → Functions C F → Macro C L → Here → List (Enterable C Extent)
macro_units f m h = enterable_macro (spanned_macro f m h)

-- the code of a loop is entered at its start with the value whose items it takes; where an else
-- body follows it leaves whether no item came
abbrev pub a_loop : {C F : Type 0} → Functions C F → (start end : ℕ) → (has_else : Bool) → C → Entry C Bool
a_loop f start end has_else v = record {
  place = start;
  given = v ∷ [];
  finish = AtPlace end;
  leaves = λ came. if has_else then f.of_bool (not came) ∷ [] else [];
}

-- what a macro runs is entered where it begins with a value for each argument, that of the last one
-- on top; it is over where it returns, and leaves nothing
abbrev pub a_macro : {C : Type 0} → (start : ℕ) → List C → Entry C Signal
a_macro start vs = record { place = start; given = vs; finish = AtReturn; leaves = λ g. [] }

-- the code of a unit does what the unit means
abbrev pub DoesUnit : {C F : Type 0} → Functions C F → List (Instr C) → Enterable C Extent → Type 0
DoesUnit f code (RecursiveLoop x e body has_else) =
    (v : _) → Does f code (a_loop f x.begin x.end has_else v) (looped f x.begin e true (stmts f (relabel_all begin_of body)) v)
DoesUnit f code (MacroBody x ps body) =
    (vs : List _) → length vs ≡ length ps → Does f code (a_macro x.begin vs) (macro_run f ps (relabel_all begin_of body) vs)

-- the code does what each of these units means
abbrev pub EachDoes : {C F : Type 0} → Functions C F → List (Instr C) → List (Enterable C Extent) → Type 0
EachDoes f code [] = Unit {0}
EachDoes f code (u ∷ us) = DoesUnit f code u × EachDoes f code us

-- the code does what each unit of a tree means whose code stands here
abbrev pub DoUnits : {C L F : Type 0} → Functions C F → List (Instr C) → Stmt C L → Here → Type 0
DoUnits f code t h = EachDoes f code (units f [] t h)

-- the list of a block, entered at its start, does what its body means, and is over at its end; and
-- the code of each unit in it does what the unit means
pub record DoesBlock {C L F : Type 0} (f : Functions C F) (code : List (Instr C)) (body : Stmts C L) : Type 0 where
  pub does : Does f code (a_statement 0 (length code)) (stmts f (placed_block f body))
  pub units : EachDoes f code (all_units f [] body start)

-- the lists of all blocks of a tree do what their bodies mean
abbrev pub DoBlocks : {C L F : Type 0} → Functions C F → Stmt C L → Type 0
DoBlocks f t = All (λ b. DoesBlock f (block_code f b.body) b.body) (blocks t)
