-- The names that a run mentions while they are not stored, and the names that a tree needs.
use Rattle.std.specs.Prelude.{◌≡◌, ◌⊎◌, ℕ, ◌==◌, ◌%◌, ◌+◌, ◌*◌, ◌≤◌, Bool, List, [], ◌∷◌, ◌++◌, length, Option, Some, None, IfSome, Contains, codes, if◌then◌else◌}
use Rattle.minijinja_syntax.specs.Texts.{Text}
use Rattle.minijinja_value.specs.Values.{Functions}
use Rattle.minijinja_tree.specs.Tree.{Stmt, template, for_loop, if_cond, with_block, set_block, auto_escape, filter_block, declare, call_block, Stmts, done, also, Macro, macro, macro_name, Parameter, parameters}
use Rattle.minijinja_tree.specs.FreeNames.{end, free, in_order, to_parameters, through_stmt, through_stmts}
use Rattle.minijinja_semantics.specs.Events.{Kind, Lookup, CallFunction, Enclose, StoreLocal, PushWith, PopFrame, PushLoop, PopLoopFrame, BeginCapture, Discard, Include, GetClosure, BuildMacro, Event, Answer, Did, Gave, Ended}
use Rattle.minijinja_semantics.specs.Answers.{AreFew}
use Rattle.minijinja_semantics.specs.Code.{Instr}
use Rattle.minijinja_semantics.specs.Machine.{State, At, Returned, Halted, Jammed, run, traced}
use Rattle.minijinja_semantics.specs.Naming.{state_as, event_of}
use Rattle.minijinja_semantics.specs.Places.{Extent}
use Rattle.minijinja_semantics.specs.Correct.{Entry, fresh}
use Rattle.minijinja_semantics.specs.Units.{Enterable, MacroBody, a_macro}

-- the names that a tree needs from outside, in order of their bytes
abbrev pub undeclared : {C L : Type 0} → Stmt C L → List Text
undeclared t = in_order (free (through_stmt t end))

-- ---- what is stored

-- What a scope is open for: no from import, one whose template is not loaded yet, or one that looks
-- up names in its template.
pub data Import : Type 0 where
  NoImport Begun Loaded : Import

-- an open scope or loop: the names stored in it, and the from import that it is open for, if any
pub record Scope : Type 0 where
  pub stored : List Text
  pub import : Import

-- a scope in which nothing is stored
abbrev pub bare_scope : Scope
bare_scope = record { stored = []; import = NoImport }

-- the scope of a loop with these flags: a loop that has a loop variable stores it
abbrev pub loop_scope : (flags : ℕ) → Scope
loop_scope flags = record { stored = if flags % 2 == 1 then codes "loop" ∷ [] else []; import = NoImport }

-- the scope that is opened right after an event: a from import opens its own right after it begins
-- to drop what is written
abbrev pub scope_behind : Kind → Scope
scope_behind (BeginCapture Discard) = record { stored = []; import = Begun }
scope_behind _ = bare_scope

-- the scope that is opened right after a record
abbrev pub scope_after : {N C : Type 0} → List (Event N C × Answer C) → Scope
scope_after [] = bare_scope
scope_after (a ∷ taken) = scope_behind a.0.kind

-- scopes, the innermost first, after a name is stored
abbrev pub with_stored : Text → List Scope → List Scope
with_stored x [] = []
with_stored x (s ∷ around) = record s { stored = x ∷ s.stored } ∷ around

-- an import after a template is loaded
abbrev pub loaded : Import → Import
loaded NoImport = NoImport
loaded Begun = Loaded
loaded Loaded = Loaded

-- scopes after a template is loaded
abbrev pub with_loaded : List Scope → List Scope
with_loaded [] = []
with_loaded (s ∷ around) = record s { import = loaded s.import } ∷ around

-- scopes after the innermost one is closed
abbrev pub without_first : List Scope → List Scope
without_first [] = []
without_first (s ∷ around) = around

-- scopes after an event with this text; `opened` is the scope that it opens, if it opens one
abbrev pub scopes_after : Kind → Text → (opened : Scope) → List Scope → List Scope
scopes_after StoreLocal x opened around = with_stored x around
scopes_after PushWith x opened around = opened ∷ around
scopes_after (PushLoop flags) x opened around = loop_scope flags ∷ around
scopes_after PopFrame x opened around = without_first around
scopes_after PopLoopFrame x opened around = without_first around
scopes_after (Include ignore) x opened around = with_loaded around
scopes_after _ x opened around = around

-- the scopes and loops that a record, latest event first, leaves open; one is open from the start
abbrev pub scopes : {N C : Type 0} → List (Event N C × Answer C) → List Scope
scopes [] = bare_scope ∷ []
scopes (a ∷ taken) = scopes_after a.0.kind a.0.text (scope_after taken) (scopes taken)

-- a name is stored in one of these scopes
abbrev pub IsStored : Text → List Scope → Type 0
IsStored x [] = ⊥
IsStored x (s ∷ around) = Contains s.stored x ⊎ IsStored x around

-- the innermost scope is that of a from import that looks up names in its template
abbrev pub IsImporting : List Scope → Type 0
IsImporting [] = ⊥
IsImporting (s ∷ around) = s.import ≡ Loaded

-- ---- what is mentioned

-- the macro that is being made before an event, if any; `making` is the one after it
abbrev pub making_before : Kind → Text → Option Text → Option Text
making_before (BuildMacro flags) x making = Some x
making_before GetClosure x making = making
making_before Enclose x making = making
making_before _ x making = None

module _ (names : List Text) where
  -- a name is stored, or one of these names
  abbrev pub IsKnown : Text → List Scope → Type 0
  IsKnown x around = IsStored x around ⊎ Contains names x

  -- An event may mention what is known. A from import may also look up names in its template, and a
  -- macro that is being made may enclose its own name.
  abbrev pub MayMention : (making : Option Text) → Kind → Text → List Scope → Type 0
  MayMention making Lookup x around = IsKnown x around ⊎ IsImporting around
  MayMention making CallFunction x around = IsKnown x around
  MayMention making Enclose x around = IsKnown x around ⊎ (making ≡ Some x)
  MayMention making _ x around = Unit {0}

  -- each event of a record, latest first, mentions what it may; this macro is being made at its end
  abbrev pub MentionsOnly : {N C : Type 0} → (making : Option Text) → List (Event N C × Answer C) → Type 0
  MentionsOnly making [] = Unit {0}
  MentionsOnly making (a ∷ taken) = MayMention making a.0.kind a.0.text (scopes taken) × MentionsOnly (making_before a.0.kind a.0.text making) taken

  -- However a run ends, it mentions only these names while they are not stored. Where it ends while
  -- a macro is being made, that is one of these macros.
  abbrev pub NeedsOnly : {N C F X : Type 0} → (macros : List Text) → Did (Event N C) C F X → Type 0
  NeedsOnly macros (Gave w x) = MentionsOnly None w.record_so_far
  NeedsOnly macros (Ended w e) = (making : Option Text) × IfSome making (Contains macros) × MentionsOnly making w.record_so_far

  -- the same of the state that a run of code comes to, up to which each instruction has applied
  abbrev pub HasNeededOnly : {N C F : Type 0} → (macros : List Text) → State (Event N C) C F → Type 0
  HasNeededOnly macros (At place operands loops w) = MentionsOnly None w.record_so_far
  HasNeededOnly macros (Returned operands loops w) = MentionsOnly None w.record_so_far
  HasNeededOnly macros (Halted w e) = NeedsOnly {X = Unit {0}} macros (Ended w e)
  HasNeededOnly macros Jammed = ⊥

-- ---- macros

-- the names of the macros that a statement makes, but for those within its blocks and macros
abbrev mutual
  pub made_in : {C L : Type 0} → Stmt C L → List Text
  made_in (template ss) = made_in_all ss
  made_in (for_loop n target e only recursive body else_body) = made_in_all body ++ made_in_all else_body
  made_in (if_cond e true_body false_body) = made_in_all true_body ++ made_in_all false_body
  made_in (with_block assignments body) = made_in_all body
  made_in (set_block target chain body) = made_in_all body
  made_in (auto_escape e body) = made_in_all body
  made_in (filter_block chain body) = made_in_all body
  made_in (declare m) = macro_name m ∷ []
  made_in (call_block e args m) = macro_name m ∷ []
  made_in _ = []

  pub made_in_all : {C L : Type 0} → Stmts C L → List Text
  made_in_all done = []
  made_in_all (also s rest) = made_in s ++ made_in_all rest

-- the arguments of a macro, the last one first, with their defaults
abbrev pub parameters_of : {C L : Type 0} → Macro C L → List (Parameter C)
parameters_of (macro n x args defaults body) = parameters args defaults

-- the body of a macro
abbrev pub body_of : {C L : Type 0} → Macro C L → Stmts C L
body_of (macro n x args defaults body) = body

-- the closure of a macro with these arguments, the last one first, and this body
abbrev pub closure_of : {C L : Type 0} → List (Parameter C) → Stmts C L → List Text
closure_of ps body = in_order (free (to_parameters ps (through_stmts body end)))

-- ---- runs of code

-- The code, entered at the unit over any operands and open loops, mentions only these names while
-- they are not stored. Where it ends while a macro is being made, that is one of these macros. This
-- holds for any answers, if they and the values in them are fewer than 2^64, from
-- (answers + 1) * (code length + 1) steps on: by then code that does what a tree means is over.
abbrev pub RunsNeedOnly : {C F X : Type 0} → Functions C F → List (Instr C) → Entry C X → (names macros : List Text) → Type 0
RunsNeedOnly {C} f code u names macros =
    (below : List C) (loops : List Bool) (answers : List (Answer C)) → AreFew answers →
    (k : ℕ) → (length answers + 1) * (length code + 1) ≤ k →
    HasNeededOnly names macros (state_as event_of (run f traced code u.finish k (At u.place (u.given ++ below) loops (fresh answers))))

-- the code, entered with a value for each argument at what a macro among these units runs, mentions
-- only names of the macro's closure while they are not stored
abbrev pub MacrosNeedOnly : {C F : Type 0} → Functions C F → List (Instr C) → List (Enterable C Extent) → Type 0
MacrosNeedOnly {C} f code us =
    (x : Extent) (ps : List (Parameter C)) (body : Stmts C Extent) → Contains us (MacroBody x ps body) →
    (values : List C) → length values ≡ length ps →
    RunsNeedOnly f code (a_macro x.begin values) (closure_of ps body) (made_in_all body)
