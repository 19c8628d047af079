-- Trees and runs with other names of nodes, and runs without the places of instructions.
use Rattle.std.specs.Prelude.{ℕ, List, map}
use Rattle.std.specs.Option.{option_map}
use Rattle.minijinja_tree.specs.Tree.{Stmt, template, data_text, output, assignment, for_loop, if_cond, with_block, set_block, auto_escape, filter_block, named_block, extends, include, import_all, from_import, declare, call_block, do_call, break_loop, continue_loop, Stmts, done, also, Macro, macro}
use Rattle.minijinja_semantics.specs.Events.{Event, Answer, World, Did, Gave, Ended}
use Rattle.minijinja_semantics.specs.Machine.{State, At, Returned, Halted, Jammed, Asked}

-- a record, with each event noted in another way
abbrev pub record_as : {E E' C : Type 0} → (E → E') → List (E × Answer C) → List (E' × Answer C)
record_as g = map (λ a. (g a.0, a.1))

-- a world, with each event of its record noted in another way
abbrev pub world_as : {E E' C : Type 0} → (E → E') → World E C → World E' C
world_as g w = record { record_so_far = record_as g w.record_so_far; answers = w.answers }

-- what a piece came to, with each event noted in another way
abbrev pub did_as : {E E' C F X : Type 0} → (E → E') → Did E C F X → Did E' C F X
did_as g (Gave w x) = Gave (world_as g w) x
did_as g (Ended w e) = Ended (world_as g w) e

-- a state of the machine, with each event noted in another way
abbrev pub state_as : {E E' C F : Type 0} → (E → E') → State E C F → State E' C F
state_as g (At p ops ls w) = At p ops ls (world_as g w)
state_as g (Returned ops ls w) = Returned ops ls (world_as g w)
state_as g (Halted w e) = Halted (world_as g w) e
state_as g Jammed = Jammed

-- an event whose node has another name
abbrev pub renamed : {N M C : Type 0} → (N → M) → Event N C → Event M C
renamed g e = record { kind = e.kind; text = e.text; operands = e.operands; node = option_map g e.node }

-- the event, without the place of the instruction that asked it
abbrev pub event_of : {C : Type 0} → Asked C → Event ℕ C
event_of a = a.event

-- a tree whose loops and macros have other names
abbrev mutual
  pub relabel : {C L M : Type 0} → (L → M) → Stmt C L → Stmt C M
  relabel g (template ss) = template (relabel_all g ss)
  relabel g (data_text t) = data_text t
  relabel g (output e) = output e
  relabel g (assignment target e) = assignment target e
  relabel g (for_loop n target e only recursive body else_body) = for_loop (g n) target e only recursive (relabel_all g body) (relabel_all g else_body)
  relabel g (if_cond e true_body false_body) = if_cond e (relabel_all g true_body) (relabel_all g false_body)
  relabel g (with_block assignments body) = with_block assignments (relabel_all g body)
  relabel g (set_block target chain body) = set_block target chain (relabel_all g body)
  relabel g (auto_escape e body) = auto_escape e (relabel_all g body)
  relabel g (filter_block chain body) = filter_block chain (relabel_all g body)
  relabel g (named_block x required body) = named_block x required (relabel_all g body)
  relabel g (extends e) = extends e
  relabel g (include e ignore) = include e ignore
  relabel g (import_all e target) = import_all e target
  relabel g (from_import e names) = from_import e names
  relabel g (declare m) = declare (relabel_macro g m)
  relabel g (call_block e args m) = call_block e args (relabel_macro g m)
  relabel g (do_call e args) = do_call e args
  relabel g break_loop = break_loop
  relabel g continue_loop = continue_loop

  pub relabel_all : {C L M : Type 0} → (L → M) → Stmts C L → Stmts C M
  relabel_all g done = done
  relabel_all g (also s rest) = also (relabel g s) (relabel_all g rest)

  pub relabel_macro : {C L M : Type 0} → (L → M) → Macro C L → Macro C M
  relabel_macro g (macro n x args defaults body) = macro (g n) x args defaults (relabel_all g body)

-- every name becomes the same one
abbrev pub no_name : {L : Type 0} → L → Unit {0}
no_name n = tt

-- a tree whose loops and macros have no names
abbrev pub unlabelled : {C L : Type 0} → Stmt C L → Stmt C (Unit {0})
unlabelled = relabel no_name

-- statements whose loops and macros have no names
abbrev pub all_unlabelled : {C L : Type 0} → Stmts C L → Stmts C (Unit {0})
all_unlabelled = relabel_all no_name
