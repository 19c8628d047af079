-- The tree whose loops and macros are named by where their code lies.
use Rattle.std.specs.Prelude.{ℕ, false, List, [], ◌∷◌}
use Rattle.minijinja_value.specs.Values.{Functions}
use Rattle.minijinja_tree.specs.Tree.{Expr, Optional, Args, Stmt, template, data_text, output, assignment, for_loop, if_cond, with_block, set_block, auto_escape, filter_block, named_block, extends, include, import_all, from_import, declare, call_block, do_call, break_loop, continue_loop, Stmts, done, also, Macro, macro, parameters, are_any}
use Rattle.minijinja_tree.specs.Callees.{Callee, function, method, block, object, callee}
use Rattle.minijinja_semantics.specs.Pieces.{Here, behind, start, nothing, Piece, ◌▸◌, Open, OpenScope, OpenAutoEscape, OpenCapture}
use Rattle.minijinja_semantics.specs.Layout as layout
use Rattle.minijinja_semantics.specs.Layout.{expr, base, target, assignments, passing, looping, taking, up_to_caller}
use Rattle.minijinja_semantics.specs.Naming.{relabel, relabel_all, relabel_macro}

-- where a loop starts: after the instructions that give its items
abbrev pub loop_start : {C F : Type 0} → Functions C F → (target iterable : Expr C) → Optional C → Here → Here
loop_start f e v only h = (passing f e only (expr f v)).past h

-- where the body of a loop that starts here begins: after its start, the question for an item, and
-- its target
abbrev pub body_start : {C F : Type 0} → Functions C F → (target : Expr C) → Here → Here
body_start f e h = (target f e).past (behind 1 (behind 1 h))

-- what stands after a loop that starts here
abbrev pub loop_past : {C L F : Type 0} → Functions C F → (target : Expr C) → Stmts C L → Stmts C L → Here → Here
loop_past f e body else_body h = (looping f e false (are_any else_body) (layout.stmts f [] body)).past h

-- where the code that a macro runs begins: after the jump past it
abbrev pub macro_entry : Here → Here
macro_entry h = behind 1 h

-- where the body of a macro begins: after the instructions that store its arguments
abbrev pub macro_body_start : {C F : Type 0} → Functions C F → (args defaults : List (Expr C)) → Here → Here
macro_body_start f args defaults h = (taking f (parameters args defaults)).past (macro_entry h)

-- the part of the code of a call that stands before the macro that it takes along
abbrev pub before_caller : {C F : Type 0} → Functions C F → Callee C → Expr C → Args C → Piece C
before_caller f (function x) e args = up_to_caller f args 0
before_caller f (method o x) e args = base f e ▸ up_to_caller f args 1
before_caller f (object o) e args = expr f e ▸ up_to_caller f args 1
before_caller f (block x) e args = nothing

-- where the macro that a call takes along stands; a call of a block takes none along, so that the
-- macro has no code
abbrev pub caller_start : {C F : Type 0} → Functions C F → Expr C → Args C → Here → Here
caller_start f e args h = (before_caller f (callee e) e args).past h

-- where the code of a loop, or of what a macro runs, lies: the place where it begins, and the one
-- after its end
pub record Extent : Type 0 where
  pub begin : ℕ
  pub end : ℕ

-- the extent from here to there
abbrev pub extent : Here → Here → Extent
extent h there = record { begin = h.place; end = there.place }

-- the place where an extent begins
abbrev pub begin_of : Extent → ℕ
begin_of x = x.begin

-- A statement whose code stands here, where this is open within its loop: each loop and macro is
-- labelled by the extent of its code. The body of a block has a list of its own, and its loops and
-- macros are labelled by their extents in that list. The macro of a call of a block is part of the
-- tree though no code is made of it: it and the loops and macros within it are labelled as if its
-- code stood where that of the call block begins. No event names them, and none of them is a unit.
abbrev mutual
  pub spanned : {C L F : Type 0} → Functions C F → List Open → Stmt C L → Here → Stmt C Extent
  spanned f os (template ss) h = template (all_spanned f os ss h)
  spanned f os (data_text t) h = data_text t
  spanned f os (output e) h = output e
  spanned f os (assignment e v) h = assignment e v
  spanned f os (for_loop n e v only recursive body else_body) h =
      let start = loop_start f e v only h in
      let past = loop_past f e body else_body start in
      for_loop (extent start past) e v only recursive (all_spanned f [] body (body_start f e start)) (all_spanned f os else_body (behind 1 past))
  spanned f os (if_cond e true_body false_body) h =
      let first = behind 1 ((expr f e).past h) in
      if_cond e (all_spanned f os true_body first) (all_spanned f os false_body (behind 1 ((layout.stmts f os true_body).past first)))
  spanned f os (with_block ts body) h = with_block ts (all_spanned f (OpenScope ∷ os) body ((assignments f ts).past (behind 1 h)))
  spanned f os (set_block e chain body) h = set_block e chain (all_spanned f (OpenCapture ∷ os) body (behind 1 h))
  spanned f os (auto_escape e body) h = auto_escape e (all_spanned f (OpenAutoEscape ∷ os) body (behind 1 ((expr f e).past h)))
  spanned f os (filter_block chain body) h = filter_block chain (all_spanned f (OpenCapture ∷ os) body (behind 1 h))
  spanned f os (named_block x required body) h = named_block x required (all_spanned f [] body start)
  spanned f os (extends e) h = extends e
  spanned f os (include e ignore) h = include e ignore
  spanned f os (import_all e t) h = import_all e t
  spanned f os (from_import e names) h = from_import e names
  spanned f os (declare m) h = declare (spanned_macro f m h)
  spanned f os (call_block e args m) h = call_block e args (spanned_macro f m (caller_start f e args h))
  spanned f os (do_call e args) h = do_call e args
  spanned f os break_loop h = break_loop
  spanned f os continue_loop h = continue_loop

  -- statements in order
  pub all_spanned : {C L F : Type 0} → Functions C F → List Open → Stmts C L → Here → Stmts C Extent
  all_spanned f os done h = done
  all_spanned f os (also s rest) h = also (spanned f os s h) (all_spanned f os rest ((layout.stmt f os s).past h))

  -- a macro whose code stands here; what it runs ends after the `Return` behind its body
  pub spanned_macro : {C L F : Type 0} → Functions C F → Macro C L → Here → Macro C Extent
  spanned_macro f (macro n x args defaults body) h =
      let inner = macro_body_start f args defaults h in
      macro (extent (macro_entry h) (behind 1 ((layout.stmts f [] body).past inner))) x args defaults (all_spanned f [] body inner)

-- A statement whose code stands here, with each loop and macro labelled by the place where its code
-- begins. Events name loops and macros by these labels.
abbrev pub placed : {C L F : Type 0} → Functions C F → List Open → Stmt C L → Here → Stmt C ℕ
placed f os s h = relabel begin_of (spanned f os s h)

-- statements in order
abbrev pub all_placed : {C L F : Type 0} → Functions C F → List Open → Stmts C L → Here → Stmts C ℕ
all_placed f os ss h = relabel_all begin_of (all_spanned f os ss h)

-- a macro whose code stands here
abbrev pub placed_macro : {C L F : Type 0} → Functions C F → Macro C L → Here → Macro C ℕ
placed_macro f m h = relabel_macro begin_of (spanned_macro f m h)

-- the body of a block, in its own list
abbrev pub placed_block : {C L F : Type 0} → Functions C F → Stmts C L → Stmts C ℕ
placed_block f body = all_placed f [] body start

-- the tree of a statement outside of all loops
abbrev pub placed_stmt : {C L F : Type 0} → Functions C F → Stmt C L → Here → Stmt C ℕ
placed_stmt f s h = placed f [] s h
