-- The names that a macro needs from outside do not depend on the labels of loops and macros.
use Rattle.std.proofs.Common.{◌≡◌, refl, sym, ap, ◌∙◌}
use Rattle.minijinja_value.specs.Values.{Functions}
use Rattle.minijinja_tree.specs.Tree.{Stmt, template, data_text, output, assignment, for_loop, if_cond, with_block, set_block, auto_escape, filter_block, named_block, extends, include, import_all, from_import, declare, call_block, do_call, break_loop, continue_loop, Stmts, done, also, Macro, macro}
use Rattle.minijinja_tree.specs.FreeNames.{Way, through_stmt, through_stmts, closure, end}
use Rattle.minijinja_semantics.specs.Macros.{enclosed, macro_flags}
use Rattle.minijinja_semantics.specs.Pieces.{Here}
use Rattle.minijinja_semantics.specs.Naming.{no_name, relabel, relabel_all, relabel_macro}
use Rattle.minijinja_semantics.specs.Places.{placed_macro}
use Rattle.minijinja_semantics.proofs.Unlabelled.{same_macro}

module _ {C L M : Type 0} (r : L → M) where
  mutual
    pub way_same : (s : Stmt C L) (w : Way) → through_stmt (relabel r s) w ≡ through_stmt s w
    way_same (template ss) w = rw (ways_same ss w) refl
    way_same (data_text t) w = refl
    way_same (output e) w = refl
    way_same (assignment target e) w = refl
    way_same (for_loop n target e only recursive body else_body) w = rw (ways_same body end, ways_same else_body end) refl
    way_same (if_cond e true_body false_body) w = rw (ways_same true_body end, ways_same false_body end) refl
    way_same (with_block ts body) w = rw (ways_same body end) refl
    way_same (set_block target chain body) w = rw (ways_same body end) refl
    way_same (auto_escape e body) w = rw (ways_same body end) refl
    way_same (filter_block chain body) w = rw (ways_same body end) refl
    way_same (named_block x required body) w = rw (ways_same body end) refl
    way_same (extends e) w = refl
    way_same (include e ignore) w = refl
    way_same (import_all e target) w = refl
    way_same (from_import e names) w = refl
    way_same (declare (macro n x args defaults body)) w = rw (ways_same body end) refl
    way_same (call_block e args (macro n x ts defaults body)) w = rw (ways_same body end) refl
    way_same (do_call e args) w = refl
    way_same break_loop w = refl
    way_same continue_loop w = refl

    pub ways_same : (ss : Stmts C L) (w : Way) → through_stmts (relabel_all r ss) w ≡ through_stmts ss w
    ways_same done w = refl
    ways_same (also s rest) w = ap (through_stmt (relabel r s)) (ways_same rest w) ∙ way_same s (through_stmts rest w)

  pub closure_same : (m : Macro C L) → closure (relabel_macro r m) ≡ closure m
  closure_same (macro n x args defaults body) = rw (ways_same body end) refl

pub closure_placed : {C L F : Type 0} (f : Functions C F) (m : Macro C L) (h : Here) → closure (placed_macro f m h) ≡ closure m
closure_placed f m h = sym (closure_same no_name (placed_macro f m h)) ∙ ap closure (same_macro f m h) ∙ closure_same no_name m

-- a macro of an equal closure takes the same names along, and has the same flags
pub enclosed_by : {C L M : Type 0} (m : Macro C L) (m' : Macro C M) → closure m ≡ closure m' → enclosed m ≡ enclosed m'
enclosed_by m m' e = rw e refl

pub flags_by : {C L M : Type 0} (m : Macro C L) (m' : Macro C M) → closure m ≡ closure m' → macro_flags m ≡ macro_flags m'
flags_by m m' e = rw e refl
