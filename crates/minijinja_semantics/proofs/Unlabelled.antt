-- The tree whose loops and macros are named by places is the tree itself, these names aside.
use Rattle.std.proofs.Common.{◌≡◌, List, [], ◌∷◌, refl, ap}
use Rattle.minijinja_value.specs.Values.{Functions}
use Rattle.minijinja_tree.specs.Tree.{Stmt, template, data_text, output, assignment, for_loop, if_cond, with_block, set_block, auto_escape, filter_block, named_block, extends, include, import_all, from_import, declare, call_block, do_call, break_loop, continue_loop, Stmts, done, also, Macro, macro}
use Rattle.minijinja_semantics.specs.Pieces.{Here, behind, start, Open, OpenScope, OpenAutoEscape, OpenCapture}
use Rattle.minijinja_semantics.specs.Layout.{expr, assignments, stmt, stmts}
use Rattle.minijinja_semantics.specs.Naming.{relabel_macro, no_name, unlabelled, all_unlabelled}
use Rattle.minijinja_semantics.specs.Places.{loop_start, body_start, loop_past, macro_body_start, caller_start, placed, all_placed, placed_macro}

module _ {C L F : Type 0} (f : Functions C F) where
  mutual
    pub same_tree : (s : Stmt C L) (os : List Open) (h : Here) → unlabelled (placed f os s h) ≡ unlabelled s
    same_tree (template ss) os h = ap template (same_trees ss os h)
    same_tree (data_text t) os h = refl
    same_tree (output e) os h = refl
    same_tree (assignment target e) os h = refl
    same_tree (for_loop n target e only recursive body else_body) os h =
        let start = loop_start f target e only h in
        rw (same_trees body [] (body_start f target start), same_trees else_body os (behind 1 (loop_past f target body else_body start))) refl
    same_tree (if_cond e true_body false_body) os h =
        let first = behind 1 ((expr f e).past h) in
        rw (same_trees true_body os first, same_trees false_body os (behind 1 ((stmts f os true_body).past first))) refl
    same_tree (with_block ts body) os h = ap (with_block ts) (same_trees body (OpenScope ∷ os) ((assignments f ts).past (behind 1 h)))
    same_tree (set_block target chain body) os h = ap (set_block target chain) (same_trees body (OpenCapture ∷ os) (behind 1 h))
    same_tree (auto_escape e body) os h = ap (auto_escape e) (same_trees body (OpenAutoEscape ∷ os) (behind 1 ((expr f e).past h)))
    same_tree (filter_block chain body) os h = ap (filter_block chain) (same_trees body (OpenCapture ∷ os) (behind 1 h))
    same_tree (named_block x required body) os h = ap (named_block x required) (same_trees body [] start)
    same_tree (extends e) os h = refl
    same_tree (include e ignore) os h = refl
    same_tree (import_all e target) os h = refl
    same_tree (from_import e names) os h = refl
    same_tree (declare m) os h = ap declare (same_macro m h)
    same_tree (call_block e args m) os h = ap (call_block e args) (same_macro m (caller_start f e args h))
    same_tree (do_call e args) os h = refl
    same_tree break_loop os h = refl
    same_tree continue_loop os h = refl

    pub same_trees : (ss : Stmts C L) (os : List Open) (h : Here) → all_unlabelled (all_placed f os ss h) ≡ all_unlabelled ss
    same_trees done os h = refl
    same_trees (also s rest) os h = rw (same_tree s os h, same_trees rest os ((stmt f os s).past h)) refl

    pub same_macro : (m : Macro C L) (h : Here) → relabel_macro no_name (placed_macro f m h) ≡ relabel_macro no_name m
    same_macro (macro n x args defaults body) h = ap (macro (no_name n) x args defaults) (same_trees body [] (macro_body_start f args defaults h))
