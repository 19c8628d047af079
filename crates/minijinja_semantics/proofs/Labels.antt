-- Code, places, units and well-formedness do not depend on the labels of loops and macros.
use Rattle.std.proofs.Common.{◌≡◌, List, [], ◌∷◌, ◌++◌, refl, sym, ap, ◌∙◌, subst}
use Rattle.std.specs.Prelude.{Bool, true, false}
use Rattle.minijinja_value.specs.Values.{Functions}
use Rattle.minijinja_tree.specs.Tree.{Stmt, template, data_text, output, assignment, for_loop, if_cond, with_block, set_block, auto_escape, filter_block, named_block, extends, include, import_all, from_import, declare, call_block, do_call, break_loop, continue_loop, Stmts, done, also, Macro, macro, Block, blocks, all_blocks, block_names, all_block_names, names_of_blocks, are_any}
use Rattle.minijinja_tree.specs.WellFormed.{IsInner, AreInner, IsMacro, IsRoot, AreDistinct, IsWellFormed}
use Rattle.minijinja_semantics.proofs.Ways.{closure_same, enclosed_by, flags_by}
use Rattle.minijinja_semantics.specs.Pieces.{Here, behind, start, Piece, Exits, ◌▸◌, one, plain, Open, OpenScope, OpenAutoEscape, OpenCapture}
use Rattle.minijinja_semantics.specs.Layout.{expr, assignments, looping, call_with, stmt, stmts, macro_value}
use Rattle.minijinja_semantics.specs.Code.{Do}
use Rattle.minijinja_semantics.specs.Events.{StoreLocal, Emit}
use Rattle.minijinja_semantics.specs.Naming.{relabel, relabel_all, relabel_macro}
use Rattle.minijinja_semantics.specs.Places.{Extent, extent, begin_of, loop_start, body_start, loop_past, macro_entry, macro_body_start, caller_start, spanned, all_spanned, spanned_macro, placed}
use Rattle.minijinja_semantics.specs.Units.{enterable, units}

any_same : {C L M : Type 0} (r : L → M) (ss : Stmts C L) → are_any (relabel_all r ss) ≡ are_any ss
any_same r done = refl
any_same r (also s rest) = refl

names_append : {C L : Type 0} (bs cs : List (Block C L)) → names_of_blocks (bs ++ cs) ≡ names_of_blocks bs ++ names_of_blocks cs
names_append [] cs = refl
names_append (b ∷ bs) cs = ap (λ xs. b.name ∷ xs) (names_append bs cs)

module _ {C L M : Type 0} (r : L → M) where
  -- two rows of blocks have the same names as two others
  two_same : (us vs : List (Block C M)) (cs ds : List (Block C L)) → names_of_blocks us ≡ names_of_blocks cs → names_of_blocks vs ≡ names_of_blocks ds → names_of_blocks (us ++ vs) ≡ names_of_blocks (cs ++ ds)
  two_same us vs cs ds h k = names_append us vs ∙ ap (λ xs. xs ++ names_of_blocks vs) h ∙ ap (λ xs. names_of_blocks cs ++ xs) k ∙ sym (names_append cs ds)

  mutual
    names_same : (s : Stmt C L) → block_names (relabel r s) ≡ block_names s
    names_same (template ss) = all_names_same ss
    names_same (data_text t) = refl
    names_same (output e) = refl
    names_same (assignment target e) = refl
    names_same (for_loop n target e only recursive body else_body) = two_same (all_blocks (relabel_all r body)) (all_blocks (relabel_all r else_body)) (all_blocks body) (all_blocks else_body) (all_names_same body) (all_names_same else_body)
    names_same (if_cond e true_body false_body) = two_same (all_blocks (relabel_all r true_body)) (all_blocks (relabel_all r false_body)) (all_blocks true_body) (all_blocks false_body) (all_names_same true_body) (all_names_same false_body)
    names_same (with_block ts body) = all_names_same body
    names_same (set_block target chain body) = all_names_same body
    names_same (auto_escape e body) = all_names_same body
    names_same (filter_block chain body) = all_names_same body
    names_same (named_block x required body) = ap (λ xs. x ∷ xs) (all_names_same body)
    names_same (extends e) = refl
    names_same (include e ignore) = refl
    names_same (import_all e target) = refl
    names_same (from_import e names) = refl
    names_same (declare (macro n x args defaults body)) = all_names_same body
    names_same (call_block e args (macro n x ts defaults body)) = all_names_same body
    names_same (do_call e args) = refl
    names_same break_loop = refl
    names_same continue_loop = refl

    all_names_same : (ss : Stmts C L) → all_block_names (relabel_all r ss) ≡ all_block_names ss
    all_names_same done = refl
    all_names_same (also s rest) = two_same (blocks (relabel r s)) (all_blocks (relabel_all r rest)) (blocks s) (all_blocks rest) (names_same s) (all_names_same rest)

  mutual
    inner_there : (s : Stmt C L) (l : Bool) → IsInner l s → IsInner l (relabel r s)
    inner_there (template ss) l is = is
    inner_there (data_text t) l is = is
    inner_there (output e) l is = is
    inner_there (assignment target e) l is = is
    inner_there (for_loop n target e only recursive body else_body) l is = (is.0, is.1, is.2, all_there body true is.3, all_there else_body l is.4)
    inner_there (if_cond e true_body false_body) l is = (is.0, all_there true_body l is.1, all_there false_body l is.2)
    inner_there (with_block ts body) l is = (is.0, all_there body l is.1)
    inner_there (set_block target chain body) l is = (is.0, is.1, all_there body l is.2)
    inner_there (auto_escape e body) l is = (is.0, all_there body l is.1)
    inner_there (filter_block chain body) l is = (is.0, all_there body l is.1)
    inner_there (named_block x required body) l is = all_there body false is
    inner_there (extends e) l is = is
    inner_there (include e ignore) l is = is
    inner_there (import_all e target) l is = is
    inner_there (from_import e names) l is = is
    inner_there (declare m) l is = macro_there m is
    inner_there (call_block e args m) l is = (is.0, macro_there m is.1)
    inner_there (do_call e args) l is = is
    inner_there break_loop l is = is
    inner_there continue_loop l is = is

    pub all_there : (ss : Stmts C L) (l : Bool) → AreInner l ss → AreInner l (relabel_all r ss)
    all_there done l is = tt
    all_there (also s rest) l is = (inner_there s l is.0, all_there rest l is.1)

    macro_there : (m : Macro C L) → IsMacro m → IsMacro (relabel_macro r m)
    macro_there (macro n x args defaults body) is = (is.0, is.1, is.2, all_there body false is.3, all_names_same body ∙ is.4)

  mutual
    inner_back : (s : Stmt C L) (l : Bool) → IsInner l (relabel r s) → IsInner l s
    inner_back (template ss) l is = is
    inner_back (data_text t) l is = is
    inner_back (output e) l is = is
    inner_back (assignment target e) l is = is
    inner_back (for_loop n target e only recursive body else_body) l is = (is.0, is.1, is.2, all_back body true is.3, all_back else_body l is.4)
    inner_back (if_cond e true_body false_body) l is = (is.0, all_back true_body l is.1, all_back false_body l is.2)
    inner_back (with_block ts body) l is = (is.0, all_back body l is.1)
    inner_back (set_block target chain body) l is = (is.0, is.1, all_back body l is.2)
    inner_back (auto_escape e body) l is = (is.0, all_back body l is.1)
    inner_back (filter_block chain body) l is = (is.0, all_back body l is.1)
    inner_back (named_block x required body) l is = all_back body false is
    inner_back (extends e) l is = is
    inner_back (include e ignore) l is = is
    inner_back (import_all e target) l is = is
    inner_back (from_import e names) l is = is
    inner_back (declare m) l is = macro_back m is
    inner_back (call_block e args m) l is = (is.0, macro_back m is.1)
    inner_back (do_call e args) l is = is
    inner_back break_loop l is = is
    inner_back continue_loop l is = is

    all_back : (ss : Stmts C L) (l : Bool) → AreInner l (relabel_all r ss) → AreInner l ss
    all_back done l is = tt
    all_back (also s rest) l is = (inner_back s l is.0, all_back rest l is.1)

    macro_back : (m : Macro C L) → IsMacro (relabel_macro r m) → IsMacro m
    macro_back (macro n x args defaults body) is = (is.0, is.1, is.2, all_back body false is.3, sym (all_names_same body) ∙ is.4)

  pub root_there : (s : Stmt C L) → IsRoot s → IsRoot (relabel r s)
  root_there (template ss) is = all_there ss false is
  root_there (data_text t) is = inner_there (data_text t) false is
  root_there (output e) is = inner_there (output e) false is
  root_there (assignment target e) is = inner_there (assignment target e) false is
  root_there (for_loop n target e only recursive body else_body) is = inner_there (for_loop n target e only recursive body else_body) false is
  root_there (if_cond e true_body false_body) is = inner_there (if_cond e true_body false_body) false is
  root_there (with_block ts body) is = inner_there (with_block ts body) false is
  root_there (set_block target chain body) is = inner_there (set_block target chain body) false is
  root_there (auto_escape e body) is = inner_there (auto_escape e body) false is
  root_there (filter_block chain body) is = inner_there (filter_block chain body) false is
  root_there (named_block x required body) is = inner_there (named_block x required body) false is
  root_there (extends e) is = inner_there (extends e) false is
  root_there (include e ignore) is = inner_there (include e ignore) false is
  root_there (import_all e target) is = inner_there (import_all e target) false is
  root_there (from_import e names) is = inner_there (from_import e names) false is
  root_there (declare m) is = inner_there (declare m) false is
  root_there (call_block e args m) is = inner_there (call_block e args m) false is
  root_there (do_call e args) is = inner_there (do_call e args) false is
  root_there break_loop is = is
  root_there continue_loop is = is

  pub root_back : (s : Stmt C L) → IsRoot (relabel r s) → IsRoot s
  root_back (template ss) is = all_back ss false is
  root_back (data_text t) is = inner_back (data_text t) false is
  root_back (output e) is = inner_back (output e) false is
  root_back (assignment target e) is = inner_back (assignment target e) false is
  root_back (for_loop n target e only recursive body else_body) is = inner_back (for_loop n target e only recursive body else_body) false is
  root_back (if_cond e true_body false_body) is = inner_back (if_cond e true_body false_body) false is
  root_back (with_block ts body) is = inner_back (with_block ts body) false is
  root_back (set_block target chain body) is = inner_back (set_block target chain body) false is
  root_back (auto_escape e body) is = inner_back (auto_escape e body) false is
  root_back (filter_block chain body) is = inner_back (filter_block chain body) false is
  root_back (named_block x required body) is = inner_back (named_block x required body) false is
  root_back (extends e) is = inner_back (extends e) false is
  root_back (include e ignore) is = inner_back (include e ignore) false is
  root_back (import_all e target) is = inner_back (import_all e target) false is
  root_back (from_import e names) is = inner_back (from_import e names) false is
  root_back (declare m) is = inner_back (declare m) false is
  root_back (call_block e args m) is = inner_back (call_block e args m) false is
  root_back (do_call e args) is = inner_back (do_call e args) false is
  root_back break_loop is = is
  root_back continue_loop is = is

  pub well_formed_there : (s : Stmt C L) → IsWellFormed s → IsWellFormed (relabel r s)
  well_formed_there s is = (root_there s is.0, subst AreDistinct (sym (names_same s)) is.1)

  pub well_formed_back : (s : Stmt C L) → IsWellFormed (relabel r s) → IsWellFormed s
  well_formed_back s is = (root_back s is.0, subst AreDistinct (names_same s) is.1)

module _ {C L M F : Type 0} (f : Functions C F) (r : L → M) where
  mutual
    pub stmt_same : (s : Stmt C L) (os : List Open) → stmt f os (relabel r s) ≡ stmt f os s
    stmt_same (template ss) os = stmts_same ss os
    stmt_same (data_text t) os = refl
    stmt_same (output e) os = refl
    stmt_same (assignment target e) os = refl
    stmt_same (for_loop n target e only recursive body else_body) os = rw (stmts_same body [], stmts_same else_body os, any_same r else_body) refl
    stmt_same (if_cond e true_body false_body) os = rw (stmts_same true_body os, stmts_same false_body os, any_same r false_body) refl
    stmt_same (with_block ts body) os = rw (stmts_same body (OpenScope ∷ os)) refl
    stmt_same (set_block target chain body) os = rw (stmts_same body (OpenCapture ∷ os)) refl
    stmt_same (auto_escape e body) os = rw (stmts_same body (OpenAutoEscape ∷ os)) refl
    stmt_same (filter_block chain body) os = rw (stmts_same body (OpenCapture ∷ os)) refl
    stmt_same (named_block x required body) os = refl
    stmt_same (extends e) os = refl
    stmt_same (include e ignore) os = refl
    stmt_same (import_all e target) os = refl
    stmt_same (from_import e names) os = refl
    stmt_same (declare (macro n x args defaults body)) os = ap (λ (p : Piece C). plain {X = Exits} (p ▸ one (Do StoreLocal x 1))) (macro_same (macro n x args defaults body))
    stmt_same (call_block e args m) os = ap (λ (p : Piece C). plain {X = Exits} (call_with f e args p ▸ one (Do Emit [] 1))) (macro_same m)
    stmt_same (do_call e args) os = refl
    stmt_same break_loop os = refl
    stmt_same continue_loop os = refl

    stmts_same : (ss : Stmts C L) (os : List Open) → stmts f os (relabel_all r ss) ≡ stmts f os ss
    stmts_same done os = refl
    stmts_same (also s rest) os = rw (stmt_same s os, stmts_same rest os) refl

    macro_same : (m : Macro C L) → macro_value f (relabel_macro r m) ≡ macro_value f m
    macro_same (macro n x args defaults body) =
        let e = closure_same r (macro n x args defaults body) in
        rw (stmts_same body [], enclosed_by (relabel_macro r (macro n x args defaults body)) (macro n x args defaults body) e, flags_by (relabel_macro r (macro n x args defaults body)) (macro n x args defaults body) e) refl

  past_same : (target : _) (body else_body : Stmts C L) (h : Here) → loop_past f target (relabel_all r body) (relabel_all r else_body) h ≡ loop_past f target body else_body h
  past_same target body else_body h =
      ap (λ p. (looping f target false (are_any (relabel_all r else_body)) p).past h) (stmts_same body [])
      ∙ ap (λ (t : Bool). (looping f target false t (stmts f [] body)).past h) (any_same r else_body)

  mutual
    spanned_same : (s : Stmt C L) (os : List Open) (h : Here) → spanned f os (relabel r s) h ≡ spanned f os s h
    spanned_same (template ss) os h = ap template (all_spanned_same ss os h)
    spanned_same (data_text t) os h = refl
    spanned_same (output e) os h = refl
    spanned_same (assignment target e) os h = refl
    spanned_same (for_loop n target e only recursive body else_body) os h =
        let start = loop_start f target e only h in
        let past = loop_past f target body else_body start in
        let b = body_start f target start in
        let spanned_else = all_spanned f os (relabel_all r else_body) in
        ap (λ (t : Stmts C Extent). for_loop (extent start (loop_past f target (relabel_all r body) (relabel_all r else_body) start)) target e only recursive t (spanned_else (behind 1 (loop_past f target (relabel_all r body) (relabel_all r else_body) start)))) (all_spanned_same body [] b)
        ∙ ap (λ (p : Here). for_loop (extent start p) target e only recursive (all_spanned f [] body b) (spanned_else (behind 1 p))) (past_same target body else_body start)
        ∙ ap (λ (t : Stmts C Extent). for_loop (extent start past) target e only recursive (all_spanned f [] body b) t) (all_spanned_same else_body os (behind 1 past))
    spanned_same (if_cond e true_body false_body) os h =
        let first = behind 1 ((expr f e).past h) in
        ap (λ (t : Stmts C Extent). if_cond e t (all_spanned f os (relabel_all r false_body) (behind 1 ((stmts f os (relabel_all r true_body)).past first)))) (all_spanned_same true_body os first)
        ∙ ap (λ p. if_cond e (all_spanned f os true_body first) (all_spanned f os (relabel_all r false_body) (behind 1 (p.past first)))) (stmts_same true_body os)
        ∙ ap (λ (t : Stmts C Extent). if_cond e (all_spanned f os true_body first) t) (all_spanned_same false_body os (behind 1 ((stmts f os true_body).past first)))
    spanned_same (with_block ts body) os h = ap (with_block ts) (all_spanned_same body (OpenScope ∷ os) ((assignments f ts).past (behind 1 h)))
    spanned_same (set_block target chain body) os h = ap (set_block target chain) (all_spanned_same body (OpenCapture ∷ os) (behind 1 h))
    spanned_same (auto_escape e body) os h = ap (auto_escape e) (all_spanned_same body (OpenAutoEscape ∷ os) (behind 1 ((expr f e).past h)))
    spanned_same (filter_block chain body) os h = ap (filter_block chain) (all_spanned_same body (OpenCapture ∷ os) (behind 1 h))
    spanned_same (named_block x required body) os h = ap (named_block x required) (all_spanned_same body [] start)
    spanned_same (extends e) os h = refl
    spanned_same (include e ignore) os h = refl
    spanned_same (import_all e target) os h = refl
    spanned_same (from_import e names) os h = refl
    spanned_same (declare m) os h = ap declare (spanned_macro_same m h)
    spanned_same (call_block e args m) os h = ap (call_block e args) (spanned_macro_same m (caller_start f e args h))
    spanned_same (do_call e args) os h = refl
    spanned_same break_loop os h = refl
    spanned_same continue_loop os h = refl

    all_spanned_same : (ss : Stmts C L) (os : List Open) (h : Here) → all_spanned f os (relabel_all r ss) h ≡ all_spanned f os ss h
    all_spanned_same done os h = refl
    all_spanned_same (also s rest) os h =
        ap (λ (t : Stmt C Extent). also t (all_spanned f os (relabel_all r rest) ((stmt f os (relabel r s)).past h))) (spanned_same s os h)
        ∙ ap (λ p. also (spanned f os s h) (all_spanned f os (relabel_all r rest) (p.past h))) (stmt_same s os)
        ∙ ap (λ (t : Stmts C Extent). also (spanned f os s h) t) (all_spanned_same rest os ((stmt f os s).past h))

    spanned_macro_same : (m : Macro C L) (h : Here) → spanned_macro f (relabel_macro r m) h ≡ spanned_macro f m h
    spanned_macro_same (macro n x args defaults body) h =
        let entry = macro_entry h in
        let b = macro_body_start f args defaults h in
        ap (λ (t : Stmts C Extent). macro (extent entry (behind 1 ((stmts f [] (relabel_all r body)).past b))) x args defaults t) (all_spanned_same body [] b)
        ∙ ap (λ p. macro (extent entry (behind 1 (p.past b))) x args defaults (all_spanned f [] body b)) (stmts_same body [])

  pub placed_same : (s : Stmt C L) (os : List Open) (h : Here) → placed f os (relabel r s) h ≡ placed f os s h
  placed_same s os h = ap (relabel begin_of) (spanned_same s os h)

  pub units_same : (s : Stmt C L) (os : List Open) (h : Here) → units f os (relabel r s) h ≡ units f os s h
  units_same s os h = ap enterable (spanned_same s os h)
