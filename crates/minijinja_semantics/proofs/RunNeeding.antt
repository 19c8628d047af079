-- The runs of code that does what a tree means need only what the tree needs.
use Rattle.std.proofs.Common.{◌≡◌, ℕ, List, [], ◌∷◌, ◌++◌, None, length, refl, sym, ap, ◌∙◌, subst, arith}
use Rattle.std.specs.Prelude.{Bool, true, false, All, codes}
use Rattle.std.proofs.lemmas.List.Elements.{All-nil, All-cons, All-append, All-contains}
use Rattle.minijinja_syntax.specs.Texts.{Text}
use Rattle.minijinja_value.specs.Values.{Functions}
use Rattle.minijinja_tree.specs.Callees.{Callee, block, callee}
use Rattle.minijinja_tree.specs.Tree.{Stmt, template, for_loop, if_cond, with_block, set_block, auto_escape, filter_block, declare, call_block, Stmts, done, also, Macro, macro, macro_name, Parameter, parameters, blocks, are_any}
use Rattle.minijinja_tree.specs.WellFormed.{IsInner, AreInner, IsMacro, IsRoot, IsWellFormed}
use Rattle.minijinja_tree.specs.FreeNames.{closure, end, free, in_order, to_parameters}
use Rattle.minijinja_semantics.specs.Events.{Event, Answer, World, Did, Gave, Ended, Means}
use Rattle.minijinja_semantics.specs.Code.{Instr}
use Rattle.minijinja_semantics.specs.Meaning.{Signal, stmt, macro_run}
use Rattle.minijinja_semantics.specs.Pieces.{Here, start}
use Rattle.minijinja_semantics.specs.Machine.{Finish, AtPlace, AtReturn, finished}
use Rattle.minijinja_semantics.specs.Naming.{no_name, relabel, relabel_all, relabel_macro}
use Rattle.minijinja_semantics.specs.Places.{Extent, begin_of, spanned, placed_stmt}
use Rattle.minijinja_semantics.specs.Correct.{Entry, over, fresh, Does, DoesStmt, a_statement}
use Rattle.minijinja_semantics.specs.Units.{Enterable, RecursiveLoop, MacroBody, and_if, if_coded, enterable, all_enterable, enterable_macro, units, all_units, a_macro, DoesUnit, EachDoes, DoUnits, DoesBlock}
use Rattle.minijinja_semantics.specs.Needs.{MentionsOnly, HasNeededOnly, NeedsOnly, RunsNeedOnly, MacrosNeedOnly, closure_of, parameters_of, body_of, made_in, made_in_all, undeclared}
use Rattle.minijinja_semantics.proofs.Roots.{at_root_of}
use Rattle.minijinja_semantics.proofs.BlockBodies.{of_blocks}
use Rattle.minijinja_semantics.proofs.Unlabelled.{same_tree}
use Rattle.minijinja_semantics.proofs.Ways.{way_same, ways_same}
use Rattle.minijinja_semantics.proofs.Labels.{all_there, root_there, root_back}
use Rattle.minijinja_semantics.proofs.Closures.{body_needs, template_needs}

-- ---- other labels

module _ {C L M : Type 0} (r : L → M) where
  name_same : (m : Macro C L) → macro_name (relabel_macro r m) ≡ macro_name m
  name_same (macro n x args defaults body) = refl

  -- the macros that are made have the same names
  mutual
    made_same : (s : Stmt C L) → made_in (relabel r s) ≡ made_in s
    made_same (template ss) = all_made_same ss
    made_same (for_loop n target e only recursive body else_body) = rw (all_made_same body, all_made_same else_body) refl
    made_same (if_cond e true_body false_body) = rw (all_made_same true_body, all_made_same false_body) refl
    made_same (with_block ts body) = all_made_same body
    made_same (set_block target chain body) = all_made_same body
    made_same (auto_escape e body) = all_made_same body
    made_same (filter_block chain body) = all_made_same body
    made_same (declare m) = ap (λ x. x ∷ []) (name_same m)
    made_same (call_block e args m) = ap (λ x. x ∷ []) (name_same m)
    made_same s = refl

    all_made_same : (ss : Stmts C L) → made_in_all (relabel_all r ss) ≡ made_in_all ss
    all_made_same done = refl
    all_made_same (also s rest) = rw (made_same s, all_made_same rest) refl

  undeclared_same : (s : Stmt C L) → undeclared (relabel r s) ≡ undeclared s
  undeclared_same s = ap (λ w. in_order (free w)) (way_same r s end)

  closure_of_same : (ps : List (Parameter C)) (body : Stmts C L) → closure_of ps (relabel_all r body) ≡ closure_of ps body
  closure_of_same ps body = ap (λ w. in_order (free (to_parameters ps w))) (ways_same r body end)

module _ {C L F : Type 0} (f : Functions C F) (t : Stmt C L) (h : Here) where
  placed_made : made_in (placed_stmt f t h) ≡ made_in t
  placed_made = sym (made_same no_name (placed_stmt f t h)) ∙ ap made_in (same_tree f t [] h) ∙ made_same no_name t

  placed_undeclared : undeclared (placed_stmt f t h) ≡ undeclared t
  placed_undeclared = sym (undeclared_same no_name (placed_stmt f t h)) ∙ ap undeclared (same_tree f t [] h) ∙ undeclared_same no_name t

  placed_root : IsRoot t → IsRoot (placed_stmt f t h)
  placed_root is = root_back no_name (placed_stmt f t h) (subst IsRoot (sym (same_tree f t [] h)) (root_there no_name t is))

  spanned_root : IsRoot t → IsRoot (spanned f [] t h)
  spanned_root is = root_back begin_of (spanned f [] t h) (placed_root is)

-- ---- the bodies of macros stand outside of loops

module _ {C L : Type 0} where
  abbrev IsOutside : Enterable C L → Type 0
  IsOutside (RecursiveLoop n e body has_else) = Unit {0}
  IsOutside (MacroBody n ps body) = AreInner false body

  own_outside : (recursive : Bool) (u : Enterable C L) (us : List (Enterable C L)) → IsOutside u → All IsOutside us → All IsOutside (and_if recursive u us)
  own_outside true u us a b = All-cons IsOutside u us a b
  own_outside false u us a b = b

  coded_outside : (c : Callee C) (us : List (Enterable C L)) → All IsOutside us → All IsOutside (if_coded c us)
  coded_outside (block x) us a = All-nil IsOutside
  coded_outside c us a = a

  mutual
    outside_in : (s : Stmt C L) (l : Bool) → IsInner l s → All IsOutside (enterable s)
    outside_in (template ss) l is = absurd is
    outside_in (for_loop n target e only recursive body else_body) l is =
        own_outside recursive (RecursiveLoop n target body (are_any else_body)) (all_enterable body ++ all_enterable else_body) tt
        (All-append IsOutside (all_enterable body) (all_enterable else_body) (all_outside body true is.3) (all_outside else_body l is.4))
    outside_in (if_cond e true_body false_body) l is = All-append IsOutside (all_enterable true_body) (all_enterable false_body) (all_outside true_body l is.1) (all_outside false_body l is.2)
    outside_in (with_block assignments body) l is = all_outside body l is.1
    outside_in (set_block target chain body) l is = all_outside body l is.2
    outside_in (auto_escape e body) l is = all_outside body l is.1
    outside_in (filter_block chain body) l is = all_outside body l is.1
    outside_in (declare m) l is = macro_outside m is
    outside_in (call_block e args m) l is = coded_outside (callee e) (enterable_macro m) (macro_outside m is.1)
    outside_in s l is = All-nil IsOutside

    all_outside : (ss : Stmts C L) (l : Bool) → AreInner l ss → All IsOutside (all_enterable ss)
    all_outside done l is = All-nil IsOutside
    all_outside (also s rest) l is = All-append IsOutside (enterable s) (all_enterable rest) (outside_in s l is.0) (all_outside rest l is.1)

    macro_outside : (m : Macro C L) → IsMacro m → All IsOutside (enterable_macro m)
    macro_outside (macro n x args defaults body) is = All-cons IsOutside (MacroBody n (parameters args defaults) body) (all_enterable body) is.3 (all_outside body false is.3)

  root_outside : (s : Stmt C L) → IsRoot s → All IsOutside (enterable s)
  root_outside = at_root_of (λ s. All IsOutside (enterable s)) (λ ss is. all_outside ss false is) (λ s is. outside_in s false is)

-- ---- runs

module _ {C F : Type 0} (f : Functions C F) (code : List (Instr C)) where
  finished_needs : (names macros : List Text) (finish : Finish) (ops : List C) (loops : List Bool) (w : World (Event ℕ C) C) → MentionsOnly names None w.record_so_far → HasNeededOnly names macros (finished {F = F} finish ops loops w)
  finished_needs names macros (AtPlace p) ops loops w n = n
  finished_needs names macros AtReturn ops loops w n = n

  -- the state in which a run is over has needed what the meaning needs
  over_needs : {X : Type 0} (u : Entry C X) (names macros : List Text) (below : List C) (loops : List Bool) (d : Did (Event ℕ C) C F X) → NeedsOnly names macros d → HasNeededOnly names macros (over u below loops d)
  over_needs u names macros below loops (Gave w x) n = finished_needs names macros u.finish (u.leaves x ++ below) loops w n
  over_needs u names macros below loops (Ended w e) n = n

  -- code needs what its meaning needs
  runs_need : {X : Type 0} (u : Entry C X) (m : Means ℕ C F X) (names macros : List Text) → Does f code u m → ((answers : List (Answer C)) → NeedsOnly names macros (m (fresh answers))) → RunsNeedOnly f code u names macros
  runs_need u m names macros does needs below loops answers few k enough =
      let d = does below loops answers few in
      subst (HasNeededOnly names macros) (sym (d.ends k (omega (arith, d.within)))) (over_needs u names macros below loops (m (fresh answers)) (needs answers))

  -- the same under equal names
  runs_same : {X : Type 0} (u : Entry C X) (names names' macros macros' : List Text) → names ≡ names' → macros ≡ macros' → RunsNeedOnly f code u names macros → RunsNeedOnly f code u names' macros'
  runs_same u names names' macros macros' e e' h = subst (λ xs. RunsNeedOnly f code u xs macros') e (subst (RunsNeedOnly f code u names) e' h)

  each_all : (us : List (Enterable C Extent)) → EachDoes f code us → All (DoesUnit f code) us
  each_all [] does = All-nil (DoesUnit f code)
  each_all (u ∷ us) does = All-cons (DoesUnit f code) u us does.0 (each_all us does.1)

  -- code that does a tree needs what the tree needs
  pub tree_runs : {L : Type 0} (t : Stmt C L) → IsRoot t → DoesStmt f code 0 (length code) (placed_stmt f t start) → RunsNeedOnly f code (a_statement 0 (length code)) (codes "self" ∷ undeclared t) (made_in t)
  tree_runs t is does =
      let u : Entry C Signal = a_statement 0 (length code) in
      let p = placed_stmt f t start in
      runs_same u (codes "self" ∷ undeclared p) (codes "self" ∷ undeclared t) (made_in p) (made_in t) (ap (λ xs. codes "self" ∷ xs) (placed_undeclared f t start)) (placed_made f t start)
      (runs_need u (stmt f p) (codes "self" ∷ undeclared p) (made_in p) does (template_needs ℕ f p (placed_root f t start is)))

  -- code that does the units of a tree needs, at what a macro runs, what the macro needs
  pub macro_runs : {L : Type 0} (t : Stmt C L) → IsRoot t → DoUnits f code t start → MacrosNeedOnly f code (units f [] t start)
  macro_runs t is does x ps body there values many =
      let us = units f [] t start in
      let u : Entry C Signal = a_macro x.begin values in
      let b = relabel_all begin_of body in
      let inner : AreInner false body = All-contains IsOutside us (MacroBody x ps body) (root_outside (spanned f [] t start) (spanned_root f t start is)) there in
      let d : DoesUnit f code (MacroBody x ps body) = All-contains (DoesUnit f code) us (MacroBody x ps body) (each_all us does) there in
      runs_same u (closure_of ps b) (closure_of ps body) (made_in_all b) (made_in_all body) (closure_of_same begin_of ps body) (all_made_same begin_of body)
      (runs_need u (macro_run f ps b values) (closure_of ps b) (made_in_all b) (d values many) (body_needs ℕ f ps b (all_there begin_of body false inner) values many))

-- code that does a block needs, at what a macro in it runs, what the macro needs
pub block_runs : {C L F : Type 0} (f : Functions C F) (t : Stmt C L) → IsWellFormed t → All (λ b. (code : List (Instr C)) → DoesBlock f code b.body → MacrosNeedOnly f code (all_units f [] b.body start)) (blocks t)
block_runs f = of_blocks (λ body. (code : List (Instr _)) → DoesBlock f code body → MacrosNeedOnly f code (all_units f [] body start)) (λ body is code does. macro_runs f code (template body) is does.units)

-- the closure of a macro is that of its parts
pub closure_of_parts : {C L : Type 0} (m : Macro C L) → closure_of (parameters_of m) (body_of m) ≡ closure m
closure_of_parts (macro n x args defaults body) = refl
