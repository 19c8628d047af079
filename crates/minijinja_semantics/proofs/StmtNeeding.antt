-- Statements mention only what their ways need.
use Rattle.std.proofs.Common.{◌≡◌, zero, ◌⊎◌, inl, inr, ⊎_elim, List, [], ◌∷◌, Some, Bool, true, false, refl, sym, subst, arith}
use Rattle.std.specs.Prelude.{All, Contains, if◌then◌else◌, codes, bytes_eq}
use Rattle.std.proofs.lemmas.List.Elements.{All-head}
use Rattle.minijinja_syntax.specs.Texts.{Text}
use Rattle.minijinja_value.specs.Values.{Functions}
use Rattle.minijinja_tree.specs.Callees.{method, block, callee}
use Rattle.minijinja_tree.specs.Tree.{Expr, variable, filter, attribute, call, Optional, absent, present, Args, no_args, pos, Stmt, template, data_text, output, assignment, for_loop, if_cond, with_block, set_block, auto_escape, filter_block, named_block, extends, include, import_all, from_import, declare, call_block, do_call, break_loop, continue_loop, Stmts, done, also, macro_name}
use Rattle.minijinja_tree.specs.WellFormed.{IsInner, AreInner}
use Rattle.minijinja_tree.specs.FreeNames.{Way, end, occurs, stores, region, through, through_if_any, through_positional, through_keyword, to_target, to_assignments, through_stmt, through_stmts}
use Rattle.minijinja_semantics.specs.Events.{EmitRaw, Emit, LoadBlocks, PushAutoEscape, PopAutoEscape, BeginCapture, EndCapture, Capture, CallBlock, FastSuper, FastRecurse, Means}
use Rattle.minijinja_semantics.specs.Calls.{Written, Super, Recursion, BlockOf, Plain, written, written_call, written_function, written_super, written_loop}
use Rattle.minijinja_semantics.specs.FilterChains.{fed}
use Rattle.minijinja_semantics.specs.Meaning.{expr, filtered, write, do_body, loop_flags, looped, Signal, On, Broke, Continued, stmt, stmts}
use Rattle.minijinja_semantics.specs.Needs.{Scope, loop_scope, made_in, made_in_all}
use Rattle.minijinja_semantics.proofs.Covering.{Covered, covered_more, past_expr, all_first, all_last}
use Rattle.minijinja_semantics.proofs.Mentioning.{Outside, Known, Leads, runs_next, runs_give, leads_next, leads_give, leads_from, leads_to, leads_choose, leads_get, leads_tell}
use Rattle.minijinja_semantics.proofs.Needing.{needs_expr}
use Rattle.minijinja_semantics.proofs.ScopeNeeding.{leads_store, leads_again, leads_back, runs_inside, opens_with, opens_loop, closes_scope, closes_loop, leads_all_turns, needs_assign, needs_assignments, needs_filter, if_goes_on, on_or_end, leads_on, leads_done, leads_body, leads_branch}
use Rattle.minijinja_semantics.proofs.MacroNeeding.{needs_declare, needs_call_with}
use Rattle.minijinja_semantics.proofs.ImportNeeding.{leads_include, needs_import_all, needs_from_import}

-- the way through a chain of filters is that of the chain with a value
fed_way : {C : Type 0} (v : C) (e : Expr C) (b : Way) → through (fed v e) b ≡ through e b
fed_way v (filter absent x args) b = refl
fed_way v (filter (present e) x args) b = fed_way v e (through_positional args (through_keyword args b))
fed_way v e b = refl

module _ (out : Outside) (N : Type 0) {C F : Type 0} (f : Functions C F) where
  -- ---- outputs

  -- what an output that runs a loop again needs is known
  abbrev WriteNeeds : Written C → Way → Way → Type 0
  WriteNeeds (Recursion e) a b = Leads out {N = N} a (expr f e) (λ v. b)
  WriteNeeds _ a b = Unit {0}

  super_needs : (t : Bool) (a b : Way) → WriteNeeds (written_super t Plain) a b
  super_needs true a b = tt
  super_needs false a b = tt

  loop_needs : (t : Bool) (x : Text) (e : Expr C) (b : Way) → WriteNeeds (written_loop t e) (occurs x (through e b)) b
  loop_needs true x e b = leads_from (λ s c. c.1) (needs_expr out N f e b)
  loop_needs false x e b = tt

  function_needs : (x : Text) (args : Args C) (b : Way) → WriteNeeds (written_function x args) (through (call (variable x) args) b) b
  function_needs x no_args b = super_needs (bytes_eq x (codes "super")) _ b
  function_needs x (pos e no_args) b = loop_needs (bytes_eq x (codes "loop")) x e b
  function_needs x _ b = tt

  block_needs : (t : Bool) (z y : Text) (args : Args C) (a b : Way) → WriteNeeds (written_call (if t then block y else method (variable z) y) args) a b
  block_needs true z y args a b = tt
  block_needs false z y args a b = tt

  call_needs : (e : Expr C) (args : Args C) (b : Way) → WriteNeeds (written_call (callee e) args) (through (call e args) b) b
  call_needs (variable x) args b = function_needs x args b
  call_needs (attribute (variable z) y) args b = block_needs (bytes_eq z (codes "self")) z y args _ b
  call_needs (attribute e y) args b = tt
  call_needs e args b = tt

  -- of any output
  written_needs : (e : Expr C) (b : Way) → WriteNeeds (written e) (through e b) b
  written_needs (call e args) b = call_needs e args b
  written_needs e b = tt

  -- an output
  needs_write : (w : Written C) (m : Means N C F C) (a b : Way) → WriteNeeds w a b → Leads out a m (λ v. b) → ((s : List Scope) → Covered (Known out s) a → Covered (Known out s) b) → Leads out a (write f w m) (λ g. if_goes_on g b)
  needs_write Super m a b h l k = leads_next (leads_from k (leads_tell b FastSuper [] [] refl)) (λ u. leads_give On)
  needs_write (Recursion e) m a b h l k = leads_next h (λ v. leads_done (leads_tell b FastRecurse [] _ refl))
  needs_write (BlockOf x) m a b h l k = leads_next (leads_from k (leads_tell b CallBlock x [] refl)) (λ u. leads_give On)
  needs_write Plain m a b h l k = leads_next l (λ v. leads_done (leads_tell b Emit [] _ refl))

  -- ---- chains of filters
  needs_fed : (v : C) (e : Expr C) (b : Way) → Leads out {N = N} (through e b) (expr f (fed v e)) (λ u. b)
  needs_fed v e b = subst (λ a. Leads out {N = N} a (expr f (fed v e)) (λ u. b)) (fed_way v e b) (needs_expr out N f (fed v e) b)

  needs_filtered : (chain : Optional C) (v : C) (b : Way) → Leads out {N = N} (through_if_any chain b) (filtered f chain v) (λ u. b)
  needs_filtered absent v b = leads_give v
  needs_filtered (present e) v b = needs_fed v e b

  -- ---- loops

  -- a turn stores the item, and does the body
  needs_turn : (target : Expr C) (body : Means N C F Signal) (way : Way) → Leads out way body (λ g. if_goes_on g end) → (v : C) (u : Unit {0}) → Leads out (to_target target way) (do_body f target body v u) (λ r. to_target target way)
  needs_turn target body way l v u = leads_again (leads_next (needs_assign out N f target v way) (λ u. leads_next l (λ g. leads_from (λ s c. tt) (leads_give _))))

  -- what a loop needs inside is known there
  covered_loop : (recursive : Bool) (s : List Scope) (w : Way) → Covered (Known out s) (stores (codes "loop") w) → Covered (Known out (loop_scope (loop_flags recursive) ∷ s)) w
  covered_loop true s w c = covered_more (λ y. Known out s y ⊎ (y ≡ codes "loop")) (Known out (loop_scope 3 ∷ s)) w (λ y. ⊎_elim (⊎_elim (λ k. inl (inr k)) (λ m. inr m)) (λ e. inl (inl (zero, omega arith, sym e)))) c
  covered_loop false s w c = covered_more (λ y. Known out s y ⊎ (y ≡ codes "loop")) (Known out (loop_scope 1 ∷ s)) w (λ y. ⊎_elim (⊎_elim (λ k. inl (inr k)) (λ m. inr m)) (λ e. inl (inl (zero, omega arith, sym e)))) c

  -- all turns of a loop
  needs_loop : (n : N) (target : Expr C) (recursive : Bool) (body : Means N C F Signal) (way b : Way) (v : C) → Leads out way body (λ g. if_goes_on g end) → Leads out (region (stores (codes "loop") (to_target target way)) b) (looped f n target recursive body v) (λ came. b)
  needs_loop n target recursive body way b v l = leads_back
      (λ s c. runs_next (opens_loop s (to_target target way) (Some n) (loop_flags recursive) (v ∷ []) (covered_loop recursive s (to_target target way) c.0)) (λ u.
      runs_next (runs_inside s (leads_all_turns (to_target target way) (do_body f target body) false tt (needs_turn target body way l))) (λ t.
      runs_next (closes_loop s (to_target target way)) (λ u. runs_give _))))
      (λ came s c. c.1)

  -- ---- statements

  mutual
    pub needs_stmt : (l : Bool) (t : Stmt C N) (b : Way) → IsInner l t → All (Contains out.macros) (made_in t) → Leads out (through_stmt t b) (stmt f t) (λ g. if_goes_on g b)
    needs_stmt l (template ss) b is h = absurd is
    needs_stmt l (data_text t) b is h = leads_done (leads_tell b EmitRaw t [] refl)
    needs_stmt l (output e) b is h = needs_write (written e) (expr f e) (through e b) b (written_needs e b) (needs_expr out N f e b) (λ s. past_expr (Known out s) e b)
    needs_stmt l (assignment target e) b is h = leads_next (needs_expr out N f e _) (λ v. leads_done (needs_assign out N f target v b))
    needs_stmt l (for_loop n target e only recursive body else_body) b is h =
        leads_next (needs_expr out N f e _) (λ v. leads_next (needs_filter out N f target only v _) (λ u.
        leads_next (needs_loop n target recursive (stmts f body) (through_stmts body end) (region (through_stmts else_body end) b) u (needs_stmts true body end is.3 (all_first (Contains out.macros) (made_in_all body) (made_in_all else_body) h))) (λ came.
        leads_choose came (leads_from (λ s c. c.1) (leads_give On)) (leads_branch b (needs_stmts l else_body end is.4 (all_last (Contains out.macros) (made_in_all body) (made_in_all else_body) h))))))
    needs_stmt l (if_cond e true_body false_body) b is h = leads_next (needs_expr out N f e _) (λ v. leads_choose (f.is_true v)
        (leads_from (λ s c. (c.0, c.1.1)) (leads_branch b (needs_stmts l true_body end is.1 (all_first (Contains out.macros) (made_in_all true_body) (made_in_all false_body) h))))
        (leads_from (λ s c. c.1) (leads_branch b (needs_stmts l false_body end is.2 (all_last (Contains out.macros) (made_in_all true_body) (made_in_all false_body) h)))))
    needs_stmt l (with_block assignments body) b is h = leads_back
        (λ s c. runs_next (opens_with s (to_assignments assignments (through_stmts body end)) c.0) (λ u.
        runs_next (runs_inside s (needs_assignments out N f assignments (through_stmts body end))) (λ u.
        runs_next (runs_inside s {b = λ g. end} (leads_to (λ g s c. tt) (needs_stmts l body end is.1 h))) (λ g.
        runs_next (closes_scope s end) (λ u. runs_give g)))))
        (λ g s c. on_or_end (Known out s) g b c.1)
    needs_stmt l (set_block target chain body) b is h = leads_next (leads_tell _ (BeginCapture Capture) [] [] refl) (λ u. leads_next (leads_body (needs_stmts l body end is.2 h)) (λ g.
        leads_next (leads_get _ EndCapture [] [] refl) (λ v. leads_from (λ s. on_or_end (Known out s) g _)
        (leads_on g (leads_next (leads_next (needs_filtered chain v _) (λ u. needs_assign out N f target u b)) (λ u. leads_give On))))))
    needs_stmt l (auto_escape e body) b is h = leads_next (needs_expr out N f e _) (λ v. leads_next (leads_tell _ PushAutoEscape [] _ refl) (λ u. leads_next (leads_body (needs_stmts l body end is.1 h)) (λ g.
        leads_next (leads_tell b PopAutoEscape [] [] refl) (λ u. leads_from (λ s. on_or_end (Known out s) g b) (leads_give g)))))
    needs_stmt l (filter_block chain body) b is h = leads_next (leads_tell _ (BeginCapture Capture) [] [] refl) (λ u. leads_next (leads_body (needs_stmts l body end is.1 h)) (λ g.
        leads_next (leads_get _ EndCapture [] [] refl) (λ v. leads_from (λ s. on_or_end (Known out s) g _)
        (leads_on g (leads_next (leads_next (needs_fed v chain b) (λ u. leads_tell b Emit [] _ refl)) (λ u. leads_give On))))))
    needs_stmt l (named_block x required body) b is h = leads_from (λ s c. c.1) (leads_done (leads_tell b CallBlock x [] refl))
    needs_stmt l (extends e) b is h = leads_next (needs_expr out N f e b) (λ v. leads_done (leads_tell b LoadBlocks [] _ refl))
    needs_stmt l (include e ignore) b is h = leads_next (needs_expr out N f e b) (λ v. leads_next (leads_include out N f ignore v b) (λ u. leads_give On))
    needs_stmt l (import_all e target) b is h = needs_import_all out N f e target b
    needs_stmt l (from_import e ns) b is h = needs_from_import out N f e ns b is.1
    needs_stmt l (declare m) b is h = leads_next (needs_declare out N f m b (All-head (Contains out.macros) (macro_name m) [] h)) (λ v. leads_next (leads_store (macro_name m) v b) (λ u. leads_give On))
    needs_stmt l (call_block e args m) b is h = leads_next (needs_call_with out N f e args m b (All-head (Contains out.macros) (macro_name m) [] h)) (λ v. leads_done (leads_tell b Emit [] _ refl))
    needs_stmt l (do_call e args) b is h = leads_done (needs_expr out N f (call e args) b)
    needs_stmt l break_loop b is h = leads_from (λ s c. tt) (leads_give Broke)
    needs_stmt l continue_loop b is h = leads_from (λ s c. tt) (leads_give Continued)

    pub needs_stmts : (l : Bool) (ss : Stmts C N) (b : Way) → AreInner l ss → All (Contains out.macros) (made_in_all ss) → Leads out (through_stmts ss b) (stmts f ss) (λ g. if_goes_on g b)
    needs_stmts l done b is h = leads_give On
    needs_stmts l (also s rest) b is h = leads_next (needs_stmt l s (through_stmts rest b) is.0 (all_first (Contains out.macros) (made_in s) (made_in_all rest) h)) (λ g.
        leads_on g (needs_stmts l rest b is.1 (all_last (Contains out.macros) (made_in s) (made_in_all rest) h)))
