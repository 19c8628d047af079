-- The code of a statement, at its index in a list, does what the statement means.
use Rattle.std.proofs.Common.{◌≡◌, ℕ, ◌+◌, ◌≤◌, List, [], ◌∷◌, refl, subst, arith}
use Rattle.std.specs.Prelude.{Bool, true, false, not, codes, bytes_eq}
use Rattle.minijinja_syntax.specs.Texts.{Text}
use Rattle.minijinja_value.specs.Values.{Functions}
use Rattle.minijinja_semantics.specs.Laws.{Laws}
use Rattle.minijinja_tree.specs.Tree.{Expr, call, Args, no_args, pos, Stmt, template, data_text, output, assignment, for_loop, if_cond, with_block, set_block, auto_escape, filter_block, named_block, extends, include, import_all, from_import, declare, call_block, do_call, break_loop, continue_loop, Stmts, done, also, macro, are_any}
use Rattle.minijinja_tree.specs.WellFormed.{IsWhole, AreArguments, IsInner, AreInner, IsRoot}
use Rattle.minijinja_semantics.specs.Events.{EmitRaw, Emit, LoadBlocks, Include, StoreLocal, CallBlock, FastSuper, FastRecurse, PushWith, PopFrame, PushAutoEscape, PopAutoEscape, BeginCapture, Capture, Gave, Ended, next, give, choose}
use Rattle.minijinja_semantics.specs.Answers.{AreFew}
use Rattle.minijinja_tree.specs.Callees.{Callee, function, block, method, object, callee}
use Rattle.minijinja_semantics.specs.Calls.{Written, Super, Recursion, BlockOf, Plain, written_super, written_loop, written_function, written_call, written}
use Rattle.minijinja_semantics.specs.Meaning.{Signal, On, Broke, Continued, expr as expr_meaning, passing as passing_meaning, write as write_meaning, stmt as stmt_meaning, stmts as stmts_meaning}
use Rattle.minijinja_semantics.specs.Code.{Instr, Do}
use Rattle.minijinja_semantics.specs.Pieces.{Here, behind, Exits, outside, Piece, OpenScope, OpenAutoEscape, OpenCapture, one, ◌▸◌}
use Rattle.minijinja_semantics.specs.Layout.{expr, assignments, passing, looping, if_true, either, write, stmt, stmts}
use Rattle.minijinja_semantics.specs.Machine.{At}
use Rattle.minijinja_semantics.specs.Places.{loop_start, body_start, loop_past, placed, all_placed}
use Rattle.minijinja_semantics.proofs.Placed.{World, Did, Act, State, Stretch}
use Rattle.minijinja_semantics.proofs.Roots.{at_root_of}
use Rattle.minijinja_semantics.proofs.Runs.{Any, Stands, front, back, first, rest, stays, Gives}
use Rattle.minijinja_semantics.proofs.Lengths.{Exact, exact_to, grows, one_exact, then_exact, expr_exact, target_exact, assignments_exact, passing_exact, looping_exact, popping_exact, if_true_exact, either_exact, filters_exact, call_with_exact, macro_exact, stmt_exact, stmts_exact}
use Rattle.minijinja_semantics.proofs.Parts.{next_assoc, Simulates, here_sim, here_then, sim_then, sim_give, sim_plain, sim_do_tell}
use Rattle.minijinja_semantics.proofs.Simulation.{expr_sim, chain_of_filters_sim}
use Rattle.minijinja_semantics.proofs.Signals.{GoesOn, Around, inside, Ends, ends_on, ends_of, then_ends, ends_also, ends_closed, ends_captured, ends_jump, ends_choose}
use Rattle.minijinja_semantics.proofs.Targets.{assign_sim, assignments_sim, filters_sim}
use Rattle.minijinja_semantics.proofs.MacroSimulation.{choose_same, macro_sim, called_with_sim}
use Rattle.minijinja_semantics.proofs.Imports.{import_all_sim, from_import_sim}
use Rattle.minijinja_semantics.proofs.Loops.{left_on, looping_gives, passing_sim}

-- the argument of a recursion is whole
abbrev pub WrittenWhole : {C : Type 0} → Written C → Type 0
WrittenWhole Super = Unit {0}
WrittenWhole (Recursion e) = IsWhole e
WrittenWhole (BlockOf x) = Unit {0}
WrittenWhole Plain = Unit {0}

super_whole : (C : Type 0) (b : Bool) → WrittenWhole {C = C} (written_super b Plain)
super_whole C true = tt
super_whole C false = tt

loop_whole : {C : Type 0} (b : Bool) (e : Expr C) → IsWhole e → WrittenWhole (written_loop b e)
loop_whole true e is = is
loop_whole false e is = tt

function_whole : {C : Type 0} (x : Text) (args : Args C) → AreArguments args → WrittenWhole (written_function x args)
function_whole {C} x no_args is = super_whole C (bytes_eq x (codes "super"))
function_whole x (pos e no_args) is = loop_whole (bytes_eq x (codes "loop")) e is.0
function_whole x args is = tt

call_whole : {C : Type 0} (c : Callee C) (args : Args C) → AreArguments args → WrittenWhole (written_call c args)
call_whole (function x) args is = function_whole x args is
call_whole (block x) args is = tt
call_whole (method e x) args is = tt
call_whole (object e) args is = tt

pub written_whole : {C : Type 0} (e : Expr C) → IsWhole e → WrittenWhole (written e)
written_whole (call e args) is = call_whole (callee e) args is.1
written_whole e is = tt

choose_not : {C F X : Type 0} (b : Bool) (m n : Act C F X) (w : World C) → choose (not b) n m w ≡ choose b m n w
unfolding choose
choose_not true m n w = refl
choose_not false m n w = refl

module _ {C F : Type 0} (f : Functions C F) (laws : Laws f) (code : List (Instr C)) (to : Stretch) where
  write_sim : (o : Written C) (ops : List C) {p : Piece C} {m : Act C F C} → WrittenWhole o → Exact p → ((ops : List C) → Simulates f code to p ops Any (λ v. v ∷ ops) m) → Simulates f code to (write f o p) ops GoesOn (λ _. ops) (write_meaning f o m)
  write_sim Super ops is e s = sim_give (λ _. On) (λ _ _. refl) (sim_do_tell FastSuper [] [] ops refl)
  write_sim (Recursion a) ops is e s = sim_then (expr_exact f a) (one_exact _) (expr_sim f laws code to a is ops) (λ v _. sim_give (λ _. On) (λ _ _. refl) (sim_do_tell FastRecurse [] (v ∷ []) ops refl))
  write_sim (BlockOf x) ops is e s = sim_give (λ _. On) (λ _ _. refl) (sim_do_tell CallBlock x [] ops refl)
  write_sim Plain ops is e s = sim_then e (one_exact _) (s ops) (λ v _. sim_give (λ _. On) (λ _ _. refl) (sim_do_tell Emit [] (v ∷ []) ops refl))

  -- what is followed by the next statement
  on : {p : Piece C} {ops below : List C} {m : Act C F (Unit {0})} → Simulates f code to p ops Any (λ _. below) m → Simulates f code to p ops GoesOn (λ _. below) (λ w. next (m w) (λ _. give On))
  on s = sim_give (λ _. On) (λ _ _. refl) s

  -- a body, where it stands
  abbrev Does : {L : Type 0} → Stmts C L → Around C → Here → World C → Type 0
  Does ss r h w = Stands code h.place ((stmts f r.opened ss).code r.exits h) → Ends f code to (At h.place r.below r.loops w) ((stmts f r.opened ss).past h).place r (stmts_meaning f (all_placed f r.opened ss h) w)

  -- the sides of an if statement whose test has its value
  sides_end : {L : Type 0} (true_body false_body : Stmts C L) (r : Around C) (h : Here) (v : C) (w : World C) → AreFew w.answers → ((either (are_any false_body) (stmts f r.opened true_body) (stmts f r.opened false_body)).past h).place ≤ to.end → Stands code h.place ((either (are_any false_body) (stmts f r.opened true_body) (stmts f r.opened false_body)).code r.exits h) → ((((stmts f r.opened true_body).past (behind 1 h)).place ≤ to.end) → Does true_body r (behind 1 h) w) → (let other = behind 1 ((stmts f r.opened true_body).past (behind 1 h)) in (((stmts f r.opened false_body).past other).place ≤ to.end) → Does false_body r other w) → Ends f code to (At h.place (v ∷ r.below) r.loops w) ((either (are_any false_body) (stmts f r.opened true_body) (stmts f r.opened false_body)).past h).place r (choose (f.is_true v) (stmts_meaning f (all_placed f r.opened true_body (behind 1 h))) (stmts_meaning f (all_placed f r.opened false_body (behind 1 ((stmts f r.opened true_body).past (behind 1 h))))) w)
  sides_end true_body done r h v w few le stand true_does false_does =
      let more = grows (exact_to (stmts_exact f true_body r.opened) r.exits) (behind 1 h) in
      ends_choose f code to _ _ v (f.is_true v) refl (omega arith) (first code stand) (omega arith) (true_does le (rest code stand)) (ends_on f code to few)
  sides_end true_body (also s others) r h v w few le stand true_does false_does =
      let h1 : Here = behind 1 h in
      let p = stmts f r.opened true_body in
      let other : Here = behind 1 (p.past h1) in
      let more = grows (exact_to (stmts_exact f true_body r.opened) r.exits) h1 in
      let most = grows (exact_to (stmts_exact f (also s others) r.opened) r.exits) other in
      let inner = rest code stand in
      let there = back code (p.code r.exits h1) _ ((stmts_exact f true_body r.opened).ends r.exits h1) inner in
      ends_choose f code to _ _ v (f.is_true v) refl (omega arith) (first code stand) (omega arith)
      (ends_jump f code to (omega arith) (first code there) (omega arith) (true_does (omega arith) (front code _ _ inner)))
      (false_does le (rest code there))

  -- the else body of a loop, if there is one
  else_ends : {L : Type 0} (else_body : Stmts C L) (r : Around C) (h : Here) (came : Bool) (w : World C) → AreFew w.answers → ((if_true (are_any else_body) (stmts f r.opened else_body)).past h).place ≤ to.end → Stands code h.place ((if_true (are_any else_body) (stmts f r.opened else_body)).code r.exits h) → ((((stmts f r.opened else_body).past (behind 1 h)).place ≤ to.end) → Does else_body r (behind 1 h) w) → Ends f code to (At h.place (left_on f laws code to (are_any else_body) came r.below) r.loops w) ((if_true (are_any else_body) (stmts f r.opened else_body)).past h).place r (choose came (give On) (stmts_meaning f (all_placed f r.opened else_body (behind 1 h))) w)
  else_ends done r h came w few le stand else_does = subst (λ d. Ends f code to (At h.place r.below r.loops w) h.place r d) (choose_same came (give On) w) (ends_on f code to few)
  else_ends (also s others) r h came w few le stand else_does =
      let v = f.of_bool (not came) in
      let q = ((stmts f r.opened (also s others)).past (behind 1 h)).place in
      let most = grows (exact_to (stmts_exact f (also s others) r.opened) r.exits) (behind 1 h) in
      subst (λ d. Ends f code to (At h.place (v ∷ r.below) r.loops w) q r d) (choose_not came (give On) (stmts_meaning f (all_placed f r.opened (also s others) (behind 1 h))) w)
      (ends_choose f code to _ _ v (not came) (laws.truth (not came)) (omega arith) (first code stand) (omega arith) (else_does le (rest code stand)) (ends_on f code to few))

  mutual
    stmt_ends : {L : Type 0} (s : Stmt C L) (r : Around C) (h : Here) (w : World C) → IsInner r.in_loop s → AreFew w.answers → ((stmt f r.opened s).past h).place ≤ to.end → Stands code h.place ((stmt f r.opened s).code r.exits h) → Ends f code to (At h.place r.below r.loops w) ((stmt f r.opened s).past h).place r (stmt_meaning f (placed f r.opened s h) w)
    stmt_ends (template ss) r h w is few le stand = absurd is
    stmt_ends (data_text t) r h w is few le stand = ends_of f code to ((sim_give (λ _. On) (λ _ _. refl) (sim_do_tell EmitRaw t [] r.below refl)).gives h r.loops w few le stand)
    stmt_ends (output e) r h w is few le stand = ends_of f code to ((write_sim (written e) r.below (written_whole e is) (expr_exact f e) (expr_sim f laws code to e is)).gives h r.loops w few le stand)
    stmt_ends (assignment e v) r h w is few le stand =
        ends_of f code to ((sim_then (expr_exact f v) (target_exact f e) (expr_sim f laws code to v is.1 r.below) (λ u _. sim_give (λ _. On) (λ _ _. refl) (assign_sim f laws code to e u r.below is.0))).gives h r.loops w few le stand)
    stmt_ends (for_loop n e v only recursive body else_body) r h w is few le stand =
        let has_else = are_any else_body in
        let start = loop_start f e v only h in
        let b = body_start f e start in
        let end = loop_past f e body else_body start in
        let x : Exits = record { break_to = ((stmts f [] body).past b).place + 1; continue_to = start.place + 1 } in
        let exact = stmts_exact f body [] in
        let both = then_exact (passing_exact f e only (expr_exact f v)) (looping_exact f e recursive has_else exact) in
        let looping_code = front code _ _ stand in
        let else_code = back code ((passing f e only (expr f v) ▸ looping f e recursive has_else (stmts f [] body)).code h) _ (both.ends h) stand in
        let more = grows (looping_exact f e recursive has_else exact) start in
        let most = grows (exact_to (if_true_exact has_else (stmts_exact f else_body r.opened)) r.exits) end in
        let body_most = grows (popping_exact {C = C} has_else) (behind 1 ((stmts f [] body).past b)) in
        let meaning = stmts_meaning f (all_placed f [] body b) in
        subst (λ d. Ends f code to (At h.place r.below r.loops w) ((stmt f r.opened (for_loop n e v only recursive body else_body)).past h).place r d) (next_assoc (expr_meaning f v w) (passing_meaning f e only) _)
        (then_ends f code to (omega arith) ((passing_sim f laws code to e only r.below is.0 is.2 (expr_exact f v) (expr_sim f laws code to v is.1)).gives h r.loops w few (omega arith) (front code _ _ looping_code)) λ u w1 _ few1.
        then_ends f code to most (looping_gives f laws code to e recursive has_else (stmts f [] body) meaning u r.below start r.loops w1 is.0 exact few1 (omega arith) (back code ((passing f e only (expr f v)).code h) _ ((passing_exact f e only (expr_exact f v)).ends h) looping_code) (λ w2 few2 there. stmts_end body (record { in_loop = true; exits = x; opened = []; below = r.below; loops = true ∷ r.loops }) b w2 is.3 few2 (omega arith) there)) λ came w2 _ few2.
        else_ends else_body r end came w2 few2 le else_code (λ le'. stmts_end else_body r (behind 1 end) w2 is.4 few2 le'))
    stmt_ends (if_cond e true_body false_body) r h w is few le stand =
        let start = (expr f e).past h in
        let most = grows (exact_to (either_exact (are_any false_body) (stmts_exact f true_body r.opened) (stmts_exact f false_body r.opened)) r.exits) start in
        then_ends f code to most ((expr_sim f laws code to e is.0 r.below).gives h r.loops w few (omega arith) (front code _ _ stand)) λ v w1 _ few1.
        sides_end true_body false_body r start v w1 few1 le (back code ((expr f e).code h) _ ((expr_exact f e).ends h) stand)
        (λ le'. stmts_end true_body r (behind 1 start) w1 is.1 few1 le')
        (λ le'. stmts_end false_body r (behind 1 ((stmts f r.opened true_body).past (behind 1 start))) w1 is.2 few1 le')
    stmt_ends (with_block ts body) r h w is few le stand =
        let h1 : Here = behind 1 h in
        let b = (assignments f ts).past h1 in
        let opened = front code _ _ stand in
        let inner = back code ((one (Do PushWith [] 0) ▸ assignments f ts).code h) _ ((then_exact (one_exact (Do PushWith [] 0)) (assignments_exact f ts)).ends h) stand in
        let more = grows (assignments_exact f ts) h1 in
        let most = grows (exact_to (stmts_exact f body (OpenScope ∷ r.opened)) r.exits) b in
        then_ends f code to (omega arith) ((sim_do_tell PushWith [] [] r.below refl).gives h r.loops w few (omega arith) (record { has = (first code opened, tt) })) λ _ w1 _ few1.
        then_ends f code to (omega arith) ((assignments_sim f laws code to ts r.below is.0).gives h1 r.loops w1 few1 (omega arith) (rest code opened)) λ _ w2 _ few2.
        ends_closed f code to PopFrame OpenScope refl (λ os. refl) (omega arith) (first code (back code _ _ ((stmts_exact f body (OpenScope ∷ r.opened)).ends r.exits b) inner))
        (stmts_end body (inside OpenScope r) b w2 is.1 few2 (omega arith) (front code _ _ inner))
    stmt_ends (set_block e chain body) r h w is few le stand =
        let b : Here = behind 1 h in
        let q = (stmts f (OpenCapture ∷ r.opened) body).past b in
        let inner = rest code stand in
        let closed = back code _ _ ((stmts_exact f body (OpenCapture ∷ r.opened)).ends r.exits b) inner in
        let most = grows (exact_to (stmts_exact f body (OpenCapture ∷ r.opened)) r.exits) b in
        let last = grows (then_exact (filters_exact f chain) (target_exact f e)) (behind 1 q) in
        then_ends f code to (omega arith) ((sim_do_tell (BeginCapture Capture) [] [] r.below refl).gives h r.loops w few (omega arith) (record { has = (first code stand, tt) })) λ _ w1 _ few1.
        ends_captured f code to last (omega arith) (first code closed) (stmts_end body (inside OpenCapture r) b w1 is.2 few1 (omega arith) (front code _ _ inner)) λ v w2 few2.
        then_ends f code to (omega arith) ((sim_then (filters_exact f chain) (target_exact f e) (filters_sim f laws code to chain v r.below is.1) (λ u _. assign_sim f laws code to e u r.below is.0)).gives (behind 1 q) r.loops w2 few2 le (rest code closed)) λ _ w3 _ few3.
        ends_on f code to few3
    stmt_ends (auto_escape e body) r h w is few le stand =
        let start = (expr f e).past h in
        let b : Here = behind 1 start in
        let opened = front code _ _ stand in
        let inner = back code ((expr f e ▸ one (Do PushAutoEscape [] 1)).code h) _ ((then_exact (expr_exact f e) (one_exact (Do PushAutoEscape [] 1))).ends h) stand in
        let most = grows (exact_to (stmts_exact f body (OpenAutoEscape ∷ r.opened)) r.exits) b in
        then_ends f code to (omega arith) ((expr_sim f laws code to e is.0 r.below).gives h r.loops w few (omega arith) (front code _ _ opened)) λ v w1 _ few1.
        then_ends f code to (omega arith) ((sim_do_tell PushAutoEscape [] (v ∷ []) r.below refl).gives start r.loops w1 few1 (omega arith) (back code ((expr f e).code h) _ ((expr_exact f e).ends h) opened)) λ _ w2 _ few2.
        ends_closed f code to PopAutoEscape OpenAutoEscape refl (λ os. refl) (omega arith) (first code (back code _ _ ((stmts_exact f body (OpenAutoEscape ∷ r.opened)).ends r.exits b) inner))
        (stmts_end body (inside OpenAutoEscape r) b w2 is.1 few2 (omega arith) (front code _ _ inner))
    stmt_ends (filter_block chain body) r h w is few le stand =
        let b : Here = behind 1 h in
        let q = (stmts f (OpenCapture ∷ r.opened) body).past b in
        let inner = rest code stand in
        let closed = back code _ _ ((stmts_exact f body (OpenCapture ∷ r.opened)).ends r.exits b) inner in
        let most = grows (exact_to (stmts_exact f body (OpenCapture ∷ r.opened)) r.exits) b in
        let last = grows (then_exact (expr_exact f chain) (one_exact (Do Emit [] 1))) (behind 1 q) in
        then_ends f code to (omega arith) ((sim_do_tell (BeginCapture Capture) [] [] r.below refl).gives h r.loops w few (omega arith) (record { has = (first code stand, tt) })) λ _ w1 _ few1.
        ends_captured f code to last (omega arith) (first code closed) (stmts_end body (inside OpenCapture r) b w1 is.1 few1 (omega arith) (front code _ _ inner)) λ v w2 few2.
        then_ends f code to (omega arith) ((sim_then (expr_exact f chain) (one_exact _) (chain_of_filters_sim f laws code to chain v r.below is.0) (λ u _. sim_do_tell Emit [] (u ∷ []) r.below refl)).gives (behind 1 q) r.loops w2 few2 le (rest code closed)) λ _ w3 _ few3.
        ends_on f code to few3
    stmt_ends (named_block x required body) r h w is few le stand = ends_of f code to ((on (sim_do_tell CallBlock x [] r.below refl)).gives h r.loops w few le stand)
    stmt_ends (extends e) r h w is few le stand =
        ends_of f code to ((sim_then (expr_exact f e) (one_exact _) (expr_sim f laws code to e is r.below) (λ v _. on (sim_do_tell LoadBlocks [] (v ∷ []) r.below refl))).gives h r.loops w few le stand)
    stmt_ends (include e ignore) r h w is few le stand =
        ends_of f code to ((sim_then (expr_exact f e) (one_exact _) (expr_sim f laws code to e is r.below) (λ v _. on (sim_do_tell (Include ignore) [] (v ∷ []) r.below refl))).gives h r.loops w few le stand)
    stmt_ends (import_all e t) r h w is few le stand = ends_of f code to ((import_all_sim f laws code to e t is.0 is.1 r.below).gives h r.loops w few le stand)
    stmt_ends (from_import e ns) r h w is few le stand = ends_of f code to ((from_import_sim f laws code to e ns is.0 is.1 r.below).gives h r.loops w few le stand)
    stmt_ends (declare (macro n x args defaults body)) r h w is few le stand =
        let m = macro n x args defaults body in
        ends_of f code to ((here_then (macro_exact f m) (one_exact _) (macro_sim f laws code to m h r.below) (λ v _. here_sim (on (sim_do_tell StoreLocal x (v ∷ []) r.below refl)))).gives r.loops w few le stand)
    stmt_ends (call_block e args m) r h w is few le stand =
        ends_of f code to ((here_then (call_with_exact f e args (macro_exact f m)) (one_exact _) (called_with_sim f laws code to (callee e) e args m r.below h is.0.0 is.0.1) (λ v _. here_sim (on (sim_do_tell Emit [] (v ∷ []) r.below refl)))).gives r.loops w few le stand)
    stmt_ends (do_call e args) r h w is few le stand =
        ends_of f code to ((sim_then (expr_exact f (call e args)) (one_exact _) (expr_sim f laws code to (call e args) is r.below) (λ v _. sim_plain {put = λ _. r.below} On (λ p ls w. refl) refl)).gives h r.loops w few le stand)
    stmt_ends break_loop r h w is few le stand = record { ends = record { is_in_loop = is; at = h.place; comes = stays f code to (At h.place r.below r.loops w) h.place (omega arith); stands = stand; fits = omega arith; few = few } }
    stmt_ends continue_loop r h w is few le stand = record { ends = record { is_in_loop = is; at = h.place; comes = stays f code to (At h.place r.below r.loops w) h.place (omega arith); stands = stand; fits = omega arith; few = few } }

    pub stmts_end : {L : Type 0} (ss : Stmts C L) (r : Around C) (h : Here) (w : World C) → AreInner r.in_loop ss → AreFew w.answers → ((stmts f r.opened ss).past h).place ≤ to.end → Does ss r h w
    stmts_end done r h w is few le stand = ends_on f code to few
    stmts_end (also s others) r h w is few le stand =
        let next_one = (stmt f r.opened s).past h in
        let more = grows (exact_to (stmts_exact f others r.opened) r.exits) next_one in
        ends_also f code to more (stmt_ends s r h w is.0 few (omega arith) (front code _ _ stand)) λ w1 few1.
        stmts_end others r next_one w1 is.1 few1 le (back code ((stmt f r.opened s).code r.exits h) _ ((stmt_exact f s r.opened).ends r.exits h) stand)

  -- outside of all loops
  abbrev pub alone : List C → List Bool → Around C
  alone ops ls = record { in_loop = false; exits = outside; opened = []; below = ops; loops = ls }

  -- a root by itself does what is meant
  abbrev EndsAlone : {L : Type 0} → Stmt C L → Type 0
  EndsAlone s = (ops : List C) (ls : List Bool) (h : Here) (w : World C) → AreFew w.answers → ((stmt f [] s).past h).place ≤ to.end → Stands code h.place ((stmt f [] s).code outside h) → Ends f code to (At h.place ops ls w) ((stmt f [] s).past h).place (alone ops ls) (stmt_meaning f (placed f [] s h) w)

  root_ends : {L : Type 0} (s : Stmt C L) → IsRoot s → EndsAlone s
  root_ends = at_root_of EndsAlone (λ ss is ops ls h w few le stand. stmts_end ss (alone ops ls) h w is few le stand) (λ s is ops ls h w few le stand. stmt_ends s (alone ops ls) h w is few le stand)

  -- outside of all loops no signal but on is given
  pub given_alone : {s : State C F} {q : ℕ} (ops : List C) (ls : List Bool) (m : Did C F Signal) → Ends f code to s q (alone ops ls) m → Gives f code to s q ls GoesOn (λ _. ops) m
  given_alone ops ls (Gave w On) e = record { comes = e.ends.0; holds = (refl, e.ends.1) }
  given_alone ops ls (Gave w Broke) e = let no = e.ends.is_in_loop in absurd (cc)
  given_alone ops ls (Gave w Continued) e = let no = e.ends.is_in_loop in absurd (cc)
  given_alone ops ls (Ended w e') e = record { comes = e.ends; holds = tt }

  pub root_gives : {L : Type 0} (s : Stmt C L) → IsRoot s → (ops : List C) (ls : List Bool) (h : Here) (w : World C) → AreFew w.answers → ((stmt f [] s).past h).place ≤ to.end → Stands code h.place ((stmt f [] s).code outside h) → Gives f code to (At h.place ops ls w) ((stmt f [] s).past h).place ls GoesOn (λ _. ops) (stmt_meaning f (placed f [] s h) w)
  root_gives s is ops ls h w few le stand = given_alone ops ls (stmt_meaning f (placed f [] s h) w) (root_ends s is ops ls h w few le stand)
