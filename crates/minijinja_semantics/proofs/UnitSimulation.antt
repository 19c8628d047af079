-- The code of each unit of a tree, entered by itself, does what the unit means.
use Rattle.std.proofs.Common.{◌≡◌, ℕ, ◌+◌, ◌<◌, ◌≤◌, List, [], ◌∷◌, ◌++◌, length, Some, refl, subst, arith}
use Rattle.std.specs.Prelude.{Bool, true, false, not, if◌then◌else◌, slice_get}
use Rattle.minijinja_syntax.specs.Texts.{Text}
use Rattle.minijinja_value.specs.Values.{Functions}
use Rattle.minijinja_semantics.specs.Laws.{Laws}
use Rattle.minijinja_tree.specs.Tree.{Expr, Stmt, template, data_text, output, assignment, for_loop, if_cond, with_block, set_block, auto_escape, filter_block, named_block, extends, include, import_all, from_import, declare, call_block, do_call, break_loop, continue_loop, Args, Stmts, done, also, Macro, macro, parameters, are_any}
use Rattle.minijinja_tree.specs.Callees.{Callee, function, method, block, object, callee}
use Rattle.minijinja_tree.specs.WellFormed.{IsTarget, IsInner, AreInner, IsMacro, IsRoot}
use Rattle.minijinja_semantics.specs.Events.{PushWith, PushAutoEscape, Gave, Ended}
use Rattle.minijinja_semantics.specs.Meaning.{Signal, looped, macro_run, stmts as stmts_meaning}
use Rattle.minijinja_semantics.specs.Code.{Instr, Do, Jump, Return}
use Rattle.minijinja_semantics.specs.Pieces.{Here, behind, Exits, outside, Open, OpenScope, OpenAutoEscape, OpenCapture, one, leading_to, ◌▸◌}
use Rattle.minijinja_semantics.specs.Layout.{expr, base, call_of, assignments, passing, looping, if_true, either, taking, arguments_with, argument_count_with, up_to_caller, macro_value, stmt, stmts}
use Rattle.minijinja_semantics.specs.Machine.{At, Returned, AtReturn, after}
use Rattle.minijinja_semantics.specs.Correct.{fresh, over}
use Rattle.minijinja_semantics.specs.Places.{Extent, extent, loop_start, body_start, loop_past, macro_entry, macro_body_start, before_caller, all_spanned, all_placed}
use Rattle.minijinja_semantics.specs.Units.{Enterable, RecursiveLoop, MacroBody, and_if, if_coded, units, all_units, macro_units, a_macro, DoesUnit, EachDoes}
use Rattle.minijinja_semantics.proofs.Placed.{Did, State, Stretch}
use Rattle.minijinja_semantics.proofs.Roots.{at_root_of}
use Rattle.minijinja_semantics.proofs.Runs.{Stands, front, back, first, rest, Comes, raise, comes_then, step_comes, Gives, then_gives}
use Rattle.minijinja_semantics.proofs.Lengths.{exact_to, grows, one_exact, then_exact, expr_exact, base_exact, assignments_exact, passing_exact, looping_exact, popping_exact, taking_exact, up_to_caller_exact, stmt_exact, stmts_exact}
use Rattle.minijinja_semantics.proofs.Turns.{within}
use Rattle.minijinja_semantics.proofs.Signals.{GoesOn}
use Rattle.minijinja_semantics.proofs.Loops.{looping_gives, body_stands}
use Rattle.minijinja_semantics.proofs.Settling.{up_to, settles, does_by}
use Rattle.minijinja_semantics.proofs.MacroSimulation.{are_parameters, taking_sim}
use Rattle.minijinja_semantics.proofs.StatementSimulation.{stmts_end, alone, given_alone}
use Rattle.minijinja_semantics.proofs.Balance.{balanced_from, looped_keeps, macro_keeps, stmts_keep}

module _ {C F : Type 0} (f : Functions C F) (laws : Laws f) (code : List (Instr C)) where
  -- what stands in the code ends within it
  stands_within : (p : ℕ) (i : Instr C) (is : List (Instr C)) → Stands code p (i ∷ is) → p + length (i ∷ is) ≤ length code
  stands_within p i [] h = omega (arith, within code p i (first code h))
  stands_within p i (j ∷ is) h = omega (arith, stands_within (p + 1) j is (rest code h))

  each_append : (us vs : List (Enterable C Extent)) → EachDoes f code us → EachDoes f code vs → EachDoes f code (us ++ vs)
  each_append [] vs a b = b
  each_append (u ∷ us) vs a b = (a.0, each_append us vs a.1 b)

  -- a recursive loop, entered at its start
  loop_does : {L : Type 0} (e : Expr C) (body : Stmts C L) (has_else : Bool) (h : Here) → IsTarget e → AreInner true body → Stands code h.place ((looping f e true has_else (stmts f [] body)).code h) → DoesUnit f code (RecursiveLoop (extent h ((looping f e true has_else (stmts f [] body)).past h)) e (all_spanned f [] body (body_start f e h)) has_else)
  loop_does e body has_else h is inner stand v below ls answers few =
      let p = looping f e true has_else (stmts f [] body) in
      let b = body_start f e h in
      let x : Exits = record { break_to = ((stmts f [] body).past b).place + 1; continue_to = h.place + 1 } in
      let end = (p.past h).place in
      let m = stmts_meaning f (all_placed f [] body b) in
      let exact = looping_exact f e true has_else (stmts_exact f body []) in
      let inside : end ≤ length code = omega (arith, stands_within h.place _ _ stand, exact.ends h) in
      let most = grows (popping_exact {C = C} has_else) (behind 1 ((stmts f [] body).past b)) in
      does_by f code h.place end (v ∷ []) below (λ came. if has_else then f.of_bool (not came) ∷ [] else []) ls answers (looped f h.place e true m v) inside
      (balanced_from (looped f h.place e true m v) answers (looped_keeps ℕ f h.place e true (stmts_keep ℕ f (all_placed f [] body b)) v))
      (looping_gives f laws code (up_to end) e true has_else (stmts f [] body) m v below h ls (fresh answers) is (stmts_exact f body []) few (omega arith) stand
      (λ w few' there. stmts_end f laws code (up_to end) body (record { in_loop = true; exits = x; opened = []; below = below; loops = true ∷ ls }) b w inner few' (omega arith) there))

  -- that unit, and others
  own_does : {L : Type 0} (recursive : Bool) (e : Expr C) (body : Stmts C L) (has_else : Bool) (h : Here) (us : List (Enterable C Extent)) → IsTarget e → AreInner true body → Stands code h.place ((looping f e recursive has_else (stmts f [] body)).code h) → EachDoes f code us → EachDoes f code (and_if recursive (RecursiveLoop (extent h ((looping f e false has_else (stmts f [] body)).past h)) e (all_spanned f [] body (body_start f e h)) has_else) us)
  own_does true e body has_else h us is inner stand others = (loop_does e body has_else h is inner stand, others)
  own_does false e body has_else h us is inner stand others = others

  -- what was given, and then a return
  then_returns : {X : Type 0} {P : X → Type 0} {s : State C F} {q : ℕ} {ls : List Bool} {ops : List C} (to : Stretch) (m : Did C F X) → q < to.end → slice_get code q ≡ Some Return → Gives f code to s q ls P (λ _. ops) m → Comes f code to s (after (λ _ w. Returned ops ls w) m) (q + 1)
  then_returns {q = q} {ls = ls} {ops = ops} to (Gave w x) before at g = comes_then f code to (omega arith) g.comes (step_comes f code to ops ls w (Returned ops ls w) (q + 1) refl before at refl (omega arith))
  then_returns to (Ended w e) before at g = raise f code to (omega arith) g.comes

  over_returned : (start : ℕ) (vs below : List C) (ls : List Bool) (d : Did C F Signal) → after (λ _ w. Returned below ls w) d ≡ over (a_macro start vs) below ls d
  over_returned start vs below ls (Gave w x) = refl
  over_returned start vs below ls (Ended w e) = refl

  -- what a macro runs, entered where it begins
  macro_does : {L : Type 0} (n : L) (x : Text) (args defaults : List (Expr C)) (body : Stmts C L) (h : Here) → IsMacro (macro n x args defaults body) → Stands code (macro_entry h).place ((taking f (parameters args defaults) ▸ leading_to outside (stmts f [] body) ▸ one Return).code (macro_entry h)) → DoesUnit f code (MacroBody (extent (macro_entry h) (behind 1 ((stmts f [] body).past (macro_body_start f args defaults h)))) (parameters args defaults) (all_spanned f [] body (macro_body_start f args defaults h)))
  macro_does n x args defaults body h is stand vs many below ls answers few =
      let ps = parameters args defaults in
      let start = macro_entry h in
      let b = macro_body_start f args defaults h in
      let q = ((stmts f [] body).past b).place in
      let meaning = stmts_meaning f (all_placed f [] body b) in
      let m = macro_run f ps (all_placed f [] body b) vs in
      let takes = taking_exact f ps in
      let runs = exact_to (stmts_exact f body []) outside in
      let inner = back code ((taking f ps).code start) _ (takes.ends start) stand in
      let returns = first code (back code ((stmts f [] body).code outside b) _ (runs.ends b) inner) in
      let fits = within code q Return returns in
      let to : Stretch = record { finish = AtReturn; end = q + 1; goes_on = λ p before. refl } in
      let more = grows runs b in
      let gives : Gives f code to (At start.place (vs ++ below) ls (fresh answers)) q ls GoesOn (λ _. below) (m (fresh answers)) =
      then_gives f code to more ((taking_sim f laws code to ps vs below (are_parameters args defaults is.0 is.1) many).gives start ls (fresh answers) few (omega arith) (front code _ _ stand)) λ _ w1 _ few1.
      given_alone f laws code to below ls (meaning w1) (stmts_end f laws code to body (alone f laws code to below ls) b w1 is.3 few1 (omega arith) (front code _ _ inner)) in
      settles f code to (a_macro start.place vs) below ls answers (m (fresh answers)) refl (omega arith)
      (balanced_from m answers (macro_keeps ℕ f ps (all_placed f [] body b) vs))
      (subst (λ z. Comes f code to (At start.place (vs ++ below) ls (fresh answers)) z (q + 1)) (over_returned start.place vs below ls (m (fresh answers))) (then_returns to (m (fresh answers)) (omega arith) returns gives))

  -- where a call takes along a macro that has a place, the macro stands there
  caller_does : {L : Type 0} (c : Callee C) (e : Expr C) (args : Args C) (m : Macro C L) (h : Here) → Stands code h.place ((call_of c (base f e) (expr f e) (λ n. arguments_with f args n (macro_value f m)) (argument_count_with args)).code h) → ((there : Here) → Stands code there.place ((macro_value f m).code there) → EachDoes f code (macro_units f m there)) → EachDoes f code (if_coded c (macro_units f m ((before_caller f c e args).past h)))
  caller_does (function x) e args m h stand k =
      k ((up_to_caller f args 0).past h) (front code _ _ (back code ((up_to_caller f args 0).code h) _ ((up_to_caller_exact f args 0).ends h) (front code _ _ stand)))
  caller_does (method o x) e args m h stand k =
      let there = (base f e).past h in
      let inner = front code _ _ (back code ((base f e).code h) _ ((base_exact f e).ends h) stand) in
      k ((up_to_caller f args 1).past there) (front code _ _ (back code ((up_to_caller f args 1).code there) _ ((up_to_caller_exact f args 1).ends there) inner))
  caller_does (block x) e args m h stand k = tt
  caller_does (object o) e args m h stand k =
      let there = (expr f e).past h in
      let inner = front code _ _ (back code ((expr f e).code h) _ ((expr_exact f e).ends h) stand) in
      k ((up_to_caller f args 1).past there) (front code _ _ (back code ((up_to_caller f args 1).code there) _ ((up_to_caller_exact f args 1).ends there) inner))

  sides_do : {L : Type 0} (true_body false_body : Stmts C L) (os : List Open) (x : Exits) (h : Here) → Stands code h.place ((either (are_any false_body) (stmts f os true_body) (stmts f os false_body)).code x h) → (Stands code (behind 1 h).place ((stmts f os true_body).code x (behind 1 h)) → EachDoes f code (all_units f os true_body (behind 1 h))) → (let other = behind 1 ((stmts f os true_body).past (behind 1 h)) in Stands code other.place ((stmts f os false_body).code x other) → EachDoes f code (all_units f os false_body other)) → EachDoes f code (all_units f os true_body (behind 1 h) ++ all_units f os false_body (behind 1 ((stmts f os true_body).past (behind 1 h))))
  sides_do true_body done os x h stand true_ones false_ones = each_append (all_units f os true_body (behind 1 h)) [] (true_ones (rest code stand)) tt
  sides_do true_body (also s others) os x h stand true_ones false_ones =
      let inner = rest code stand in
      each_append (all_units f os true_body (behind 1 h)) _ (true_ones (front code _ _ inner)) (false_ones (rest code (back code ((stmts f os true_body).code x (behind 1 h)) _ ((stmts_exact f true_body os).ends x (behind 1 h)) inner)))

  else_does : {L : Type 0} (else_body : Stmts C L) (os : List Open) (x : Exits) (h : Here) → Stands code h.place ((if_true (are_any else_body) (stmts f os else_body)).code x h) → (Stands code (behind 1 h).place ((stmts f os else_body).code x (behind 1 h)) → EachDoes f code (all_units f os else_body (behind 1 h))) → EachDoes f code (all_units f os else_body (behind 1 h))
  else_does done os x h stand k = tt
  else_does (also s others) os x h stand k = k (rest code stand)

  any_spanned : {L : Type 0} (ss : Stmts C L) (os : List Open) (h : Here) → are_any ss ≡ are_any (all_spanned f os ss h)
  any_spanned done os h = refl
  any_spanned (also s rest) os h = refl

  mutual
    units_do : {L : Type 0} (s : Stmt C L) (l : Bool) (os : List Open) (x : Exits) (h : Here) → IsInner l s → Stands code h.place ((stmt f os s).code x h) → EachDoes f code (units f os s h)
    units_do (template ss) l os x h is stand = absurd is
    units_do (data_text t) l os x h is stand = tt
    units_do (output e) l os x h is stand = tt
    units_do (assignment e v) l os x h is stand = tt
    units_do (for_loop n e v only recursive body else_body) l os x h is stand =
        let has_else = are_any else_body in
        let start = loop_start f e v only h in
        let b = body_start f e start in
        let end = loop_past f e body else_body start in
        let own_exits : Exits = record { break_to = ((stmts f [] body).past b).place + 1; continue_to = start.place + 1 } in
        let exact = passing_exact f e only (expr_exact f v) in
        let both = then_exact exact (looping_exact f e recursive has_else (stmts_exact f body [])) in
        let looping_code = back code ((passing f e only (expr f v)).code h) _ (exact.ends h) (front code _ _ stand) in
        let else_code = back code ((passing f e only (expr f v) ▸ looping f e recursive has_else (stmts f [] body)).code h) _ (both.ends h) stand in
        let others = all_units f [] body b ++ all_units f os else_body (behind 1 end) in
        let Does : Bool → Type 0 = λ t. EachDoes f code (and_if recursive (RecursiveLoop (extent start end) e (all_spanned f [] body b) t) others) in
        subst Does (any_spanned else_body os (behind 1 end))
        (own_does recursive e body has_else start others is.0 is.3 looping_code
        (each_append (all_units f [] body b) _ (all_units_do body true [] own_exits b is.3 (body_stands f laws code (up_to 0) e recursive has_else (stmts f [] body) start looping_code))
        (else_does else_body os x end else_code (all_units_do else_body l os x (behind 1 end) is.4))))
    units_do (if_cond e true_body false_body) l os x h is stand =
        let start = (expr f e).past h in
        sides_do true_body false_body os x start (back code ((expr f e).code h) _ ((expr_exact f e).ends h) stand)
        (all_units_do true_body l os x (behind 1 start) is.1)
        (all_units_do false_body l os x (behind 1 ((stmts f os true_body).past (behind 1 start))) is.2)
    units_do (with_block ts body) l os x h is stand =
        all_units_do body l (OpenScope ∷ os) x ((assignments f ts).past (behind 1 h)) is.1
        (front code _ _ (back code ((one (Do PushWith [] 0) ▸ assignments f ts).code h) _ ((then_exact (one_exact (Do PushWith [] 0)) (assignments_exact f ts)).ends h) stand))
    units_do (set_block e chain body) l os x h is stand = all_units_do body l (OpenCapture ∷ os) x (behind 1 h) is.2 (front code _ _ (rest code stand))
    units_do (auto_escape e body) l os x h is stand =
        all_units_do body l (OpenAutoEscape ∷ os) x (behind 1 ((expr f e).past h)) is.1
        (front code _ _ (back code ((expr f e ▸ one (Do PushAutoEscape [] 1)).code h) _ ((then_exact (expr_exact f e) (one_exact (Do PushAutoEscape [] 1))).ends h) stand))
    units_do (filter_block chain body) l os x h is stand = all_units_do body l (OpenCapture ∷ os) x (behind 1 h) is.1 (front code _ _ (rest code stand))
    units_do (named_block x' required body) l os x h is stand = tt
    units_do (extends e) l os x h is stand = tt
    units_do (include e ignore) l os x h is stand = tt
    units_do (import_all e t) l os x h is stand = tt
    units_do (from_import e ns) l os x h is stand = tt
    units_do (declare m) l os x h is stand = macro_units_do m h is (front code _ _ stand)
    units_do (call_block e args m) l os x h is stand = caller_does (callee e) e args m h (front code _ _ stand) (λ there stand'. macro_units_do m there is.1 stand')
    units_do (do_call e args) l os x h is stand = tt
    units_do break_loop l os x h is stand = tt
    units_do continue_loop l os x h is stand = tt

    all_units_do : {L : Type 0} (ss : Stmts C L) (l : Bool) (os : List Open) (x : Exits) (h : Here) → AreInner l ss → Stands code h.place ((stmts f os ss).code x h) → EachDoes f code (all_units f os ss h)
    all_units_do done l os x h is stand = tt
    all_units_do (also s others) l os x h is stand =
        each_append (units f os s h) _ (units_do s l os x h is.0 (front code _ _ stand))
        (all_units_do others l os x ((stmt f os s).past h) is.1 (back code ((stmt f os s).code x h) _ ((stmt_exact f s os).ends x h) stand))

    macro_units_do : {L : Type 0} (m : Macro C L) (h : Here) → IsMacro m → Stands code h.place ((macro_value f m).code h) → EachDoes f code (macro_units f m h)
    macro_units_do (macro n x args defaults body) h is stand =
        let start = macro_entry h in
        let b = macro_body_start f args defaults h in
        let runs = rest code (front code (Jump ((taking f (parameters args defaults) ▸ leading_to outside (stmts f [] body) ▸ one Return).past start).place ∷ (taking f (parameters args defaults) ▸ leading_to outside (stmts f [] body) ▸ one Return).code start) _ stand) in
        let inner = back code ((taking f (parameters args defaults)).code start) _ ((taking_exact f (parameters args defaults)).ends start) runs in
        (macro_does n x args defaults body h is runs, all_units_do body false [] outside b is.3 (front code _ _ inner))

  -- the units of a root by itself
  pub root_units_do : {L : Type 0} (s : Stmt C L) → IsRoot s → (h : Here) → Stands code h.place ((stmt f [] s).code outside h) → EachDoes f code (units f [] s h)
  root_units_do = at_root_of (λ s. (h : Here) → Stands code h.place ((stmt f [] s).code outside h) → EachDoes f code (units f [] s h)) (λ ss is h. all_units_do ss false [] outside h is) (λ s is h. units_do s false [] outside h is)
