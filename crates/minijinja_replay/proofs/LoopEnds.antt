-- Where the code of each recursive loop of a tree is over.
use Rattle.std.proofs.Common.{◌≡◌, ◌+◌, List, [], ◌∷◌, ◌++◌, refl, ap, ◌∙◌, subst, arith}
use Rattle.std.specs.Prelude.{All, Bool, true, false, slice_get}
use Rattle.std.proofs.lemmas.List.Elements.{All-nil, All-cons}
use Rattle.minijinja_value.specs.Values.{Functions}
use Rattle.minijinja_tree.specs.Tree.{Expr, Stmt, template, data_text, output, assignment, for_loop, if_cond, with_block, set_block, auto_escape, filter_block, named_block, extends, include, import_all, from_import, declare, call_block, do_call, break_loop, continue_loop, Args, Stmts, done, also, Macro, macro, parameters, are_any}
use Rattle.minijinja_tree.specs.Callees.{Callee, function, method, block, object, callee}
use Rattle.minijinja_tree.specs.WellFormed.{IsInner, AreInner, IsMacro, IsRoot, IsWellFormed}
use Rattle.minijinja_semantics.specs.Events.{PushWith, PushAutoEscape}
use Rattle.minijinja_semantics.specs.Code.{Instr, Do, Jump, Return}
use Rattle.minijinja_semantics.specs.Pieces.{Here, behind, start, Exits, Leading, outside, Open, OpenScope, OpenAutoEscape, OpenCapture, one, leading_to, plain, turning, ◌▸◌, ◌▹◌}
use Rattle.minijinja_semantics.specs.Layout.{expr, base, target, call_of, assignments, passing, looping, popping, if_true, either, taking, arguments_with, argument_count_with, up_to_caller, macro_value, stmt, stmts, stmt_code, block_code}
use Rattle.minijinja_semantics.specs.Places.{Extent, extent, loop_start, body_start, loop_past, macro_entry, macro_body_start, before_caller, all_spanned}
use Rattle.minijinja_semantics.specs.Units.{Enterable, RecursiveLoop, and_if, if_coded, units, all_units, macro_units}
use Rattle.minijinja_semantics.proofs.Roots.{at_root_of}
use Rattle.minijinja_semantics.proofs.Runs.{Stands, front, back, first, rest, stands_behind}
use Rattle.minijinja_semantics.proofs.Lengths.{then_exact, one_exact, expr_exact, base_exact, target_exact, plain_exact, and_exact, turning_exact, assignments_exact, passing_exact, looping_exact, taking_exact, up_to_caller_exact, stmt_exact, stmts_exact}
use Rattle.minijinja_replay.specs.Replay.{EndsWhereItLeads, past_end, past_items}

-- each of these units ends where it leads
abbrev pub EachEnds : {C : Type 0} → List (Instr C) → List (Enterable C Extent) → Type 0
EachEnds code [] = Unit {0}
EachEnds code (u ∷ us) = EndsWhereItLeads code u × EachEnds code us

-- each is all
pub each_all : {C : Type 0} (code : List (Instr C)) (us : List (Enterable C Extent)) → EachEnds code us → All (EndsWhereItLeads code) us
each_all code [] ends = All-nil (EndsWhereItLeads code)
each_all code (u ∷ us) ends = All-cons (EndsWhereItLeads code) u us ends.0 (each_all code us ends.1)

module _ {C F : Type 0} (f : Functions C F) (code : List (Instr C)) where
  -- of two lists each ends
  each_append : (us vs : List (Enterable C Extent)) → EachEnds code us → EachEnds code vs → EachEnds code (us ++ vs)
  each_append [] vs a b = b
  each_append (u ∷ us) vs a b = (a.0, each_append us vs a.1 b)

  -- what closes a loop stands where the loop goes on without an item
  pops_end : (has_else : Bool) (end : Here) → Stands code end.place ((popping has_else).code end) → past_end (slice_get code end.place) end.place ≡ ((popping {C = C} has_else).past end).place
  pops_end true end stand = ap (λ i. past_end i end.place) (first code stand) ∙ omega arith
  pops_end false end stand = ap (λ i. past_end i end.place) (first code stand)

  -- a recursive loop is over where its code goes on without an item, and behind what closes it
  loop_ends : {L : Type 0} (e : Expr C) (body : Stmts C L) (has_else : Bool) (h : Here) → Stands code h.place ((looping f e true has_else (stmts f [] body)).code h) → EndsWhereItLeads code (RecursiveLoop (extent h ((looping f e true has_else (stmts f [] body)).past h)) e (all_spanned f [] body (body_start f e h)) has_else)
  loop_ends e body has_else h stand =
      let h1 : Here = behind 1 h in
      let round = turning_exact (and_exact (plain_exact (target_exact f e)) (stmts_exact f body [])) in
      let stand1 = rest code stand in
      let asks = first code (front code ((turning (plain (target f e) ▹ stmts f [] body)).code h1) _ stand1) in
      let pop = back code ((turning (plain (target f e) ▹ stmts f [] body)).code h1) _ (round.ends h1) stand1 in
      ap (past_items code) asks ∙ pops_end has_else ((turning (plain (target f e) ▹ stmts f [] body)).past h1) pop

  -- the body of a loop stands behind what takes its item
  body_stands : (e : Expr C) (recursive has_else : Bool) (p : Leading Exits C) (h : Here) → Stands code h.place ((looping f e recursive has_else p).code h) → let b = body_start f e h in let x : Exits = record { break_to = (p.past b).place + 1; continue_to = h.place + 1 } in Stands code b.place (p.code x b)
  body_stands e recursive has_else p h stand =
      let h2 : Here = behind 1 (behind 1 h) in
      let parts = front code _ _ (rest code (front code _ _ (rest code stand))) in
      back code ((target f e).code h2) _ ((target_exact f e).ends h2) parts

  -- that unit, and others
  own_ends : {L : Type 0} (recursive : Bool) (e : Expr C) (body : Stmts C L) (has_else : Bool) (h : Here) (us : List (Enterable C Extent)) → Stands code h.place ((looping f e recursive has_else (stmts f [] body)).code h) → EachEnds code us → EachEnds code (and_if recursive (RecursiveLoop (extent h ((looping f e false has_else (stmts f [] body)).past h)) e (all_spanned f [] body (body_start f e h)) has_else) us)
  own_ends true e body has_else h us stand others = (loop_ends e body has_else h stand, others)
  own_ends false e body has_else h us stand others = others

  -- where a call takes along a macro that has a place, the macro stands there
  caller_ends : {L : Type 0} (c : Callee C) (e : Expr C) (args : Args C) (m : Macro C L) (h : Here) → Stands code h.place ((call_of c (base f e) (expr f e) (λ n. arguments_with f args n (macro_value f m)) (argument_count_with args)).code h) → ((there : Here) → Stands code there.place ((macro_value f m).code there) → EachEnds code (macro_units f m there)) → EachEnds code (if_coded c (macro_units f m ((before_caller f c e args).past h)))
  caller_ends (function x) e args m h stand k =
      k ((up_to_caller f args 0).past h) (front code _ _ (back code ((up_to_caller f args 0).code h) _ ((up_to_caller_exact f args 0).ends h) (front code _ _ stand)))
  caller_ends (method o x) e args m h stand k =
      let there = (base f e).past h in
      let inner = front code _ _ (back code ((base f e).code h) _ ((base_exact f e).ends h) stand) in
      k ((up_to_caller f args 1).past there) (front code _ _ (back code ((up_to_caller f args 1).code there) _ ((up_to_caller_exact f args 1).ends there) inner))
  caller_ends (block x) e args m h stand k = tt
  caller_ends (object o) e args m h stand k =
      let there = (expr f e).past h in
      let inner = front code _ _ (back code ((expr f e).code h) _ ((expr_exact f e).ends h) stand) in
      k ((up_to_caller f args 1).past there) (front code _ _ (back code ((up_to_caller f args 1).code there) _ ((up_to_caller_exact f args 1).ends there) inner))

  -- both sides of a condition
  sides_end : {L : Type 0} (true_body false_body : Stmts C L) (os : List Open) (x : Exits) (h : Here) → Stands code h.place ((either (are_any false_body) (stmts f os true_body) (stmts f os false_body)).code x h) → (Stands code (behind 1 h).place ((stmts f os true_body).code x (behind 1 h)) → EachEnds code (all_units f os true_body (behind 1 h))) → (let other = behind 1 ((stmts f os true_body).past (behind 1 h)) in Stands code other.place ((stmts f os false_body).code x other) → EachEnds code (all_units f os false_body other)) → EachEnds code (all_units f os true_body (behind 1 h) ++ all_units f os false_body (behind 1 ((stmts f os true_body).past (behind 1 h))))
  sides_end true_body done os x h stand true_ones false_ones = each_append (all_units f os true_body (behind 1 h)) [] (true_ones (rest code stand)) tt
  sides_end true_body (also s others) os x h stand true_ones false_ones =
      let inner = rest code stand in
      each_append (all_units f os true_body (behind 1 h)) _ (true_ones (front code _ _ inner)) (false_ones (rest code (back code ((stmts f os true_body).code x (behind 1 h)) _ ((stmts_exact f true_body os).ends x (behind 1 h)) inner)))

  -- an else body, if there is one
  else_ends : {L : Type 0} (else_body : Stmts C L) (os : List Open) (x : Exits) (h : Here) → Stands code h.place ((if_true (are_any else_body) (stmts f os else_body)).code x h) → (Stands code (behind 1 h).place ((stmts f os else_body).code x (behind 1 h)) → EachEnds code (all_units f os else_body (behind 1 h))) → EachEnds code (all_units f os else_body (behind 1 h))
  else_ends done os x h stand k = tt
  else_ends (also s others) os x h stand k = k (rest code stand)

  -- whether there are statements does not depend on their labels
  any_spanned : {L : Type 0} (ss : Stmts C L) (os : List Open) (h : Here) → are_any ss ≡ are_any (all_spanned f os ss h)
  any_spanned done os h = refl
  any_spanned (also s rest) os h = refl

  mutual
    units_end : {L : Type 0} (s : Stmt C L) (l : Bool) (os : List Open) (x : Exits) (h : Here) → IsInner l s → Stands code h.place ((stmt f os s).code x h) → EachEnds code (units f os s h)
    units_end (template ss) l os x h is stand = absurd is
    units_end (data_text t) l os x h is stand = tt
    units_end (output e) l os x h is stand = tt
    units_end (assignment e v) l os x h is stand = tt
    units_end (for_loop n e v only recursive body else_body) l os x h is stand =
        let has_else = are_any else_body in
        let start = loop_start f e v only h in
        let b = body_start f e start in
        let end = loop_past f e body else_body start in
        let own_exits : Exits = record { break_to = ((stmts f [] body).past b).place + 1; continue_to = start.place + 1 } in
        let exact = passing_exact f e only (expr_exact f v) in
        let both = then_exact exact (looping_exact f e recursive has_else (stmts_exact f body [])) in
        let looping_code = back code ((passing f e only (expr f v)).code h) _ (exact.ends h) (front code _ _ stand) in
        let else_code = back code ((passing f e only (expr f v) ▸ looping f e recursive has_else (stmts f [] body)).code h) _ (both.ends h) stand in
        let others = all_units f [] body b ++ all_units f os else_body (behind 1 end) in
        let Does : Bool → Type 0 = λ t. EachEnds code (and_if recursive (RecursiveLoop (extent start end) e (all_spanned f [] body b) t) others) in
        subst Does (any_spanned else_body os (behind 1 end))
        (own_ends recursive e body has_else start others looping_code
        (each_append (all_units f [] body b) _ (all_units_end body true [] own_exits b is.3 (body_stands e recursive has_else (stmts f [] body) start looping_code))
        (else_ends else_body os x end else_code (all_units_end else_body l os x (behind 1 end) is.4))))
    units_end (if_cond e true_body false_body) l os x h is stand =
        let start = (expr f e).past h in
        sides_end true_body false_body os x start (back code ((expr f e).code h) _ ((expr_exact f e).ends h) stand)
        (all_units_end true_body l os x (behind 1 start) is.1)
        (all_units_end false_body l os x (behind 1 ((stmts f os true_body).past (behind 1 start))) is.2)
    units_end (with_block ts body) l os x h is stand =
        all_units_end body l (OpenScope ∷ os) x ((assignments f ts).past (behind 1 h)) is.1
        (front code _ _ (back code ((one (Do PushWith [] 0) ▸ assignments f ts).code h) _ ((then_exact (one_exact (Do PushWith [] 0)) (assignments_exact f ts)).ends h) stand))
    units_end (set_block e chain body) l os x h is stand = all_units_end body l (OpenCapture ∷ os) x (behind 1 h) is.2 (front code _ _ (rest code stand))
    units_end (auto_escape e body) l os x h is stand =
        all_units_end body l (OpenAutoEscape ∷ os) x (behind 1 ((expr f e).past h)) is.1
        (front code _ _ (back code ((expr f e ▸ one (Do PushAutoEscape [] 1)).code h) _ ((then_exact (expr_exact f e) (one_exact (Do PushAutoEscape [] 1))).ends h) stand))
    units_end (filter_block chain body) l os x h is stand = all_units_end body l (OpenCapture ∷ os) x (behind 1 h) is.1 (front code _ _ (rest code stand))
    units_end (named_block x' required body) l os x h is stand = tt
    units_end (extends e) l os x h is stand = tt
    units_end (include e ignore) l os x h is stand = tt
    units_end (import_all e t) l os x h is stand = tt
    units_end (from_import e ns) l os x h is stand = tt
    units_end (declare m) l os x h is stand = macro_units_end m h is (front code _ _ stand)
    units_end (call_block e args m) l os x h is stand = caller_ends (callee e) e args m h (front code _ _ stand) (λ there stand'. macro_units_end m there is.1 stand')
    units_end (do_call e args) l os x h is stand = tt
    units_end break_loop l os x h is stand = tt
    units_end continue_loop l os x h is stand = tt

    all_units_end : {L : Type 0} (ss : Stmts C L) (l : Bool) (os : List Open) (x : Exits) (h : Here) → AreInner l ss → Stands code h.place ((stmts f os ss).code x h) → EachEnds code (all_units f os ss h)
    all_units_end done l os x h is stand = tt
    all_units_end (also s others) l os x h is stand =
        each_append (units f os s h) _ (units_end s l os x h is.0 (front code _ _ stand))
        (all_units_end others l os x ((stmt f os s).past h) is.1 (back code ((stmt f os s).code x h) _ ((stmt_exact f s os).ends x h) stand))

    macro_units_end : {L : Type 0} (m : Macro C L) (h : Here) → IsMacro m → Stands code h.place ((macro_value f m).code h) → EachEnds code (macro_units f m h)
    macro_units_end (macro n x args defaults body) h is stand =
        let start = macro_entry h in
        let b = macro_body_start f args defaults h in
        let runs = rest code (front code (Jump ((taking f (parameters args defaults) ▸ leading_to outside (stmts f [] body) ▸ one Return).past start).place ∷ (taking f (parameters args defaults) ▸ leading_to outside (stmts f [] body) ▸ one Return).code start) _ stand) in
        let inner = back code ((taking f (parameters args defaults)).code start) _ ((taking_exact f (parameters args defaults)).ends start) runs in
        (tt, all_units_end body false [] outside b is.3 (front code _ _ inner))

  -- the units of a root by itself
  root_units_end : {L : Type 0} (s : Stmt C L) → IsRoot s → (h : Here) → Stands code h.place ((stmt f [] s).code outside h) → EachEnds code (units f [] s h)
  root_units_end = at_root_of (λ s. (h : Here) → Stands code h.place ((stmt f [] s).code outside h) → EachEnds code (units f [] s h)) (λ ss is h. all_units_end ss false [] outside h is) (λ s is h. units_end s false [] outside h is)

-- those of a template, and those of the body of a block in its own list
pub template_units_end : {C L F : Type 0} (f : Functions C F) (s : Stmt C L) → IsWellFormed s → EachEnds (stmt_code f s start) (units f [] s start)
template_units_end f s well = root_units_end f (stmt_code f s start) s well.0 start (stands_behind [] (stmt_code f s start))

pub block_units_end : {C L F : Type 0} (f : Functions C F) (body : Stmts C L) → AreInner false body → EachEnds (block_code f body) (all_units f [] body start)
block_units_end f body is = root_units_end f (block_code f body) (template body) is start (stands_behind [] (block_code f body))
