-- The code of a loop, and of the filter before it.
use Rattle.std.proofs.Common.{◌≡◌, ℕ, ◌+◌, ◌<◌, ◌≤◌, ◌^◌, List, [], ◌∷◌, ◌++◌, length, Some, None, refl, sym, ap, ◌∙◌, arith, length-append}
use Rattle.std.specs.Prelude.{Bool, true, false, not, if◌then◌else◌, slice_get}
use Rattle.minijinja_value.specs.Values.{Functions}
use Rattle.minijinja_semantics.specs.Laws.{Laws}
use Rattle.minijinja_tree.specs.Operators.{Add, compute}
use Rattle.minijinja_tree.specs.Tree.{Expr, Optional, absent, present}
use Rattle.minijinja_tree.specs.WellFormed.{IsTarget, IsWhole, IsWholeIfAny}
use Rattle.minijinja_semantics.specs.Events as events
use Rattle.minijinja_semantics.specs.Events.{Gave, Ended, next, give, choose, operated, tell, none_fits, Event, event}
use Rattle.minijinja_semantics.specs.Answers.{AreFew}
use Rattle.minijinja_semantics.specs.Meaning.{Signal, On, Broke, Continued, assign, goes_on, keep_if, do_body, loop_flags, all_turns, looped, passing as passing_meaning}
use Rattle.minijinja_semantics.specs.Code.{Instr, Load, Operate, Swap, DupTop, PushLoop, PopLoopFrame, BuildList, Jump}
use Rattle.minijinja_semantics.specs.Pieces.{Here, behind, Exits, Piece, Leading, one, ◌▸◌, plain, ◌▹◌, turning}
use Rattle.minijinja_semantics.specs.Layout.{expr, target, counting, passing, popping, looping}
use Rattle.minijinja_semantics.specs.Machine.{At, after, pushed, popped_by, popped_counted, built, loop_at}
use Rattle.minijinja_semantics.specs.Places.{body_start}
use Rattle.minijinja_semantics.proofs.Placed.{World, Did, Act, State, Stretch}
use Rattle.minijinja_semantics.proofs.Runs.{pops, Any, Stands, front, back, first, rest, raise, step_comes, Gives, then_gives, from, here, plain_gives, asks}
use Rattle.minijinja_semantics.proofs.Lengths.{Exact, LeadingExact, exact_to, grows, one_exact, then_exact, and_exact, plain_exact, turning_exact, expr_exact, target_exact, counting_exact, keeping_exact, popping_exact}
use Rattle.minijinja_semantics.proofs.Parts.{Simulates, sim_then, sim_before, sim_same, sim_give, sim_plain, sim_branches}
use Rattle.minijinja_semantics.proofs.Arguments.{pushed_append}
use Rattle.minijinja_semantics.proofs.Simulation.{expr_sim}
use Rattle.minijinja_semantics.proofs.Signals.{Ends}
use Rattle.minijinja_semantics.proofs.Turns.{Turns, then_turns, all_turns_loop, then_looped}
use Rattle.minijinja_semantics.proofs.Targets.{assign_sim}

choose_given : {C F X : Type 0} (b : Bool) (x y : X) (z : Bool) (w : World C) → choose {F = F} {X = Bool × X} b (give (z, x)) (give (z, y)) w ≡ Gave w (z, if b then x else y)
unfolding choose
choose_given true x y z w = refl
choose_given false x y z w = refl

-- a loop with a loop variable is named by its place
named : (recursive : Bool) (p : ℕ) → loop_at (loop_flags recursive) p ≡ Some p
named true p = refl
named false p = refl

module _ {C F : Type 0} (f : Functions C F) (laws : Laws f) (code : List (Instr C)) (to : Stretch) where
  -- what lies on the operands after a loop
  abbrev pub left_on : (has_else came : Bool) → List C → List C
  left_on has_else came ops = (if has_else then f.of_bool (not came) ∷ [] else []) ++ ops

  pops_loop : (l : ℕ) (ops : List C) (came : Bool) (ls : List Bool) (w : World C) → l < to.end → slice_get code l ≡ Some PopLoopFrame → AreFew w.answers → Gives f code to (At l ops (came ∷ ls) w) (l + 1) ls Any (λ _. ops) (tell events.PopLoopFrame [] [] w)
  pops_loop l ops came ls w before h few = asks f code to Any (λ _. ops) none_fits (event None events.PopLoopFrame [] []) ops (came ∷ ls) ls w (λ us y c same. tt) before h refl few

  -- the end of a loop
  popping_gives : (has_else : Bool) (h : Here) (ops : List C) (came : Bool) (ls : List Bool) (w : World C) → ((popping {C = C} has_else).past h).place ≤ to.end → Stands code h.place ((popping has_else).code h) → AreFew w.answers → Gives f code to (At h.place ops (came ∷ ls) w) ((popping {C = C} has_else).past h).place ls Any (λ c. left_on has_else c ops) (next (tell events.PopLoopFrame [] [] w) (λ _. give came))
  popping_gives true h ops came ls w le stand few =
      let v = f.of_bool (not came) in
      from f code to (omega arith) (step_comes f code to ops (came ∷ ls) w (At (h.place + 1) (v ∷ ops) (came ∷ ls) w) (h.place + 1) refl (omega arith) (first code stand) refl (omega arith))
      (then_gives f code to (omega arith) (pops_loop (h.place + 1) (v ∷ ops) came ls w (omega arith) (first code (rest code stand)) few) (λ _ w1 _ few1. here f code to {put = λ c. left_on true c ops} came w1 tt few1))
  popping_gives false h ops came ls w le stand few =
      then_gives f code to (omega arith) (pops_loop h.place ops came ls w (omega arith) (first code stand) few) (λ _ w1 _ few1. here f code to {put = λ c. left_on false c ops} came w1 tt few1)

  -- a turn of the body
  ends_turn : {s : State C F} {i j l : ℕ} {ops : List C} {ls : List Bool} (m : Did C F Signal) → l ≡ j + 1 → slice_get code j ≡ Some (Jump i) → Ends f code to s j (record { in_loop = true; exits = record { break_to = l; continue_to = i }; opened = []; below = ops; loops = true ∷ ls }) m → Turns f code to (λ _. ops) (λ _. 0) i l ls s 0 (next m (λ g. give {X = Bool × Unit {0}} (goes_on g, tt)))
  unfolding next
  ends_turn {j = j} (Gave w On) is jump e = record { turns = (j, omega arith, jump, e.ends.0, omega arith) }
  ends_turn (Gave w Broke) is jump e = let fits = e.ends.fits in record { turns = (e.ends.at, omega arith, first code e.ends.stands, e.ends.comes, omega arith) }
  ends_turn (Gave w Continued) is jump e = let fits = e.ends.fits in record { turns = (e.ends.at, omega arith, first code e.ends.stands, e.ends.comes, omega arith) }
  ends_turn (Ended w e') is jump e = record { turns = raise f code to (omega arith) e.ends }

  -- where a loop's body stands
  pub body_stands : (e : Expr C) (recursive has_else : Bool) (p : Leading Exits C) (h : Here) → Stands code h.place ((looping f e recursive has_else p).code h) → let b = body_start f e h in let x : Exits = record { break_to = (p.past b).place + 1; continue_to = h.place + 1 } in Stands code b.place (p.code x b)
  body_stands e recursive has_else p h stand =
      let h2 : Here = behind 1 (behind 1 h) in
      let parts = front code _ _ (rest code (front code _ _ (rest code stand))) in
      back code ((target f e).code h2) _ ((target_exact f e).ends h2) parts

  -- a loop over the value on top, of the body's piece and what it means
  pub looping_gives : (e : Expr C) (recursive has_else : Bool) (p : Leading Exits C) (m : Act C F Signal) (v : C) (ops : List C) (h : Here) (ls : List Bool) (w : World C) → IsTarget e → LeadingExact p → AreFew w.answers → ((looping f e recursive has_else p).past h).place ≤ to.end → Stands code h.place ((looping f e recursive has_else p).code h) → ((w' : World C) → AreFew w'.answers → let b = body_start f e h in let x : Exits = record { break_to = (p.past b).place + 1; continue_to = h.place + 1 } in Stands code b.place (p.code x b) → Ends f code to (At b.place ops (true ∷ ls) w') (p.past b).place (record { in_loop = true; exits = x; opened = []; below = ops; loops = true ∷ ls }) (m w')) → Gives f code to (At h.place (v ∷ ops) ls w) ((looping f e recursive has_else p).past h).place ls Any (λ came. left_on has_else came ops) (looped f h.place e recursive m v w)
  looping_gives e recursive has_else p m v ops h ls w is exact few le stand body =
      let h1 : Here = behind 1 h in
      let h2 : Here = behind 1 h1 in
      let b = body_start f e h in
      let i = h.place + 1 in
      let j = (p.past b).place in
      let l = j + 1 in
      let x : Exits = record { break_to = l; continue_to = i } in
      let both = and_exact (plain_exact (target_exact f e)) exact in
      let round = turning_exact both in
      let end : Here = behind 1 (p.past b) in
      let more = grows (target_exact f e) h2 in
      let most = grows (exact_to exact x) b in
      let last = grows (popping_exact {C = C} has_else) end in
      let stand1 = rest code stand in
      let looping_code = front code _ _ stand1 in
      let inner = rest code looping_code in
      let parts = front code _ _ inner in
      let jump = first code (back code ((plain (target f e) ▹ p).code x h2) _ (both.ends x h2) inner) in
      let pop = back code ((turning (plain (target f e) ▹ p)).code h1) _ (round.ends h1) stand1 in
      then_gives f code to (omega arith) (asks f code to Any (λ _. ops) none_fits (event (Some h.place) (events.PushLoop (loop_flags recursive)) [] (v ∷ [])) (v ∷ ops) ls (false ∷ ls) w (λ us y c same. tt) (omega arith) (first code stand) (ap (λ n. after (λ _ w'. At (h.place + 1) ops (false ∷ ls) w') (events.ask none_fits (event n (events.PushLoop (loop_flags recursive)) [] (v ∷ [])) w)) (named recursive h.place)) few) λ _ w1 _ few1.
      then_looped f code to (λ _. ops) (λ _. 0) i l ls (all_turns (do_body f e m) false tt w1) _ (omega arith)
      (all_turns_loop f code to (λ _. ops) (λ _. 0) i l ls (do_body f e m) (first code looping_code) (omega arith) (omega arith)
      (λ u s w2 few2.
      let few' : AreFew w2.answers = record { under = omega arith } in
      then_turns f code to (λ _. ops) (λ _. 0) i l ls (assign f e u w2) _ (omega arith) ((assign_sim f laws code to e u ops is).gives h2 (true ∷ ls) w2 few' (omega arith) (front code _ _ parts)) λ _ w3 _ few3.
      ends_turn (m w3) refl jump (body w3 few3 (back code ((target f e).code h2) _ ((target_exact f e).ends h2) parts)))
      false tt w1 (omega (arith, few1.under)))
      (λ r w2 few2. popping_gives has_else end ops r.0 ls w2 (omega arith) pop (record { under = omega arith }))

  -- the count of those that are kept lies on top of them
  abbrev counted_on : List C → List C → List C
  counted_on ops kept = f.of_u64 (length kept) ∷ pushed kept ops

  -- one more is kept at most
  abbrev Keeps : List C → Bool × List C → Type 0
  Keeps kept r = (r.0 ≡ true) × (length r.1 ≤ length kept + 1)

  counts_one : (v : C) (kept ops : List C) → length kept + 1 < 2 ^ 64 → Simulates f code to (one Swap ▸ one (Load (f.of_u64 1)) ▸ one (Operate Add)) (v ∷ counted_on ops kept) (Keeps kept) (λ r. counted_on ops r.1) (give (true, kept ++ v ∷ []))
  unfolding compute operated
  counts_one v kept ops under =
      let n = length kept in
      let below = v ∷ pushed kept ops in
      let size : n + 1 ≡ length (kept ++ v ∷ []) = omega (arith, length-append kept (v ∷ [])) in
      let same : f.of_u64 (n + 1) ∷ below ≡ counted_on ops (kept ++ v ∷ []) = ap (λ m. f.of_u64 m ∷ below) size ∙ ap (λ l. f.of_u64 (length (kept ++ v ∷ [])) ∷ l) (sym (pushed_append kept (v ∷ []) ops)) in
      sim_before (one_exact _) (then_exact (one_exact _) (one_exact _)) (sim_plain {put = λ _. f.of_u64 n ∷ below} tt (λ p ls w. refl) tt)
      (sim_before (one_exact _) (one_exact _) (sim_plain {put = λ _. f.of_u64 1 ∷ f.of_u64 n ∷ below} tt (λ p ls w. refl) tt)
      (sim_plain (true, kept ++ v ∷ []) (λ p ls w. ap (λ r. after (λ u w'. At (p + 1) (u ∷ below) ls w') (operated r w)) (laws.one_more n under) ∙ ap (λ o. At (p + 1) o ls w) same) (refl, omega (arith, size))))

  counting_sim : (u v : C) (kept ops : List C) → length kept + 1 < 2 ^ 64 → Simulates f code to (counting f) (u ∷ v ∷ counted_on ops kept) (Keeps kept) (λ r. counted_on ops r.1) (give (true, if f.is_true u then kept ++ v ∷ [] else kept))
  counting_sim u v kept ops under =
      sim_same (choose_given (f.is_true u) (kept ++ v ∷ []) kept true)
      (sim_branches u (then_exact (one_exact _) (then_exact (one_exact _) (one_exact _))) (one_exact _) (counts_one v kept ops under) (sim_plain (true, kept) (λ p ls w. refl) (refl, omega arith)))

  -- a turn of the filter pass
  keeping_sim : (e condition : Expr C) (v : C) (kept ops : List C) → IsTarget e → IsWhole condition → length kept + 1 < 2 ^ 64 → Simulates f code to (one DupTop ▸ target f e ▸ expr f condition ▸ counting f) (v ∷ counted_on ops kept) (Keeps kept) (λ r. counted_on ops r.1) (keep_if f e condition v kept)
  keeping_sim e condition v kept ops is whole under =
      sim_before (one_exact _) (then_exact (target_exact f e) (then_exact (expr_exact f condition) (counting_exact f))) (sim_plain {put = λ _. v ∷ v ∷ counted_on ops kept} tt (λ p ls w. refl) tt)
      (sim_then (target_exact f e) (then_exact (expr_exact f condition) (counting_exact f)) (assign_sim f laws code to e v (v ∷ counted_on ops kept) is) λ _ _.
      sim_then (expr_exact f condition) (counting_exact f) (expr_sim f laws code to condition whole (v ∷ counted_on ops kept)) λ u _.
      counting_sim u v kept ops under)

  given_turn : {s : State C F} {i j l : ℕ} {ops : List C} {ls : List Bool} (kept : List C) (m : Did C F (Bool × List C)) → l ≡ j + 1 → slice_get code j ≡ Some (Jump i) → Gives f code to s j (true ∷ ls) (Keeps kept) (λ r. counted_on ops r.1) m → Turns f code to (counted_on ops) length i l ls s (length kept) m
  given_turn {i = i} {j = j} {l = l} kept (Gave w r) is jump g =
      let goes = g.holds.0.0 in
      record { turns = (j, omega arith, jump ∙ ap (λ b. Some (Jump (if b then i else l))) (sym goes), g.comes, g.holds.0.1) }
  given_turn kept (Ended w e) is jump g = record { turns = raise f code to (omega arith) g.comes }

  built_kept : (p : ℕ) (kept ops : List C) (ls : List Bool) (w : World C) → length kept < 2 ^ 64 → built {E = Event ℕ C} {F = F} f.list p (popped_counted f None (counted_on ops kept)) ls w ≡ At (p + 1) (f.list kept ∷ ops) ls w
  unfolding built popped_counted popped_by
  built_kept p kept ops ls w under = ap (λ n. built f.list p (popped_by n (pushed kept ops)) ls w) (laws.count (length kept) under) ∙ ap (λ a. built f.list p a ls w) (pops kept ops)

  -- the filter pass over the value on top, whose count lies below it
  pass_sim : (e condition : Expr C) (v : C) (ops : List C) → IsTarget e → IsWhole condition → Simulates f code to (one (PushLoop 0) ▸ turning (plain (one DupTop ▸ target f e ▸ expr f condition ▸ counting f)) ▸ one PopLoopFrame ▸ one (BuildList None)) (v ∷ f.of_u64 0 ∷ ops) Any (λ u. u ∷ ops) (passing_meaning f e (present condition) v)
  pass_sim e condition v ops is whole = record {
    gives = λ h ls w few le stand.
        let p = one DupTop ▸ target f e ▸ expr f condition ▸ counting f in
        let h1 : Here = behind 1 h in
        let h2 : Here = behind 1 h1 in
        let i = h.place + 1 in
        let j = (p.past h2).place in
        let l = j + 1 in
        let x : Exits = record { break_to = l; continue_to = i } in
        let exact = keeping_exact f e condition in
        let more = grows (exact_to exact x) h2 in
        let stand1 = rest code stand in
        let looping_code = front code _ _ stand1 in
        let inner = rest code looping_code in
        let jump = first code (back code (p.code h2) _ (exact.ends x h2) inner) in
        let pop = back code ((turning (plain p)).code h1) _ ((turning_exact exact).ends h1) stand1 in
        then_gives f code to (omega arith) (asks f code to Any (λ _. f.of_u64 0 ∷ ops) none_fits (event None (events.PushLoop 0) [] (v ∷ [])) (v ∷ f.of_u64 0 ∷ ops) ls (false ∷ ls) w (λ us y c same. tt) (omega arith) (first code stand) refl few) λ _ w1 _ few1.
        then_looped f code to (counted_on ops) length i l ls (all_turns (keep_if f e condition) false [] w1) _ (omega arith)
        (all_turns_loop f code to (counted_on ops) length i l ls (keep_if f e condition) (first code looping_code) (omega arith) (omega arith)
        (λ u kept w2 few2.
        let few' : AreFew w2.answers = record { under = omega arith } in
        given_turn kept (keep_if f e condition u kept w2) refl jump ((keeping_sim e condition u kept ops is whole (omega arith)).gives h2 (true ∷ ls) w2 few' (omega arith) (front code _ _ inner)))
        false [] w1 (omega (arith, few1.under)))
        (λ r w2 few2.
        let few' : AreFew w2.answers = record { under = omega arith } in
        then_gives f code to (omega arith) (pops_loop l (counted_on ops r.1) r.0 ls w2 (omega arith) (first code pop) few') λ _ w3 _ few3.
        plain_gives f code to {put = λ u. u ∷ ops} (counted_on ops r.1) ls w3 (f.list r.1) (omega arith) (first code (rest code pop)) (built_kept (l + 1) r.1 ops ls w3 (omega arith)) tt few3);
  }

  -- what gives the items of a loop
  pub passing_sim : (e : Expr C) (only : Optional C) {p : Piece C} {m : Act C F C} (ops : List C) → IsTarget e → IsWholeIfAny only → Exact p → ((ops : List C) → Simulates f code to p ops Any (λ v. v ∷ ops) m) → Simulates f code to (passing f e only p) ops Any (λ u. u ∷ ops) (λ w. next (m w) (passing_meaning f e only))
  passing_sim e absent ops is whole exact s = sim_give (λ v. v) (λ v _. tt) (s ops)
  passing_sim e (present condition) ops is whole exact s =
      let last = then_exact (one_exact PopLoopFrame) (one_exact (BuildList None)) in
      let pass = then_exact (one_exact (PushLoop 0)) (then_exact (turning_exact (keeping_exact f e condition)) last) in
      sim_before (one_exact _) (then_exact exact pass) (sim_plain {put = λ _. f.of_u64 0 ∷ ops} tt (λ p ls w. refl) tt)
      (sim_then exact pass (s (f.of_u64 0 ∷ ops)) (λ v _. pass_sim e condition v ops is whole))
