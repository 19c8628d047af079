-- The code of comparisons, and of expressions in order and in pairs.
use Rattle.std.proofs.Common.{◌≡◌, ℕ, suc, ◌+◌, ◌≤◌, List, [], ◌∷◌, length, Some, Result, Ok, Err, refl, ap, arith}
use Rattle.std.specs.Prelude.{Bool, true, false, not, cond, slice_get}
use Rattle.minijinja_value.specs.Values.{Functions}
use Rattle.minijinja_semantics.specs.Laws.{Laws}
use Rattle.minijinja_tree.specs.CompareOps.{CompareOp, eq, ne, lt, lte, gt, gte, is_in, not_in}
use Rattle.minijinja_tree.specs.Comparisons.{is_less, is_at_most, is_greater, is_at_least, on_ok, compares}
use Rattle.minijinja_tree.specs.Operators.{compute}
use Rattle.minijinja_semantics.specs.Events.{next, give, choose, operated}
use Rattle.minijinja_semantics.specs.Answers.{AreFew}
use Rattle.minijinja_semantics.specs.Meaning.{in_pairs}
use Rattle.minijinja_semantics.specs.Code.{Instr, Jump, JumpIfFalseOrPop, Swap, DiscardTop}
use Rattle.minijinja_semantics.specs.Pieces.{Here, behind, Piece, plain}
use Rattle.minijinja_semantics.specs.Layout.{comparison, Failing, and_then, chained, paired}
use Rattle.minijinja_semantics.specs.Machine.{At, after}
use Rattle.minijinja_semantics.proofs.Placed.{World, Act, State, Stretch}
use Rattle.minijinja_semantics.proofs.Runs.{Any, Stands, front, back, first, rest, step_comes, Gives, then_gives, from, here, then_jumps, operator_gives}
use Rattle.minijinja_semantics.proofs.Lengths.{Exact, grows, LeadingExact, exact_to, one_exact, then_exact, AllExact, paired_exact}
use Rattle.minijinja_semantics.proofs.Parts.{Simulates, sim_then, sim_same, sim_give, sim_nothing, sim_plain, sim_operator}
use Rattle.minijinja_semantics.proofs.Arguments.{pushed_pairs}

-- what follows on a comparison: where it holds the others, otherwise false
abbrev pub on_holding : {C F : Type 0} → Functions C F → Act C F C → Bool → Act C F C
on_holding f others holds = choose holds others (give (f.of_bool false))

module _ {C F : Type 0} (f : Functions C F) where
  -- the truth value of a comparison is what the chain that ends there gives
  answer_is : (r : Result Bool F) (w : World C) → operated (on_ok f.of_bool r) w ≡ next (operated r w) (on_holding f (give (f.of_bool true)))
  unfolding operated next choose
  answer_is (Ok true) w = refl
  answer_is (Ok false) w = refl
  answer_is (Err e) w = refl

  opposite_is : (r : Result Bool F) (w : World C) → next (operated r w) (λ b. give (f.of_bool (not b))) ≡ next (operated (on_ok not r) w) (on_holding f (give (f.of_bool true)))
  unfolding operated next choose
  opposite_is (Ok true) w = refl
  opposite_is (Ok false) w = refl
  opposite_is (Err e) w = refl

  after_ok : {X Y : Type 0} (g : X → Y) (k : Y → World C → State C F) (r : Result X F) (w : World C) → after k (operated (on_ok g r) w) ≡ after (λ x w'. k (g x) w') (operated r w)
  unfolding operated
  after_ok g k (Ok x) w = refl
  after_ok g k (Err e) w = refl

module _ {C F : Type 0} (f : Functions C F) (code : List (Instr C)) (to : Stretch) where
  -- Over two operands the comparisons do what is meant: they come to a jump past what drops a kept
  -- operand, or to that.
  pub record SimulatesFailing (p : Failing C) (a b : C) (ops : List C) (m : Act C F C) : Type 0 where
    pub gives : (h : Here) (ls : List Bool) (w : World C) → AreFew w.answers → (p.past h).place + 1 + 1 + 1 ≤ to.end → Stands code h.place (p.code ((p.past h).place + 1) h) → Stands code (p.past h).place (Jump ((p.past h).place + 1 + 1 + 1) ∷ Swap ∷ DiscardTop ∷ []) → Gives f code to (At h.place (b ∷ a ∷ ops) ls w) ((p.past h).place + 1 + 1 + 1) ls Any (λ v. v ∷ ops) (m w)

  -- pieces, each of which gives a value
  abbrev pub AllSimulate : List (Piece C) → List (Act C F C) → Type 0
  AllSimulate [] [] = Unit {0}
  AllSimulate (p ∷ ps) (m ∷ ms) = ((ops : List C) → Simulates f code to p ops Any (λ v. v ∷ ops) m) × AllSimulate ps ms
  AllSimulate _ _ = ⊥

module _ {C F : Type 0} {f : Functions C F} (laws : Laws f) {code : List (Instr C)} {to : Stretch} where
  -- the last comparison of a chain
  pub comparison_sim : (o : CompareOp) (a b : C) (ops : List C) → Simulates f code to (comparison o) (b ∷ a ∷ ops) Any (λ v. v ∷ ops) (λ w. next (operated (compares f o a b) w) (on_holding f (give (f.of_bool true))))
  unfolding compares compute
  comparison_sim eq a b ops = sim_same (answer_is f (Ok (f.equals a b))) (sim_operator (Ok (f.of_bool (f.equals a b))) (λ p ls w. refl))
  comparison_sim ne a b ops = sim_same (answer_is f (Ok (not (f.equals a b)))) (sim_operator (Ok (f.of_bool (not (f.equals a b)))) (λ p ls w. refl))
  comparison_sim lt a b ops = sim_same (answer_is f (Ok (is_less (f.order a b)))) (sim_operator (Ok (f.of_bool (is_less (f.order a b)))) (λ p ls w. refl))
  comparison_sim lte a b ops = sim_same (answer_is f (Ok (is_at_most (f.order a b)))) (sim_operator (Ok (f.of_bool (is_at_most (f.order a b)))) (λ p ls w. refl))
  comparison_sim gt a b ops = sim_same (answer_is f (Ok (is_greater (f.order a b)))) (sim_operator (Ok (f.of_bool (is_greater (f.order a b)))) (λ p ls w. refl))
  comparison_sim gte a b ops = sim_same (answer_is f (Ok (is_at_least (f.order a b)))) (sim_operator (Ok (f.of_bool (is_at_least (f.order a b)))) (λ p ls w. refl))
  comparison_sim is_in a b ops = sim_same (answer_is f (f.contains b a)) (sim_operator (on_ok f.of_bool (f.contains b a)) (λ p ls w. refl))
  comparison_sim not_in a b ops =
      sim_same (opposite_is f (f.contains b a))
      (sim_then (one_exact _) (one_exact _) (sim_operator (f.contains b a) (λ p ls w. after_ok f f.of_bool (λ v w'. At (p + 1) (v ∷ ops) ls w') (f.contains b a) w)) (λ holds _.
      sim_plain (f.of_bool (not holds)) (λ p ls w. ap (λ t. At (p + 1) (f.of_bool (not t) ∷ ops) ls w) (laws.truth holds)) tt))

  pub last_sim : {p : Piece C} {a b : C} {ops : List C} {m : Act C F C} → Exact p → Simulates f code to p (b ∷ a ∷ ops) Any (λ v. v ∷ ops) m → SimulatesFailing f code to (plain p) a b ops m
  last_sim {p = p} {ops = ops} e s = record {
    gives = λ h ls w few le stand leave.
        let leads = (p.past h).place + 1 + 1 + 1 in
        then_jumps f code to (omega arith) (λ v w'. step_comes f code to (v ∷ ops) ls w' (At leads (v ∷ ops) ls w') leads refl (omega arith) (first code leave) refl (omega arith)) (s.gives h ls w few (omega arith) stand);
  }

  -- after a comparison: where it holds the code goes on, otherwise the kept operand is dropped
  holding : (holds : Bool) (b : C) (at q : ℕ) (ops : List C) (ls : List Bool) (w : World C) (m : Act C F C) → AreFew w.answers → at + 1 ≤ q → q + 1 + 1 + 1 ≤ to.end → slice_get code at ≡ Some (JumpIfFalseOrPop (q + 1)) → Stands code q (Jump (q + 1 + 1 + 1) ∷ Swap ∷ DiscardTop ∷ []) → Gives f code to (At (at + 1) (b ∷ ops) ls w) (q + 1 + 1 + 1) ls Any (λ v. v ∷ ops) (m w) → Gives f code to (At at (f.of_bool holds ∷ b ∷ ops) ls w) (q + 1 + 1 + 1) ls Any (λ v. v ∷ ops) (on_holding f m holds w)
  unfolding choose
  holding true b at q ops ls w m few le le' jump leave g =
      from f code to (omega arith) (step_comes f code to (f.of_bool true ∷ b ∷ ops) ls w (At (at + 1) (b ∷ ops) ls w) (at + 1) refl (omega arith) jump (ap (λ t. cond t (At (at + 1) (b ∷ ops) ls w) (At (q + 1) (f.of_bool true ∷ b ∷ ops) ls w)) (laws.truth true)) (omega arith)) g
  holding false b at q ops ls w m few le le' jump leave g =
      let no = f.of_bool false in
      let swap = rest code leave in
      from f code to (omega arith) (step_comes f code to (no ∷ b ∷ ops) ls w (At (q + 1) (no ∷ b ∷ ops) ls w) (q + 1) refl (omega arith) jump (ap (λ t. cond t (At (at + 1) (b ∷ ops) ls w) (At (q + 1) (no ∷ b ∷ ops) ls w)) (laws.truth false)) (omega arith))
      (from f code to (omega arith) (step_comes f code to (no ∷ b ∷ ops) ls w (At (q + 1 + 1) (b ∷ no ∷ ops) ls w) (q + 1 + 1) refl (omega arith) (first code swap) refl (omega arith))
      (from f code to (omega arith) (step_comes f code to (b ∷ no ∷ ops) ls w (At (q + 1 + 1 + 1) (no ∷ ops) ls w) (q + 1 + 1 + 1) refl (omega arith) (first code (rest code swap)) refl (omega arith))
      (here f code to no w tt few)))

  -- a comparison, the next operand, and the others
  pub and_then_sim : (o : CompareOp) {p : Piece C} {r : Failing C} (a b : C) {ops : List C} {m : Act C F C} {n : C → Act C F C} → Exact p → LeadingExact r → ((ops : List C) → Simulates f code to p ops Any (λ v. v ∷ ops) m) → ((u : C) → SimulatesFailing f code to r b u ops (n u)) → SimulatesFailing f code to (and_then o p r) a b ops (λ w. next (operated (compares f o a b) w) (on_holding f (λ w. next (m w) n)))
  and_then_sim o {p} {r} a b {ops} {m} {n} e e' s k = record {
    gives = λ h ls w few le stand leave.
        let q = ((and_then o p r).past h).place in
        let h2 : Here = behind 1 (behind 1 h) in
        let more = grows e h2 in
        let most = grows (exact_to e' 0) (p.past h2) in
        let jump = rest code stand in
        let inner = rest code jump in
        then_gives f code to (omega arith) (operator_gives f code to {put = λ t. f.of_bool t ∷ b ∷ ops} (b ∷ a ∷ ops) ls w (compares f o a b) (omega arith) (first code stand) refl few) λ holds w1 ok few1.
        holding holds b (h.place + 1) q ops ls w1 (λ w. next (m w) n) few1 (omega arith) le (first code jump) leave
        (then_gives f code to (omega arith) ((s (b ∷ ops)).gives h2 ls w1 few1 (omega arith) (front code _ _ inner)) λ u w2 ok2 few2.
        (k u).gives (p.past h2) ls w2 few2 le (back code (p.code h2) _ (e.ends h2) inner) leave);
  }

  -- the second operand of a chain and its comparisons
  pub chained_sim : {p : Piece C} {r : Failing C} (a : C) {ops : List C} {m : Act C F C} {n : C → Act C F C} → Exact p → LeadingExact r → ((ops : List C) → Simulates f code to p ops Any (λ v. v ∷ ops) m) → ((u : C) → SimulatesFailing f code to r a u ops (n u)) → Simulates f code to (chained p r) (a ∷ ops) Any (λ v. v ∷ ops) (λ w. next (m w) n)
  chained_sim {p} {r} a {ops} {m} {n} e e' s k = record {
    gives = λ h ls w few le stand.
        let q = (r.past (p.past h)).place in
        let most = grows (exact_to e' 0) (p.past h) in
        let inner = back code (p.code h) _ (e.ends h) stand in
        let leave = back code (r.code (q + 1) (p.past h)) _ (e'.ends (q + 1) (p.past h)) inner in
        then_gives f code to (omega arith) ((s (a ∷ ops)).gives h ls w few (omega arith) (front code _ _ stand)) λ u w1 ok few1.
        (k u).gives (p.past h) ls w1 few1 le (front code _ _ inner) leave;
  }

  -- keys and as many values in turn
  pub paired_sim : (ps qs : List (Piece C)) (ms ns : List (Act C F C)) (ops : List C) → length ps ≡ length qs → AllExact ps → AllExact qs → AllSimulate f code to ps ms → AllSimulate f code to qs ns → Simulates f code to (paired ps qs) ops (λ r. length r ≡ length ps) (λ r. pushed_pairs r ops) (in_pairs ms ns)
  paired_sim [] qs [] ns ops many e e' s s' = sim_nothing [] refl
  paired_sim [] qs (m ∷ ms) ns ops many e e' s s' = absurd s
  paired_sim (p ∷ ps) qs [] ns ops many e e' s s' = absurd s
  paired_sim (p ∷ ps) [] (m ∷ ms) ns ops many e e' s s' = absurd (omega arith)
  paired_sim (p ∷ ps) (q ∷ qs) (m ∷ ms) [] ops many e e' s s' = absurd s'
  paired_sim (p ∷ ps) (q ∷ qs) (m ∷ ms) (n ∷ ns) ops many e e' s s' =
      let e2 = paired_exact ps qs e.1 e'.1 in
      sim_then e.0 (then_exact e'.0 e2) (s.0 ops) λ x _.
      sim_then e'.0 e2 (s'.0 (x ∷ ops)) λ y _.
      sim_give (λ r. (x, y) ∷ r) (λ r many. ap suc many) (paired_sim ps qs ms ns (y ∷ x ∷ ops) (omega arith) e.1 e'.1 s.1 s'.1)
