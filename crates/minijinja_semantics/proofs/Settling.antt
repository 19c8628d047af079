-- A run that reaches the end of a unit, within the steps that it may take.
use Rattle.std.proofs.Common.{◌≡◌, ℕ, zero, suc, ◌+◌, ◌-◌, ◌*◌, ◌≤◌, List, [], ◌∷◌, ◌++◌, length, refl, sym, ap, ◌∙◌, subst, arith, eq-eqb}
use Rattle.std.specs.Prelude.{Bool, cond, slice_get}
use Rattle.std.proofs.lemmas.Bool.{ne_eqb}
use Rattle.minijinja_value.specs.Values.{Functions}
use Rattle.minijinja_semantics.specs.Events.{Answer, Gave, Ended}
use Rattle.minijinja_semantics.specs.Code.{Instr}
use Rattle.minijinja_semantics.specs.Machine.{At, after, act, AtPlace, AtReturn, Finish, finished, step, run, traced}
use Rattle.minijinja_semantics.specs.Naming.{state_as, event_of}
use Rattle.minijinja_semantics.specs.Brackets.{IsBalanced}
use Rattle.minijinja_semantics.specs.Correct.{fresh, Entry, over, DoesFrom}
use Rattle.minijinja_semantics.proofs.Placed.{World, Did, Act, State, bare, Stretch}
use Rattle.minijinja_semantics.proofs.Seen.{run_seen}
use Rattle.minijinja_semantics.proofs.Runs.{budget, run_then, Comes, Gives}

budget_is : {C : Type 0} (b : ℕ) (answers : List (Answer C)) → budget b answers ≡ length answers * b
budget_is b [] = omega arith
budget_is b (a ∷ answers) = omega (arith, budget_is b answers)

module _ {C F : Type 0} (f : Functions C F) (code : List (Instr C)) (finish : Finish) where
  stays_there : (z : State C F) → step f bare code finish z ≡ z → (n : ℕ) → run f bare code finish n z ≡ z
  unfolding run
  stays_there z fixed zero = refl
  stays_there z fixed (suc n) = ap (run f bare code finish n) fixed ∙ stays_there z fixed n

finished_fixed : {C F : Type 0} (f : Functions C F) (code : List (Instr C)) (finish : Finish) (ops : List C) (ls : List Bool) (w : World C) → step f bare code finish (finished finish ops ls w) ≡ finished finish ops ls w
unfolding step
finished_fixed f code (AtPlace end) ops ls w = ap (λ b. cond b (At end ops ls w) (act f bare (slice_get code end) end ops ls w)) (eq-eqb end end refl)
finished_fixed f code AtReturn ops ls w = refl

over_fixed : {C F X : Type 0} (f : Functions C F) (code : List (Instr C)) (u : Entry C X) (below : List C) (ls : List Bool) (m : Did C F X) → step f bare code u.finish (over u below ls m) ≡ over u below ls m
unfolding step
over_fixed f code u below ls (Gave w x) = finished_fixed f code u.finish _ ls w
over_fixed f code u below ls (Ended w e) = refl

-- the machine that notes where each event was asked comes to the same
seen_there : {C F : Type 0} (f : Functions C F) (code : List (Instr C)) (finish : Finish) (n p : ℕ) (ops : List C) (ls : List Bool) (answers : List (Answer C)) (z : State C F) → run f bare code finish n (At p ops ls (fresh answers)) ≡ z → state_as event_of (run f traced code finish n (At p ops ls (fresh answers))) ≡ z
seen_there f code finish n p ops ls answers z h = sym (run_seen event_of f traced code finish n (At p ops ls (fresh answers))) ∙ h

-- a stretch that comes to where the run is over, within the steps that the places and the answers
-- allow
pub settles : {C F X : Type 0} (f : Functions C F) (code : List (Instr C)) (to : Stretch) (u : Entry C X) (below : List C) (ls : List Bool) (answers : List (Answer C)) (m : Did C F X) → to.finish ≡ u.finish → to.end ≤ length code → IsBalanced m → Comes f code to (At u.place (u.given ++ below) ls (fresh answers)) (over u below ls m) to.end → DoesFrom f code u m below ls answers
settles {C} {F} f code to u below ls answers m same le balanced d =
    let z : State C F = over u below ls m in
    let s : State C F = At u.place (u.given ++ below) ls (fresh answers) in
    let b = d.bound in
    record {
      steps = d.steps;
      within = omega (arith, budget_is (length code + 1) answers);
      ends = λ k at_least.
          let e : k ≡ d.steps + (k - d.steps) = omega arith in
          seen_there f code u.finish k u.place (u.given ++ below) ls answers z
          (subst (λ finish. run f bare code finish k s ≡ z) same
          (ap (λ k. run f bare code to.finish k s) e ∙ run_then f code to d.steps (k - d.steps) s z d.gets
          ∙ stays_there f code to.finish z (subst (λ finish. step f bare code finish z ≡ z) (sym same) (over_fixed f code u below ls m)) (k - d.steps)));
      balanced = balanced;
    }

-- up to a place
abbrev pub up_to : ℕ → Stretch
up_to end = record { finish = AtPlace end; end = end; goes_on = λ p before. ne_eqb p end (λ same. absurd (omega (arith, same))) }

-- what comes to a place from where a unit is entered
pub does_by : {C F X : Type 0} (f : Functions C F) (code : List (Instr C)) (p end : ℕ) (given below : List C) {P : X → Type 0} (leaves : X → List C) (ls : List Bool) (answers : List (Answer C)) (m : Act C F X) → end ≤ length code → IsBalanced (m (fresh answers)) → Gives f code (up_to end) (At p (given ++ below) ls (fresh answers)) end ls P (λ x. leaves x ++ below) (m (fresh answers)) → DoesFrom f code (record { place = p; given = given; finish = AtPlace end; leaves = leaves }) (m (fresh answers)) below ls answers
does_by {C} {F} {X} f code p end given below leaves ls answers m le balanced g =
    settles f code (up_to end) (record { place = p; given = given; finish = AtPlace end; leaves = leaves }) below ls answers (m (fresh answers)) refl le balanced
    (subst (λ z. Comes f code (up_to end) (At p (given ++ below) ls (fresh answers)) z end) (over_is (m (fresh answers))) g.comes)
  where
    over_is : (d : Did C F X) → after (λ x w. At end (leaves x ++ below) ls w) d ≡ over (record { place = p; given = given; finish = AtPlace end; leaves = leaves }) below ls d
    over_is (Gave w x) = refl
    over_is (Ended w e) = refl
