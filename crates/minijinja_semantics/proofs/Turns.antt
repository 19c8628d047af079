-- The turns of a loop.
use Rattle.std.proofs.Common.{◌≡◌, ℕ, zero, suc, ◌+◌, ◌<◌, ◌≤◌, ◌^◌, List, [], ◌∷◌, length, Some, None, refl, sym, ◌∙◌, arith, ⊎_elim}
use Rattle.std.specs.Prelude.{Bool, true, false, if◌then◌else◌, slice_get}
use Rattle.std.proofs.lemmas.Bool.{cases_lt}
use Rattle.std.proofs.lemmas.Option.{slice_get_past}
use Rattle.minijinja_value.specs.Values.{Functions}
use Rattle.minijinja_semantics.specs.Events.{Event, Answer, Fault, Values, Iterate, Gave, Ended, next, give, choose, fitted, answered, ask, event}
use Rattle.minijinja_semantics.specs.Answers.{volume, AreFew}
use Rattle.minijinja_semantics.specs.Meaning.{LoopTurn, with_item, turns, all_turns}
use Rattle.minijinja_semantics.specs.Code as code_of
use Rattle.minijinja_semantics.specs.Code.{Instr, Jump}
use Rattle.minijinja_semantics.specs.Machine.{At, Halted, after, iterated}
use Rattle.minijinja_semantics.proofs.Placed.{World, Did, Act, State, Stretch}
use Rattle.minijinja_semantics.proofs.Runs.{place, left_all, left_more, Comes, raise, comes_then, asking_comes, step_comes, around, Gives, from}

-- an instruction stands within the code
pub within : {C : Type 0} (code : List (Instr C)) (p : ℕ) (i : Instr C) → slice_get code p ≡ Some i → p < length code
within code p i h =
    ⊎_elim (λ lt. lt) (λ le. let e : None ≡ Some i = sym (slice_get_past code p le) ∙ h in absurd (cc)) (cases_lt p (length code))

-- A loop in the code: it asks for items at i and ends at l. What its turns keep is put on the
-- operands, and counted: each turn counts at most one more.
module _ {C F S : Type 0} (f : Functions C F) (code : List (Instr C)) (to : Stretch) (put : S → List C) (counted : S → ℕ) (i l : ℕ) (ls : List Bool) where
  -- the jump that a turn ends with stands where it has come to
  abbrev TurnsBy : State C F → ℕ → Did C F (Bool × S) → Type 0
  TurnsBy s n (Gave w r) = (a : ℕ) × (a < l) × (slice_get code a ≡ Some (Jump (if r.0 then i else l))) × Comes f code to s (At a (put r.1) (true ∷ ls) w) a × (counted r.1 ≤ n + 1)
  TurnsBy s n (Ended w e) = Comes f code to s (Halted w e) l

  -- from a state a turn does what is meant, where n were counted
  pub record Turns (s : State C F) (n : ℕ) (m : Did C F (Bool × S)) : Type 0 where
    pub turns : TurnsBy s n m

  -- not too many were counted, with the answers to come
  abbrev CountedFew : Did C F (Bool × S) → Type 0
  CountedFew (Gave w r) = counted r.1 + volume w.answers < 2 ^ 64
  CountedFew (Ended w e) = Unit {0}

  -- from a state the loop comes to its end
  pub record Looped (s : State C F) (m : Did C F (Bool × S)) : Type 0 where
    pub comes : Comes f code to s (after (λ r w. At l (put r.1) (r.0 ∷ ls) w) m) l
    pub few : CountedFew m

  pub turns_from : {s s' : State C F} {q n : ℕ} {m : Did C F (Bool × S)} → q ≤ place s' → Comes f code to s s' q → Turns s' n m → Turns s n m
  turns_from {m = Gave w r} le c t = record { turns = (t.turns.0, t.turns.1, t.turns.2, comes_then f code to le c t.turns.3, t.turns.4) }
  turns_from {m = Ended w e} le c t = record { turns = comes_then f code to le c t.turns }

  pub then_turns : {X : Type 0} {s : State C F} {q n : ℕ} {ls' : List Bool} {P : X → Type 0} {put' : X → List C} (m : Did C F X) (k : X → Act C F (Bool × S)) → q ≤ l → Gives f code to s q ls' P put' m → ((x : X) (w : World C) → P x → AreFew w.answers → Turns (At q (put' x) ls' w) n (k x w)) → Turns s n (next m k)
  unfolding next
  then_turns (Gave w x) k le g h = turns_from (omega arith) g.comes (h x w g.holds.0 g.holds.1)
  then_turns (Ended w e) k le g h = record { turns = raise f code to le g.comes }

  module _ (turn : LoopTurn ℕ C F S) (asks : slice_get code i ≡ Some (code_of.Iterate l)) (above : i < l) (le : l ≤ to.end) (bodies : (v : C) (s : S) (w : World C) → counted s + 1 + volume w.answers < 2 ^ 64 → Turns (At (i + 1) (v ∷ put s) (true ∷ ls) w) (counted s) (turn v s w)) where
    -- the world before the question for an item, and after the answer
    abbrev world : List (Event ℕ C × Answer C) → List (Answer C) → World C
    world taken answers = record { record_so_far = taken; answers = answers }

    abbrev with_answer : Answer C → List (Event ℕ C × Answer C) → List (Answer C) → World C
    with_answer a taken answers = world ((event None Iterate [] [], a) ∷ taken) answers

    -- a turn that goes on, or leaves the loop
    turned : (n : ℕ) (v : C) (came goes : Bool) (s s' : S) (taken : List (Event ℕ C × Answer C)) (answers : List (Answer C)) (w : World C) (a : ℕ) → ((w : World C) → length w.answers ≤ n → counted s' + volume w.answers < 2 ^ 64 → Looped (At i (put s') (true ∷ ls) w) (turns n turn true s' w)) → length answers ≤ n → counted s + 2 + volume answers < 2 ^ 64 → a < l → slice_get code a ≡ Some (Jump (if goes then i else l)) → Comes f code to (At (i + 1) (v ∷ put s) (true ∷ ls) (with_answer (Values (v ∷ [])) taken answers)) (At a (put s') (true ∷ ls) w) a → counted s' ≤ counted s + 1 → Looped (At i (put s) (came ∷ ls) (world taken (Values (v ∷ []) ∷ answers))) (choose goes (turns n turn true s') (give (true, s')) w)
    unfolding choose ask answered fitted iterated
    turned n v came true s s' taken answers w a again few count lt jump c one_more =
        let left = c.left in
        let others = again w (omega (arith, left.fewer)) (omega (arith, left.less)) in
        record {
          comes = around f code to (Values (v ∷ [])) refl (omega arith) asks refl c (omega arith) (within code a _ jump) jump others.comes;
          few = others.few;
        }
    turned n v came false s s' taken answers w a again few count lt jump c one_more =
        let left = c.left in
        let item = asking_comes f code to (put s) (came ∷ ls) (world taken (Values (v ∷ []) ∷ answers)) (At (i + 1) (v ∷ put s) (true ∷ ls) (with_answer (Values (v ∷ [])) taken answers)) (i + 1) (left_more (left_all answers)) (omega arith) asks refl (omega arith) in
        let out = step_comes f code to (put s') (true ∷ ls) w (At l (put s') (true ∷ ls) w) l refl (omega arith) jump refl (omega arith) in
        record {
          comes = comes_then f code to (omega arith) item (comes_then f code to (omega arith) c out);
          few = omega (arith, left.less);
        }

    -- what a turn comes to, and the others
    turned_by : (n : ℕ) (v : C) (came : Bool) (s : S) (taken : List (Event ℕ C × Answer C)) (answers : List (Answer C)) (m : Did C F (Bool × S)) → ((s' : S) (w : World C) → length w.answers ≤ n → counted s' + volume w.answers < 2 ^ 64 → Looped (At i (put s') (true ∷ ls) w) (turns n turn true s' w)) → length answers ≤ n → counted s + 2 + volume answers < 2 ^ 64 → Turns (At (i + 1) (v ∷ put s) (true ∷ ls) (with_answer (Values (v ∷ [])) taken answers)) (counted s) m → Looped (At i (put s) (came ∷ ls) (world taken (Values (v ∷ []) ∷ answers))) (next m (λ r. choose r.0 (turns n turn true r.1) (give (true, r.1))))
    unfolding next ask answered fitted iterated
    turned_by n v came s taken answers (Gave w r) again few count t = turned n v came r.0 s r.1 taken answers w t.turns.0 (again r.1) few count t.turns.1 t.turns.2 t.turns.3 t.turns.4
    turned_by n v came s taken answers (Ended w e) again few count t =
        let item = asking_comes f code to (put s) (came ∷ ls) (world taken (Values (v ∷ []) ∷ answers)) (At (i + 1) (v ∷ put s) (true ∷ ls) (with_answer (Values (v ∷ [])) taken answers)) (i + 1) (left_more (left_all answers)) (omega arith) asks refl (omega arith) in
        record { comes = comes_then f code to (omega arith) item t.turns; few = tt }

    turns_loop : (n : ℕ) (came : Bool) (s : S) (taken : List (Event ℕ C × Answer C)) (answers : List (Answer C)) → length answers ≤ n → counted s + volume answers < 2 ^ 64 → Looped (At i (put s) (came ∷ ls) (world taken answers)) (turns n turn came s (world taken answers))
    unfolding turns with_item next ask answered fitted iterated
    turns_loop zero came s taken [] fuel count = record { comes = asking_comes f code to (put s) (came ∷ ls) (world taken []) _ l (left_all []) (omega arith) asks refl (omega arith); few = tt }
    turns_loop zero came s taken (a ∷ answers) fuel count = absurd (omega arith)
    turns_loop (suc n) came s taken [] fuel count = record { comes = asking_comes f code to (put s) (came ∷ ls) (world taken []) _ l (left_all []) (omega arith) asks refl (omega arith); few = tt }
    turns_loop (suc n) came s taken (Fault ∷ answers) fuel count = record { comes = asking_comes f code to (put s) (came ∷ ls) (world taken (Fault ∷ answers)) _ l (left_more (left_all answers)) (omega arith) asks refl (omega arith); few = tt }
    turns_loop (suc n) came s taken (Values [] ∷ answers) fuel count = record { comes = asking_comes f code to (put s) (came ∷ ls) (world taken (Values [] ∷ answers)) _ l (left_more (left_all answers)) (omega arith) asks refl (omega arith); few = omega arith }
    turns_loop (suc n) came s taken (Values (v ∷ []) ∷ answers) fuel count = turned_by n v came s taken answers _ (λ s' w le' count'. turns_loop n true s' w.record_so_far w.answers le' count') (omega arith) (omega arith) (bodies v s (with_answer (Values (v ∷ [])) taken answers) (omega arith))
    turns_loop (suc n) came s taken (Values (v ∷ u ∷ vs) ∷ answers) fuel count = record { comes = asking_comes f code to (put s) (came ∷ ls) (world taken (Values (v ∷ u ∷ vs) ∷ answers)) _ l (left_more (left_all answers)) (omega arith) asks refl (omega arith); few = tt }

    -- all of them
    pub all_turns_loop : (came : Bool) (s : S) (w : World C) → counted s + volume w.answers < 2 ^ 64 → Looped (At i (put s) (came ∷ ls) w) (all_turns turn came s w)
    unfolding all_turns
    all_turns_loop came s w count = turns_loop (length w.answers) came s w.record_so_far w.answers (omega arith) count

  -- a loop, and what follows on it
  pub then_looped : {Y : Type 0} {s : State C F} {q : ℕ} {ls' : List Bool} {P : Y → Type 0} {put' : Y → List C} (m : Did C F (Bool × S)) (k : (Bool × S) → Act C F Y) → l ≤ q → Looped s m → ((r : Bool × S) (w : World C) → counted r.1 + volume w.answers < 2 ^ 64 → Gives f code to (At l (put r.1) (r.0 ∷ ls) w) q ls' P put' (k r w)) → Gives f code to s q ls' P put' (next m k)
  unfolding next
  then_looped (Gave w r) k le g h = from f code to (omega arith) g.comes (h r w g.few)
  then_looped (Ended w e) k le g h = record { comes = raise f code to le g.comes; holds = tt }
