-- Meanings and the machine do not depend on what is noted of events.
use Rattle.std.proofs.Common.{◌≡◌, ℕ, zero, suc, List, [], ◌∷◌, Option, Some, None, Result, Ok, Err, refl, ap, ◌∙◌}
use Rattle.std.specs.Prelude.{Bool, true, false, if◌then◌else◌, slice_get}
use Rattle.minijinja_syntax.specs.Texts.{Text}
use Rattle.minijinja_value.specs.Values.{Functions}
use Rattle.minijinja_tree.specs.Operators.{compute}
use Rattle.minijinja_tree.specs.Comparisons.{compares}
use Rattle.minijinja_semantics.specs.Events as event
use Rattle.minijinja_semantics.specs.Events.{Kind, Answer, Fault, Values, World, Did, Gave, Ended, Act, next, operated, fitted, answered, ask, none_fits, one_fits, item_fits, if_as_many, all_fit}
use Rattle.minijinja_semantics.specs.Code.{Instr, Load, Do, Call, Apply, UnpackList, PushLoop, Iterate, PopLoopFrame, PushDidNotIterate, BuildMacro, Operate, Neg, Not, IsUndefined, CompareAndPreserve, BuildMap, BuildKwargs, BuildList, BuildTuple, DupTop, DiscardTop, Swap, Jump, JumpIfFalse, JumpIfFalseOrPop, JumpIfTrueOrPop, Return}
use Rattle.minijinja_semantics.specs.Machine.{State, At, Returned, Halted, Jammed, after, Size, Nothing, OneValue, AllValues, size, popped, popped_pairs, popped_counted, Notes, did, asked, built, on_one, on_two, in_loop, iterated, act, Finish, is_over, step, run}
use Rattle.minijinja_semantics.specs.Naming.{record_as, world_as, did_as, state_as}

module _ {E E' : Type 0} (g : E → E') where
  pub next_as : {C F X Y : Type 0} (d : Did E C F X) (k : X → Act E C F Y) (k' : X → Act E' C F Y) → ((x : X) (w : World E C) → k' x (world_as g w) ≡ did_as g (k x w)) → next (did_as g d) k' ≡ did_as g (next d k)
  unfolding next
  next_as (Gave w x) k k' h = h x w
  next_as (Ended w e) k k' h = refl

  fitted_as : {C X : Type 0} (F : Type 0) (x : Option X) (e : E) (vs : List C) (taken : List (E × Answer C)) (rest : List (Answer C)) → fitted {F = F} x (g e) vs (record_as g taken) rest ≡ did_as g (fitted x e vs taken rest)
  unfolding fitted
  fitted_as F None e vs taken rest = refl
  fitted_as F (Some x) e vs taken rest = refl

  answered_as : {C X : Type 0} (F : Type 0) (fit : List C → Option X) (e : E) (taken : List (E × Answer C)) (answers : List (Answer C)) → answered {F = F} fit (g e) (record_as g taken) answers ≡ did_as g (answered fit e taken answers)
  unfolding answered
  answered_as F fit e taken [] = refl
  answered_as F fit e taken (Fault ∷ rest) = refl
  answered_as F fit e taken (Values vs ∷ rest) = fitted_as F (fit vs) e vs taken rest

  pub ask_as : {C X : Type 0} (F : Type 0) (fit : List C → Option X) (e : E) (w : World E C) → ask {F = F} fit (g e) (world_as g w) ≡ did_as g (ask fit e w)
  unfolding ask
  ask_as F fit e w = answered_as F fit e w.record_so_far w.answers

  pub operated_as : {C F X : Type 0} (r : Result X F) (w : World E C) → operated r (world_as g w) ≡ did_as g (operated r w)
  unfolding operated
  operated_as (Ok x) w = refl
  operated_as (Err e) w = refl

  module _ {C F : Type 0} (f : Functions C F) (note : Notes E C) where
    -- the same events, noted so
    abbrev pub noted : Notes E' C
    noted p e = g (note p e)

    after_as : {X : Type 0} (d : Did E C F X) (d' : Did E' C F X) (k : X → World E C → State E C F) (k' : X → World E' C → State E' C F) → d' ≡ did_as g d → ((x : X) (w : World E C) → k' x (world_as g w) ≡ state_as g (k x w)) → after k' d' ≡ state_as g (after k d)
    after_as (Gave w x) d' k k' e h = ap (after k') e ∙ h x w
    after_as (Ended w s) d' k k' e h = ap (after k') e

    did_seen : (s : Size) (e : E) (p : ℕ) (ops : List C) (ls : List Bool) (w : World E C) → did f s (g e) p ops ls (world_as g w) ≡ state_as g (did f s e p ops ls w)
    unfolding did
    did_seen Nothing e p ops ls w = after_as (ask none_fits e w) _ _ _ (ask_as F none_fits e w) (λ x w'. refl)
    did_seen OneValue e p ops ls w = after_as (ask one_fits e w) _ _ _ (ask_as F one_fits e w) (λ x w'. refl)
    did_seen AllValues e p ops ls w = after_as (ask all_fit e w) _ _ _ (ask_as F all_fit e w) (λ x w'. refl)

    asked_seen : (k : Kind) (t : Text) (p : ℕ) (a : Option (List C × List C)) (ls : List Bool) (w : World E C) → asked f noted k t p a ls (world_as g w) ≡ state_as g (asked f note k t p a ls w)
    unfolding asked
    asked_seen k t p None ls w = refl
    asked_seen k t p (Some a) ls w = did_seen (size k) (note p (event.event None k t a.0)) p a.1 ls w

    built_seen : {X : Type 0} (make : X → C) (p : ℕ) (a : Option (X × List C)) (ls : List Bool) (w : World E C) → built {F = F} make p a ls (world_as g w) ≡ state_as g (built make p a ls w)
    unfolding built
    built_seen make p None ls w = refl
    built_seen make p (Some a) ls w = refl

    on_one_seen : (ops : List C) (k : C → List C → State E C F) (k' : C → List C → State E' C F) → ((v : C) (below : List C) → k' v below ≡ state_as g (k v below)) → on_one ops k' ≡ state_as g (on_one ops k)
    on_one_seen [] k k' h = refl
    on_one_seen (v ∷ ops) k k' h = h v ops

    on_two_seen : (ops : List C) (k : C → C → List C → State E C F) (k' : C → C → List C → State E' C F) → ((u v : C) (below : List C) → k' u v below ≡ state_as g (k u v below)) → on_two ops k' ≡ state_as g (on_two ops k)
    on_two_seen [] k k' h = refl
    on_two_seen (v ∷ []) k k' h = refl
    on_two_seen (v ∷ u ∷ ops) k k' h = h u v ops

    in_loop_seen : (ls : List Bool) (k : Bool → List Bool → State E C F) (k' : Bool → List Bool → State E' C F) → ((l : Bool) (outer : List Bool) → k' l outer ≡ state_as g (k l outer)) → in_loop {C = C} ls k' ≡ state_as g (in_loop ls k)
    in_loop_seen [] k k' h = refl
    in_loop_seen (l ∷ ls) k k' h = h l ls

    iterated_seen : (past p : ℕ) (ops : List C) (came : Bool) (ls : List Bool) (item : Option C) (w : World E C) → iterated {F = F} past p ops came ls item (world_as g w) ≡ state_as g (iterated past p ops came ls item w)
    unfolding iterated
    iterated_seen past p ops came ls None w = refl
    iterated_seen past p ops came ls (Some v) w = refl

    either_seen : (b : Bool) (s t : State E C F) → (if b then state_as g s else state_as g t) ≡ state_as g (if b then s else t)
    either_seen true s t = refl
    either_seen false s t = refl

    act_seen : (i : Option (Instr C)) (p : ℕ) (ops : List C) (ls : List Bool) (w : World E C) → act f noted i p ops ls (world_as g w) ≡ state_as g (act f note i p ops ls w)
    act_seen None p ops ls w = refl
    act_seen (Some (Load c)) p ops ls w = refl
    act_seen (Some (Do k t n)) p ops ls w = asked_seen k t p (popped n ops []) ls w
    act_seen (Some (Call k t n)) p ops ls w = asked_seen k t p (popped_counted f n ops) ls w
    act_seen (Some (Apply k t n id)) p ops ls w = asked_seen k t p (popped_counted f n ops) ls w
    act_seen (Some (UnpackList n)) p ops ls w = on_one_seen ops _ _ (λ v below. after_as (ask (if_as_many n) _ w) _ _ _ (ask_as F (if_as_many n) _ w) (λ vs w'. refl))
    act_seen (Some (PushLoop flags)) p ops ls w = on_one_seen ops _ _ (λ v below. after_as (ask none_fits _ w) _ _ _ (ask_as F none_fits _ w) (λ x w'. refl))
    act_seen (Some (Iterate past)) p ops ls w = in_loop_seen ls _ _ (λ came outer. after_as (ask item_fits _ w) _ _ _ (ask_as F item_fits _ w) (iterated_seen past p ops came outer))
    act_seen (Some PopLoopFrame) p ops ls w = in_loop_seen ls _ _ (λ came outer. after_as (ask none_fits _ w) _ _ _ (ask_as F none_fits _ w) (λ x w'. refl))
    act_seen (Some PushDidNotIterate) p ops ls w = in_loop_seen ls _ _ (λ came outer. refl)
    act_seen (Some (BuildMacro x body flags)) p ops ls w = on_two_seen ops _ _ (λ a b below. after_as (ask one_fits _ w) _ _ _ (ask_as F one_fits _ w) (λ v w'. refl))
    act_seen (Some (Operate o)) p ops ls w = on_two_seen ops _ _ (λ a b below. after_as (operated (compute f o a b) w) _ _ _ (operated_as (compute f o a b) w) (λ v w'. refl))
    act_seen (Some Neg) p ops ls w = on_one_seen ops _ _ (λ a below. after_as (operated (f.neg a) w) _ _ _ (operated_as (f.neg a) w) (λ v w'. refl))
    act_seen (Some Not) p ops ls w = on_one_seen ops _ _ (λ a below. refl)
    act_seen (Some IsUndefined) p ops ls w = on_one_seen ops _ _ (λ a below. refl)
    act_seen (Some (CompareAndPreserve o)) p ops ls w = on_two_seen ops _ _ (λ a b below. after_as (operated (compares f o a b) w) _ _ _ (operated_as (compares f o a b) w) (λ holds w'. refl))
    act_seen (Some (BuildMap n)) p ops ls w = built_seen f.map p (popped_pairs n ops []) ls w
    act_seen (Some (BuildKwargs n)) p ops ls w = built_seen f.kwargs p (popped_pairs n ops []) ls w
    act_seen (Some (BuildList n)) p ops ls w = built_seen f.list p (popped_counted f n ops) ls w
    act_seen (Some (BuildTuple n)) p ops ls w = built_seen f.tuple p (popped_counted f n ops) ls w
    act_seen (Some DupTop) p ops ls w = on_one_seen ops _ _ (λ a below. refl)
    act_seen (Some DiscardTop) p ops ls w = on_one_seen ops _ _ (λ a below. refl)
    act_seen (Some Swap) p ops ls w = on_two_seen ops _ _ (λ a b below. refl)
    act_seen (Some (Jump l)) p ops ls w = refl
    act_seen (Some (JumpIfFalse l)) p ops ls w = on_one_seen ops _ _ (λ a below. either_seen (f.is_true a) _ _)
    act_seen (Some (JumpIfFalseOrPop l)) p ops ls w = on_one_seen ops _ _ (λ a below. either_seen (f.is_true a) _ _)
    act_seen (Some (JumpIfTrueOrPop l)) p ops ls w = on_one_seen ops _ _ (λ a below. either_seen (f.is_true a) _ _)
    act_seen (Some Return) p ops ls w = refl

    over_seen : (b : Bool) (s t : State E C F) (t' : State E' C F) → t' ≡ state_as g t → (if b then state_as g s else t') ≡ state_as g (if b then s else t)
    over_seen true s t t' h = refl
    over_seen false s t t' h = h

    step_seen : (code : List (Instr C)) (finish : Finish) (s : State E C F) → step f noted code finish (state_as g s) ≡ state_as g (step f note code finish s)
    unfolding step
    step_seen code finish (At p ops ls w) = over_seen (is_over finish p) (At p ops ls w) _ _ (act_seen (slice_get code p) p ops ls w)
    step_seen code finish (Returned ops ls w) = refl
    step_seen code finish (Halted w e) = refl
    step_seen code finish Jammed = refl

    pub run_seen : (code : List (Instr C)) (finish : Finish) (n : ℕ) (s : State E C F) → run f noted code finish n (state_as g s) ≡ state_as g (run f note code finish n s)
    unfolding run
    run_seen code finish zero s = refl
    run_seen code finish (suc n) s = ap (run f noted code finish n) (step_seen code finish s) ∙ run_seen code finish n (step f note code finish s)
