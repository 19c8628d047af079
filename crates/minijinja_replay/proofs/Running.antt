-- A run, step by step.
use Rattle.std.proofs.Common.{rules, inl, inr, ◌≡◌, ℕ, zero, suc, ◌+◌, ◌-◌, ◌<◌, ◌≤◌, List, Option, Some, None, refl, ap, ◌∙◌, sym, subst, arith}
use Rattle.std.proofs.lemmas.Bool.{cases_lt}
use Rattle.std.specs.Prelude.{◌⊎◌, Bool, true, false, IsSome, slice_get, if◌then◌else◌}
use Rattle.minijinja_value.specs.Values.{Functions}
use Rattle.minijinja_semantics.specs.Events.{World}
use Rattle.minijinja_semantics.specs.Code.{Instr}
use Rattle.minijinja_semantics.specs.Machine.{State, At, Returned, Halted, Jammed, Finish, is_over, Notes, act, step, run}
use Rattle.minijinja_replay.specs.Replay.{Ending, Finished, ending}

-- what is something is some
pub is_some_of : {X : Type 0} (o : Option X) (x : X) → o ≡ Some x → IsSome o
is_some_of o x e = subst IsSome (sym e) refl

-- some is not none
some_none : {X : Type 0} {x : X} → Some x ≡ None → ⊥
some_none h = search rules

module _ {E C F : Type 0} (f : Functions C F) (note : Notes E C) (code : List (Instr C)) (finish : Finish) where
  none_some : {X : Type 0} {x : X} → None ≡ Some x → ⊥
  none_some h = some_none (sym h)

  -- where the test of being over holds, nothing is done
  stays_if : (b : Bool) (s t : State E C F) (e : Ending F) → (if b then Some Finished else None) ≡ Some e → (if b then s else t) ≡ s
  stays_if true s t e h = refl
  stays_if false s t e h = absurd (none_some h)

  -- where it is over, it stays
  pub stays : (s : State E C F) (e : Ending F) → ending finish s ≡ Some e → step f note code finish s ≡ s
  unfolding step
  stays (At p ops ls w) e h = stays_if (is_over finish p) (At p ops ls w) (act f note (slice_get code p) p ops ls w) e h
  stays (Returned ops ls w) e h = refl
  stays (Halted w x) e h = refl
  stays Jammed e h = refl

  -- what a step leaves as it is, a run leaves as it is
  pub run_stays : (n : ℕ) (s : State E C F) → step f note code finish s ≡ s → run f note code finish n s ≡ s
  unfolding run
  run_stays zero s h = refl
  run_stays (suc n) s h = ap (run f note code finish n) h ∙ run_stays n s h

  -- one step more
  pub run_suc : (n : ℕ) (s : State E C F) → run f note code finish (suc n) s ≡ step f note code finish (run f note code finish n s)
  unfolding run
  run_suc zero s = refl
  run_suc (suc n) s = run_suc n (step f note code finish s)

  -- n steps and then k
  pub run_more : (n k : ℕ) (s : State E C F) → run f note code finish (n + k) s ≡ run f note code finish k (run f note code finish n s)
  unfolding run
  run_more zero k s = let e : 0 + k ≡ k = omega arith in ap (λ m. run f note code finish m s) e
  run_more (suc n) k s = let e : suc n + k ≡ suc (n + k) = omega arith in ap (λ m. run f note code finish m s) e ∙ run_more n k (step f note code finish s)

  -- what is none is not some
  is_some : (o : Option (Ending F)) → o ≡ None → IsSome o → ⊥
  is_some o e h = search rules

  -- a run that is over does not go on
  stays_over : (k : ℕ) (s : State E C F) (o : Option (Ending F)) → ending finish s ≡ o → IsSome o → ending finish (run f note code finish k s) ≡ None → ⊥
  stays_over k s None e is none = is_some None refl is
  stays_over k s (Some x) e is none = some_none (sym e ∙ sym (ap (ending finish) (run_stays k s (stays s x e))) ∙ none)

  -- nor from a limit at which it was over
  late : (n limit k : ℕ) (s : State E C F) → limit + k ≡ n → IsSome (ending finish (run f note code finish limit s)) → ending finish (run f note code finish n s) ≡ None → ⊥
  late n limit k s e over none =
      stays_over k (run f note code finish limit s) (ending finish (run f note code finish limit s)) refl over
      (sym (ap (ending finish) (run_more limit k s)) ∙ ap (λ m. ending finish (run f note code finish m s)) e ∙ none)

  -- so what is not over is before such a limit
  sooner : (n limit : ℕ) (s : State E C F) → (n < limit) ⊎ (limit ≤ n) → IsSome (ending finish (run f note code finish limit s)) → ending finish (run f note code finish n s) ≡ None → n < limit
  sooner n limit s (inl lt) over none = lt
  sooner n limit s (inr le) over none = absurd (late n limit (n - limit) s (omega arith) over none)

  -- what is over after some steps stays over: where it is not over, that many steps are not done
  -- yet
  pub not_yet : (n limit : ℕ) (s : State E C F) → IsSome (ending finish (run f note code finish limit s)) → ending finish (run f note code finish n s) ≡ None → n < limit
  not_yet n limit s over none = sooner n limit s (cases_lt n limit) over none

  -- where the test of being over fails, the instruction is done
  act_if : (b : Bool) (s t : State E C F) → b ≡ false → (if b then s else t) ≡ t
  act_if b s t e = ap (λ x. if x then s else t) e

  -- and the run is not over
  none_if : (b : Bool) (o : Option (Ending F)) → b ≡ false → (if b then o else None) ≡ None
  none_if b o e = ap (λ x. if x then o else None) e

  -- a step more, where the run is not over
  pub goes_on : (n p : ℕ) (ops : List C) (ls : List Bool) (w : World E C) (s t : State E C F) → run f note code finish n s ≡ At p ops ls w → is_over finish p ≡ false → act f note (slice_get code p) p ops ls w ≡ t → run f note code finish (n + 1) s ≡ t
  unfolding step
  goes_on n p ops ls w s t at nope does =
      let e : n + 1 ≡ suc n = omega arith in
      ap (λ m. run f note code finish m s) e ∙ run_suc n s ∙ ap (step f note code finish) at ∙ act_if (is_over finish p) (At p ops ls w) (act f note (slice_get code p) p ops ls w) nope ∙ does

  -- up to n it is not over, if neither before n nor at n
  earlier : (n m : ℕ) (s : State E C F) → (m < n) ⊎ (n ≤ m) → m < n + 1 → ((k : ℕ) → k < n → ending finish (run f note code finish k s) ≡ None) → ending finish (run f note code finish n s) ≡ None → ending finish (run f note code finish m s) ≡ None
  earlier n m s (inl lt) below first none = first m lt
  earlier n m s (inr le) below first none = let e : n ≡ m = omega arith in ap (λ k. ending finish (run f note code finish k s)) (sym e) ∙ none

  -- a run is not over where it goes on
  pub not_over : (n p : ℕ) (ops : List C) (ls : List Bool) (w : World E C) (s : State E C F) → run f note code finish n s ≡ At p ops ls w → is_over finish p ≡ false → ending finish (run f note code finish n s) ≡ None
  not_over n p ops ls w s at nope = ap (ending finish) at ∙ none_if (is_over finish p) (Some Finished) nope

  -- nor is it over before that
  pub still_none : (n p : ℕ) (ops : List C) (ls : List Bool) (w : World E C) (s : State E C F) → run f note code finish n s ≡ At p ops ls w → is_over finish p ≡ false → ((k : ℕ) → k < n → ending finish (run f note code finish k s) ≡ None) → (m : ℕ) → m < n + 1 → ending finish (run f note code finish m s) ≡ None
  still_none n p ops ls w s at nope first m below = earlier n m s (cases_lt m n) below first (not_over n p ops ls w s at nope)

  -- a run that has jammed stays so
  jammed_stays : step f note code finish Jammed ≡ Jammed
  unfolding step
  jammed_stays = refl

  -- where the next step jams, the run is never over
  pub jams : (n limit p : ℕ) (ops : List C) (ls : List Bool) (w : World E C) (s : State E C F) → run f note code finish n s ≡ At p ops ls w → is_over finish p ≡ false → act f note (slice_get code p) p ops ls w ≡ Jammed → IsSome (ending finish (run f note code finish limit s)) → ⊥
  jams n limit p ops ls w s at nope does over =
      let jammed : run f note code finish (n + 1) s ≡ Jammed = goes_on n p ops ls w s Jammed at nope does in
      let before : n < limit = not_yet n limit s over (not_over n p ops ls w s at nope) in
      let e : (n + 1) + (limit - (n + 1)) ≡ limit = omega (arith, before) in
      let later : run f note code finish limit s ≡ Jammed =
      ap (λ k. run f note code finish k s) (sym e) ∙ run_more (n + 1) (limit - (n + 1)) s ∙ ap (run f note code finish (limit - (n + 1))) jammed ∙ run_stays (limit - (n + 1)) Jammed (jammed_stays) in
      is_some (ending finish (run f note code finish limit s)) (ap (ending finish) later) over
