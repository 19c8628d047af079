-- Asking, where any values are taken that are few enough, against what each event takes.
use Rattle.std.proofs.Common.{◌≡◌, ℕ, suc, ◌+◌, List, [], ◌∷◌, ◌++◌, length, Option, Some, None, refl, ap, ◌∙◌, sym, arith}
use Rattle.std.proofs.lemmas.Bool.Decides.{nat_tests}
use Rattle.std.specs.Prelude.{◌==◌, reverse, nat_lt, Bool, false, if◌then◌else◌}
use Rattle.std.specs.Option.{option_map}
use Rattle.minijinja_value.specs.Values.{Functions}
use Rattle.minijinja_semantics.specs.Events.{Answer, Fault, Values, World, Stop, Gave, Ended, ask, answered, fitted, none_fits, one_fits, item_fits, all_fit}
use Rattle.minijinja_semantics.specs.Machine as machine
use Rattle.minijinja_semantics.specs.Machine.{State, At, Halted, after, did}
use Rattle.minijinja_replay.specs.private.AtMachine.{fitting, fit_of, pushed_by, put_on, head_of}
use Rattle.minijinja_replay.specs.declared.asking.Fit.{Fit}
use Rattle.minijinja_replay.specs.declared.asking.Fit.TheVariants as fit
use Rattle.minijinja_replay.specs.declared.asking.Pushed.{Pushed}
use Rattle.minijinja_replay.specs.declared.asking.Pushed.TheVariants as pushed
use Rattle.minijinja_replay.proofs.Stacks.{pushed_all}

-- a number of answers that is not none, one, or at most one
not_none : (n : ℕ) → (suc n == 0) ≡ false
not_none n = grind (arith, nat_tests)

not_one : (n : ℕ) → (suc (suc n) == 1) ≡ false
not_one n = grind (arith, nat_tests)

not_few : (n : ℕ) → nat_lt (suc (suc n)) 2 ≡ false
not_few n = grind (arith, nat_tests)

module _ {E C F X Y : Type 0} (k : X → World E C → State E C F) (k' : Y → World E C → State E C F) where
  -- what follows is alike after values that fit alike
  fitted_alike : (x : Option X) (y : Option Y) (e : E) (vs : List C) (taken : List (E × Answer C)) (rest : List (Answer C)) →
      ((w : World E C) → option_map (λ a. k a w) x ≡ option_map (λ b. k' b w) y) →
      after k (fitted x e vs taken rest) ≡ after k' (fitted y e vs taken rest)
  unfolding fitted
  fitted_alike None None e vs taken rest h = refl
  fitted_alike (Some a) None e vs taken rest h = let no = h (record { record_so_far = taken; answers = rest }) in cc
  fitted_alike None (Some b) e vs taken rest h = let no = h (record { record_so_far = taken; answers = rest }) in cc
  fitted_alike (Some a) (Some b) e vs taken rest h = let same = h (record { record_so_far = (e, Values vs) ∷ taken; answers = rest }) in cc

  -- and after answers of which the values fit alike
  answered_alike : (fx : List C → Option X) (fy : List C → Option Y) (e : E) (taken : List (E × Answer C)) (answers : List (Answer C)) →
      ((vs : List C) (w : World E C) → option_map (λ a. k a w) (fx vs) ≡ option_map (λ b. k' b w) (fy vs)) →
      after k (answered fx e taken answers) ≡ after k' (answered fy e taken answers)
  unfolding answered
  answered_alike fx fy e taken [] h = refl
  answered_alike fx fy e taken (Fault ∷ rest) h = refl
  answered_alike fx fy e taken (Values vs ∷ rest) h = fitted_alike (fx vs) (fy vs) e vs taken rest (h vs)

  -- what follows is alike if it is alike for all values that fit
  pub ask_alike : (fx : List C → Option X) (fy : List C → Option Y) (e : E) (w : World E C) →
      ((vs : List C) (w : World E C) → option_map (λ a. k a w) (fx vs) ≡ option_map (λ b. k' b w) (fy vs)) →
      after k (ask fx e w) ≡ after k' (ask fy e w)
  unfolding ask
  ask_alike fx fy e w h = answered_alike fx fy e w.record_so_far w.answers h

module _ {E C F : Type 0} where
  -- none fits alike as no value and as a count of none
  none_alike : (k : World E C → State E C F) (vs : List C) (w : World E C) → option_map {U = State E C F} (λ _. k w) (none_fits vs) ≡ option_map (λ _. k w) (fitting fit.Nothing vs)
  none_alike k [] w = refl
  none_alike k (v ∷ vs) w = ap (λ b. option_map {T = List C} {U = State E C F} (λ _. k w) (if b then Some (v ∷ vs) else None)) (sym (not_none (length vs)))

  -- no value fits
  pub ask_none : (k : World E C → State E C F) (e : E) (w : World E C) → after (λ _ w'. k w') (ask none_fits e w) ≡ after (λ _ w'. k w') (ask (fitting fit.Nothing) e w)
  ask_none k e w = ask_alike (λ _ w'. k w') (λ _ w'. k w') none_fits (fitting fit.Nothing) e w (none_alike k)

  -- at most one fits alike as an item and as a count of at most one
  item_alike : (k : Option C → World E C → State E C F) (vs : List C) (w : World E C) → option_map (λ o. k o w) (item_fits vs) ≡ option_map (λ xs. k (head_of (reverse xs)) w) (fitting fit.AtMostOne vs)
  item_alike k [] w = refl
  item_alike k (v ∷ []) w = refl
  item_alike k (v ∷ u ∷ vs) w = ap (λ b. option_map {T = List C} {U = State E C F} (λ xs. k (head_of (reverse xs)) w) (if b then Some (v ∷ u ∷ vs) else None)) (sym (not_few (length vs)))

  -- at most one value fits
  pub ask_item : (k : Option C → World E C → State E C F) (e : E) (w : World E C) → after k (ask item_fits e w) ≡ after (λ xs w'. k (head_of (reverse xs)) w') (ask (fitting fit.AtMostOne) e w)
  ask_item k e w = ask_alike k (λ xs w'. k (head_of (reverse xs)) w') item_fits (fitting fit.AtMostOne) e w (item_alike k)

  -- the three ways to push an answer, each alike
  nothing_alike : (p : ℕ) (ops : List C) (ls : List Bool) (vs : List C) (w : World E C) → option_map {U = State E C F} (λ _. At (p + 1) ops ls w) (none_fits vs) ≡ option_map (λ xs. At (p + 1) (reverse xs ++ ops) ls w) (fitting fit.Nothing vs)
  nothing_alike p ops ls [] w = refl
  nothing_alike p ops ls (v ∷ vs) w = ap (λ b. option_map {T = List C} {U = State E C F} (λ xs. At (p + 1) (reverse xs ++ ops) ls w) (if b then Some (v ∷ vs) else None)) (sym (not_none (length vs)))

  one_alike : (p : ℕ) (ops : List C) (ls : List Bool) (vs : List C) (w : World E C) → option_map {U = State E C F} (λ v. At (p + 1) (v ∷ ops) ls w) (one_fits vs) ≡ option_map (λ xs. At (p + 1) (reverse xs ++ ops) ls w) (fitting fit.One vs)
  one_alike p ops ls [] w = refl
  one_alike p ops ls (v ∷ []) w = refl
  one_alike p ops ls (v ∷ u ∷ vs) w = ap (λ b. option_map {T = List C} {U = State E C F} (λ xs. At (p + 1) (reverse xs ++ ops) ls w) (if b then Some (v ∷ u ∷ vs) else None)) (sym (not_one (length vs)))

  all_alike : (f : Functions C F) (p : ℕ) (ops : List C) (ls : List Bool) (vs : List C) (w : World E C) → option_map {U = State E C F} (λ xs. At (p + 1) (f.of_u64 (length xs) ∷ machine.pushed xs ops) ls w) (all_fit vs) ≡ option_map (λ xs. At (p + 1) (f.of_u64 (length xs) ∷ (reverse xs ++ ops)) ls w) (fitting fit.Any vs)
  all_alike f p ops ls vs w = ap (λ l. Some (At (p + 1) (f.of_u64 (length vs) ∷ l) ls w)) (pushed_all vs ops)

  -- what an event is answered by is put on the operands
  pub did_by : (f : Functions C F) (y : Pushed) (e : E) (p : ℕ) (ops : List C) (ls : List Bool) (w : World E C) →
      did f (pushed_by y) e p ops ls w ≡ after (λ vs w'. At (p + 1) (put_on f y vs ops) ls w') (ask (fitting (fit_of (pushed_by y))) e w)
  unfolding did
  did_by f pushed.Nothing e p ops ls w = ask_alike (λ _ w'. At (p + 1) ops ls w') (λ xs w'. At (p + 1) (reverse xs ++ ops) ls w') none_fits (fitting fit.Nothing) e w (nothing_alike p ops ls)
  did_by f pushed.OneValue e p ops ls w = ask_alike (λ v w'. At (p + 1) (v ∷ ops) ls w') (λ xs w'. At (p + 1) (reverse xs ++ ops) ls w') one_fits (fitting fit.One) e w (one_alike p ops ls)
  did_by f pushed.AllValues e p ops ls w = ask_alike (λ vs w'. At (p + 1) (f.of_u64 (length vs) ∷ machine.pushed vs ops) ls w') (λ xs w'. At (p + 1) (f.of_u64 (length xs) ∷ (reverse xs ++ ops)) ls w') all_fit (fitting fit.Any) e w (all_alike f p ops ls)

  -- an event that was answered by fitting values
  pub did_of : (f : Functions C F) (y : Pushed) (z : Fit) (e : E) (p : ℕ) (ops : List C) (ls : List Bool) (w w' : World E C) (vs : List C) →
      z ≡ fit_of (pushed_by y) → ask {F = F} (fitting z) e w ≡ Gave w' vs → did f (pushed_by y) e p ops ls w ≡ At (p + 1) (put_on f y vs ops) ls w'
  did_of f y z e p ops ls w w' vs is gave =
      let k : List C → World E C → State E C F = λ xs u. At (p + 1) (put_on f y xs ops) ls u in
      did_by f y e p ops ls w ∙ ap (λ x. after k (ask (fitting x) e w)) (sym is) ∙ ap (after k) gave

  -- an event at which the run stopped
  pub did_end : (f : Functions C F) (y : Pushed) (z : Fit) (e : E) (p : ℕ) (ops : List C) (ls : List Bool) (w w' : World E C) (s : Stop F) →
      z ≡ fit_of (pushed_by y) → ask {F = F} (fitting z) e w ≡ Ended w' s → did f (pushed_by y) e p ops ls w ≡ Halted w' s
  did_end f y z e p ops ls w w' s is ended =
      let k : List C → World E C → State E C F = λ xs u. At (p + 1) (put_on f y xs ops) ls u in
      did_by f y e p ops ls w ∙ ap (λ x. after k (ask (fitting x) e w)) (sym is) ∙ ap (after k) ended
