-- How parts of a run are joined.
use Rattle.std.proofs.Common.{◌≡◌, ℕ, zero, suc, ◌+◌, ◌<◌, ◌≤◌, List, [], ◌∷◌, ◌++◌, length, Option, Some, None, Result, Ok, Err, refl, sym, ap, ◌∙◌, subst, arith, append_assoc, length-append}
use Rattle.std.specs.Prelude.{Bool, slice_get, cond, ◌^◌}
use Rattle.std.proofs.Math.Seq.{get_or-append_seam}
use Rattle.std.proofs.lemmas.Option.{slice_get-get_or}
use Rattle.minijinja_syntax.specs.Texts.{Text}
use Rattle.minijinja_value.specs.Values.{Functions}
use Rattle.minijinja_semantics.specs.Events.{Kind, Event, Answer, Fault, Values, Gave, Ended, next, operated, fitted, answered, ask, none_fits, one_fits, all_fit, event, tell, get, get_all}
use Rattle.minijinja_semantics.specs.Answers.{AreFew, AreLeftOf}
use Rattle.minijinja_semantics.specs.Code.{Instr, Jump}
use Rattle.minijinja_semantics.specs.Machine.{At, Returned, Halted, Jammed, after, Nothing, OneValue, AllValues, size, pushed, popped, did, asked, act, step, run}
use Rattle.minijinja_semantics.proofs.Placed.{World, Did, Act, State, bare, Stretch}

popped_pushed : {C : Type 0} (m : ℕ) (vs ops acc : List C) → popped (length vs + m) (pushed vs ops) acc ≡ popped m ops (vs ++ acc)
unfolding popped
popped_pushed m [] ops acc = let e : 0 + m ≡ m = omega arith in ap (λ n. popped n ops acc) e
popped_pushed m (v ∷ vs) ops acc =
    let e : length (v ∷ vs) + m ≡ length vs + suc m = omega arith in
    ap (λ n. popped n (pushed vs (v ∷ ops)) acc) e ∙ popped_pushed (suc m) vs (v ∷ ops) acc

pub append_nil : {X : Type 0} (xs : List X) → xs ++ [] ≡ xs
append_nil [] = refl
append_nil (x ∷ xs) = ap (λ l. x ∷ l) (append_nil xs)

-- as many operands as were pushed are taken off
pub pops : {C : Type 0} (vs ops : List C) → popped (length vs) (pushed vs ops) [] ≡ Some (vs, ops)
unfolding popped
pops vs ops =
    let e : length vs ≡ length vs + 0 = omega arith in
    ap (λ n. popped n (pushed vs ops) []) e ∙ popped_pushed 0 vs ops [] ∙ ap (λ l. Some (l, ops)) (append_nil vs)

-- what the answers left may cost, at so much for each
abbrev pub budget : {C : Type 0} → ℕ → List (Answer C) → ℕ
budget b [] = 0
budget b (a ∷ rest) = b + budget b rest

budget_less : {C : Type 0} (b : ℕ) (xs ys : List (Answer C)) → length xs ≤ length ys → budget b xs ≤ budget b ys
budget_less b [] ys le = omega arith
budget_less b (x ∷ xs) [] le = absurd (omega arith)
budget_less b (x ∷ xs) (y ∷ ys) le = omega (arith, budget_less b xs ys (omega arith))

-- where a state stands
abbrev pub place : {C F : Type 0} → State C F → ℕ
place (At p ops ls w) = p
place (Returned ops ls w) = 0
place (Halted w e) = 0
place Jammed = 0

-- the answers that a state has left
abbrev pub answers_of : {C F : Type 0} → State C F → List (Answer C)
answers_of (At p ops ls w) = w.answers
answers_of (Returned ops ls w) = w.answers
answers_of (Halted w e) = w.answers
answers_of Jammed = []

-- what they may cost
abbrev pub spare : {C F : Type 0} → ℕ → State C F → ℕ
spare b s = budget b (answers_of s)

-- the answers that a thing done has left
abbrev pub left : {C F X : Type 0} → Did C F X → List (Answer C)
left (Gave w x) = w.answers
left (Ended w e) = w.answers

pub left_all : {C : Type 0} (xs : List (Answer C)) → AreLeftOf xs xs
left_all xs = record { fewer = omega arith; less = omega arith }

pub left_then : {C : Type 0} {xs ys zs : List (Answer C)} → AreLeftOf xs ys → AreLeftOf ys zs → AreLeftOf xs zs
left_then a b = record { fewer = omega (arith, a.fewer, b.fewer); less = omega (arith, a.less, b.less) }

pub left_more : {C : Type 0} {a : Answer C} {xs ys : List (Answer C)} → AreLeftOf xs ys → AreLeftOf (a ∷ xs) ys
left_more {a = Fault} l = record { fewer = omega (arith, l.fewer); less = omega (arith, l.less) }
left_more {a = Values vs} l = record { fewer = omega (arith, l.fewer); less = omega (arith, l.less) }

fitted_left : {C X : Type 0} (F : Type 0) (x : Option X) (e : Event ℕ C) (vs : List C) (taken : List (Event ℕ C × Answer C)) (rest : List (Answer C)) → AreLeftOf rest (left (fitted {F = F} x e vs taken rest))
unfolding fitted
fitted_left F None e vs taken rest = left_all rest
fitted_left F (Some x) e vs taken rest = left_all rest

answered_left : {C X : Type 0} (F : Type 0) (fit : List C → Option X) (e : Event ℕ C) (taken : List (Event ℕ C × Answer C)) (answers : List (Answer C)) → AreLeftOf answers (left (answered {F = F} fit e taken answers))
unfolding answered
answered_left F fit e taken [] = left_all []
answered_left F fit e taken (Fault ∷ rest) = left_more (left_all rest)
answered_left F fit e taken (Values vs ∷ rest) = left_more (fitted_left F (fit vs) e vs taken rest)

pub ask_left : {C X : Type 0} (F : Type 0) (fit : List C → Option X) (e : Event ℕ C) (w : World C) → AreLeftOf w.answers (left (ask {F = F} fit e w))
unfolding ask
ask_left F fit e w = answered_left F fit e w.record_so_far w.answers

pub operated_left : {C X F : Type 0} (r : Result X F) (w : World C) → AreLeftOf w.answers (left (operated r w))
unfolding operated
operated_left (Ok x) w = left_all w.answers
operated_left (Err e) w = left_all w.answers

-- what holds of what is given, with few answers left
abbrev pub HoldsOf : {C F X : Type 0} → (X → Type 0) → Did C F X → Type 0
HoldsOf P (Gave w x) = P x × AreFew w.answers
HoldsOf P (Ended w e) = Unit {0}

-- nothing special
abbrev pub Any : {X : Type 0} → X → Type 0
Any x = Unit {0}

-- that many
abbrev pub IsCounted : {C : Type 0} → List C → Type 0
IsCounted vs = length vs < 2 ^ 64

fitted_holds : {C X : Type 0} (F : Type 0) (P : X → Type 0) (x : Option X) (e : Event ℕ C) (vs : List C) (taken : List (Event ℕ C × Answer C)) (rest : List (Answer C)) → ((y : X) → x ≡ Some y → P y) → AreFew rest → HoldsOf P (fitted {F = F} x e vs taken rest)
unfolding fitted
fitted_holds F P None e vs taken rest h few = tt
fitted_holds F P (Some x) e vs taken rest h few = (h x refl, few)

answered_holds : {C X : Type 0} (F : Type 0) (P : X → Type 0) (fit : List C → Option X) (e : Event ℕ C) (taken : List (Event ℕ C × Answer C)) (answers : List (Answer C)) → ((vs : List C) (y : X) → IsCounted vs → fit vs ≡ Some y → P y) → AreFew answers → HoldsOf P (answered {F = F} fit e taken answers)
unfolding answered
answered_holds F P fit e taken [] h few = tt
answered_holds F P fit e taken (Fault ∷ rest) h few = tt
answered_holds F P fit e taken (Values vs ∷ rest) h few =
    let under = few.under in
    let counted : length vs < 2 ^ 64 = omega arith in
    fitted_holds F P (fit vs) e vs taken rest (λ y same. h vs y counted same) (record { under = omega arith })

pub ask_holds : {C X : Type 0} (F : Type 0) (P : X → Type 0) (fit : List C → Option X) (e : Event ℕ C) (w : World C) → ((vs : List C) (y : X) → IsCounted vs → fit vs ≡ Some y → P y) → AreFew w.answers → HoldsOf P (ask {F = F} fit e w)
unfolding ask
ask_holds F P fit e w h few = answered_holds F P fit e w.record_so_far w.answers h few

operated_holds : {C X F : Type 0} (r : Result X F) (w : World C) → AreFew w.answers → HoldsOf Any (operated r w)
unfolding operated
operated_holds (Ok x) w few = (tt, few)
operated_holds (Err e) w few = tt

module _ {C : Type 0} (code : List (Instr C)) where
  -- the instructions stand in the code at this place
  abbrev pub HasAt : ℕ → List (Instr C) → Type 0
  HasAt p [] = Unit {0}
  HasAt p (i ∷ is) = (slice_get code p ≡ Some i) × HasAt (p + 1) is

  -- the same, as a record
  pub record Stands (p : ℕ) (is : List (Instr C)) : Type 0 where
    pub has : HasAt p is

  has_front : (p : ℕ) (a b : List (Instr C)) → HasAt p (a ++ b) → HasAt p a
  has_front p [] b h = tt
  has_front p (i ∷ a) b h = (h.0, has_front (p + 1) a b h.1)

  has_back : (p q : ℕ) (a b : List (Instr C)) → p + length a ≡ q → HasAt p (a ++ b) → HasAt q b
  has_back p q [] b e h = let e' : p ≡ q = omega arith in subst (λ n. HasAt n b) e' h
  has_back p q (i ∷ a) b e h = has_back (p + 1) q a b (omega arith) h.1

  pub front : {p : ℕ} (a b : List (Instr C)) → Stands p (a ++ b) → Stands p a
  front {p} a b h = record { has = has_front p a b h.has }

  pub back : {p q : ℕ} (a b : List (Instr C)) → p + length a ≡ q → Stands p (a ++ b) → Stands q b
  back {p} {q} a b e h = record { has = has_back p q a b e h.has }

  pub first : {p : ℕ} {i : Instr C} {is : List (Instr C)} → Stands p (i ∷ is) → slice_get code p ≡ Some i
  first h = h.has.0

  pub rest : {p : ℕ} {i : Instr C} {is : List (Instr C)} → Stands p (i ∷ is) → Stands (p + 1) is
  rest h = record { has = h.has.1 }

-- a run over the code, up to where it is over
module _ {C F : Type 0} (f : Functions C F) (code : List (Instr C)) (to : Stretch) where
  -- the first n steps
  abbrev pub ran : ℕ → State C F → State C F
  ran n s = run f bare code to.finish n s

  run_add : (m n : ℕ) (s : State C F) → ran (m + n) s ≡ ran n (ran m s)
  unfolding run
  run_add zero n s = let e : 0 + n ≡ n = omega arith in ap (λ k. ran k s) e
  run_add (suc m) n s = let e : suc m + n ≡ suc (m + n) = omega arith in ap (λ k. ran k s) e ∙ run_add m n (step f bare code to.finish s)

  pub run_then : (m n : ℕ) (s a : State C F) → ran m s ≡ a → ran (m + n) s ≡ ran n a
  run_then m n s a h = run_add m n s ∙ ap (ran n) h

  -- from one state to another that stands at most at q, within the places between and the answers
  -- taken
  pub record Comes (s a : State C F) (q : ℕ) : Type 0 where
    pub steps : ℕ
    pub gets : ran steps s ≡ a
    pub bound : steps + place s + spare (length code + 1) a ≤ q + spare (length code + 1) s
    pub left : AreLeftOf (answers_of s) (answers_of a)

  pub stays : (s : State C F) (q : ℕ) → place s ≤ q → Comes s s q
  unfolding run
  stays s q le = record { steps = 0; gets = refl; bound = omega arith; left = left_all (answers_of s) }

  pub raise : {s a : State C F} {q q' : ℕ} → q ≤ q' → Comes s a q → Comes s a q'
  raise le c = record { steps = c.steps; gets = c.gets; bound = omega (arith, c.bound); left = c.left }

  pub comes_then : {s a b : State C F} {q q' : ℕ} → q ≤ place a → Comes s a q → Comes a b q' → Comes s b q'
  comes_then {s} {a} le c d = record {
    steps = c.steps + d.steps;
    gets = run_then c.steps d.steps s a c.gets ∙ d.gets;
    bound = omega (arith, c.bound, d.bound);
    left = left_then c.left d.left;
  }

  -- one step, before the end
  pub asking_comes : {p : ℕ} {i : Instr C} (ops : List C) (ls : List Bool) (w : World C) (a : State C F) (q : ℕ) → AreLeftOf w.answers (answers_of a) → p < to.end → slice_get code p ≡ Some i → act f bare (Some i) p ops ls w ≡ a → p + 1 ≤ q → Comes (At p ops ls w) a q
  unfolding run step
  asking_comes {p} ops ls w a q left before h e le =
      let other = to.goes_on p before in
      record {
        steps = 1;
        gets = ap (λ b. cond b (At p ops ls w) (act f bare (slice_get code p) p ops ls w)) other ∙ ap (λ i. act f bare i p ops ls w) h ∙ e;
        bound = omega (arith, budget_less (length code + 1) (answers_of a) w.answers left.fewer);
        left = left;
      }

  -- one that asks nothing
  pub step_comes : {p : ℕ} {i : Instr C} (ops : List C) (ls : List Bool) (w : World C) (a : State C F) (q : ℕ) → w.answers ≡ answers_of a → p < to.end → slice_get code p ≡ Some i → act f bare (Some i) p ops ls w ≡ a → p + 1 ≤ q → Comes (At p ops ls w) a q
  step_comes ops ls w a q same before h e le = asking_comes ops ls w a q (subst (AreLeftOf w.answers) same (left_all w.answers)) before h e le

  -- a step that takes an answer, a stretch, a jump back to that step, and another stretch: the
  -- answer pays for the way back
  pub around : {p a l : ℕ} {i : Instr C} {ops ops1 ops2 : List C} {ls ls1 : List Bool} {w w1 w2 : World C} {s : State C F} (x : Answer C) → w.answers ≡ x ∷ w1.answers → p < to.end → slice_get code p ≡ Some i → act f bare (Some i) p ops ls w ≡ At (p + 1) ops1 ls1 w1 → Comes (At (p + 1) ops1 ls1 w1) (At a ops2 ls1 w2) a → a < to.end → a < length code → slice_get code a ≡ Some (Jump p) → Comes (At p ops2 ls1 w2) s l → Comes (At p ops ls w) s l
  unfolding run step
  around {p} {a} {l} {i} {ops} {ops1} {ops2} {ls} {ls1} {w} {w1} {w2} {s} x taken before h e body before' within jump others =
      let b = body.bound in
      let o = others.bound in
      let first_step = ap (λ b. cond b (At p ops ls w) (act f bare (slice_get code p) p ops ls w)) (to.goes_on p before) ∙ ap (λ i. act f bare i p ops ls w) h ∙ e in
      let jump_step = ap (λ b. cond b (At a ops2 ls1 w2) (act f bare (slice_get code a) a ops2 ls1 w2)) (to.goes_on a before') ∙ ap (λ i. act f bare i a ops2 ls1 w2) jump in
      let spent : budget (length code + 1) w.answers ≡ length code + 1 + budget (length code + 1) w1.answers = ap (budget (length code + 1)) taken in
      record {
        steps = suc (body.steps + suc others.steps);
        gets = ap (ran (body.steps + suc others.steps)) first_step ∙ run_then body.steps (suc others.steps) _ _ body.gets ∙ ap (ran others.steps) jump_step ∙ others.gets;
        bound = omega arith;
        left = subst (λ l. AreLeftOf l (answers_of s)) (sym taken) (left_more (left_then body.left others.left));
      }

  -- From a state, with what is put on the operands at a place, or to an end; and what holds of what
  -- was given.
  pub record Gives {X : Type 0} (s : State C F) (q : ℕ) (ls : List Bool) (P : X → Type 0) (put : X → List C) (m : Did C F X) : Type 0 where
    pub comes : Comes s (after (λ x w. At q (put x) ls w) m) q
    pub holds : HoldsOf P m

  -- one thing and then another, which may stand in other loops
  pub then_gives : {X Y : Type 0} {s : State C F} {q q' : ℕ} {ls ls' : List Bool} {P : X → Type 0} {P' : Y → Type 0} {put : X → List C} {put' : Y → List C} {m : Did C F X} {n : X → Act C F Y} → q ≤ q' → Gives s q ls P put m → ((x : X) (w : World C) → P x → AreFew w.answers → Gives (At q (put x) ls w) q' ls' P' put' (n x w)) → Gives s q' ls' P' put' (next m n)
  unfolding next
  then_gives {m = Gave w x} le g k =
      let more = k x w g.holds.0 g.holds.1 in
      record { comes = comes_then (omega arith) g.comes more.comes; holds = more.holds }
  then_gives {m = Ended w e} le g k = record { comes = raise le g.comes; holds = tt }

  -- after steps that lead to where it begins
  pub from : {X : Type 0} {s a : State C F} {q q' : ℕ} {ls : List Bool} {P : X → Type 0} {put : X → List C} {m : Did C F X} → q ≤ place a → Comes s a q → Gives a q' ls P put m → Gives s q' ls P put m
  from le c g = record { comes = comes_then le c g.comes; holds = g.holds }

  pub here : {X : Type 0} {q : ℕ} {ls : List Bool} {P : X → Type 0} {put : X → List C} (x : X) (w : World C) → P x → AreFew w.answers → Gives (At q (put x) ls w) q ls P put (Gave w x)
  here {q = q} x w p few = record { comes = stays (At q _ _ w) q (omega arith); holds = (p, few) }

  -- a jump forward after what was given
  pub then_jumps : {X : Type 0} {s : State C F} {q q' : ℕ} {ls : List Bool} {P : X → Type 0} {put : X → List C} {m : Did C F X} → q ≤ q' → ((x : X) (w : World C) → Comes (At q (put x) ls w) (At q' (put x) ls w) q') → Gives s q ls P put m → Gives s q' ls P put m
  then_jumps {m = Gave w x} le jump g = record { comes = comes_then (omega arith) g.comes (jump x w); holds = g.holds }
  then_jumps {m = Ended w e} le jump g = record { comes = raise le g.comes; holds = tt }

  at_left : {X : Type 0} (q : ℕ) (ls : List Bool) (put : X → List C) (m : Did C F X) → left m ≡ answers_of (after (λ x w. At q (put x) ls w) m)
  at_left q ls put (Gave w x) = refl
  at_left q ls put (Ended w e) = refl

  -- one step that does a thing and goes to the next place
  pub one_gives : {X : Type 0} {p : ℕ} {i : Instr C} (ops : List C) (ls ls' : List Bool) (w : World C) (P : X → Type 0) (put : X → List C) (m : Did C F X) → p < to.end → slice_get code p ≡ Some i → act f bare (Some i) p ops ls w ≡ after (λ x w'. At (p + 1) (put x) ls' w') m → AreLeftOf w.answers (left m) → HoldsOf P m → Gives (At p ops ls w) (p + 1) ls' P put m
  one_gives {p = p} ops ls ls' w P put m before h e l holds = record { comes = asking_comes ops ls w _ (p + 1) (subst (AreLeftOf w.answers) (at_left (p + 1) ls' put m) l) before h e (omega arith); holds = holds }

  -- a step without an event
  pub plain_gives : {X : Type 0} {p : ℕ} {i : Instr C} {P : X → Type 0} {put : X → List C} (ops : List C) (ls : List Bool) (w : World C) (x : X) → p < to.end → slice_get code p ≡ Some i → act f bare (Some i) p ops ls w ≡ At (p + 1) (put x) ls w → P x → AreFew w.answers → Gives (At p ops ls w) (p + 1) ls P put (Gave w x)
  plain_gives {P = P} {put = put} ops ls w x before h e p few = one_gives ops ls ls w P put (Gave w x) before h e (left_all w.answers) (p, few)

  -- an operator
  pub operator_gives : {X : Type 0} {p : ℕ} {i : Instr C} {put : X → List C} (ops : List C) (ls : List Bool) (w : World C) (r : Result X F) → p < to.end → slice_get code p ≡ Some i → act f bare (Some i) p ops ls w ≡ after (λ x w'. At (p + 1) (put x) ls w') (operated r w) → AreFew w.answers → Gives (At p ops ls w) (p + 1) ls Any put (operated r w)
  operator_gives {put = put} ops ls w r before h e few = one_gives ops ls ls w Any put (operated r w) before h e (operated_left r w) (operated_holds r w few)

  -- an event that is asked, whatever it names and changes
  pub asks : {X : Type 0} {p : ℕ} {i : Instr C} (P : X → Type 0) (put : X → List C) (fit : List C → Option X) (e : Event ℕ C) (ops : List C) (ls ls' : List Bool) (w : World C) → ((vs : List C) (y : X) → IsCounted vs → fit vs ≡ Some y → P y) → p < to.end → slice_get code p ≡ Some i → act f bare (Some i) p ops ls w ≡ after (λ x w'. At (p + 1) (put x) ls' w') (ask fit e w) → AreFew w.answers → Gives (At p ops ls w) (p + 1) ls' P put (ask fit e w)
  asks P put fit e ops ls ls' w ok before h is few = one_gives ops ls ls' w P put (ask fit e w) before h is (ask_left F fit e w) (ask_holds F P fit e w ok few)

  -- events that are answered by one value, by none, and by any number of them
  pub gets_one : {p : ℕ} {i : Instr C} (k : Kind) (t : Text) (vs ops below : List C) (ls : List Bool) (w : World C) → p < to.end → slice_get code p ≡ Some i → act f bare (Some i) p ops ls w ≡ asked f bare k t p (Some (vs, below)) ls w → size k ≡ OneValue → AreFew w.answers → Gives (At p ops ls w) (p + 1) ls Any (λ v. v ∷ below) (get k t vs w)
  unfolding asked did
  gets_one {p} k t vs ops below ls w before h e is few =
      asks Any (λ v. v ∷ below) one_fits (event None k t vs) ops ls ls w (λ us y c same. tt) before h
      (e ∙ ap (λ s. did f s (event None k t vs) p below ls w) is) few

  pub tells : {p : ℕ} {i : Instr C} (k : Kind) (t : Text) (vs ops below : List C) (ls : List Bool) (w : World C) → p < to.end → slice_get code p ≡ Some i → act f bare (Some i) p ops ls w ≡ asked f bare k t p (Some (vs, below)) ls w → size k ≡ Nothing → AreFew w.answers → Gives (At p ops ls w) (p + 1) ls Any (λ _. below) (tell k t vs w)
  unfolding asked did
  tells {p} k t vs ops below ls w before h e is few =
      asks Any (λ _. below) none_fits (event None k t vs) ops ls ls w (λ us y c same. tt) before h
      (e ∙ ap (λ s. did f s (event None k t vs) p below ls w) is) few

  pub gets_all : {p : ℕ} {i : Instr C} (k : Kind) (t : Text) (vs ops below : List C) (ls : List Bool) (w : World C) → p < to.end → slice_get code p ≡ Some i → act f bare (Some i) p ops ls w ≡ asked f bare k t p (Some (vs, below)) ls w → size k ≡ AllValues → AreFew w.answers → Gives (At p ops ls w) (p + 1) ls IsCounted (λ us. f.of_u64 (length us) ∷ pushed us below) (get_all k t vs w)
  unfolding asked did
  gets_all {p} k t vs ops below ls w before h e is few =
      asks IsCounted (λ us. f.of_u64 (length us) ∷ pushed us below) all_fit (event None k t vs) ops ls ls w counted before h
      (e ∙ ap (λ s. did f s (event None k t vs) p below ls w) is) few
    where
      counted : (us y : List C) → IsCounted us → Some us ≡ Some y → IsCounted y
      counted us y c same = let e : us ≡ y = cc in subst IsCounted e c

has_all : {C : Type 0} (is pre : List (Instr C)) → HasAt (pre ++ is) (length pre) is
has_all [] pre = tt
has_all (i ∷ is) pre =
    let within : length pre < length (pre ++ i ∷ is) = omega (arith, length-append pre (i ∷ is)) in
    let here = slice_get-get_or (pre ++ i ∷ is) (length pre) i within ∙ ap Some (get_or-append_seam pre i is i) in
    let n : length (pre ++ i ∷ []) ≡ length pre + 1 = omega (arith, length-append pre (i ∷ [])) in
    let rest = has_all is (pre ++ i ∷ []) in
    let rest' = subst (λ l. HasAt l (length (pre ++ i ∷ [])) is) (append_assoc pre (i ∷ []) is) rest in
    (here, subst (λ m. HasAt (pre ++ i ∷ is) m is) n rest')

-- what is added to a list stands after it
pub stands_behind : {C : Type 0} (pre is : List (Instr C)) → Stands (pre ++ is) (length pre) is
stands_behind pre is = record { has = has_all is pre }
