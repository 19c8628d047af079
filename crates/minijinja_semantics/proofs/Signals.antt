-- Parts of a run that end in a signal, and lead where the code of that signal leads.
use Rattle.std.proofs.Common.{◌≡◌, ℕ, suc, ◌+◌, ◌<◌, ◌≤◌, List, [], ◌∷◌, ◌++◌, length, Some, refl, sym, ap, subst, arith}
use Rattle.std.specs.Prelude.{Bool, true, false, cond, slice_get, IsTrue}
use Rattle.minijinja_value.specs.Values.{Functions}
use Rattle.minijinja_semantics.specs.Events.{Kind, EndCapture, Gave, Ended, next, give, choose, tell, get}
use Rattle.minijinja_semantics.specs.Answers.{AreFew}
use Rattle.minijinja_semantics.specs.Meaning.{Signal, On, Broke, Continued, if_on}
use Rattle.minijinja_semantics.specs.Code.{Instr, Do, Jump, JumpIfFalse}
use Rattle.minijinja_semantics.specs.Pieces.{Exits, Open, OpenCapture, closing_instructions}
use Rattle.minijinja_semantics.specs.Machine.{At, Halted, Nothing, size}
use Rattle.minijinja_semantics.proofs.Placed.{World, Did, Act, State, Stretch}
use Rattle.minijinja_semantics.proofs.Runs.{place, Stands, first, rest, Comes, stays, raise, comes_then, step_comes, Gives, tells, gets_one}
use Rattle.minijinja_semantics.proofs.Parts.{does}

-- what a statement's code stands in: whether in a loop's body, the loop's exits, what is open
-- within it, and the operands and open loops below
pub record Around (C : Type 0) : Type 0 where
  pub in_loop : Bool
  pub exits : Exits
  pub opened : List Open
  pub below : List C
  pub loops : List Bool

-- within one more thing that is open
abbrev pub inside : {C : Type 0} → Open → Around C → Around C
inside o r = record r { opened = o ∷ r.opened }

-- the next statement follows
abbrev pub GoesOn : Signal → Type 0
GoesOn g = g ≡ On

module _ {C F : Type 0} (f : Functions C F) (code : List (Instr C)) (to : Stretch) where
  -- the run has come to where what is open is closed, and then a jump leads to an exit of the loop
  pub record Leaves (s : State C F) (q : ℕ) (r : Around C) (exit : ℕ) (w : World C) : Type 0 where
    pub is_in_loop : IsTrue r.in_loop
    pub at : ℕ
    pub comes : Comes f code to s (At at r.below r.loops w) at
    pub stands : Stands code at (closing_instructions r.opened ++ Jump exit ∷ [])
    pub fits : at + length (closing_instructions {C = C} r.opened) + 1 ≤ q
    pub few : AreFew w.answers

  -- where the run stands, by the signal
  abbrev pub EndsBy : State C F → ℕ → Around C → Did C F Signal → Type 0
  EndsBy s q r (Gave w On) = Comes f code to s (At q r.below r.loops w) q × AreFew w.answers
  EndsBy s q r (Gave w Broke) = Leaves s q r r.exits.break_to w
  EndsBy s q r (Gave w Continued) = Leaves s q r r.exits.continue_to w
  EndsBy s q r (Ended w e) = Comes f code to s (Halted w e) q

  -- from a state a statement whose code ends before q does what is meant
  pub record Ends (s : State C F) (q : ℕ) (r : Around C) (m : Did C F Signal) : Type 0 where
    pub ends : EndsBy s q r m

  leaves_from : {s a : State C F} {q q' exit : ℕ} {r : Around C} {w : World C} → q ≤ place a → Comes f code to s a q → Leaves a q' r exit w → Leaves s q' r exit w
  leaves_from le c l = record { is_in_loop = l.is_in_loop; at = l.at; comes = comes_then f code to le c l.comes; stands = l.stands; fits = l.fits; few = l.few }

  leaves_raise : {s : State C F} {q q' exit : ℕ} {r : Around C} {w : World C} → q ≤ q' → Leaves s q r exit w → Leaves s q' r exit w
  leaves_raise le l = record { is_in_loop = l.is_in_loop; at = l.at; comes = l.comes; stands = l.stands; fits = omega (arith, l.fits); few = l.few }

  -- after what leads to where it begins
  pub ends_from : {s a : State C F} {q q' : ℕ} {r : Around C} {m : Did C F Signal} → q ≤ place a → Comes f code to s a q → Ends a q' r m → Ends s q' r m
  ends_from {m = Gave w On} le c k = record { ends = (comes_then f code to le c k.ends.0, k.ends.1) }
  ends_from {m = Gave w Broke} le c k = record { ends = leaves_from le c k.ends }
  ends_from {m = Gave w Continued} le c k = record { ends = leaves_from le c k.ends }
  ends_from {m = Ended w e} le c k = record { ends = comes_then f code to le c k.ends }

  pub ends_on : {q : ℕ} {r : Around C} {w : World C} → AreFew w.answers → Ends (At q r.below r.loops w) q r (Gave w On)
  ends_on {q} {r} {w} few = record { ends = (stays f code to (At q r.below r.loops w) q (omega arith), few) }

  -- what gives the signal on
  pub ends_of : {s : State C F} {q : ℕ} {r : Around C} {m : Did C F Signal} → Gives f code to s q r.loops GoesOn (λ _. r.below) m → Ends s q r m
  ends_of {m = Gave w On} g = record { ends = (g.comes, g.holds.1) }
  ends_of {m = Gave w Broke} g = let h = g.holds.0 in absurd (cc)
  ends_of {m = Gave w Continued} g = let h = g.holds.0 in absurd (cc)
  ends_of {m = Ended w e} g = record { ends = g.comes }

  -- one thing, and then what ends in a signal
  pub then_ends : {X : Type 0} {s : State C F} {q q' : ℕ} {r : Around C} {ls : List Bool} {P : X → Type 0} {put : X → List C} {m : Did C F X} {n : X → Act C F Signal} → q ≤ q' → Gives f code to s q ls P put m → ((x : X) (w : World C) → P x → AreFew w.answers → Ends (At q (put x) ls w) q' r (n x w)) → Ends s q' r (next m n)
  unfolding next
  then_ends {m = Gave w x} le g k = ends_from (omega arith) g.comes (k x w g.holds.0 g.holds.1)
  then_ends {m = Ended w e} le g k = record { ends = raise f code to le g.comes }

  -- one statement and then the others
  pub ends_also : {s : State C F} {q q' : ℕ} {r : Around C} {m : Did C F Signal} {n : Act C F Signal} → q ≤ q' → Ends s q r m → ((w : World C) → AreFew w.answers → Ends (At q r.below r.loops w) q' r (n w)) → Ends s q' r (next m (λ g. if_on g n))
  unfolding next if_on
  ends_also {m = Gave w On} le h k = ends_from (omega arith) h.ends.0 (k w h.ends.1)
  ends_also {m = Gave w Broke} le h k = record { ends = leaves_raise le h.ends }
  ends_also {m = Gave w Continued} le h k = record { ends = leaves_raise le h.ends }
  ends_also {m = Ended w e} le h k = record { ends = raise f code to le h.ends }

  -- an event that closes, whatever the signal
  closed : {q q' : ℕ} {r : Around C} (k : Kind) (g : Signal) (w : World C) → size k ≡ Nothing → q < to.end → slice_get code q ≡ Some (Do k [] 0) → q + 1 ≤ q' → AreFew w.answers → ((w' : World C) → AreFew w'.answers → Ends (At (q + 1) r.below r.loops w') q' r (Gave w' g)) → Ends (At q r.below r.loops w) q' r (next (tell k [] [] w) (λ _. give g))
  closed {q} {r = r} k g w is before h le few next_ones =
      then_ends le (tells f code to k [] [] r.below r.below r.loops w before h (does f k [] 0 [] r.below refl q r.loops w) is few) (λ _ w' _ few'. next_ones w' few')

  leaves_closed : {s : State C F} {q exit : ℕ} {r : Around C} {w : World C} (k : Kind) (o : Open) (g : Signal) → size k ≡ Nothing → ((os : List Open) → closing_instructions {C = C} (o ∷ os) ≡ Do k [] 0 ∷ closing_instructions os) → q ≤ to.end → ((s' : State C F) (w' : World C) → Leaves s' (q + 1) r exit w' → Ends s' (q + 1) r (Gave w' g)) → Leaves s q (inside o r) exit w → Ends s (q + 1) r (next (tell k [] [] w) (λ _. give g))
  leaves_closed {q = q} {exit = exit} {r = r} {w = w} k o g is closes le ends l =
      let fits = l.fits in
      let longer : length (closing_instructions {C = C} (o ∷ r.opened)) ≡ suc (length (closing_instructions {C = C} r.opened)) = ap length (closes r.opened) in
      let stand = subst (λ is. Stands code l.at (is ++ Jump exit ∷ [])) (closes r.opened) l.stands in
      ends_from (omega arith) l.comes (closed k g w is (omega arith) (first code stand) (omega arith) l.few λ w' few'.
      ends (At (l.at + 1) r.below r.loops w') w' (record { is_in_loop = l.is_in_loop; at = l.at + 1; comes = stays f code to (At (l.at + 1) r.below r.loops w') (l.at + 1) (omega arith); stands = rest code stand; fits = omega arith; few = few' }))

  -- what a scope or autoescape is closed with, whatever the signal
  pub ends_closed : {s : State C F} {q : ℕ} {r : Around C} {m : Did C F Signal} (k : Kind) (o : Open) → size k ≡ Nothing → ((os : List Open) → closing_instructions {C = C} (o ∷ os) ≡ Do k [] 0 ∷ closing_instructions os) → q < to.end → slice_get code q ≡ Some (Do k [] 0) → Ends s q (inside o r) m → Ends s (q + 1) r (next m (λ g w. next (tell k [] [] w) (λ _. give g)))
  unfolding next
  ends_closed {m = Gave w On} k o is closes before h e = ends_from (omega arith) e.ends.0 (closed k On w is before h (omega arith) e.ends.1 (λ w' few'. ends_on few'))
  ends_closed {m = Gave w Broke} k o is closes before h e = leaves_closed k o Broke is closes (omega arith) (λ s' w' l. record { ends = l }) e.ends
  ends_closed {m = Gave w Continued} k o is closes before h e = leaves_closed k o Continued is closes (omega arith) (λ s' w' l. record { ends = l }) e.ends
  ends_closed {m = Ended w e'} k o is closes before h e = record { ends = raise f code to (omega arith) e.ends }

  -- a capture that is left is closed, and what it caught is dropped
  leaves_dropped : {s : State C F} {q q' exit : ℕ} {r : Around C} {w : World C} {n : C → Act C F Signal} (g : Signal) → ((v : C) (w' : World C) → n v w' ≡ Gave w' g) → q ≤ to.end → q ≤ q' → ((s' : State C F) (w' : World C) → Leaves s' q' r exit w' → Ends s' q' r (Gave w' g)) → Leaves s q (inside OpenCapture r) exit w → Ends s q' r (next (get EndCapture [] [] w) n)
  leaves_dropped {q = q} {q' = q'} {r = r} {w = w} g is le le' ends l =
      let fits = l.fits in
      let stand = rest code l.stands in
      ends_from (omega arith) l.comes (then_ends (omega arith) (gets_one f code to EndCapture [] [] r.below r.below r.loops w (omega arith) (first code l.stands) (does f EndCapture [] 0 [] r.below refl l.at r.loops w) refl l.few) λ v w' _ few'.
      subst (λ m. Ends (At (l.at + 1) (v ∷ r.below) r.loops w') q' r m) (sym (is v w'))
      (ends (At (l.at + 1) (v ∷ r.below) r.loops w') w' (record { is_in_loop = l.is_in_loop; at = l.at + 1 + 1; comes = step_comes f code to (v ∷ r.below) r.loops w' (At (l.at + 1 + 1) r.below r.loops w') (l.at + 1 + 1) refl (omega arith) (first code stand) refl (omega arith); stands = rest code stand; fits = omega arith; few = few' })))

  -- a capture, and what follows on what it caught where its body goes on
  pub ends_captured : {s : State C F} {q q' : ℕ} {r : Around C} {m : Did C F Signal} {n : C → Act C F Signal} → q + 1 ≤ q' → q < to.end → slice_get code q ≡ Some (Do EndCapture [] 0) → Ends s q (inside OpenCapture r) m → ((v : C) (w : World C) → AreFew w.answers → Ends (At (q + 1) (v ∷ r.below) r.loops w) q' r (n v w)) → Ends s q' r (next m (λ g w. next (get EndCapture [] [] w) (λ v. if_on g (n v))))
  unfolding next if_on
  ends_captured {q = q} {r = r} {m = Gave w On} le before h e k =
      ends_from (omega arith) e.ends.0 (then_ends le (gets_one f code to EndCapture [] [] r.below r.below r.loops w before h (does f EndCapture [] 0 [] r.below refl q r.loops w) refl e.ends.1) (λ v w' _ few'. k v w' few'))
  ends_captured {m = Gave w Broke} le before h e k = leaves_dropped Broke (λ v w'. refl) (omega arith) (omega arith) (λ s' w' l. record { ends = l }) e.ends
  ends_captured {m = Gave w Continued} le before h e k = leaves_dropped Continued (λ v w'. refl) (omega arith) (omega arith) (λ s' w' l. record { ends = l }) e.ends
  ends_captured {m = Ended w e'} le before h e k = record { ends = raise f code to (omega arith) e.ends }

  -- a jump forward at the end
  pub ends_jump : {s : State C F} {q q' : ℕ} {r : Around C} {m : Did C F Signal} → q < to.end → slice_get code q ≡ Some (Jump q') → q + 1 ≤ q' → Ends s q r m → Ends s q' r m
  ends_jump {q = q} {q' = q'} {r = r} {m = Gave w On} before h le e = record { ends = (comes_then f code to (omega arith) e.ends.0 (step_comes f code to r.below r.loops w (At q' r.below r.loops w) q' refl before h refl (omega arith)), e.ends.1) }
  ends_jump {m = Gave w Broke} before h le e = record { ends = leaves_raise (omega arith) e.ends }
  ends_jump {m = Gave w Continued} before h le e = record { ends = leaves_raise (omega arith) e.ends }
  ends_jump {m = Ended w e'} before h le e = record { ends = raise f code to (omega arith) e.ends }

  -- a test, and the side that it decides on
  pub ends_choose : {p l q : ℕ} {r : Around C} {w : World C} (m n : Act C F Signal) (v : C) (b : Bool) → f.is_true v ≡ b → p < to.end → slice_get code p ≡ Some (JumpIfFalse l) → p + 1 ≤ l → Ends (At (p + 1) r.below r.loops w) q r (m w) → Ends (At l r.below r.loops w) q r (n w) → Ends (At p (v ∷ r.below) r.loops w) q r (choose b m n w)
  unfolding choose
  ends_choose {p} {l} {q} {r} {w} m n v true is before h le k k' = ends_from (omega arith) (step_comes f code to (v ∷ r.below) r.loops w (At (p + 1) r.below r.loops w) (p + 1) refl before h (ap (λ b. cond b (At (p + 1) r.below r.loops w) (At l r.below r.loops w)) is) (omega arith)) k
  ends_choose {p} {l} {q} {r} {w} m n v false is before h le k k' = ends_from (omega arith) (step_comes f code to (v ∷ r.below) r.loops w (At l r.below r.loops w) l refl before h (ap (λ b. cond b (At (p + 1) r.below r.loops w) (At l r.below r.loops w)) is) (omega arith)) k'
