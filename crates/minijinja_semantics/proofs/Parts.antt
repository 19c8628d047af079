-- A piece of code does what a part of a meaning says, wherever it stands; such pieces are joined.
use Rattle.std.proofs.Common.{◌≡◌, ℕ, ◌+◌, ◌≤◌, List, [], ◌∷◌, length, Option, Some, None, Result, refl, sym, ap, ◌∙◌, subst, arith}
use Rattle.std.specs.Prelude.{Bool, true, false, cond}
use Rattle.minijinja_syntax.specs.Texts.{Text}
use Rattle.minijinja_value.specs.Values.{Functions}
use Rattle.minijinja_semantics.specs.Events.{Kind, Gave, Ended, next, give, choose, operated, tell, get, get_all}
use Rattle.minijinja_semantics.specs.Answers.{AreFew}
use Rattle.minijinja_semantics.specs.Code.{Instr, Load, Do, JumpIfFalse, JumpIfFalseOrPop, JumpIfTrueOrPop}
use Rattle.minijinja_semantics.specs.Pieces.{Here, behind, Piece, nothing, one, ◌▸◌, skipping, branches}
use Rattle.minijinja_semantics.specs.Layout.{folded}
use Rattle.minijinja_semantics.specs.Machine.{At, after, Nothing, OneValue, AllValues, size, pushed, popped, asked, act}
use Rattle.minijinja_semantics.proofs.Placed.{World, Did, Act, bare, Stretch}
use Rattle.minijinja_semantics.proofs.Runs.{pops, Any, IsCounted, Stands, front, back, first, rest, step_comes, Gives, then_gives, from, here, then_jumps, plain_gives, operator_gives, gets_one, tells, gets_all}
use Rattle.minijinja_semantics.proofs.Lengths.{Exact, grows}
use Rattle.minijinja_semantics.proofs.Folds.{Folds}

pub next_assoc : {C F X Y Z : Type 0} (d : Did C F X) (m : X → Act C F Y) (n : Y → Act C F Z) → next (next d m) n ≡ next d (λ x w. next (m x w) n)
unfolding next
next_assoc (Gave w x) m n = refl
next_assoc (Ended w e) m n = refl

-- an event of some operands finds them
pub does : {C F : Type 0} (f : Functions C F) (k : Kind) (t : Text) (n : ℕ) (vs below : List C) → length vs ≡ n → (p : ℕ) (ls : List Bool) (w : World C) → act f bare (Some (Do k t n)) p (pushed vs below) ls w ≡ asked f bare k t p (Some (vs, below)) ls w
does f k t n vs below e p ls w = ap (λ m. asked f bare k t p (popped m (pushed vs below) []) ls w) (sym e) ∙ ap (λ a. asked f bare k t p a ls w) (pops vs below)

module _ {C F : Type 0} (f : Functions C F) (code : List (Instr C)) (to : Stretch) where
  -- Over these operands the piece does what is meant; of what that gives something holds, and it
  -- puts operands in place of these.
  pub record Simulates {X : Type 0} (p : Piece C) (ops : List C) (P : X → Type 0) (put : X → List C) (m : Act C F X) : Type 0 where
    pub gives : (h : Here) (ls : List Bool) (w : World C) → AreFew w.answers → (p.past h).place ≤ to.end → Stands code h.place (p.code h) → Gives f code to (At h.place ops ls w) (p.past h).place ls P put (m w)

  -- the same of a piece that stands here, where what is meant looks at its place
  pub record SimulatesAt {X : Type 0} (h : Here) (p : Piece C) (ops : List C) (P : X → Type 0) (put : X → List C) (m : Act C F X) : Type 0 where
    pub gives : (ls : List Bool) (w : World C) → AreFew w.answers → (p.past h).place ≤ to.end → Stands code h.place (p.code h) → Gives f code to (At h.place ops ls w) (p.past h).place ls P put (m w)

module _ {C F : Type 0} {f : Functions C F} {code : List (Instr C)} {to : Stretch} where
  pub sim_then : {X Y : Type 0} {p q : Piece C} {ops : List C} {P : X → Type 0} {P' : Y → Type 0} {put : X → List C} {put' : Y → List C} {m : Act C F X} {n : X → Act C F Y} → Exact p → Exact q → Simulates f code to p ops P put m → ((x : X) → P x → Simulates f code to q (put x) P' put' (n x)) → Simulates f code to (p ▸ q) ops P' put' (λ w. next (m w) n)
  sim_then {p = p} {q = q} e e' s k = record {
    gives = λ h ls w few le stand.
        let more = grows e' (p.past h) in
        then_gives f code to more (s.gives h ls w few (omega arith) (front code _ _ stand)) λ x w1 ok few1.
        (k x ok).gives (p.past h) ls w1 few1 le (back code (p.code h) _ (e.ends h) stand);
  }

  pub here_sim : {X : Type 0} {p : Piece C} {ops : List C} {P : X → Type 0} {put : X → List C} {m : Act C F X} {h : Here} → Simulates f code to p ops P put m → SimulatesAt f code to h p ops P put m
  here_sim {h = h} s = record { gives = s.gives h }

  pub here_then : {X Y : Type 0} {p q : Piece C} {ops : List C} {P : X → Type 0} {P' : Y → Type 0} {put : X → List C} {put' : Y → List C} {m : Act C F X} {n : X → Act C F Y} {h : Here} → Exact p → Exact q → SimulatesAt f code to h p ops P put m → ((x : X) → P x → SimulatesAt f code to (p.past h) q (put x) P' put' (n x)) → SimulatesAt f code to h (p ▸ q) ops P' put' (λ w. next (m w) n)
  here_then {p = p} {q = q} {h = h} e e' s k = record {
    gives = λ ls w few le stand.
        let more = grows e' (p.past h) in
        then_gives f code to more (s.gives ls w few (omega arith) (front code _ _ stand)) λ x w1 ok few1.
        (k x ok).gives ls w1 few1 le (back code (p.code h) _ (e.ends h) stand);
  }

  pub here_same : {X : Type 0} {p : Piece C} {ops : List C} {P : X → Type 0} {put : X → List C} {m n : Act C F X} {h : Here} → ((w : World C) → m w ≡ n w) → SimulatesAt f code to h p ops P put m → SimulatesAt f code to h p ops P put n
  here_same {p = p} {ops = ops} {P = P} {put = put} {h = h} e s = record { gives = λ ls w few le stand. subst (λ d. Gives f code to (At h.place ops ls w) (p.past h).place ls P put d) (e w) (s.gives ls w few le stand) }

  -- a piece that only puts operands in place of others, and then another
  pub sim_before : {Y : Type 0} {p q : Piece C} {ops ops' : List C} {P : Y → Type 0} {put : Y → List C} {m : Act C F Y} → Exact p → Exact q → Simulates f code to p ops Any (λ _. ops') (give {X = Unit {0}} tt) → Simulates f code to q ops' P put m → Simulates f code to (p ▸ q) ops P put m
  unfolding next
  sim_before {p = p} {q = q} {m = m} e e' s k = record {
    gives = λ h ls w few le stand.
        let more = grows e' (p.past h) in
        then_gives f code to {n = λ _. m} more (s.gives h ls w few (omega arith) (front code _ _ stand)) λ x w1 ok few1.
        k.gives (p.past h) ls w1 few1 le (back code (p.code h) _ (e.ends h) stand);
  }

  pub sim_from : {X : Type 0} {p : Piece C} {ops ops' : List C} {P : X → Type 0} {put : X → List C} {m : Act C F X} → ops ≡ ops' → Simulates f code to p ops' P put m → Simulates f code to p ops P put m
  sim_from {p = p} {P = P} {put = put} {m = m} e s = subst (λ o. Simulates f code to p o P put m) (sym e) s

  -- the same meaning, written otherwise
  pub sim_same : {X : Type 0} {p : Piece C} {ops : List C} {P : X → Type 0} {put : X → List C} {m n : Act C F X} → ((w : World C) → m w ≡ n w) → Simulates f code to p ops P put m → Simulates f code to p ops P put n
  sim_same {p = p} {ops = ops} {P = P} {put = put} e s = record { gives = λ h ls w few le stand. subst (λ d. Gives f code to (At h.place ops ls w) (p.past h).place ls P put d) (e w) (s.gives h ls w few le stand) }

  -- what is given, seen as another thing
  pub sim_give : {X Y : Type 0} {p : Piece C} {ops : List C} {P : X → Type 0} {P' : Y → Type 0} {put : Y → List C} {m : Act C F X} (g : X → Y) → ((x : X) → P x → P' (g x)) → Simulates f code to p ops P (λ x. put (g x)) m → Simulates f code to p ops P' put (λ w. next (m w) (λ x. give (g x)))
  sim_give g k s = record { gives = λ h ls w few le stand. then_gives f code to (omega arith) (s.gives h ls w few le stand) (λ x w1 ok few1. here f code to (g x) w1 (k x ok) few1) }

  pub sim_assoc : {X Y Z : Type 0} {p : Piece C} {ops : List C} {P : Z → Type 0} {put : Z → List C} (m : Act C F X) (g : X → Act C F Y) (n : Y → Act C F Z) → Simulates f code to p ops P put (λ w. next (next (m w) g) n) → Simulates f code to p ops P put (λ w. next (m w) (λ x w'. next (g x w') n))
  sim_assoc m g n s = sim_same (λ w. next_assoc (m w) g n) s

  pub sim_nothing : {X : Type 0} {P : X → Type 0} {put : X → List C} (x : X) → P x → Simulates f code to nothing (put x) P put (give x)
  sim_nothing x p = record { gives = λ h ls w few le stand. here f code to x w p few }

  -- one instruction without an event
  pub sim_plain : {X : Type 0} {P : X → Type 0} {put : X → List C} {i : Instr C} {ops : List C} (x : X) → ((p : ℕ) (ls : List Bool) (w : World C) → act f bare (Some i) p ops ls w ≡ At (p + 1) (put x) ls w) → P x → Simulates f code to (one i) ops P put (give x)
  sim_plain {ops = ops} x e p = record { gives = λ h ls w few le stand. plain_gives f code to ops ls w x (omega arith) (first code stand) (e h.place ls w) p few }

  -- a constant
  pub sim_load : {ops : List C} (c : C) → Simulates f code to (one (Load c)) ops Any (λ v. v ∷ ops) (give c)
  sim_load c = sim_plain c (λ p ls w. refl) tt

  -- an operator
  pub sim_operator : {X : Type 0} {put : X → List C} {i : Instr C} {ops : List C} (r : Result X F) → ((p : ℕ) (ls : List Bool) (w : World C) → act f bare (Some i) p ops ls w ≡ after (λ x w'. At (p + 1) (put x) ls w') (operated r w)) → Simulates f code to (one i) ops Any put (operated r)
  sim_operator {ops = ops} r e = record { gives = λ h ls w few le stand. operator_gives f code to ops ls w r (omega arith) (first code stand) (e h.place ls w) few }

  -- an event with one value for an answer, with none, with any number of them
  pub sim_get : {i : Instr C} {ops below : List C} (k : Kind) (t : Text) (vs : List C) → ((p : ℕ) (ls : List Bool) (w : World C) → act f bare (Some i) p ops ls w ≡ asked f bare k t p (Some (vs, below)) ls w) → size k ≡ OneValue → Simulates f code to (one i) ops Any (λ v. v ∷ below) (get k t vs)
  sim_get {ops = ops} {below = below} k t vs e is = record { gives = λ h ls w few le stand. gets_one f code to k t vs ops below ls w (omega arith) (first code stand) (e h.place ls w) is few }

  pub sim_tell : {i : Instr C} {ops below : List C} (k : Kind) (t : Text) (vs : List C) → ((p : ℕ) (ls : List Bool) (w : World C) → act f bare (Some i) p ops ls w ≡ asked f bare k t p (Some (vs, below)) ls w) → size k ≡ Nothing → Simulates f code to (one i) ops Any (λ _. below) (tell k t vs)
  sim_tell {ops = ops} {below = below} k t vs e is = record { gives = λ h ls w few le stand. tells f code to k t vs ops below ls w (omega arith) (first code stand) (e h.place ls w) is few }

  pub sim_get_all : {i : Instr C} {ops below : List C} (k : Kind) (t : Text) (vs : List C) → ((p : ℕ) (ls : List Bool) (w : World C) → act f bare (Some i) p ops ls w ≡ asked f bare k t p (Some (vs, below)) ls w) → size k ≡ AllValues → Simulates f code to (one i) ops IsCounted (λ us. f.of_u64 (length us) ∷ pushed us below) (get_all k t vs)
  sim_get_all {ops = ops} {below = below} k t vs e is = record { gives = λ h ls w few le stand. gets_all f code to k t vs ops below ls w (omega arith) (first code stand) (e h.place ls w) is few }

  pub sim_do_get : (k : Kind) (t : Text) (vs below : List C) → size k ≡ OneValue → Simulates f code to (one (Do k t (length vs))) (pushed vs below) Any (λ v. v ∷ below) (get k t vs)
  sim_do_get k t vs below is = sim_get k t vs (does f k t (length vs) vs below refl) is

  pub sim_do_tell : (k : Kind) (t : Text) (vs below : List C) → size k ≡ Nothing → Simulates f code to (one (Do k t (length vs))) (pushed vs below) Any (λ _. below) (tell k t vs)
  sim_do_tell k t vs below is = sim_tell k t vs (does f k t (length vs) vs below refl) is

  -- a constant in place of a piece that gives it
  pub sim_folded : {p : Piece C} {ops : List C} (r : Option C) {m : Act C F C} → Folds r m → Simulates f code to p ops Any (λ v. v ∷ ops) m → Simulates f code to (folded r p) ops Any (λ v. v ∷ ops) m
  unfolding folded
  sim_folded None h s = s
  sim_folded {ops = ops} (Some c) {m = m} h s = record {
    gives = λ h' ls w few le stand.
        subst (λ d. Gives f code to (At h'.place ops ls w) (h'.place + 1) ls Any (λ v. v ∷ ops) d) (sym (h.agrees w)) ((sim_load c).gives h' ls w few le stand);
  }

  branch : {X : Type 0} {p q : Piece C} {ops : List C} {P : X → Type 0} {put : X → List C} {m n : Act C F X} (b : Bool) (v : C) → f.is_true v ≡ b → Exact p → Exact q → Simulates f code to p ops P put m → Simulates f code to q ops P put n → (h : Here) (ls : List Bool) (w : World C) → AreFew w.answers → ((branches p q).past h).place ≤ to.end → Stands code h.place ((branches p q).code h) → Gives f code to (At h.place (v ∷ ops) ls w) ((branches p q).past h).place ls P put (choose b m n w)
  unfolding choose
  branch {p = p} {q = q} {ops = ops} {put = put} true v is e e' s k h ls w few le stand =
      let other : Here = behind 1 (p.past (behind 1 h)) in
      let more = grows e (behind 1 h) in
      let most = grows e' other in
      let inner = rest code stand in
      let leave = first code (back code (p.code (behind 1 h)) _ (e.ends (behind 1 h)) inner) in
      from f code to (omega arith) (step_comes f code to (v ∷ ops) ls w (At (h.place + 1) ops ls w) (h.place + 1) refl (omega arith) (first code stand) (ap (λ b. cond b (At (h.place + 1) ops ls w) (At other.place ops ls w)) is) (omega arith))
      (then_jumps f code to (omega arith) (λ x w'. step_comes f code to (put x) ls w' (At (q.past other).place (put x) ls w') (q.past other).place refl (omega arith) leave refl (omega arith))
      (s.gives (behind 1 h) ls w few (omega arith) (front code _ _ inner)))
  branch {p = p} {q = q} {ops = ops} false v is e e' s k h ls w few le stand =
      let other : Here = behind 1 (p.past (behind 1 h)) in
      let more = grows e (behind 1 h) in
      let most = grows e' other in
      let inner = rest code stand in
      let there = rest code (back code (p.code (behind 1 h)) _ (e.ends (behind 1 h)) inner) in
      from f code to (omega arith) (step_comes f code to (v ∷ ops) ls w (At other.place ops ls w) other.place refl (omega arith) (first code stand) (ap (λ b. cond b (At (h.place + 1) ops ls w) (At other.place ops ls w)) is) (omega arith))
      (k.gives other ls w few le there)

  -- the branch that the value on top decides on
  pub sim_branches : {X : Type 0} {p q : Piece C} {ops : List C} {P : X → Type 0} {put : X → List C} {m n : Act C F X} (v : C) → Exact p → Exact q → Simulates f code to p ops P put m → Simulates f code to q ops P put n → Simulates f code to (branches p q) (v ∷ ops) P put (choose (f.is_true v) m n)
  sim_branches v e e' s k = record { gives = branch (f.is_true v) v refl e e' s k }

  if_true : {p : Piece C} {ops : List C} {m : Act C F C} (b : Bool) (v : C) → f.is_true v ≡ b → Exact p → Simulates f code to p ops Any (λ u. u ∷ ops) m → (h : Here) (ls : List Bool) (w : World C) → AreFew w.answers → ((skipping JumpIfFalseOrPop p).past h).place ≤ to.end → Stands code h.place ((skipping JumpIfFalseOrPop p).code h) → Gives f code to (At h.place (v ∷ ops) ls w) ((skipping JumpIfFalseOrPop p).past h).place ls Any (λ u. u ∷ ops) (choose b m (give v) w)
  unfolding choose
  if_true {p = p} {ops = ops} true v is e s h ls w few le stand =
      let l = (p.past (behind 1 h)).place in
      let more = grows e (behind 1 h) in
      from f code to (omega arith) (step_comes f code to (v ∷ ops) ls w (At (h.place + 1) ops ls w) (h.place + 1) refl (omega arith) (first code stand) (ap (λ b. cond b (At (h.place + 1) ops ls w) (At l (v ∷ ops) ls w)) is) (omega arith))
      (s.gives (behind 1 h) ls w few le (rest code stand))
  if_true {p = p} {ops = ops} false v is e s h ls w few le stand =
      let l = (p.past (behind 1 h)).place in
      let more = grows e (behind 1 h) in
      from f code to (omega arith) (step_comes f code to (v ∷ ops) ls w (At l (v ∷ ops) ls w) l refl (omega arith) (first code stand) (ap (λ b. cond b (At (h.place + 1) ops ls w) (At l (v ∷ ops) ls w)) is) (omega arith))
      (here f code to v w tt few)

  if_false : {p : Piece C} {ops : List C} {m : Act C F C} (b : Bool) (v : C) → f.is_true v ≡ b → Exact p → Simulates f code to p ops Any (λ u. u ∷ ops) m → (h : Here) (ls : List Bool) (w : World C) → AreFew w.answers → ((skipping JumpIfTrueOrPop p).past h).place ≤ to.end → Stands code h.place ((skipping JumpIfTrueOrPop p).code h) → Gives f code to (At h.place (v ∷ ops) ls w) ((skipping JumpIfTrueOrPop p).past h).place ls Any (λ u. u ∷ ops) (choose b (give v) m w)
  unfolding choose
  if_false {p = p} {ops = ops} true v is e s h ls w few le stand =
      let l = (p.past (behind 1 h)).place in
      let more = grows e (behind 1 h) in
      from f code to (omega arith) (step_comes f code to (v ∷ ops) ls w (At l (v ∷ ops) ls w) l refl (omega arith) (first code stand) (ap (λ b. cond b (At l (v ∷ ops) ls w) (At (h.place + 1) ops ls w)) is) (omega arith))
      (here f code to v w tt few)
  if_false {p = p} {ops = ops} false v is e s h ls w few le stand =
      let l = (p.past (behind 1 h)).place in
      let more = grows e (behind 1 h) in
      from f code to (omega arith) (step_comes f code to (v ∷ ops) ls w (At (h.place + 1) ops ls w) (h.place + 1) refl (omega arith) (first code stand) (ap (λ b. cond b (At l (v ∷ ops) ls w) (At (h.place + 1) ops ls w)) is) (omega arith))
      (s.gives (behind 1 h) ls w few le (rest code stand))

  if_skipped : {X : Type 0} {P : X → Type 0} {put : X → List C} {p : Piece C} {m : Act C F X} (b : Bool) (u : C) (x : X) → f.is_true u ≡ b → P x → Exact p → Simulates f code to p (put x) P put m → (h : Here) (ls : List Bool) (w : World C) → AreFew w.answers → ((skipping JumpIfFalse p).past h).place ≤ to.end → Stands code h.place ((skipping JumpIfFalse p).code h) → Gives f code to (At h.place (u ∷ put x) ls w) ((skipping JumpIfFalse p).past h).place ls P put (choose b m (give x) w)
  unfolding choose
  if_skipped {put = put} {p = p} true u x is ok e s h ls w few le stand =
      let l = (p.past (behind 1 h)).place in
      let more = grows e (behind 1 h) in
      from f code to (omega arith) (step_comes f code to (u ∷ put x) ls w (At (h.place + 1) (put x) ls w) (h.place + 1) refl (omega arith) (first code stand) (ap (λ b. cond b (At (h.place + 1) (put x) ls w) (At l (put x) ls w)) is) (omega arith))
      (s.gives (behind 1 h) ls w few le (rest code stand))
  if_skipped {put = put} {p = p} false u x is ok e s h ls w few le stand =
      let l = (p.past (behind 1 h)).place in
      let more = grows e (behind 1 h) in
      from f code to (omega arith) (step_comes f code to (u ∷ put x) ls w (At l (put x) ls w) l refl (omega arith) (first code stand) (ap (λ b. cond b (At (h.place + 1) (put x) ls w) (At l (put x) ls w)) is) (omega arith))
      (here f code to x w ok few)

  -- a piece that changes what stands where the value on top is true
  pub sim_skipped : {X : Type 0} {P : X → Type 0} {put : X → List C} {p : Piece C} {m : Act C F X} (b : Bool) (u : C) (x : X) → f.is_true u ≡ b → P x → Exact p → Simulates f code to p (put x) P put m → Simulates f code to (skipping JumpIfFalse p) (u ∷ put x) P put (choose b m (give x))
  sim_skipped b u x is ok e s = record { gives = if_skipped b u x is ok e s }

  -- the right side is taken only where the left one is true, or only where it is false
  pub sim_if_true : {p : Piece C} {ops : List C} {m : Act C F C} (v : C) → Exact p → Simulates f code to p ops Any (λ u. u ∷ ops) m → Simulates f code to (skipping JumpIfFalseOrPop p) (v ∷ ops) Any (λ u. u ∷ ops) (choose (f.is_true v) m (give v))
  sim_if_true v e s = record { gives = if_true (f.is_true v) v refl e s }

  pub sim_if_false : {p : Piece C} {ops : List C} {m : Act C F C} (v : C) → Exact p → Simulates f code to p ops Any (λ u. u ∷ ops) m → Simulates f code to (skipping JumpIfTrueOrPop p) (v ∷ ops) Any (λ u. u ∷ ops) (choose (f.is_true v) (give v) m)
  sim_if_false v e s = record { gives = if_false (f.is_true v) v refl e s }
