-- What a step comes to, from what its parts came to.
use Rattle.std.proofs.Common.{◌≡◌, ℕ, ◌+◌, List, [], ◌∷◌, ◌++◌, Some, map, ap, ◌∙◌, sym}
use Rattle.std.specs.Prelude.{Bool, true, false, reverse, slice_get, Result, Ok, Err, IfOk}
use Rattle.minijinja_syntax.specs.Texts.{Text}
use Rattle.minijinja_value.specs.Values.{Functions}
use Rattle.minijinja_semantics.specs.Code.{Instr, BuildMacro, UnpackList, PushLoop, Iterate, PopLoopFrame}
use Rattle.minijinja_semantics.specs.Events.{World, OperatorFault, ask, operated}
use Rattle.minijinja_semantics.specs.Machine.{State, At, Halted, Asked, OneValue, act, after, did, iterated, popped, traced}
use Rattle.minijinja_instructions.specs.Instructions.{code_of}
use Rattle.minijinja_replay.specs.Replay.{asks}
use Rattle.minijinja_replay.specs.private.AtMachine.{Asks, fitting, head_of, loops, note, stack, took, world}
use Rattle.minijinja_replay.specs.declared.asking.Fit.{Fit}
use Rattle.minijinja_replay.specs.declared.asking.Fit.TheVariants as fit
use Rattle.minijinja_replay.specs.declared.asking.Taken.{Taken}
use Rattle.minijinja_replay.specs.declared.machine.Machine.{Machine}
use Rattle.minijinja_replay.proofs.Answering.{ask_item, ask_none}
use Rattle.minijinja_replay.proofs.Stacks.{two_off}

-- two states of equal parts
pub at_same : {E C F : Type 0} {p p' : ℕ} {ops ops' : List C} {ls ls' : List Bool} {w w' : World E C} → p ≡ p' → ops ≡ ops' → ls ≡ ls' → w ≡ w' → ◌≡◌ {A = State E C F} (At p ops ls w) (At p' ops' ls' w')
at_same a b c d = cc

-- an event is noted alike while the code and the place stay
pub note_kept : {V G C : Type 0} (c : V → C) (m m' : Machine V G) (vs : List C) → m'.place ≡ m.place → m'.code ≡ m.code → note c m' vs ≡ note c m vs
note_kept {C = C} c m m' vs place code =
    let noted : List (Instr C) → ℕ → Asked C = λ is p. record { place = p; event = asks (slice_get is p) p vs } in
    ap (λ is. noted is m'.place) (ap (λ k. code_of c k.now) code) ∙ ap (noted (code_of c m.code.now)) place

module _ {V G C F : Type 0} (f : Functions C F) (c : V → C) (fc : G → F) (m m' new : Machine V G) (vs : List V) (t t' : Taken V G)
    (is : t ≡ t') (place : m'.place ≡ m.place) (code : m'.code ≡ m.code) (same : world c m' ≡ world c m) where
  -- what was asked, with the operands that were taken off
  asked_as : (z : Fit) (e : List C → Asked C) (xs : List C) →
      ((ys : List C) → note c m ys ≡ e ys) → map c vs ≡ xs →
      ask (fitting z) (note c m' (map c vs)) (world c m') ≡ took c fc t (world c new) →
      ask (fitting z) (e xs) (world c m) ≡ took c fc t' (world c new)
  asked_as z e xs at operands answer =
      let event : note c m' (map c vs) ≡ e xs = note_kept c m m' (map c vs) place code ∙ at (map c vs) ∙ ap e operands in
      ap (λ x. ask (fitting z) x (world c m)) (sym event) ∙ ap (ask (fitting z) (note c m' (map c vs))) (sym same) ∙ answer
      ∙ ap (λ x. took c fc x (world c new)) is

  -- a loop begins over the value on top
  pub begins : (flags : ℕ) (v : V) (below : List C) → Asks c m (Some (PushLoop flags)) → stack c m ≡ c v ∷ below → vs ≡ v ∷ [] →
      ask (fitting fit.Nothing) (note c m' (map c vs)) (world c m') ≡ took c fc t (world c new) →
      act f traced (Some (PushLoop flags)) m.place (stack c m) (loops c m) (world c m) ≡ after (λ _ w. At (m.place + 1) below (false ∷ loops c m) w) (took c fc t' (world c new))
  begins flags v below at top one answer =
      let e : List C → Asked C = λ ys. traced m.place (asks (Some (PushLoop flags)) m.place ys) in
      let on : World (Asked C) C → State (Asked C) C F = λ w. At (m.place + 1) below (false ∷ loops c m) w in
      ap (λ ops. act f traced (Some (PushLoop flags)) m.place ops (loops c m) (world c m)) top
      ∙ ask_none on (e (c v ∷ [])) (world c m)
      ∙ ap (after (λ _ w. on w)) (asked_as fit.Nothing e (c v ∷ []) at (ap (map c) one) answer)

  -- the innermost loop ends
  pub ends : (came : Bool) (outer : List Bool) → Asks c m (Some PopLoopFrame) → loops c m ≡ came ∷ outer → vs ≡ [] →
      ask (fitting fit.Nothing) (note c m' (map c vs)) (world c m') ≡ took c fc t (world c new) →
      act f traced (Some PopLoopFrame) m.place (stack c m) (loops c m) (world c m) ≡ after (λ _ w. At (m.place + 1) (stack c m) outer w) (took c fc t' (world c new))
  ends came outer at loop none answer =
      let e : List C → Asked C = λ ys. traced m.place (asks (Some PopLoopFrame) m.place ys) in
      let on : World (Asked C) C → State (Asked C) C F = λ w. At (m.place + 1) (stack c m) outer w in
      ap (λ ls. act f traced (Some PopLoopFrame) m.place (stack c m) ls (world c m)) loop
      ∙ ask_none on (e []) (world c m)
      ∙ ap (after (λ _ w. on w)) (asked_as fit.Nothing e [] at (ap (map c) none) answer)

  -- the innermost loop asks for its next item
  pub iterates : (past : ℕ) (came : Bool) (outer : List Bool) → Asks c m (Some (Iterate past)) → loops c m ≡ came ∷ outer → vs ≡ [] →
      ask (fitting fit.AtMostOne) (note c m' (map c vs)) (world c m') ≡ took c fc t (world c new) →
      act f traced (Some (Iterate past)) m.place (stack c m) (loops c m) (world c m) ≡ after (λ xs w. iterated past m.place (stack c m) came outer (head_of (reverse xs)) w) (took c fc t' (world c new))
  iterates past came outer at loop none answer =
      let e : List C → Asked C = λ ys. traced m.place (asks (Some (Iterate past)) m.place ys) in
      ap (λ ls. act f traced (Some (Iterate past)) m.place (stack c m) ls (world c m)) loop
      ∙ ask_item (iterated past m.place (stack c m) came outer) (e []) (world c m)
      ∙ ap (after (λ xs w. iterated past m.place (stack c m) came outer (head_of (reverse xs)) w)) (asked_as fit.AtMostOne e [] at (ap (map c) none) answer)

  -- the value on top is taken apart
  pub unpacks : (n : ℕ) (v : V) (below : List C) → Asks c m (Some (UnpackList n)) → stack c m ≡ c v ∷ below → vs ≡ v ∷ [] →
      ask (fitting (fit.Exactly n)) (note c m' (map c vs)) (world c m') ≡ took c fc t (world c new) →
      act f traced (Some (UnpackList n)) m.place (stack c m) (loops c m) (world c m) ≡ after (λ xs w. At (m.place + 1) (xs ++ below) (loops c m) w) (took c fc t' (world c new))
  unpacks n v below at top one answer =
      let e : List C → Asked C = λ ys. traced m.place (asks (Some (UnpackList n)) m.place ys) in
      ap (λ ops. act f traced (Some (UnpackList n)) m.place ops (loops c m) (world c m)) top
      ∙ ap (after (λ xs w. At (m.place + 1) (xs ++ below) (loops c m) w)) (asked_as (fit.Exactly n) e (c v ∷ []) at (ap (map c) one) answer)

-- with an item, and without one
pub comes : {E C F : Type 0} (past p : ℕ) (ops : List C) (came : Bool) (outer : List Bool) (xs below : List C) (v : C) (w : World E C) → reverse xs ≡ v ∷ below →
    iterated {F = F} past p ops came outer (head_of (reverse xs)) w ≡ At (p + 1) (v ∷ ops) (true ∷ outer) w
unfolding iterated
comes past p ops came outer xs below v w e = ap (λ ys. iterated past p ops came outer (head_of ys) w) e

pub past_last : {E C F : Type 0} (past p : ℕ) (ops : List C) (came : Bool) (outer : List Bool) (xs : List C) (w : World E C) → xs ≡ [] →
    iterated {F = F} past p ops came outer (head_of (reverse xs)) w ≡ At past ops (came ∷ outer) w
unfolding iterated
past_last past p ops came outer xs w e = ap (λ ys. iterated past p ops came outer (head_of (reverse ys)) w) e

-- an operator has a result
pub computes : {E C F X : Type 0} (k : X → World E C → State E C F) (r : Result X F) (x : X) (w : World E C) → r ≡ Ok x → after k (operated r w) ≡ k x w
unfolding operated
computes k r x w e = ap (λ y. after k (operated y w)) e

-- an operator has no result
pub faults : {E C F X : Type 0} (k : X → World E C → State E C F) (r : Result X F) (x : F) (w : World E C) → r ≡ Err x → after k (operated r w) ≡ Halted w (OperatorFault x)
unfolding operated
faults k r x w e = ap (λ y. after k (operated y w)) e

-- what was taken off together is what a macro is made of
pub makes_macro : {V G C F : Type 0} (f : Functions C F) (c : V → C) (m new : Machine V G) (vs : List V) (x : Text) (body flags : ℕ) →
    Asks c m (Some (BuildMacro x body flags)) → popped 2 (stack c m) [] ≡ Some (map c vs, stack c new) →
    new.place ≡ m.place → new.code ≡ m.code → loops c new ≡ loops c m → world c new ≡ world c m →
    act f traced (Some (BuildMacro x body flags)) m.place (stack c m) (loops c m) (world c m) ≡ did f OneValue (note c new (map c vs)) new.place (stack c new) (loops c new) (world c new)
unfolding did
makes_macro {C = C} {F = F} f c m new vs x body flags at off place code same_loops same_world =
    let h : List C → List C → State (Asked C) C F = λ ys below. did f OneValue (traced m.place (asks (Some (BuildMacro x body flags)) m.place ys)) m.place below (loops c m) (world c m) in
    let event = note_kept c m new (map c vs) place code ∙ at (map c vs) in
    two_off h (stack c m) (map c vs) (stack c new) off
    ∙ ap (λ e. did f OneValue e m.place (stack c new) (loops c m) (world c m)) (sym event)
    ∙ ap (λ p. did f OneValue (note c new (map c vs)) p (stack c new) (loops c m) (world c m)) (sym place)
    ∙ ap (λ ls. did f OneValue (note c new (map c vs)) new.place (stack c new) ls (world c m)) (sym same_loops)
    ∙ ap (λ w. did f OneValue (note c new (map c vs)) new.place (stack c new) (loops c new) w) (sym same_world)

-- what holds of a result follows from what holds of it
pub if_ok_then : {X E : Type 0} {P Q : X → Type 0} (r : Result X E) → ((x : X) → P x → Q x) → IfOk r P → IfOk r Q
if_ok_then (Ok x) h p = h x p
if_ok_then (Err e) h p = p
