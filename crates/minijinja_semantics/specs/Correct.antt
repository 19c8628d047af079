-- The statement that code does what a tree means.
use Rattle.std.specs.Prelude.{◌≡◌, ℕ, ◌+◌, ◌*◌, ◌≤◌, List, [], ◌∷◌, ◌++◌, length, Bool}
use Rattle.minijinja_value.specs.Values.{Functions}
use Rattle.minijinja_tree.specs.Tree.{Expr, Stmt}
use Rattle.minijinja_semantics.specs.Events.{Event, Answer, World, Did, Gave, Ended, Means}
use Rattle.minijinja_semantics.specs.Answers.{AreFew}
use Rattle.minijinja_semantics.specs.Meaning.{expr, stmt, Signal}
use Rattle.minijinja_semantics.specs.Code.{Instr}
use Rattle.minijinja_semantics.specs.Machine.{State, At, Halted, Finish, AtPlace, finished, run, traced}
use Rattle.minijinja_semantics.specs.Naming.{state_as, event_of}
use Rattle.minijinja_semantics.specs.Brackets.{IsBalanced}

-- nothing has happened yet
abbrev pub fresh : {E C : Type 0} → List (Answer C) → World E C
fresh answers = record { record_so_far = []; answers = answers }

-- A part of the code that may be entered by itself: at a place, with the given operands. It is over
-- where it finishes, and there it has replaced the given operands by those that it leaves.
pub record Entry (C X : Type 0) : Type 0 where
  pub place : ℕ
  pub given : List C
  pub finish : Finish
  pub leaves : X → List C

-- the state in which a run is over whose meaning is this: it has finished, with what the unit
-- leaves on the operands below and with the open loops unchanged, or it has ended as the meaning
-- ends
abbrev pub over : {E C F X : Type 0} → Entry C X → (below : List C) (loops : List Bool) → Did E C F X → State E C F
over u below loops (Gave w x) = finished u.finish (u.leaves x ++ below) loops w
over u below loops (Ended w e) = Halted w e

-- The code, entered at the unit over these operands and open loops, comes to the state that the
-- meaning with these answers has: with its record, its answers left and its ending, within
-- (answers + 1) * (code length + 1) steps; and the record is balanced.
pub record DoesFrom {C F X : Type 0} (f : Functions C F) (code : List (Instr C)) (u : Entry C X) (meaning : Did (Event ℕ C) C F X) (below : List C) (loops : List Bool) (answers : List (Answer C)) : Type 0 where
  pub steps : ℕ
  pub within : steps ≤ (length answers + 1) * (length code + 1)
  pub ends : (k : ℕ) → steps ≤ k → state_as event_of (run f traced code u.finish k (At u.place (u.given ++ below) loops (fresh answers))) ≡ over u below loops meaning
  pub balanced : IsBalanced meaning

-- That holds over any operands and open loops, and for any answers, if they and the values in them
-- are fewer than 2^64.
abbrev pub Does : {C F X : Type 0} → Functions C F → List (Instr C) → Entry C X → Means ℕ C F X → Type 0
Does {C} {F} f code u meaning =
    (below : List C) (loops : List Bool) (answers : List (Answer C)) → AreFew answers →
    DoesFrom f code u (meaning (fresh answers)) below loops answers

-- the code of a statement, from place to place, leaves nothing
abbrev pub a_statement : {C : Type 0} → (start end : ℕ) → Entry C Signal
a_statement start end = record { place = start; given = []; finish = AtPlace end; leaves = λ g. [] }

-- the code of an expression leaves its value
abbrev pub an_expression : {C : Type 0} → (start end : ℕ) → Entry C C
an_expression start end = record { place = start; given = []; finish = AtPlace end; leaves = λ v. v ∷ [] }

-- the code between these places does what the statement means, whose loops and macros are named by
-- their places
abbrev pub DoesStmt : {C F : Type 0} → Functions C F → List (Instr C) → (start end : ℕ) → Stmt C ℕ → Type 0
DoesStmt f code start end t = Does f code (a_statement start end) (stmt f t)

-- the code between these places does what the expression means
abbrev pub DoesExpr : {C F : Type 0} → Functions C F → List (Instr C) → (start end : ℕ) → Expr C → Type 0
DoesExpr f code start end e = Does f code (an_expression start end) (expr f e)
