-- The code of loops while it is being made.
use Rattle.std.specs.Prelude.{◌≡◌, ℕ, ◌+◌, Bool, true, List, [], ◌∷◌, ◌++◌, length, slice_set}
use Rattle.minijinja_value.specs.Values.{Functions}
use Rattle.minijinja_tree.specs.Tree.{Expr, Optional}
use Rattle.minijinja_semantics.specs.Code.{PushLoop, Jump, Iterate}
use Rattle.minijinja_semantics.specs.Layout.{expr, target, passing, popping}
use Rattle.minijinja_semantics.specs.Meaning.{loop_flags}
use Rattle.minijinja_semantics.specs.Pieces.{behind, Piece, Open, one, closing_instructions}
use Rattle.minijinja_emitter.specs.internal.Making.{Made, Adds, hole, reach}
use Rattle.minijinja_code_parts.specs.internal.EnclosingLoops.{Around, with_ends}

-- a loop was begun, the place where it asks for its next item was reserved, and its target was
-- added; within it nothing is open yet
pub record Begins {C F : Type 0} (f : Functions C F) (e : Expr C) (recursive : Bool) (bytes : ℕ) (old new : Made C) (t : Around) : Type 0 where
  pub pushed : Made C
  pub held : Made C
  pub push_added : Adds old pushed (one (PushLoop (loop_flags recursive)))
  pub hole_added : Adds pushed held (one hole)
  pub target_added : Adds held new (target f e)
  pub within : t ≡ record { in_loop = true; iterate = length pushed.code; opened = []; breaks = []; bytes = bytes }

-- the items of a loop were added, those alone that pass its test if it has one, and then the loop
-- was begun
pub record BeginsOver {C F : Type 0} (f : Functions C F) (e v : Expr C) (only : Optional C) (recursive : Bool) (bytes : ℕ) (old new : Made C) (t : Around) : Type 0 where
  pub given : Made C
  pub items_added : Adds old given (passing f e only (expr f v))
  pub begins : Begins f e recursive bytes given new t

-- the code so far, with a jump to its end at each of these places
abbrev pub leading_on : {C : Type 0} → List ℕ → Made C → Made C
leading_on ps m = record m { code = with_ends ps (reach (length m.code)) m.code }

-- the body of a loop that asks for its next item at a place was ended: it jumps back there, and
-- where there is no next item, and from the reserved places, the code leads to what comes after
-- that jump
abbrev pub turned : {C : Type 0} → (iterate : ℕ) (breaks : List ℕ) → Made C → Made C
turned iterate breaks m =
    let end = reach (length m.code + 1) in
    record m { code = slice_set (with_ends breaks end (m.code ++ Jump (reach iterate) ∷ [])) iterate (Iterate end) }

-- a loop was ended, with the question whether no item came, and the place of the jump past its else
-- body was reserved
pub record EndsBeforeElse {C : Type 0} (place : ℕ) (old new : Made C) : Type 0 where
  pub ended : Made C
  pub end_added : Adds old ended (popping true)
  pub at : place ≡ length ended.code
  pub hole_added : Adds ended new (one hole)

-- what is open is closed
abbrev pub closed : {C : Type 0} → List Open → Piece C
closed {C} os = record { past = behind (length (closing_instructions {C = C} os)); code = λ h. closing_instructions os }
