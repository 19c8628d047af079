-- The code of operators of two sides while it is being made.
use Rattle.std.specs.Prelude.{◌≡◌, ℕ, List, length, Option}
use Rattle.minijinja_value.specs.Values.{Functions}
use Rattle.minijinja_tree.specs.BinOps.{BinOp}
use Rattle.minijinja_tree.specs.Folding.{if_some, fold_binary}
use Rattle.minijinja_tree.specs.Operators.{Working, working}
use Rattle.minijinja_tree.specs.Tree.{Expr, binary}
use Rattle.minijinja_tree.specs.WellFormed.{IsWhole}
use Rattle.minijinja_semantics.specs.Code.{Instr}
use Rattle.minijinja_semantics.specs.Layout.{expr}
use Rattle.minijinja_code_expr.specs.internal.Leading.{before_right}
use Rattle.minijinja_emitter.specs.internal.Making.{Made, Adds, alone, between}

-- both sides of an operator were added: the left one from `start` to `middle`, and the right one
-- after room for a jump
pub record Sides {C F : Type 0} (f : Functions C F) (o : BinOp) (a b : Expr C) (start middle : ℕ) (old new : Made C) : Type 0 where
  pub left : Made C
  pub room : Made C
  pub from : start ≡ length old.code
  pub left_added : Adds old left (expr f a)
  pub at : middle ≡ length left.code
  pub room_added : Adds left room (before_right (working o))
  pub right_added : Adds room new (expr f b)

-- what comes after them was added
abbrev pub EndsBinary : {C F : Type 0} → Functions C F → BinOp → (start middle : ℕ) (old new : Made C) → Type 0
EndsBinary {C} f o start middle old new = (a b : Expr C) (begun : Made C) → IsWhole a → IsWhole b → Sides f o a b start middle begun old → Adds begun new (expr f (binary o a b))

-- what an operator makes of the constants from one place to another and from there on, if these are
-- constants
abbrev pub known_between : {C F : Type 0} → Functions C F → Working → (start middle : ℕ) → List (Instr C) → Option C
known_between f w start middle code = if_some (alone (between start middle code)) (λ a. if_some (alone (between middle (length code) code)) (λ b. fold_binary f w a b))
