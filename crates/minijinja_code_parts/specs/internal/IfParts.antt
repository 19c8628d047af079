-- The code of `if` statements while it is being made.
use Rattle.std.specs.Prelude.{◌≡◌, ℕ, length}
use Rattle.minijinja_value.specs.Values.{Functions}
use Rattle.minijinja_tree.specs.Tree.{Expr}
use Rattle.minijinja_semantics.specs.Layout.{expr}
use Rattle.minijinja_semantics.specs.Pieces.{one}
use Rattle.minijinja_emitter.specs.internal.Making.{Made, Adds, hole}

-- a test was added, and the place of its jump was reserved
pub record Tests {C F : Type 0} (f : Functions C F) (e : Expr C) (place : ℕ) (old new : Made C) : Type 0 where
  pub tested : Made C
  pub test_added : Adds old tested (expr f e)
  pub at : place ≡ length tested.code
  pub hole_added : Adds tested new (one hole)
