-- The marks of macros while their code is made.
use Rattle.std.specs.Prelude.{◌≡◌, List, ◌∷◌, reverse}
use Rattle.minijinja_value.specs.Values.{Functions}
use Rattle.minijinja_tree.specs.SpannedTrees.{Expr}
use Rattle.minijinja_semantics.specs.Marks.{Margin, taking}

-- an argument was marked, with the last of these defaults, if there is any, and these are left: the
-- arguments before it, marked then, are all of them
abbrev pub TakesMarks : {C F : Type 0} → Functions C F → Expr C → (defaults left : List (Expr C)) → (old new : Margin) → Type 0
TakesMarks {C} f e defaults left old new = (before : List (Expr C)) → taking f before (reverse left) new ≡ taking f (e ∷ before) (reverse defaults) old
