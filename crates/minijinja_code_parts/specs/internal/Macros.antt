-- The code of macros while it is being made.
use Rattle.std.specs.Prelude.{ℕ, List, [], ◌∷◌, ◌++◌, reverse, Option, Some, None}
use Rattle.std.specs.Borrow.{Bor}
use Rattle.minijinja_value.specs.Values.{Functions}
use Rattle.minijinja_tree.specs.Tree.{Expr, Macro, macro, defaulted}
use Rattle.minijinja_semantics.specs.Code.{Load, Do, BuildMacro}
use Rattle.minijinja_semantics.specs.Events.{GetClosure}
use Rattle.minijinja_semantics.specs.Layout.{enclosing, taking}
use Rattle.minijinja_semantics.specs.Macros.{enclosed, macro_flags, argument_names}
use Rattle.minijinja_semantics.specs.Pieces.{Piece, one, ◌▸◌}
use Rattle.minijinja_emitter.specs.internal.Making.{Made, Adds}

-- what makes a macro whose body begins at a place, after that body
abbrev pub building : {C L F : Type 0} → Functions C F → Macro C L → (entry : ℕ) → Piece C
building f (macro n x args defaults body) entry =
    enclosing (enclosed (macro n x args defaults body)) ▸ one (Do GetClosure [] 0) ▸ one (Load (argument_names f args)) ▸ one (BuildMacro x entry (macro_flags (macro n x args defaults body)))

-- what is left of a list, of which the last one was taken off
abbrev pub left_of : {X : Type 0} → Option (Bor X × Bor (List X)) → List X
left_of None = []
left_of (Some p) = p.1.now ++ p.0.now ∷ []

-- what stands before that one
abbrev pub before_last : {X : Type 0} → Option (Bor X × Bor (List X)) → List X
before_last None = []
before_last (Some p) = p.1.now

-- An argument was stored, with the last of these defaults, if there is any, and the defaults that
-- are left: adding the arguments before it then makes the code of all of them.
pub record TakesArgument {C F : Type 0} (f : Functions C F) (e : Expr C) (defaults left : List (Expr C)) (old new : Made C) : Type 0 where
  pub takes : (before : List (Expr C)) (later : Made C) → Adds new later (taking f (defaulted before (reverse left))) → Adds old later (taking f (defaulted (e ∷ before) (reverse defaults)))
