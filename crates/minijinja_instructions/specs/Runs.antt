-- What runs show.
use Rattle.std.specs.Prelude.{ℕ, zero, suc, ◌<◌, List, [], ◌∷◌, Option, vec_len, vec_capacity}
use Rattle.minijinja_instructions.specs.RunLists.{values_up_to}
use Rattle.minijinja_instructions.specs.declared.runs.Runs.{Runs}

-- the value in force at each place
abbrev pub values_of : {X : Type 0} → Runs X → List (Option X)
values_of r = values_up_to r.runs.items r.len

-- the element at a place; past the end the last one, and in an empty list this one
abbrev pub at_or_last : {X : Type 0} → X → List X → ℕ → X
at_or_last d [] i = d
at_or_last d (x ∷ xs) zero = x
at_or_last d (x ∷ xs) (suc i) = at_or_last x xs i

-- a change needs no memory
abbrev pub HasRoom : {X : Type 0} → Runs X → Type 0
HasRoom r = vec_len r.runs < vec_capacity r.runs
