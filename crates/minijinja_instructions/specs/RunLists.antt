-- Values that are in force from a place on, up to the next.
use Rattle.std.specs.Prelude.{ℕ, zero, suc, ◌<◌, List, [], ◌∷◌, ◌++◌, All, Option, Some, None, if◌then◌else◌, leb}
use Rattle.std.specs.List.Sorted.{IsNonDecreasingBy}
use Rattle.minijinja_instructions.specs.declared.runs.Run.{Run}

-- the value of the last one that begins at or before a place, or else this one
abbrev pub in_force_after : {X : Type 0} → Option X → List (Run X) → ℕ → Option X
in_force_after x [] i = x
in_force_after x (r ∷ rs) i = in_force_after (if leb r.first i then Some r.value else x) rs i

abbrev pub in_force : {X : Type 0} → List (Run X) → ℕ → Option X
in_force rs i = in_force_after None rs i

-- what is in force at the given number of first places
abbrev pub values_up_to : {X : Type 0} → List (Run X) → ℕ → List (Option X)
values_up_to rs zero = []
values_up_to rs (suc n) = values_up_to rs n ++ in_force rs n ∷ []

-- they begin before this place, in order
pub record AreBefore {X : Type 0} (n : ℕ) (rs : List (Run X)) : Type 0 where
  pub rising : IsNonDecreasingBy (λ r. r.first) rs
  pub before : All (λ r. r.first < n) rs
