-- The number of answers and of the values in them.
use Rattle.std.specs.Prelude.{ℕ, suc, ◌+◌, ◌<◌, ◌≤◌, ◌^◌, List, [], ◌∷◌, length}
use Rattle.minijinja_semantics.specs.Events.{Answer, Fault, Values}

-- the number of answers and of the values in them
abbrev pub volume : {C : Type 0} → List (Answer C) → ℕ
volume [] = 0
volume (Fault ∷ rest) = suc (volume rest)
volume (Values vs ∷ rest) = suc (length vs + volume rest)

-- they are fewer than 2^64
pub record AreFew {C : Type 0} (answers : List (Answer C)) : Type 0 where
  pub under : volume answers < 2 ^ 64

-- answers that are left of others: no more of them, and no more values in them
pub record AreLeftOf {C : Type 0} (before left : List (Answer C)) : Type 0 where
  pub fewer : length left ≤ length before
  pub less : volume left ≤ volume before
