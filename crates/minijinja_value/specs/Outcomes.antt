-- What an operator returns, seen on contents.
use Rattle.std.specs.Prelude.{◌≡◌, Result, Ok, Err, List, map}
use Rattle.minijinja_value.specs.declared.value.OpError.{OpError}
use Rattle.minijinja_value.specs.declared.value.OpError.TheVariants.{OutOfMemory, Fault}

-- unless memory was refused, the result is the outcome, its value and its fault seen as what they
-- hold
abbrev pub IsOutcome : {A F C G : Type 0} → (A → C) → (F → G) → Result C G → Result A (OpError F) → Type 0
IsOutcome value fault outcome (Ok a) = outcome ≡ Ok (value a)
IsOutcome value fault outcome (Err (Fault f)) = outcome ≡ Err (fault f)
IsOutcome value fault outcome (Err OutOfMemory) = Unit {0}

-- the result is not that memory was refused
abbrev pub IsNotOutOfMemory : {A F : Type 0} → Result A (OpError F) → Type 0
IsNotOutOfMemory (Ok a) = Unit {0}
IsNotOutOfMemory (Err (Fault f)) = Unit {0}
IsNotOutOfMemory (Err OutOfMemory) = ⊥

-- what both parts of each pair hold
abbrev pub map_pairs : {A C : Type 0} → (A → C) → List (A × A) → List (C × C)
map_pairs f pairs = map (λ p. (f p.0, f p.1)) pairs
