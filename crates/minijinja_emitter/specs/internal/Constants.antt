-- Constants that code loads, and that are removed from it.
use Rattle.std.specs.Prelude.{◌≡◌, ℕ, List, [], ◌∷◌, ◌++◌, ◌-◌, length, take, drop, Option, Some, None, Bool, true, false}
use Rattle.minijinja_value.specs.Values.{Functions}
use Rattle.minijinja_semantics.specs.Code.{Instr, Load}
use Rattle.minijinja_emitter.specs.internal.Making.{Made, alone, between}

-- the constant that the last instruction loads, if it loads one
abbrev pub last_loaded : {C : Type 0} → List (Instr C) → Option C
last_loaded code = alone (drop (length code - 1) code)

abbrev pub without_last : {C : Type 0} → List (Instr C) → List (Instr C)
without_last code = take (length code - 1) code

abbrev pub are_both : {C : Type 0} → Option C → Option C → Bool
are_both (Some a) (Some b) = true
are_both _ _ = false

-- whether the instructions from `start` and from `middle` on each load a constant and do nothing
-- else
abbrev pub both_loaded : {C : Type 0} → (start middle : ℕ) → List (Instr C) → Bool
both_loaded start middle code = are_both (alone (between start middle code)) (alone (between middle (length code) code))

-- if they do, these instructions were removed; otherwise nothing was changed
abbrev pub TakesConstants : {V C : Type 0} → (V → C) → (start middle : ℕ) → Made C → Option (V × V) → Made C → Type 0
TakesConstants v start middle old (Some two) new =
    (Some (v two.0) ≡ alone (between start middle old.code)) × (Some (v two.1) ≡ alone (between middle (length old.code) old.code)) × (new ≡ record old { code = take start old.code })
TakesConstants v start middle old None new = (both_loaded start middle old.code ≡ false) × (new ≡ old)

-- the constant that the instructions from a place on load, if they do nothing else
abbrev pub loaded_from : {C : Type 0} → (place : ℕ) → List (Instr C) → Option C
loaded_from place code = alone (between place (length code) code)

-- these instructions were removed and their constant is given; or there is none, and nothing was
-- changed
abbrev pub TakesConstant : {V C : Type 0} → (V → C) → (place : ℕ) → Made C → Option V → Made C → Type 0
TakesConstant v place old (Some value) new = (Some (v value) ≡ loaded_from place old.code) × (new ≡ record old { code = take place old.code })
TakesConstant v place old None new = (None ≡ loaded_from place old.code) × (new ≡ old)

-- that constant was joined with one on its right, and the result is loaded instead; or there is
-- none, and nothing was changed
abbrev pub Joins : {C F : Type 0} → Functions C F → (place : ℕ) → (right : C) → (joined : Bool) → (old new : Made C) → Type 0
Joins {C} f place right true old new = (left : C) × (Some left ≡ loaded_from place old.code) × (new ≡ record old { code = take place old.code ++ Load (f.concat left right) ∷ [] })
Joins f place right false old new = (None ≡ loaded_from place old.code) × (new ≡ old)
