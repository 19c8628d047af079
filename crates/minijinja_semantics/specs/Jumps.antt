-- The places that the instructions of a list may lead to.
use Rattle.std.specs.Prelude.{◌≡◌, ℕ, zero, suc, ◌≤◌, min, List, [], ◌∷◌, length, Option, Some, None, slice_get}
use Rattle.minijinja_semantics.specs.Code.{Instr, Jump, JumpIfFalse, JumpIfFalseOrPop, JumpIfTrueOrPop, Iterate}

-- the place that an instruction may lead to beside the next one
abbrev pub jump_target : {C : Type 0} → Instr C → Option ℕ
jump_target (Jump l) = Some l
jump_target (JumpIfFalse l) = Some l
jump_target (JumpIfFalseOrPop l) = Some l
jump_target (JumpIfTrueOrPop l) = Some l
jump_target (Iterate l) = Some l
jump_target _ = None

-- the last place that an instruction may name
abbrev pub last_target : ℕ
last_target = 4294967295

-- a place, as far as an instruction may name one
abbrev pub reach : ℕ → ℕ
reach = min last_target

-- an instruction that leads to this place, if it is a jump
abbrev pub led_to : {C : Type 0} → ℕ → Instr C → Instr C
led_to l (Jump _) = Jump l
led_to l (JumpIfFalse _) = JumpIfFalse l
led_to l (JumpIfFalseOrPop _) = JumpIfFalseOrPop l
led_to l (JumpIfTrueOrPop _) = JumpIfTrueOrPop l
led_to l (Iterate _) = Iterate l
led_to l i = i

-- a list in which the jump at one place leads to another, and one in which those at several do
abbrev pub with_target : {C : Type 0} → ℕ → List (Instr C) → ℕ → List (Instr C)
with_target l [] p = []
with_target l (i ∷ is) zero = led_to l i ∷ is
with_target l (i ∷ is) (suc p) = i ∷ with_target l is p

abbrev pub with_targets : {C : Type 0} → ℕ → List (Instr C) → List ℕ → List (Instr C)
with_targets l is [] = is
with_targets l is (p ∷ ps) = with_targets l (with_target l is p) ps

-- the instruction asks for a loop's next item
abbrev pub IsIterate : {C : Type 0} → Option (Instr C) → Type 0
IsIterate (Some (Iterate l)) = Unit {0}
IsIterate _ = ⊥

-- a jump from here to there is within the list, and where it leads back it leads to where a loop
-- asks for its next item
pub record MayLead {C : Type 0} (code : List (Instr C)) (here there : ℕ) : Type 0 where
  pub within : there ≤ length code
  pub back : there ≤ here → IsIterate (slice_get code there)

-- each instruction of the list leads well
abbrev pub LeadsWell : {C : Type 0} → List (Instr C) → Type 0
LeadsWell code = (p : ℕ) (i : Instr _) (l : ℕ) → slice_get code p ≡ Some i → jump_target i ≡ Some l → MayLead code p l
