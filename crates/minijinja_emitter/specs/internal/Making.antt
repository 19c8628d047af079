-- The code that is being made, and what is added to it.
use Rattle.std.specs.Prelude.{◌≡◌, ℕ, List, [], ◌∷◌, ◌++◌, length, map, take, drop, ◌-◌, Option, Some, None}
use Rattle.minijinja_syntax.specs.Texts.{Text}
use Rattle.minijinja_semantics.specs.Code.{Instr, Load, Swap, BuildMacro, Jump, JumpIfFalse, JumpIfFalseOrPop, JumpIfTrueOrPop, Iterate}
use Rattle.minijinja_semantics.specs.Jumps.{jump_target}
pub use Rattle.minijinja_semantics.specs.Jumps.{last_target, reach}
use Rattle.minijinja_semantics.specs.Pieces.{Here, Piece}

-- the instructions so far, and the names of filters and of tests that have an id
pub record Made (C : Type 0) : Type 0 where
  pub code : List (Instr C)
  pub filters : List Text
  pub tests : List Text

-- the place after what was made
abbrev pub here_of : {C : Type 0} → Made C → Here
here_of m = record { place = length m.code; filters = m.filters; tests = m.tests }

-- what was made, with these instructions after it
abbrev pub followed : {C : Type 0} → Made C → List (Instr C) → Made C
followed m is = record m { code = m.code ++ is }

-- the place that an instruction names, if it names one
abbrev pub place_in : {C : Type 0} → Instr C → Option ℕ
place_in (BuildMacro x n flags) = Some n
place_in i = jump_target i

-- an instruction as it stands in a list, where it names no place further on than that
abbrev pub capped : {C : Type 0} → Instr C → Instr C
capped (Jump n) = Jump (reach n)
capped (JumpIfFalse n) = JumpIfFalse (reach n)
capped (JumpIfFalseOrPop n) = JumpIfFalseOrPop (reach n)
capped (JumpIfTrueOrPop n) = JumpIfTrueOrPop (reach n)
capped (Iterate n) = Iterate (reach n)
capped (BuildMacro x n flags) = BuildMacro x (reach n) flags
capped i = i

-- the instruction at a place that is reserved for another one
abbrev pub hole : {C : Type 0} → Instr C
hole = Swap

-- A piece was added. Places of 2 ^ 32 or more are capped; a list in which that matters is never
-- returned.
pub record Adds {C : Type 0} (old new : Made C) (p : Piece C) : Type 0 where
  pub code : new.code ≡ old.code ++ map capped (p.code (here_of old))
  pub past : here_of new ≡ p.past (here_of old)

-- the constant that an instruction loads, if it loads one
abbrev pub loaded_by : {C : Type 0} → Instr C → Option C
loaded_by (Load c) = Some c
loaded_by _ = None

-- the constant that code loads, if it does nothing else
abbrev pub alone : {C : Type 0} → List (Instr C) → Option C
alone [] = None
alone (i ∷ []) = loaded_by i
alone (i ∷ j ∷ is) = None

-- the instructions from one place to another
abbrev pub between : {C : Type 0} → ℕ → ℕ → List (Instr C) → List (Instr C)
between from to code = take (to - from) (drop from code)

-- the last instruction after those before a place
abbrev pub with_last : {C : Type 0} → ℕ → List (Instr C) → List (Instr C)
with_last place code = take place code ++ drop (length code - 1) code
