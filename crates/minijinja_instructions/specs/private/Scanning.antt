-- What a scan for the names that are referenced at a place finds in any list of instructions.
use Rattle.std.specs.Prelude.{ℕ, zero, suc, ◌-◌, ◌&&◌, min, List, [], ◌∷◌, length, drop, Option, Some, None, if◌then◌else◌, nat_le, nat_lt, slice_get}
use Rattle.std.specs.Option.{option_and_then}
use Rattle.minijinja_syntax.specs.Texts.{Text}
use Rattle.minijinja_semantics.specs.Code.{Instr, Jump, BuildMacro}
use Rattle.minijinja_semantics.specs.MacroBodies.{and_name, name_at}
use Rattle.minijinja_instructions.specs.declared.references.Part.{Part}

-- where the jump stands before the body of the macro that an instruction makes, if it makes one
abbrev pub opening_of : {C : Type 0} → Instr C → Option ℕ
opening_of (BuildMacro x entry flags) = Some (entry - 1)
opening_of _ = None

-- the same of the instruction at a place
abbrev pub opening_at : {C : Type 0} → List (Instr C) → ℕ → Option ℕ
opening_at code p = option_and_then opening_of (slice_get code p)

-- where a jump leads; 0 where there is none
abbrev pub target_of : {C : Type 0} → Option (Instr C) → ℕ
target_of (Some (Jump l)) = l
target_of _ = 0

-- where the jump at a place leads
abbrev pub target_at : {C : Type 0} → List (Instr C) → ℕ → ℕ
target_at code p = target_of (slice_get code p)

-- what the scan does from a place i on where it meets what makes a macro: a body that begins by
-- then is round the place, or it is over
abbrev pub reach_at : {C : Type 0} → List (Instr C) → ℕ → Option ℕ → (ℕ → Part) → ℕ → Part
reach_at code i None others end = others end
reach_at code i (Some s) others end =
    if nat_le s i then (if nat_lt i (target_at code s) then record { start = s; end = end } else others (min end s)) else others end

-- of these instructions after the place
abbrev pub reach_from : {C : Type 0} → List (Instr C) → ℕ → List (Instr C) → ℕ → Part
reach_from code i [] end = record { start = 0; end = end }
reach_from code i (x ∷ xs) end = reach_at code i (opening_of x) (reach_from code i xs) end

-- the part of a list in which the names count at a place
abbrev pub reach : {C : Type 0} → List (Instr C) → ℕ → Part
reach code i = reach_from code i (drop (suc i) code) (suc i)

-- the name at a place before others, or, where a macro is made there, the others below its body
abbrev pub visited : Option ℕ → Option Text → (ℕ → List Text) → ℕ → List Text
visited (Some s) x others end = others s
visited None x others end = and_name x (others end)

-- the names at the given number of first places that are not below the start, and that are below
-- the end; the last first, without the bodies of macros that are made there
abbrev pub visited_below : {C : Type 0} → (start : ℕ) → List (Instr C) → ℕ → (end : ℕ) → List Text
visited_below start code zero end = []
visited_below start code (suc p) end =
    if nat_le start p && nat_lt p end then visited (opening_at code p) (name_at code p) (visited_below start code p) end else visited_below start code p end

-- the names that the scan visits in a part of a list
abbrev pub visited_in : {C : Type 0} → List (Instr C) → Part → List Text
visited_in code r = visited_below r.start code r.end r.end

-- the names that the scan visits; a place past the end counts as the last one
abbrev pub visited_at : {C : Type 0} → List (Instr C) → ℕ → List Text
visited_at code i = visited_in code (reach code (min i (length code - 1)))
