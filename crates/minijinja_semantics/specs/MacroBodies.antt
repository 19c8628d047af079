-- The bodies of macros in the code of a tree, and the names that are referenced up to a place in
-- it.
use Rattle.std.specs.Prelude.{ℕ, zero, suc, ◌-◌, ◌==◌, ◌&&◌, Bool, not, max, min, List, [], ◌∷◌, length, filter, Option, Some, None, if◌then◌else◌, bit_and, bytes_eq, codes, nat_le, nat_lt, slice_get}
use Rattle.std.specs.List.{list_any}
use Rattle.std.specs.Option.{option_and_then}
use Rattle.minijinja_syntax.specs.Texts.{Text}
use Rattle.minijinja_value.specs.Values.{Functions}
use Rattle.minijinja_tree.specs.Tree.{Stmt, Stmts}
use Rattle.minijinja_semantics.specs.Events.{Lookup, StoreLocal, CallFunction}
use Rattle.minijinja_semantics.specs.Code.{Instr, Do, Call, PushLoop}
use Rattle.minijinja_semantics.specs.Pieces.{Here, Open}
use Rattle.minijinja_semantics.specs.Places.{Extent}
use Rattle.minijinja_semantics.specs.Units.{Enterable, RecursiveLoop, MacroBody, units, all_units}

-- the bodies of the macros among units, each with the jump before it, which passes it by
abbrev pub bodies_of : {C : Type 0} → List (Enterable C Extent) → List Extent
bodies_of [] = []
bodies_of (RecursiveLoop x e body has_else ∷ us) = bodies_of us
bodies_of (MacroBody x ps body ∷ us) = record { begin = x.begin - 1; end = x.end } ∷ bodies_of us

-- The bodies of the macros in the code of a statement that stands here: each begins with the jump
-- that passes it by, and ends with its `Return`. An expression has none.
abbrev pub macro_bodies : {C L F : Type 0} → Functions C F → List Open → Stmt C L → Here → List Extent
macro_bodies f os s h = bodies_of (units f os s h)

-- those of statements in order
abbrev pub all_macro_bodies : {C L F : Type 0} → Functions C F → List Open → Stmts C L → Here → List Extent
all_macro_bodies f os ss h = bodies_of (all_units f os ss h)

-- whether a place is in a body
abbrev pub is_in : ℕ → Extent → Bool
is_in p b = nat_le b.begin p && nat_lt p b.end

-- where the innermost of the bodies round a place begins; 0 where none is round it
abbrev pub body_begin : List Extent → ℕ → ℕ
body_begin [] i = 0
body_begin (b ∷ bs) i = max (if is_in i b then b.begin else 0) (body_begin bs i)

-- whether a place is in a body that ended before another place
abbrev pub is_in_ended : List Extent → ℕ → ℕ → Bool
is_in_ended bodies i p = list_any (λ b. is_in p b && nat_le b.end i) bodies

-- whether a place belongs to what is referenced at another place after it: it is in the innermost
-- body round that one, if there is a body round it, and in no body that ended before it
abbrev pub belongs : List Extent → ℕ → ℕ → Bool
belongs bodies i p = nat_le (body_begin bodies i) p && not (is_in_ended bodies i p)

-- The name that an instruction refers to, if there is one: that of a variable that it looks up or
-- stores, that of a function that it calls, and `loop` where it begins a loop with this variable.
abbrev pub name_in : {C : Type 0} → Instr C → Option Text
name_in (Do Lookup x n) = Some x
name_in (Do StoreLocal x n) = Some x
name_in (Call CallFunction x n) = Some x
name_in (PushLoop flags) = if bit_and flags 1 == 0 then None else Some (codes "loop")
name_in _ = None

-- the name that the instruction at a place refers to, if there is one
abbrev pub name_at : {C : Type 0} → List (Instr C) → ℕ → Option Text
name_at code p = option_and_then name_in (slice_get code p)

-- a name before others, if there is one
abbrev pub and_name : Option Text → List Text → List Text
and_name None xs = xs
and_name (Some x) xs = x ∷ xs

-- the names at the given number of first places of a list, of those places that pass a test; the
-- last first
abbrev pub names_below : {C : Type 0} → (ℕ → Bool) → List (Instr C) → ℕ → List Text
names_below test code zero = []
names_below test code (suc p) = and_name (if test p then name_at code p else None) (names_below test code p)

-- each of these names once, where it stands first
abbrev pub each_once : List Text → List Text
each_once [] = []
each_once (x ∷ xs) = x ∷ filter (λ y. not (bytes_eq x y)) (each_once xs)

-- The names that are referenced at a place of a list with these bodies of macros: those at or
-- before the place, the last first and each once, in the innermost body round the place, or else in
-- the list, without the bodies that ended before the place. A place past the end counts as the last
-- one.
abbrev pub referenced : {C : Type 0} → List (Instr C) → List Extent → ℕ → List Text
referenced code bodies i =
    let place = min i (length code - 1) in
    each_once (names_below (belongs bodies place) code (suc place))
