-- What a generator has left open, by what it keeps of it.
use Rattle.std.specs.Prelude.{List, [], ◌∷◌}
use Rattle.minijinja_code.specs.Building.{OpenBlock, Branch, Loop, Conditions, with_condition}
use Rattle.minijinja_code.specs.declared.codegen.building.Pending.{Pending}
use Rattle.minijinja_code.specs.declared.codegen.building.Pending.TheVariants as pending

-- the open blocks, once this is open in them
abbrev pub opened_in : Pending → List OpenBlock → List OpenBlock
opened_in (pending.Branch p) blocks = Branch p ∷ blocks
opened_in (pending.Loop p) blocks = Loop p ∷ blocks
opened_in pending.Conditions blocks = Conditions [] ∷ blocks
opened_in (pending.Condition p) blocks = with_condition p blocks

-- and once these are, the first one outermost
abbrev pub all_opened_in : List OpenBlock → List Pending → List OpenBlock
all_opened_in blocks [] = blocks
all_opened_in blocks (p ∷ ps) = all_opened_in (opened_in p blocks) ps
