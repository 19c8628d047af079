-- The list that a `&mut` to one of its instructions leaves behind.
use Rattle.std.specs.Prelude.{ℕ, Option, []}
use Rattle.std.specs.Borrow.{LendsIf, Fml, RattleType, MutBor}
use Rattle.std.specs.Vec.{with_item}
use mir.Syntax.{named}
use Rattle.minijinja_instructions.specs.declared.instructions.InstructionList.{InstructionList}
use Rattle.minijinja_instructions.specs.contracts.instructions.InstructionList.{the_row}

-- at the index stands what was written last, and all else is as it was; where the list has ended
-- before, so is the whole list
abbrev pub lends_instruction : (I : RattleType) → MutBor (InstructionList I.Denot) → ℕ → Option (MutBor I.Denot) → Fml
lends_instruction I list index result =
    LendsIf (the_row (record { mir = named 0; lft = [] }) I) I list result (λ w. record list.now { instructions = with_item list.now.instructions index w }) list.now
