-- The kinds of what an opening call has left open.
use Rattle.std.specs.Prelude.{Bool, true, false, ◌||◌, Option, Some}
use Rattle.minijinja_code.specs.declared.codegen.building.Pending.{Pending}
use Rattle.minijinja_code.specs.declared.codegen.building.Pending.TheVariants.{Branch, Loop, Conditions, Condition}

abbrev pub is_branch_in : Option Pending → Bool
is_branch_in (Some (Branch p)) = true
is_branch_in _ = false

abbrev pub is_loop_in : Option Pending → Bool
is_loop_in (Some (Loop p)) = true
is_loop_in _ = false

abbrev pub is_condition_in : Option Pending → Bool
is_condition_in (Some (Condition p)) = true
is_condition_in _ = false

abbrev pub begins_row_in : Option Pending → Bool
begins_row_in (Some Conditions) = true
begins_row_in _ = false

abbrev pub is_row_in : Option Pending → Bool
is_row_in left = begins_row_in left || is_condition_in left
