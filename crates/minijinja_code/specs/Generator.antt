-- What the refusals of a generator say.
use Rattle.std.specs.Prelude.{◌≡◌, ◌⊎◌, ◌<◌, ◌≤◌, ◌^◌, ℕ, List, Option, Some, None, Result, Err, IfErr, IfNone, IfSome, OnOk, length}
use Rattle.std.specs.List.{Any}
use Rattle.minijinja_syntax.specs.Errors.{kind_of}
use Rattle.minijinja_syntax.specs.declared.error.Error.{Error}
use Rattle.minijinja_syntax.specs.declared.error.ErrorKind.TheVariants.{TooManyInstructions}
use Rattle.minijinja_value.specs.Values.{Functions}
use Rattle.minijinja_instructions.specs.InstructionLists.{HasNoPlaceOrName, IsAddError}
use Rattle.minijinja_tree.specs.Tree.{Block}
use Rattle.minijinja_semantics.specs.Code.{Instr}
use Rattle.minijinja_semantics.specs.Layout.{block_code}

-- a list is refused as too long only where it would have 2 ^ 32 instructions or more
abbrev pub OnlyWhereTooLong : {C : Type 0} → Error → List (Instr C) → Type 0
OnlyWhereTooLong e code = kind_of e ≡ TooManyInstructions → 2 ^ 32 ≤ length code

-- some of these blocks would have a list of 2 ^ 32 instructions or more
abbrev pub HaveTooLong : {C L F : Type 0} → Functions C F → List (Block C L) → Type 0
HaveTooLong f bs = Any (λ b. 2 ^ 32 ≤ length (block_code f b.body)) bs

-- code is refused as too long only where this list, or that of one of these blocks, would have 2 ^
-- 32 instructions or more
abbrev pub OnlyWhereOneIsTooLong : {C L F : Type 0} → Functions C F → Error → List (Instr C) → List (Block C L) → Type 0
OnlyWhereOneIsTooLong f e code bs = kind_of e ≡ TooManyInstructions → (2 ^ 32 ≤ length code) ⊎ HaveTooLong f bs

-- A call that adds code, after which the list has the given number of instructions. It fails if
-- memory is refused or these are 2 ^ 32 or more, and from then on every call returns that error.
pub record Tries {X : Type 0} (before after : Option Error) (result : Result X Error) (count : ℕ) : Type 0 where
  pub causes : IfNone before (IfErr result IsAddError)
  pub unplaced : IfNone before (IfErr result HasNoPlaceOrName)
  pub too_many : IfNone before (IfErr result (λ e. kind_of e ≡ TooManyInstructions → 2 ^ 32 ≤ count))
  pub kept : IfErr result (λ e. after ≡ Some e)
  pub again : IfSome before (λ e. result ≡ Err e)
  pub ready : OnOk result (after ≡ None)
  pub few : OnOk result (count < 2 ^ 32)
