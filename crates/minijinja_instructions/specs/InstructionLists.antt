-- The contents of a list of instructions, which contracts speak of.
use Rattle.std.specs.Prelude.{◌≡◌, ◌⊎◌, Bool, List, None}
use Rattle.minijinja_syntax.specs.Texts.{Text}
use Rattle.minijinja_syntax.specs.Errors.{IsOutOfMemory, kind_of, span_of}
use Rattle.minijinja_syntax.specs.Errors as error
use Rattle.minijinja_syntax.specs.declared.error.Error.{Error}
use Rattle.minijinja_syntax.specs.declared.error.ErrorKind.TheVariants.{OutOfMemory, TooManyInstructions}
use Rattle.minijinja_semantics.specs.Marks.{Mark}
use Rattle.minijinja_instructions.specs.MarkLists.{marks_in}
use Rattle.minijinja_instructions.specs.declared.instructions.Instruction.{Instruction}
use Rattle.minijinja_instructions.specs.declared.instructions.InstructionList.{InstructionList}

-- a list of the instructions of a unit of code
abbrev pub Instructions : Type 0 → Type 0 → Type 0
Instructions V F = InstructionList (Instruction V F)

abbrev pub instructions_of : {I : Type 0} → InstructionList I → List I
instructions_of code = code.instructions.items

abbrev pub name_of : {I : Type 0} → InstructionList I → Text
name_of code = code.name.now

abbrev pub source_of : {I : Type 0} → InstructionList I → Text
source_of code = code.source.now

-- the line and the span of each
abbrev pub marks_of : {I : Type 0} → InstructionList I → List Mark
marks_of code = marks_in code.marks

-- whether it is that of a block that another template has to override
abbrev pub is_required : {I : Type 0} → InstructionList I → Bool
is_required code = code.is_required_block

-- an instruction is refused where memory or room runs out
abbrev pub IsAddError : Error → Type 0
IsAddError e = (kind_of e ≡ OutOfMemory) ⊎ (kind_of e ≡ TooManyInstructions)

-- the refusal of an instruction has no place in the text, since no token is at fault, and no name
-- of a source; one for memory says no more than that
pub record HasNoPlaceOrName (e : Error) : Type 0 where
  pub no_span : span_of e ≡ None
  pub no_name : error.name_of e ≡ None
  pub memory : kind_of e ≡ OutOfMemory → IsOutOfMemory e
