-- The words of an instruction are known where those of its value are.
use Rattle.std.proofs.Common.{◌≡◌, Some, refl}
use Rattle.minijinja_syntax.specs.Texts.{Text}
use Rattle.minijinja_instructions.specs.InstructionWords.{instruction_output, instruction_words}
use Rattle.minijinja_instructions.specs.declared.instructions.Instruction.{Instruction}
use Rattle.minijinja_instructions.specs.declared.instructions.Instruction.TheVariants.{LoadConst}

pub instruction_output_known : {V F : Type 0} (words : V → Text) (i : Instruction V F) → instruction_output (λ v. Some (words v)) i ≡ Some (instruction_words words i)
instruction_output_known words (LoadConst v) = refl
instruction_output_known words i = refl
