-- The words of values, of instructions and of lists of them, as they are written one after another.
use Rattle.std.proofs.Common.{◌≡◌, ℕ, ◌+◌, List, [], ◌∷◌, ◌++◌, Some, Vec, Global, ap, append_assoc, arith, codes, length, map, refl, sym, ◌∙◌}
use Rattle.std.specs.Fmt.{decimal}
use Rattle.std.proofs.lemmas.List.{append-nil}
use Rattle.minijinja_syntax.specs.Texts.{Text}
use Rattle.minijinja_value.specs.ValueContents.{Contents, Pairs, items_of}
use Rattle.minijinja_value.specs.ValueViews.{contents_of, contents_step, map_step}
use Rattle.minijinja_value.specs.ValueWords.{each_words, joined, words}
use Rattle.minijinja_value.specs.declared.value.ValueFault.{ValueFault}
use Rattle.minijinja_value.specs.declared.value.Value.{Value, fold-roll-Value}
use Rattle.minijinja_value.specs.declared.value.Value.TheOpen as layer
use Rattle.minijinja_value.specs.declared.value.Value.TheVariants as value
use Rattle.minijinja_instructions.specs.InstructionWords.{instruction_output}
use Rattle.minijinja_instructions.specs.declared.instructions.Instruction.{Instruction}
use Rattle.minijinja_instructions.proofs.Printing.{instruction_output_known}
use Rattle.mjc_commands.specs.Printed.{numbered_from, printed_instruction, values_words}

each_printed : (vs : List Value) → each_words (items_of (map contents_of vs)) ≡ map (λ v. words (contents_of v)) vs
each_printed [] = refl
each_printed (v ∷ vs) = ap (λ ts. words (contents_of v) ∷ ts) (each_printed vs)

-- a list of values has their words
pub list_printed : (vs : Vec Value Global) → words (contents_of (value.List vs)) ≡ values_words vs.items
list_printed vs =
    ap (λ v. words (contents_of v)) (sym (value.rolls-List vs))
    ∙ ap words (fold-roll-Value Contents Pairs contents_step map_step (layer.List vs))
    ∙ ap (λ ts. codes "[" ++ joined ts ++ codes "]") (each_printed vs.items)

-- the words of each instruction are known, since those of its constant are
pub printed_output : (i : Instruction Value ValueFault) → instruction_output (λ v. Some (words (contents_of v))) i ≡ Some (printed_instruction i)
printed_output i = instruction_output_known (λ v. words (contents_of v)) i

-- an instruction on a line, after its index
abbrev pub numbered_line : ℕ → Instruction Value ValueFault → Text
numbered_line n i = decimal n ++ codes " " ++ printed_instruction i ++ codes "\n"

-- an instruction more
pub numbered_more : (n : ℕ) (is : List (Instruction Value ValueFault)) (i : Instruction Value ValueFault) → numbered_from n (is ++ i ∷ []) ≡ numbered_from n is ++ numbered_line (n + length is) i
numbered_more n [] i = append-nil (numbered_line n i) ∙ ap (λ m. numbered_line m i) (omega arith)
numbered_more n (j ∷ is) i =
    ap (λ t. numbered_line n j ++ t) (numbered_more (n + 1) is i ∙ ap (λ m. numbered_from (n + 1) is ++ numbered_line m i) (omega arith))
    ∙ sym (append_assoc (numbered_line n j) (numbered_from (n + 1) is) (numbered_line (n + length (j ∷ is)) i))
