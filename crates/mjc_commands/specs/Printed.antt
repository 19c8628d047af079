-- What the commands print of code, names, findings and runs.
use Rattle.std.specs.Prelude.{ℕ, ◌+◌, List, [], ◌∷◌, ◌++◌, Option, None, Some, codes, map, slice_get}
use Rattle.std.specs.Borrow.{Bor}
use Rattle.std.specs.Fmt.{decimal}
use Rattle.std.specs.List.{flat_map}
use Rattle.minijinja_syntax.specs.Texts.{Text}
use Rattle.minijinja_value.specs.ValueViews.{contents_of}
use Rattle.minijinja_value.specs.ValueWords.{joined, words}
use Rattle.minijinja_value.specs.declared.value.Value.{Value}
use Rattle.minijinja_value.specs.declared.value.ValueFault.{ValueFault}
use Rattle.minijinja_instructions.specs.InstructionLists.{Instructions, instructions_of}
use Rattle.minijinja_instructions.specs.InstructionWords.{instruction_words}
use Rattle.minijinja_instructions.specs.declared.instructions.Instruction.{Instruction}
use Rattle.minijinja_compiler.specs.declared.compile.Compiled.{Compiled}
use Rattle.minijinja_lint.specs.Findings.{Remark, needs, does_not_use}
use Rattle.minijinja_replay.specs.declared.replay.Answer.{Answer}
use Rattle.minijinja_replay.specs.declared.replay.Answer.TheVariants as answer
use Rattle.minijinja_replay.specs.declared.replay.End.{End}
use Rattle.minijinja_replay.specs.declared.replay.End.TheVariants as end
use Rattle.minijinja_replay.specs.declared.replay.Event.{Event}
use Rattle.minijinja_replay.specs.declared.replay.Run.{Run}

-- ---- code

-- an instruction of which the constants are printed as values are
abbrev pub printed_instruction : Instruction Value ValueFault → Text
printed_instruction i = instruction_words (λ v. words (contents_of v)) i

-- each instruction on a line, after its index; the first one has this index
abbrev pub numbered_from : ℕ → List (Instruction Value ValueFault) → Text
numbered_from n [] = []
numbered_from n (i ∷ is) = decimal n ++ codes " " ++ printed_instruction i ++ codes "\n" ++ numbered_from (n + 1) is

-- those of a list, whose first index is 0
abbrev pub list_words : Instructions Value ValueFault → Text
list_words code = numbered_from 0 (instructions_of code)

-- a block: its name on a line, and its instructions
abbrev pub block_words : Bor Text × Instructions Value ValueFault → Text
block_words b = codes "block " ++ b.0.now ++ codes "\n" ++ list_words b.1

-- the instructions of a template, its blocks in order of their names, and the hint
abbrev pub code_words : Compiled Value ValueFault → Text
code_words c = codes "template\n" ++ list_words c.instructions ++ flat_map block_words c.blocks.entries ++ codes "hint " ++ decimal c.buffer_size_hint ++ codes "\n"

-- the instructions of an expression
abbrev pub expression_words : Instructions Value ValueFault → Text
expression_words code = codes "expression\n" ++ list_words code

-- ---- names

-- a name on a line, after a word
abbrev pub name_line : Text → Text → Text
name_line word name = word ++ codes " " ++ name ++ codes "\n"

-- the plain ones, and then those with the attributes that are taken of them
abbrev pub names_words : (plain nested : List Text) → Text
names_words plain nested = flat_map (name_line (codes "plain")) plain ++ flat_map (name_line (codes "nested")) nested

-- ---- findings

-- a finding on a line, with the line and the column where its span starts
abbrev pub finding_line : Remark → Text
finding_line (needs x s) = codes "free " ++ x ++ codes " at " ++ decimal s.start_line ++ codes ":" ++ decimal s.start_col ++ codes "\n"
finding_line (does_not_use x s) = codes "macro " ++ x ++ codes " unused at " ++ decimal s.start_line ++ codes ":" ++ decimal s.start_col ++ codes "\n"

abbrev pub findings_words : List Remark → Text
findings_words rs = flat_map finding_line rs

-- ---- runs

-- values as a list
abbrev pub values_words : List Value → Text
values_words vs = codes "[" ++ joined (map (λ v. words (contents_of v)) vs) ++ codes "]"

-- the values of an answer, or the word `fault`
abbrev pub answer_words : Answer Value → Text
answer_words answer.Fault = codes "fault"
answer_words (answer.Values vs) = values_words vs.items

-- an event on a line: the instruction that asked, its operands, the topmost last, and its answer
abbrev pub asked_line : Option (Instruction Value ValueFault) → Event Value → Text
asked_line None e = []
asked_line (Some i) e = printed_instruction i ++ codes " <- " ++ values_words e.operands.items ++ codes " -> " ++ answer_words e.answer ++ codes "\n"

-- that of a run of this code
abbrev pub event_line : Instructions Value ValueFault → Event Value → Text
event_line code e = asked_line (slice_get (instructions_of code) e.index) e

-- how a run is over
abbrev pub ending_word : End ValueFault → Text
ending_word end.Finished = codes "finished"
ending_word end.AnswerFault = codes "fault"
ending_word (end.OperatorFault e) = codes "fault"
ending_word end.Starved = codes "starved"
ending_word end.Unfit = codes "unfit"

-- each event, and then how the run is over and after how many steps
abbrev pub run_words : Instructions Value ValueFault → Run Value ValueFault → Text
run_words code r = flat_map (event_line code) r.events.items ++ ending_word r.ending ++ codes ", " ++ decimal r.steps ++ codes " steps\n"
