-- The instruction is that of the event.
use Rattle.std.proofs.Common.{◌≡◌, ◌++◌, ◌∙◌, Some, ap, append_assoc, codes, refl, sym}
use Rattle.minijinja_syntax.specs.Texts.{Text}
use Rattle.minijinja_value.specs.ValueViews.{contents_of}
use Rattle.minijinja_value.specs.ValueWords.{words}
use Rattle.minijinja_value.specs.declared.value.ValueFault.{ValueFault}
use Rattle.minijinja_value.specs.declared.value.Value.{Value}
use Rattle.minijinja_value.specs.declared.value.Value.TheVariants as value
use Rattle.mjc_commands.specs.Printed.{answer_words, asked_line, printed_instruction, values_words}
use Rattle.minijinja_replay.specs.declared.replay.Event.{Event}
use Rattle.minijinja_instructions.specs.declared.instructions.Instruction.{Instruction}
use Rattle.mjc_commands.proofs.PrintedLines.{list_printed, printed_output}
use Rattle.mjc_commands.proofs.Written.{written_on_ok}
use Rattle.mjc_commands.proofs.print.print_event.Goals as goal

answered : (i : Instruction Value ValueFault) (e : Event Value) (a : Text) → a ≡ answer_words e.answer → printed_instruction i ++ (codes " <- " ++ (words (contents_of (value.List e.operands)) ++ (codes " -> " ++ (a ++ codes "\n")))) ≡ asked_line (Some i) e
answered i e a is =
    ap (λ t. printed_instruction i ++ (codes " <- " ++ (t ++ (codes " -> " ++ (a ++ codes "\n"))))) (list_printed e.operands)
    ∙ ap (λ t. printed_instruction i ++ (codes " <- " ++ (values_words e.operands.items ++ (codes " -> " ++ (t ++ codes "\n"))))) is
    ∙ simp append_assoc refl

pub returns-in-Fault-clause-printed : goal.returns-in-Fault-clause-printed
returns-in-Fault-clause-printed g c =
    let i = c.in-Some.instruction.now in
    let e = c.args.event in
    let bytes = rw (printed_output i) at c.writeln.ensures.bytes in
    let line = answered i e (codes "fault") (ap answer_words (sym c.in-Fault.is)) ∙ ap (λ o. asked_line o e) c.in-Some.ensures in
    written_on_ok g.W.Write.contents c.writeln.result c.args.out.now c.writeln.new.self line bytes

pub returns-clause-printed : goal.returns-clause-printed
returns-clause-printed g c =
    let i = c.in-Some.instruction.now in
    let e = c.args.event in
    let bytes = rw (printed_output i, c.in-Values.values-is) at c.writeln-in-Values.ensures.bytes in
    let line = answered i e (words (contents_of (value.List c.in-Values.values))) (list_printed c.in-Values.values ∙ ap answer_words (sym c.in-Values.is)) ∙ ap (λ o. asked_line o e) c.in-Some.ensures in
    written_on_ok g.W.Write.contents c.writeln-in-Values.result c.args.out.now c.writeln-in-Values.new.self line bytes
