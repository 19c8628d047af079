-- Each turn writes an instruction more.
use Rattle.std.proofs.Common.{rules, ◌≡◌, ◌+◌, ◌++◌, ◌∷◌, [], ◌∙◌, ap, append_assoc, arith, length, length-append, map, refl, sym}
use Rattle.std.specs.Borrow.{Bor}
use Rattle.std.proofs.lemmas.List.{length-map, map-append}
use Rattle.minijinja_value.specs.declared.value.ValueFault.{ValueFault}
use Rattle.minijinja_value.specs.declared.value.Value.{Value}
use Rattle.minijinja_instructions.specs.declared.instructions.Instruction.{Instruction}
use Rattle.mjc_commands.specs.Printed.{numbered_from}
use Rattle.mjc_commands.proofs.PrintedLines.{numbered_line, numbered_more, printed_output}
use Rattle.mjc_commands.proofs.Written.{written_as, written_more}
use Rattle.mjc_commands.proofs.print.print_instructions.Goals as goal

pub loop-index-preserved : goal.loop-index-preserved
loop-index-preserved g c =
    let seen = map (λ (i : Bor (Instruction Value ValueFault)). i.now) c.loop-index.yielded in
    let i = c.in-Some.instruction.now in
    let line = written_as (simp append_assoc refl) (rw (printed_output i) at c.in_ok-writeln.ensures.bytes) in
    let index : c.loop-index.index-counter ≡ length seen = c.loop-index.invariant.counted ∙ sym (length-map c.loop-index.yielded (λ (j : Bor (Instruction Value ValueFault)). j.now)) in
    let more = ap (λ n. numbered_from 0 seen ++ numbered_line n i) (index ∙ omega arith) ∙ sym (numbered_more 0 seen i) ∙ ap (numbered_from 0) (sym (map-append (λ (j : Bor (Instruction Value ValueFault)). j.now) c.loop-index.yielded (c.in-Some.instruction ∷ []))) in
    record {
      counts = search rules;
      counted = ap (λ n. n + 1) c.loop-index.invariant.counted ∙ sym (length-append c.loop-index.yielded (c.in-Some.instruction ∷ []));
      unfailed = search rules;
      written = written_as more (written_more c.loop-index.invariant.written line);
    }
