-- The events, and how the run is over.
use Rattle.std.proofs.Common.{◌≡◌, ◌++◌, ◌∙◌, append_assoc, codes, refl}
use Rattle.std.specs.Fmt.{decimal}
use Rattle.std.specs.List.{flat_map}
use Rattle.std.proofs.lemmas.Iterator.Adapters.{YieldsList-from_vec}
use Rattle.std.proofs.lemmas.Iterator.Consumers.{YieldsList-end}
use Rattle.minijinja_value.specs.declared.value.ValueFault.{ValueFault}
use Rattle.minijinja_value.specs.declared.value.Value.{Value}
use Rattle.minijinja_instructions.specs.InstructionLists.{Instructions}
use Rattle.minijinja_replay.specs.declared.replay.Run.{Run}
use Rattle.mjc_commands.specs.Printed.{ending_word, event_line, run_words}
use Rattle.mjc_commands.specs.Watched.{IsWritten}
use Rattle.mjc_commands.proofs.Written.{each_written, flushed, written_as, written_more}
use Rattle.mjc_commands.proofs.print.print_run.Goals as goal

run_parts : (code : Instructions Value ValueFault) (r : Run Value ValueFault) → flat_map (event_line code) r.events.items ++ (ending_word r.ending ++ (codes ", " ++ (decimal r.steps ++ codes " steps\n"))) ≡ run_words code r
run_parts code r = simp append_assoc refl

pub returns-clause-printed : goal.returns-clause-printed
returns-clause-printed g c =
    let end = YieldsList-end (YieldsList-from_vec {s = c.into_iter-event-iterator.result} c.args.run.events.items c.into_iter-event-iterator.ensures.into_iter_gives.0 (c.into_iter-event-iterator.ensures.into_iter_gives.1 ∙ c.args.run.events.ok.0)) c.loop-event.yielded c.loop-event.event-iterator c.loop-event.yielded_by _ c.next.new.self c.in-None.is c.next.ensures.steps in
    let events = each_written (event_line c.args.code.now) (λ e. e) c.loop-event.yielded c.args.run.events.items end.0 c.loop-event.invariant.written in
    let run = c.args.run in
    let last : IsWritten g.W.Write.contents c.loop-event.out c.writeln.new.self (ending_word run.ending ++ (codes ", " ++ (decimal run.steps ++ codes " steps\n"))) = rw c.ending_word.ensures at c.in_ok-writeln.ensures.bytes in
    let whole = written_as (run_parts c.args.code.now run) (written_more events last) in
    flushed c.flush.result c.flush.new.self whole c.flush.ensures.bytes
