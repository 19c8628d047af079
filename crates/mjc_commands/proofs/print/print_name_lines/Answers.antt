-- Each turn writes a name more.
use Rattle.std.proofs.Common.{rules}
use Rattle.std.specs.Borrow.{Bor}
use Rattle.std.proofs.Common.{Global, String, append_assoc, refl}
use Rattle.std.specs.String.{string_bytes}
use Rattle.std.proofs.lemmas.Iterator.Consumers.{YieldsList-end, YieldsList-from_rest}
use Rattle.mjc_commands.specs.Printed.{name_line}
use Rattle.mjc_commands.proofs.Written.{each_written, line_more, nothing_written, written_as}
use Rattle.mjc_commands.proofs.print.print_name_lines.Goals as goal

pub loop-name-init : goal.loop-name-init
loop-name-init g c = record { unfailed = search rules; written = nothing_written _ }

pub loop-name-preserved : goal.loop-name-preserved
loop-name-preserved g c =
    let line = written_as (simp append_assoc refl) c.in_ok-writeln.ensures.bytes in
    record { unfailed = search rules; written = line_more (λ (name : Bor (String Global)). name_line c.args.word.now (string_bytes name.now)) c.loop-name.yielded c.in-Some.name c.loop-name.invariant.written line }

pub returns-clause-printed : goal.returns-clause-printed
returns-clause-printed g c =
    let end = YieldsList-end (YieldsList-from_rest c.args.names.now.keys c.into_iter-name-iterator.ensures.into_iter_gives.0) c.loop-name.yielded _ c.loop-name.yielded_by _ _ c.in-None.is c.next.ensures.steps in
    each_written (name_line c.args.word.now) (λ name. string_bytes name) c.args.names.now.keys _ refl
    (each_written (λ name. name_line c.args.word.now (string_bytes name)) (λ name. name.now) c.loop-name.yielded _ end.0 c.loop-name.invariant.written)
