-- The instructions, the blocks and the hint.
use Rattle.std.proofs.Common.{append_assoc, refl}
use Rattle.mjc_commands.proofs.Written.{flushed, written_as, written_more}
use Rattle.mjc_commands.proofs.print.print_code.Goals as goal

pub returns-clause-printed : goal.returns-clause-printed
returns-clause-printed g c =
    let code = written_more c.in_ok-writeln.ensures.bytes c.in_ok-print_instructions.ensures.printed in
    let blocks = written_more code c.in_ok-print_blocks.ensures.printed in
    let whole = written_as (simp append_assoc refl) (written_more blocks c.in_ok-writeln-2.ensures.bytes) in
    flushed c.flush.result c.flush.new.self whole c.flush.ensures.bytes
