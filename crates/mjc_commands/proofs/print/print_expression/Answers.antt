-- The head, and then the instructions.
use Rattle.mjc_commands.proofs.Written.{flushed, written_more}
use Rattle.mjc_commands.proofs.print.print_expression.Goals as goal

pub returns-clause-printed : goal.returns-clause-printed
returns-clause-printed g c = flushed c.flush.result c.flush.new.self (written_more c.in_ok-writeln.ensures.bytes c.in_ok-print_instructions.ensures.printed) c.flush.ensures.bytes
