-- The plain names, and then the nested ones.
use Rattle.mjc_commands.proofs.Written.{flushed, written_more}
use Rattle.mjc_commands.proofs.print.print_names.Goals as goal

pub returns-clause-printed : goal.returns-clause-printed
returns-clause-printed g c = flushed c.flush.result c.flush.new.self (written_more (c.in_ok-print_name_lines.ensures.printed) (c.in_ok-print_name_lines-2.ensures.printed)) c.flush.ensures.bytes
