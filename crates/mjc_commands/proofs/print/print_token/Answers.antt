-- What is written is the line.
use Rattle.std.proofs.Common.{append_assoc, refl}
use Rattle.mjc_commands.proofs.Written.{written_on_ok}
use Rattle.mjc_commands.proofs.print.print_token.Goals as goal

pub returns-clause-printed : goal.returns-clause-printed
returns-clause-printed g c = written_on_ok g.W.Write.contents c.writeln.result c.args.out.now c.writeln.new.self (simp append_assoc refl) c.writeln.ensures.bytes
