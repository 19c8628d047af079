-- Each block is written.
use Rattle.std.proofs.lemmas.Iterator.Consumers.{YieldsList-end, YieldsList-from_rest}
use Rattle.mjc_commands.specs.Printed.{block_words}
use Rattle.mjc_commands.proofs.Written.{each_written}
use Rattle.mjc_commands.proofs.print.print_blocks.Goals as goal

pub returns-clause-printed : goal.returns-clause-printed
returns-clause-printed g c =
    let end = YieldsList-end (YieldsList-from_rest c.args.blocks.now.entries c.into_iter-name-iterator.ensures.into_iter_gives.0) c.loop-name.yielded _ c.loop-name.yielded_by _ _ c.in-None.is c.next.ensures.steps in
    each_written block_words (λ b. (b.0.now, b.1.now)) c.loop-name.yielded _ end.0 c.loop-name.invariant.written
