-- So many operands are taken off the end of the `Vec`, if there are that many.
use Rattle.std.proofs.Common.{arith}
use Rattle.minijinja_replay.proofs.Stacks.{popped_from, popped_none}
use Rattle.minijinja_replay.proofs.machine.Machine.pop_many.Goals as goal

pub returns-then-count-len-clause-popped : goal.returns-then-count-len-clause-popped
returns-then-count-len-clause-popped g c =
    popped_none g.V.TemplateValue.contents c.args.count c.args.self.now.operands.items
    (omega (arith, c.len.ensures, c.args.self.now.operands.ok.0, c.if-count-len.true))

pub returns-clause-popped : goal.returns-clause-popped
returns-clause-popped g c =
    popped_from g.V.TemplateValue.contents c.args.count _ c.args.self.now.operands.items c.split_off.new.self.items c.in_ok-split_off.field-0.items
    (omega (arith, c.len.ensures, c.len-2.ensures, c.args.self.now.operands.ok.0, c.if-count-len.false))
    c.in_ok-split_off.ensures.items
    c.in_ok-split_off.ensures.tail
