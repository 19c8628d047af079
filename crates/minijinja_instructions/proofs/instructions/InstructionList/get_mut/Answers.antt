use Rattle.std.proofs.Common.{ap₂}
use borrow.Follows.Closed.{read_of}
use Rattle.minijinja_instructions.proofs.Lent.{lent-is, same-lent, same-list}
use Rattle.minijinja_instructions.proofs.instructions.InstructionList.get_mut.Goals as goal

pub returns : goal.returns
returns g c = (
  ap₂ (read_of _) (same-lent c.args.self.now c.args.index _ _) (same-list c.args.self.now _ _),
  record { writes_back = tt; value = lent-is c.args.self.now.instructions.items c.args.index c.get_mut.result c.get_mut.ensures.item.3 c.get_mut.ensures.value },
)
