use Rattle.std.proofs.Common.{ap₂}
use Rattle.minijinja_instructions.specs.Marks.{marked}
use Rattle.minijinja_instructions.proofs.marks.MarkList.new.Goals as goal

pub returns : goal.returns
returns c = ap₂ marked c.new.ensures c.new-2.ensures
