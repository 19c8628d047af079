use Rattle.std.proofs.Common.{ap₂, ◌∙◌}
use Rattle.minijinja_instructions.specs.Marks.{marked}
use Rattle.minijinja_instructions.specs.Runs.{values_of}
use Rattle.minijinja_instructions.proofs.Marking.{cut-marks}
use Rattle.minijinja_instructions.proofs.marks.MarkList.cut.Goals as goal

pub returns : goal.returns
returns c =
    let s = c.args.self.now in
    ap₂ marked c.cut.ensures c.cut-2.ensures ∙ cut-marks c.args.index (values_of s.lines) (values_of s.spans)
