use Rattle.std.proofs.Common.{ap₂, ◌∙◌, arith}
use Rattle.minijinja_instructions.specs.Marks.{marked}
use Rattle.minijinja_instructions.specs.Runs.{values_of}
use Rattle.minijinja_instructions.proofs.Marking.{again-marks, length-marked}
use Rattle.minijinja_instructions.proofs.marks.MarkList.again.Goals as goal

pub again-requires : goal.again-requires
again-requires c =
    let s = c.args.self.now in
    let n = length-marked (values_of s.lines) (values_of s.spans) s.together in
    omega (arith, n, c.requires)

pub again-requires-2 : goal.again-requires-2
again-requires-2 c =
    let s = c.args.self.now in
    let n = length-marked (values_of s.lines) (values_of s.spans) s.together in
    omega (arith, n, c.requires, s.together)

pub returns : goal.returns
returns c =
    let s = c.args.self.now in
    ap₂ marked c.again.ensures c.again-2.ensures ∙ again-marks (values_of s.lines) (values_of s.spans) s.together
