use Rattle.std.proofs.Common.{ap₂, ◌∙◌, arith}
use Rattle.std.specs.Prelude.{Some}
use Rattle.minijinja_semantics.specs.Marks.{shown}
use Rattle.minijinja_instructions.specs.Marks.{marked}
use Rattle.minijinja_instructions.specs.Runs.{values_of}
use Rattle.minijinja_instructions.proofs.Marking.{length-marked, more-marks}
use Rattle.minijinja_instructions.proofs.marks.MarkList.put.Goals as goal

pub put_line-requires-clause-few : goal.put_line-requires-clause-few
put_line-requires-clause-few c =
    let s = c.args.self.now in
    let n = length-marked (values_of s.lines) (values_of s.spans) s.together in
    omega (arith, n, c.requires.few)

pub put_span-requires-clause-few : goal.put_span-requires-clause-few
put_span-requires-clause-few c =
    let s = c.args.self.now in
    let n = length-marked (values_of s.lines) (values_of s.spans) s.together in
    omega (arith, n, c.requires.few, s.together)

pub returns : goal.returns
returns c =
    let s = c.args.self.now in
    let e = c.put_span.ensures in
    ap₂ marked c.put_line.ensures e.1 ∙ more-marks (values_of s.lines) (values_of s.spans) s.together (Some c.args.line) e.0 (shown c.args.span) e.2
