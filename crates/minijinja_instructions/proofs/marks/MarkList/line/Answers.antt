use Rattle.std.proofs.Common.{◌∙◌}
use Rattle.minijinja_instructions.specs.Runs.{values_of}
use Rattle.minijinja_instructions.proofs.Marking.{line-is}
use Rattle.minijinja_instructions.proofs.marks.MarkList.line.Goals as goal

pub returns : goal.returns
returns c =
    let s = c.args.self.now in
    c.at.ensures ∙ line-is (values_of s.lines) (values_of s.spans) s.together c.args.index
