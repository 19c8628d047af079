use Rattle.std.proofs.Common.{ap, ◌∙◌}
use Rattle.std.specs.Option.{option_and_then}
use Rattle.minijinja_semantics.specs.Marks.{shown}
use Rattle.minijinja_instructions.specs.Runs.{values_of}
use Rattle.minijinja_instructions.proofs.Marking.{span-is}
use Rattle.minijinja_instructions.proofs.marks.MarkList.span.Goals as goal

pub returns : goal.returns
returns c =
    let s = c.args.self.now in
    c.placed.ensures ∙ ap (option_and_then shown) c.at.ensures ∙ span-is (values_of s.lines) (values_of s.spans) s.together c.args.index
