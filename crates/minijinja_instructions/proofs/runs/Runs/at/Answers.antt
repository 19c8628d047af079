use Rattle.std.proofs.Common.{ap, ◌∙◌}
use Rattle.minijinja_instructions.specs.RunLists.{in_force}
use Rattle.minijinja_instructions.proofs.Running.{at-shows}
use Rattle.minijinja_instructions.proofs.runs.Runs.at.Goals as goal

pub returns : goal.returns
returns g c =
    let s = c.args.self.now in
    c.value_at.ensures ∙ ap (λ rs. in_force rs c.args.place) c.deref.ensures.value ∙ at-shows s.runs.items s.len c.args.place s.before.before
