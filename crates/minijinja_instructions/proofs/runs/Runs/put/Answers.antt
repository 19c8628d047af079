use Rattle.std.proofs.Common.{ap₂, ◌∙◌, arith, add-one}
use Rattle.minijinja_instructions.specs.RunLists.{values_up_to}
use Rattle.minijinja_instructions.proofs.Running.{length-values, put-shows}
use Rattle.minijinja_instructions.proofs.runs.Runs.put.Goals as goal

pub overflow_add-self : goal.overflow_add-self
overflow_add-self g c = let n = length-values c.args.self.now.runs.items c.args.self.now.len in omega (arith, n, c.requires.few)

pub returns : goal.returns
returns g c =
    let s = c.args.self.now in
    ap₂ values_up_to c.push_reserved.ensures.items (add-one s.len) ∙ put-shows s.runs.items (record { first = s.len; value = c.args.value })
