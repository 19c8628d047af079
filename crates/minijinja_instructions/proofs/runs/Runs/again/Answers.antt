use Rattle.std.proofs.Common.{ap, ◌∙◌, arith, add-one}
use Rattle.std.specs.Prelude.{◌++◌, ◌∷◌, []}
use Rattle.minijinja_instructions.specs.RunLists.{values_up_to}
use Rattle.minijinja_instructions.proofs.Running.{again-shows, length-values}
use Rattle.minijinja_instructions.proofs.runs.Runs.again.Goals as goal

pub overflow_add-self : goal.overflow_add-self
overflow_add-self g c = let n = length-values c.args.self.now.runs.items c.args.self.now.len in omega (arith, n, c.requires)

pub returns : goal.returns
returns g c =
    let rs = c.args.self.now.runs.items in
    let n = c.args.self.now.len in
    ap (values_up_to rs) (add-one n) ∙ ap (λ v. values_up_to rs n ++ v ∷ []) (again-shows rs n c.args.self.now.before.before)
