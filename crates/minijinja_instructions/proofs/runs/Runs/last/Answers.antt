use Rattle.std.proofs.Common.{ap, sym, length, ◌-◌, ◌∙◌}
use Rattle.std.specs.Prelude.{slice_get}
use Rattle.minijinja_instructions.proofs.Running.{last-is, last-value}
use Rattle.minijinja_instructions.proofs.runs.Runs.last.Goals as goal

pub returns : goal.returns
returns g c =
    let s = c.args.self.now in
    c.value_of.ensures ∙ last-is s.runs.items c.last.result (c.last.ensures.value ∙ ap (λ rs. slice_get rs (length rs - 1)) c.deref.ensures.value) ∙ sym (last-value s.runs.items s.len s.before.before)
