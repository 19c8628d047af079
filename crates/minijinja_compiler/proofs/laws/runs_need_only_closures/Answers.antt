-- What the runs of compiled code need, by the lemmas for every value type.
use Rattle.minijinja_compiler.proofs.CompiledNeeds.{template_runs, template_macros, block_macros}
use Rattle.minijinja_compiler.proofs.laws.runs_need_only_closures.Goals as goal

pub returns : goal.returns
returns g c =
    let f = g.V.TemplateValue.functions in
    let v = g.V.TemplateValue.contents in
    record { template = template_runs f v; macros = template_macros f v; blocks = block_macros f v }
