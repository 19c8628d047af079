-- What the runs of code need, by the lemmas for every value type.
use Rattle.minijinja_semantics.proofs.RunNeeding.{tree_runs, macro_runs, block_runs, closure_of_parts}
use Rattle.minijinja_semantics.proofs.laws.runs_need_only_closures.Goals as goal

pub returns : goal.returns
returns g c =
    let f = g.V.TemplateValue.functions in
    record {
      template = λ t code is. tree_runs f code t is.0;
      macros = λ t code is. macro_runs f code t is.0;
      blocks = block_runs f;
      closure = closure_of_parts;
    }
