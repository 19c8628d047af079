-- The parts of the law, from the proofs for every value type.
use Rattle.minijinja_semantics.specs.Laws.{Laws}
use Rattle.minijinja_semantics.proofs.Whole.{template_does, template_units_do, template_blocks_do, standalone_does}
use Rattle.minijinja_semantics.proofs.laws.layout_does_what_is_meant.Goals as goal

pub returns : goal.returns
returns g c =
    let f = g.V.TemplateValue.functions in
    let laws : Laws f = record { truth = g.met.V.TemplateValue.is_true_of_bool; count = g.met.V.TemplateValue.as_count_of_u64; one_more = g.met.V.TemplateValue.add_one } in
    record { template = template_does f laws; units = template_units_do f laws; blocks = template_blocks_do f laws; expression = standalone_does f laws }
