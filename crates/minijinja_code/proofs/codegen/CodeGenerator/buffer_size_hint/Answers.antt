use Rattle.minijinja_code.proofs.Hints.{hint_from}
use Rattle.minijinja_code.proofs.codegen.CodeGenerator.buffer_size_hint.Goals as goal

pub returns : goal.returns
returns g c =
    hint_from c.args.self.now.raw_template_bytes c.min.result c.next_power_of_two.result c.min.ensures
    c.next_power_of_two.ensures.power c.next_power_of_two.ensures.lower_bound c.next_power_of_two.ensures.upper_bound
