use Rattle.std.proofs.Common.{◌≡◌}
use Rattle.minijinja_code.specs.Building.{conditions_ended_at}
use Rattle.minijinja_code.specs.internal.AtGenerator.{building, open_of, rest_of}
use Rattle.minijinja_code.proofs.codegen.CodeGenerator.end_sc_bool.Given as goal

-- what is left of the row ends as the whole row does
abbrev pub invariant-loop-jump : goal.invariant-loop-jump
invariant-loop-jump g l =
    let v = g.V.TemplateValue.contents in
    record {
      ended : conditions_ended_at l.end (open_of l.self) (building v l.self) ≡ conditions_ended_at l.end (open_of l.fn.self) (building v l.fn.self);
      rest : rest_of l.self ≡ rest_of l.fn.self;
    }

abbrev pub decreases-loop-jump : goal.decreases-loop-jump
decreases-loop-jump g l = goal.left-loop-jump g l
