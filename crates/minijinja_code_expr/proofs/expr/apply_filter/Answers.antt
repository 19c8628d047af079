use Rattle.std.proofs.Common.{refl}
use Rattle.minijinja_code_expr.proofs.Finishing.{filter_applied}
use Rattle.minijinja_code_expr.proofs.Results.{ok_gives}
use Rattle.minijinja_code_expr.proofs.expr.apply_filter.Goals as goal

pub returns-clause-added : goal.returns-clause-added
returns-clause-added g c =
    ok_gives c.add.result (λ s. filter_applied c.args.name.now c.args.count c.args.count c.in_ok-id.id c.in_ok-id.ensures.noted c.in_ok-id.ensures.id refl s) c.add.ensures.added
