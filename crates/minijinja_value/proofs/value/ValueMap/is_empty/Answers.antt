use Rattle.std.proofs.Common.{ℕ, arith, ap, ◌∙◌}
use Rattle.std.specs.Prelude.{◌==◌}
use Rattle.minijinja_value.specs.declared.value.ValueMap.{out-ValueMap}
use Rattle.minijinja_value.proofs.MapViews.{map_view-out, is_empty-view}
use Rattle.minijinja_value.proofs.value.ValueMap.is_empty.Goals as goal

pub returns : goal.returns
returns c = rw (map_view-out c.args.self.now) (is_empty-view (out-ValueMap c.args.self.now).pairs.items c.is_empty.result (c.is_empty.ensures ∙ ap (λ (n : ℕ). n == 0) (omega arith)))
