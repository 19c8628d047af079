use Rattle.std.proofs.Common.{arith, ap}
use Rattle.minijinja_value.specs.ValueComparison.{pair_count}
use Rattle.minijinja_value.specs.declared.value.ValueMap.{out-ValueMap}
use Rattle.minijinja_value.proofs.Comparisons.{pair_count-view}
use Rattle.minijinja_value.proofs.MapViews.{map_view-out}
use Rattle.minijinja_value.proofs.value.ValueMap.len.Goals as goal

pub returns : goal.returns
returns c = omega (arith, pair_count-view (out-ValueMap c.args.self.now).pairs.items, ap pair_count (map_view-out c.args.self.now))
