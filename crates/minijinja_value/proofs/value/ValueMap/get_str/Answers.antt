use Rattle.std.proofs.Common.{◌<◌, length, arith}
use Rattle.minijinja_value.specs.ValueContents.{text}
use Rattle.minijinja_value.specs.declared.value.ValueMap.{out-ValueMap}
use Rattle.minijinja_value.proofs.MapBuilding.{position_of_key-below, value_for-found, value_for-missed}
use Rattle.minijinja_value.proofs.MapViews.{map_view-out}
use Rattle.minijinja_value.proofs.value.ValueMap.get_str.Goals as goal

pub index-requires : goal.index-requires
index-requires c =
    let below : c.in-Some.at < length (out-ValueMap c.args.self.now).pairs.items = position_of_key-below (text c.args.key.now) (out-ValueMap c.args.self.now).pairs.items c.in-Some.at c.in-Some.ensures in
    omega (arith, below)

pub returns-in-Some : goal.returns-in-Some
returns-in-Some c = rw (map_view-out c.args.self.now) (value_for-found (text c.args.key.now) (out-ValueMap c.args.self.now).pairs.items c.in-Some.at c.index.result.now c.in-Some.ensures c.index.ensures)

pub returns-in-None : goal.returns-in-None
returns-in-None c = rw (map_view-out c.args.self.now) (value_for-missed (text c.args.key.now) (out-ValueMap c.args.self.now).pairs.items c.in-None.ensures)
