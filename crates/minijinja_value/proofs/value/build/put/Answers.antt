use Rattle.std.proofs.Common.{◌<◌, length, ap, ◌∙◌, arith}
use Rattle.minijinja_value.proofs.MapBuilding.{position_of_key-below, put-found, put-missed}
use Rattle.minijinja_value.specs.ValueViews.{contents_of, pairs_view}
use Rattle.minijinja_value.proofs.value.build.put.Goals as goal

pub index_mut-requires : goal.index_mut-requires
index_mut-requires c =
    let below : c.in-Some.at < length c.args.made.now.items = position_of_key-below (contents_of c.args.key) c.args.made.now.items c.in-Some.at c.in-Some.ensures in
    omega (arith, below)

pub returns-in-Some-clause-ok : goal.returns-in-Some-clause-ok
returns-in-Some-clause-ok c = put-found (contents_of c.args.key) c.args.value c.args.made.now.items c.in-Some.at c.index_mut.result.now c.in-Some.ensures c.index_mut.ensures.value

pub returns-in_ok-push-in-None-clause-ok : goal.returns-in_ok-push-in-None-clause-ok
returns-in_ok-push-in-None-clause-ok c = ap pairs_view c.in_ok-push-in-None.ensures.items ∙ put-missed c.args.key c.args.value c.args.made.now.items c.in-None.ensures
