use Rattle.minijinja_meta.specs.private.Parts.{map_size}
use Rattle.minijinja_meta.proofs.ExprWays.{among-smaller}
use Rattle.minijinja_meta.proofs.parts.value_at.Goals as goal

pub returns-clause-smaller : goal.returns-clause-smaller
returns-clause-smaller g c = among-smaller c.at.result c.values_of.result.now (map_size c.args.map.now) c.at.ensures.smaller c.values_of.ensures.smaller
