use Rattle.minijinja_meta.specs.private.Parts.{map_size}
use Rattle.minijinja_meta.proofs.ExprWays.{among-smaller}
use Rattle.minijinja_meta.proofs.parts.key_at.Goals as goal

pub returns-clause-smaller : goal.returns-clause-smaller
returns-clause-smaller g c = among-smaller c.at.result c.keys_of.result.now (map_size c.args.map.now) c.at.ensures.smaller c.keys_of.ensures.smaller
