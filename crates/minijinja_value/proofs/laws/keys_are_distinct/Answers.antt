use Rattle.minijinja_value.proofs.DistinctKeys.{put-distinct, built-distinct}
use Rattle.minijinja_value.proofs.laws.keys_are_distinct.Goals as goal

pub returns-clause-put : goal.returns-clause-put
returns-clause-put c = put-distinct

pub returns-clause-built : goal.returns-clause-built
returns-clause-built c = built-distinct
