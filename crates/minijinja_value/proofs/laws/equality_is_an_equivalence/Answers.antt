use Rattle.minijinja_value.proofs.SymmetricEquality.{equals-symmetric}
use Rattle.minijinja_value.specs.private.EqualContents.{equals-itself, equals-chain}
use Rattle.minijinja_value.proofs.laws.equality_is_an_equivalence.Goals as goal

pub returns-clause-itself : goal.returns-clause-itself
returns-clause-itself c = equals-itself

pub returns-clause-symmetric : goal.returns-clause-symmetric
returns-clause-symmetric c = equals-symmetric

pub returns-clause-chain : goal.returns-clause-chain
returns-clause-chain c = equals-chain
