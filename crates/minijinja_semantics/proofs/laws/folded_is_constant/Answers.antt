-- What folding means, and its code.
use Rattle.minijinja_semantics.proofs.FoldedCode.{folded_code}
use Rattle.minijinja_semantics.proofs.Folds.{folded_means}
use Rattle.minijinja_semantics.proofs.laws.folded_is_constant.Goals as goal

pub returns : goal.returns
returns g c = record { means = folded_means _ _; code = folded_code _ }
