use Rattle.minijinja_lexer.proofs.SomeCut.{some_cut}
use Rattle.minijinja_lexer.proofs.laws.some_cut.Goals as goal

pub returns : goal.returns
returns c = λ s text built. some_cut s text built
