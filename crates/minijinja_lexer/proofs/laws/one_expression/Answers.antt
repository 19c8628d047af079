use Rattle.minijinja_lexer.proofs.OneCut.{one_expression}
use Rattle.minijinja_lexer.proofs.laws.one_expression.Goals as goal

pub returns : goal.returns
returns c = λ s text i j built h g. one_expression s text i j built h g
