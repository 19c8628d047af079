use Rattle.minijinja_lexer.specs.Tags.{Variable}
use Rattle.minijinja_lexer.proofs.SomeCut.{inner_holds}
use Rattle.minijinja_lexer.proofs.laws.some_expression.Goals as goal

pub returns : goal.returns
returns c = λ s text. inner_holds s text Variable 0 0 0
