use Rattle.minijinja_lexer.proofs.OneCut.{one_cut}
use Rattle.minijinja_lexer.proofs.laws.one_cut.Goals as goal

pub returns : goal.returns
returns c = λ s text gs hs built g h. one_cut s text gs hs built g h
