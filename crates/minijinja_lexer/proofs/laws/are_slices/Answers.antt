use Rattle.minijinja_lexer.proofs.Slices.{template_slices, expression_slices, slices_at}
use Rattle.minijinja_lexer.proofs.laws.are_slices.Goals as goal

pub returns : goal.returns
returns c = record { template = λ s source. template_slices s source; expression = λ s source. expression_slices s source; expression_at = λ s text at. slices_at s text at }
