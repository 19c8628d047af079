use Rattle.minijinja_lexer.proofs.Elsewhere.{same_ending, same_tokens}
use Rattle.minijinja_lexer.proofs.laws.expressions_stand_anywhere.Goals as goal

pub returns : goal.returns
returns c = record { tokens = λ s front text no_dot. same_tokens front text no_dot s; ending = λ s front text no_dot. same_ending front text no_dot s }
