use Rattle.minijinja_lexer.proofs.Columns.{column_is}
use Rattle.minijinja_lexer.proofs.laws.columns_count_chars.Goals as goal

pub returns : goal.returns
returns c = λ text at u b. column_is text at u b
