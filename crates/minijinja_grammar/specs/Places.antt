-- How far the tokens of a text were read.
use Rattle.std.specs.Prelude.{List}
use Rattle.minijinja_syntax.specs.Texts.{Text}
use Rattle.minijinja_syntax.specs.declared.tokens.Span.{Span}
use Rattle.minijinja_syntax.specs.Streams.{SpannedTok, Ending}

-- the text, the tokens that are left of it and how they end, where the token taken last stands, and
-- the names that were given to blocks so far, in order of their bytes
pub record Place : Type 0 where
  pub source : Text
  pub tokens : List SpannedTok
  pub ending : Ending
  pub last : Span
  pub names : List Text
