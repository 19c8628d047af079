-- The tokens that are to come, and how they end.
use Rattle.std.specs.Prelude.{List, [], ◌++◌, Option}
use Rattle.minijinja_syntax.specs.Tokens.{Tok, tok_of}
use Rattle.minijinja_syntax.specs.declared.tokens.Token.{Token}
use Rattle.minijinja_syntax.specs.declared.tokens.Span.{Span}
use Rattle.minijinja_syntax.specs.declared.error.ErrorKind.{ErrorKind}

-- a token and where it stands
abbrev pub SpannedTok : Type 0
SpannedTok = Tok × Span

-- after its last token a text is over, or is refused with a kind, and with a place unless memory
-- ran out
pub data Ending : Type 0 where
  finished : Ending
  refused : ErrorKind → Option Span → Ending

-- tokens that are to come, and how they end
pub record Stream : Type 0 where
  pub tokens : List SpannedTok
  pub ending : Ending

-- the stream whose first tokens are these
abbrev pub before : List SpannedTok → Stream → Stream
before ts later = record { tokens = ts ++ later.tokens; ending = later.ending }

-- no tokens are to come, but that ending
abbrev pub ended : Ending → Stream
ended e = record { tokens = []; ending = e }

-- the token that a `Token` is, and where it stands
abbrev pub spanned_tok : Token × Span → SpannedTok
spanned_tok t = (tok_of t.0, t.1)
