-- The identifiers of a text.
use Rattle.std.specs.Prelude.{Contains, List}
use Rattle.minijinja_syntax.specs.Texts.{Text}
use Rattle.minijinja_syntax.specs.Tokens.{ident}
use Rattle.minijinja_syntax.specs.Streams.{SpannedTok}
use Rattle.minijinja_syntax.specs.declared.tokens.Span.{Span}

-- the text is that of an identifier among the tokens
abbrev pub IsIdentifierOf : List SpannedTok → Text → Type 0
IsIdentifierOf ts x = (s : Span) × Contains ts (ident x, s)
