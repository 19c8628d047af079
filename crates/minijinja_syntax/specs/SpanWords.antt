-- What the debug form of a span writes.
use Rattle.std.specs.Prelude.{◌++◌, codes}
use Rattle.std.specs.Fmt.{decimal}
use Rattle.minijinja_syntax.specs.Texts.{Text}
use Rattle.minijinja_syntax.specs.declared.tokens.Span.{Span}

-- ` @ `, the start as line and column, `-`, and the end likewise
abbrev pub span_words : Span → Text
span_words s = codes " @ " ++ decimal s.start_line ++ codes ":" ++ decimal s.start_col ++ codes "-" ++ decimal s.end_line ++ codes ":" ++ decimal s.end_col
