-- Which line and span each instruction of a list has.
use Rattle.std.specs.Prelude.{ℕ, List, [], ◌∷◌, Option}
use Rattle.std.specs.Option.{option_and_then}
use Rattle.minijinja_syntax.specs.declared.tokens.Span.{Span}
use Rattle.minijinja_semantics.specs.Marks.{Mark, shown, unmarked}
use Rattle.minijinja_instructions.specs.Runs.{at_or_last}

-- what is known of the instruction at an index; past the end, of the last one
abbrev pub line_at : List Mark → ℕ → Option ℕ
line_at ms i = (at_or_last unmarked ms i).line

abbrev pub span_at : List Mark → ℕ → Option Span
span_at ms i = (at_or_last unmarked ms i).span

-- lines, and spans of which some are nowhere
abbrev pub marked : List (Option ℕ) → List (Option Span) → List Mark
marked [] ss = []
marked (l ∷ ls) [] = []
marked (l ∷ ls) (s ∷ ss) = record { line = l; span = option_and_then shown s } ∷ marked ls ss
