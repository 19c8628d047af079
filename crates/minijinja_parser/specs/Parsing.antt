-- How a parser ends.
use Rattle.std.specs.Prelude.{◌≡◌, ◌⊎◌, Option, Result, Ok, Err}
use Rattle.minijinja_syntax.specs.Errors.{kind_of, span_of}
use Rattle.minijinja_syntax.specs.Streams.{ended, finished, refused}
use Rattle.minijinja_syntax.specs.declared.tokens.Span.{Span}
use Rattle.minijinja_syntax.specs.declared.error.Error.{Error}
use Rattle.minijinja_syntax.specs.declared.error.ErrorKind.{ErrorKind}
use Rattle.minijinja_syntax.specs.declared.error.ErrorKind.TheVariants.{OutOfMemory}
use Rattle.minijinja_grammar.specs.Places.{Place}
use Rattle.minijinja_grammar.specs.Derived.{FitsSoFar}
use Rattle.minijinja_parser_tokens.specs.TokenStreams.{stream_at}

-- every token was read
abbrev pub IsSpent : Place → Type 0
IsSpent p = stream_at p ≡ ended finished

-- no token is left, but this refusal
abbrev pub HasRefused : Place → ErrorKind → Option Span → Type 0
HasRefused p kind span = stream_at p ≡ ended (refused kind span)

-- the result is a refusal of that kind and span, or memory ran out
abbrev pub IsRefusedSo : {A : Type 0} → ErrorKind → Option Span → Result A Error → Type 0
IsRefusedSo kind span (Ok x) = ⊥
IsRefusedSo kind span (Err e) = ((kind_of e ≡ kind) × (span_of e ≡ span)) ⊎ (kind_of e ≡ OutOfMemory)

-- a tokenizer's refusal that stands after tokens which are the beginning of what has a tree is
-- returned
abbrev pub AnswersItsRefusal : {A X : Type 0} → (Place → X → Type 0) → Place → Result A Error → Type 0
AnswersItsRefusal IsTree p r = (kind : ErrorKind) (span : Option Span) → p.ending ≡ refused kind span → FitsSoFar IsTree p → IsRefusedSo kind span r
