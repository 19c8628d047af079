-- What a token stream is to its callers: the name of a text, and a place in it with the tokens
-- after that.
use Rattle.std.specs.Borrow.{Bor}
use Rattle.std.specs.Prelude.{◌≡◌, ◌≢◌, ◌⊎◌, ◌∷◌, [], List, Option, Some, None, Result, Ok, Err, IfOk, IfErr, IfSome}
use Rattle.minijinja_syntax.specs.Texts.{Text}
use Rattle.minijinja_syntax.specs.Errors.{kind_of, span_of}
use Rattle.minijinja_syntax.specs.Streams.{SpannedTok, Stream, before, ended, finished, refused, spanned_tok}
use Rattle.minijinja_syntax.specs.Tokens.{tok_of}
use Rattle.minijinja_syntax.specs.declared.tokens.Token.{Token}
use Rattle.minijinja_syntax.specs.declared.tokens.Span.{Span}
use Rattle.minijinja_syntax.specs.declared.error.Error.{Error}
use Rattle.minijinja_lexer.specs.Slices.{IsBetweenChars}
use Rattle.minijinja_syntax.specs.declared.error.ErrorKind.TheVariants.{OutOfMemory}
use Rattle.minijinja_lexer.specs.Stream.{IsNamed, Refuses, NeedsMemory, out_of_memory}
use Rattle.minijinja_grammar.specs.Places.{Place}

-- the name of its source, and the place that it has come to
pub record Streaming : Type 0 where
  pub filename : Text
  pub place : Place

-- the span of zeros
abbrev pub no_place : Span
no_place = record { start_line = 0; start_col = 0; start_offset = 0; end_line = 0; end_col = 0; end_offset = 0 }

-- the tokens to come, and how they end
abbrev pub stream_at : Place → Stream
stream_at p = record { tokens = p.tokens; ending = p.ending }

-- the place before the first of these tokens, after one that stands at `last`
abbrev pub place_after : Text → (last : Span) → Stream → Place
place_after text last s = record { source = text; tokens = s.tokens; ending = s.ending; last = last; names = [] }

-- the place before the first of these tokens, after none
abbrev pub first_place : Text → Stream → Place
first_place text s = place_after text no_place s

-- the tokens to come after one is looked at: those, or a refusal for memory if the next of them
-- needs some
abbrev pub Comes : Stream → Stream → Type 0
Comes later new = (new ≡ later) ⊎ ((new ≡ out_of_memory) × NeedsMemory later.tokens)

-- what `next` returns: the first of the tokens to come, the end, or a refusal
abbrev pub AnswersAhead : Stream → Result (Option (Token × Span)) Error → Stream → Type 0
AnswersAhead old (Ok (Some t)) new = (later : Stream) × (old ≡ before (spanned_tok t ∷ []) later) × Comes later new
AnswersAhead old (Ok None) new = (old ≡ ended finished) × (new ≡ old)
AnswersAhead old (Err e) new = Refuses old e new

-- what `next` would return, by reference
abbrev pub Shows : Stream → Result (Option (Bor Token × Span)) Error → Type 0
Shows s (Ok (Some t)) = (later : List SpannedTok) × (s.tokens ≡ (tok_of t.0.now, t.1) ∷ later)
Shows s (Ok None) = s ≡ ended finished
Shows s (Err e) = s ≡ ended (refused (kind_of e) (span_of e))

-- the span of the token taken
abbrev pub last_after : Result (Option (Token × Span)) Error → Span → Span
last_after (Ok (Some t)) last = t.1
last_after (Ok None) last = last
last_after (Err e) last = last

-- a refusal has the name of the source, unless memory was refused
abbrev pub IsNamedUnder : {A : Type 0} → Text → Result A Error → Type 0
IsNamedUnder filename r = IfErr r (λ e. kind_of e ≢ OutOfMemory → IsNamed filename e)

-- the text can be cut where the token that was returned begins and where it ends
abbrev pub StandsBetweenChars : Text → Result (Option (Token × Span)) Error → Type 0
StandsBetweenChars text r = IfOk r (λ answer. IfSome answer (λ t. IsBetweenChars text t.1))
