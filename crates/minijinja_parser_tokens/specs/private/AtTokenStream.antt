-- The place that the fields of a `TokenStream` stand for, and their invariant.
use Rattle.std.specs.Prelude.{◌≡◌, ◌∷◌, [], map, Option, Some, None, Result, Ok, Err}
use Rattle.std.specs.BTreeSet.{keys}
use Rattle.minijinja_syntax.specs.Errors.{IsOutOfMemory, kind_of, span_of}
use Rattle.minijinja_syntax.specs.Streams.{Stream, before, ended, finished, refused, spanned_tok}
use Rattle.minijinja_syntax.specs.declared.tokens.Token.{Token}
use Rattle.minijinja_syntax.specs.declared.tokens.Span.{Span}
use Rattle.minijinja_syntax.specs.declared.error.Error.{Error}
use Rattle.minijinja_syntax.specs.declared.error.ErrorKind.TheVariants.{OutOfMemory}
use Rattle.minijinja_lexer.specs.Stream.{IsTokenizerKind}
use Rattle.minijinja_grammar.specs.Places.{Place}
use Rattle.minijinja_parser_tokens.specs.TokenStreams.{IsNamedUnder, StandsBetweenChars, Streaming}
use Rattle.minijinja_parser_tokens.specs.declared.token_stream.TokenStream.TheInside.{Inside}

-- the answer of a tokenizer, before the tokens that it has yet to return
abbrev pub joined : Result (Option (Token × Span)) Error → Stream → Stream
joined (Ok (Some t)) later = before (spanned_tok t ∷ []) later
joined (Ok None) later = later
joined (Err e) later = ended (refused (kind_of e) (span_of e))

-- what a tokenizer has yet to return after an answer; after a refusal it is not called again
abbrev pub IsAnswerBefore : Result (Option (Token × Span)) Error → Stream → Type 0
IsAnswerBefore (Ok (Some t)) later = Unit {0}
IsAnswerBefore (Ok None) later = later ≡ ended finished
IsAnswerBefore (Err e) later = IsTokenizerKind (kind_of e) × (kind_of e ≡ OutOfMemory → IsOutOfMemory e)

abbrev pub place_of : Inside → Place
place_of a = record {
  source = a.tokenizer.source;
  tokens = (joined a.current a.tokenizer.stream).tokens;
  ending = (joined a.current a.tokenizer.stream).ending;
  last = a.last_span;
  names = map (λ x. x.now) (keys a.names);
}

abbrev pub streaming : Inside → Streaming
streaming a = record { filename = a.tokenizer.filename; place = place_of a }

-- the next token comes before those of the tokenizer, and the text can be cut round it; a refusal
-- has the name of the source
pub record IsStream (a : Inside) : Type 0 where
  pub ahead : IsAnswerBefore a.current a.tokenizer.stream
  pub between : StandsBetweenChars a.tokenizer.source a.current
  pub named : IsNamedUnder a.tokenizer.filename a.current
