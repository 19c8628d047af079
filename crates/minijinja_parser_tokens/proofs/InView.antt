-- The next token of a token stream.
use Rattle.std.proofs.Common.{◌≡◌, ◌∷◌, Option, Some, Ok, refl, sym, ap, ◌∙◌}
use Rattle.minijinja_syntax.specs.Streams.{spanned_tok}
use Rattle.minijinja_syntax.specs.declared.tokens.Token.{Token}
use Rattle.minijinja_syntax.specs.declared.tokens.Span.{Span}
use Rattle.minijinja_parser_tokens.specs.TokenStreams.{Streaming}
use Rattle.minijinja_parser_tokens.specs.private.AtTokenStream.{streaming}
use Rattle.minijinja_parser_tokens.specs.declared.token_stream.TokenStream.TheInside.{Inside}

-- it is the first of those that are left
pub shown : (a : Inside) (p : Streaming) (o : Option (Token × Span)) (t : Token × Span) → streaming a ≡ p → a.current ≡ Ok o → o ≡ Some t →
    p.place.tokens ≡ spanned_tok t ∷ a.tokenizer.stream.tokens
shown a p o t e i j = ap (λ q. q.place.tokens) (sym e) ∙ rw i (rw j refl)
