-- What a step inside a tag says of the tokens to come, at the values that the code has.
use Rattle.std.proofs.Common.{◌≡◌, ℕ, ◌<◌, ◌+◌, Bool, [], ◌∷◌, length, ap, sym, ◌∙◌, subst}
use Rattle.minijinja_syntax.specs.Texts.{Text}
use Rattle.minijinja_syntax.specs.Syntax.{Syntax}
use Rattle.minijinja_syntax.specs.Positions.{span_at}
use Rattle.minijinja_syntax.specs.Tokens.{Tok}
use Rattle.minijinja_syntax.specs.declared.tokens.Span.{Span}
use Rattle.minijinja_syntax.specs.Streams.{Stream, before}
use Rattle.minijinja_lexer.specs.Stream.{NeedsMemory, OwnsMemory}
use Rattle.minijinja_lexer.specs.private.Place.{Place}
use Rattle.minijinja_lexer.specs.Brackets.{opened_by, shut_by}
use Rattle.minijinja_lexer.specs.Cut.{tag_part_at}
use Rattle.minijinja_lexer.specs.TextTokens.{stream_in, lexeme_tok}
use Rattle.minijinja_lexer.specs.private.States.{behind}
use Rattle.minijinja_lexer.specs.Tags.{Tag}
use Rattle.minijinja_lexer.specs.TagParts.{Lexeme, Token}
use Rattle.minijinja_lexer.proofs.Steps.{stream_in-token}

pub inside_token : (s : Syntax) (text : Text) (k : Tag) (whole : Bool) (o c at : ℕ) (l : Lexeme) (v : Tok) (span : Span) (p : Place) (o' c' : ℕ) →
    at < length text → at < l.stop → tag_part_at s text k o c at ≡ Token l → v ≡ lexeme_tok text l → span ≡ span_at text l.start l.stop → p ≡ record { text = text; at = l.stop } → o' ≡ o + opened_by l.sort → c' ≡ c + shut_by l.sort
    → stream_in s text k (behind s text whole) o c at ≡ before ((v, span) ∷ []) (stream_in s p.text k (behind s p.text whole) o' c' p.at)
inside_token s text k whole o c at l v span p o' c' h m part e f g i j =
    let later : Stream = stream_in s text k (behind s text whole) (o + opened_by l.sort) (c + shut_by l.sort) l.stop in
    stream_in-token s text k (behind s text whole) o c at l h m part
    ∙ ap (λ v. before ((v, span_at text l.start l.stop) ∷ []) later) (sym e)
    ∙ ap (λ f. before ((v, f) ∷ []) later) (sym f)
    ∙ ap (λ n. before ((v, span) ∷ []) (stream_in s text k (behind s text whole) n (c + shut_by l.sort) l.stop)) (sym i)
    ∙ ap (λ n. before ((v, span) ∷ []) (stream_in s text k (behind s text whole) o' n l.stop)) (sym j)
    ∙ ap (λ (q : Place). before ((v, span) ∷ []) (stream_in s q.text k (behind s q.text whole) o' c' q.at)) (sym g)

-- a token that needs memory
pub inside_memory : (s : Syntax) (text : Text) (k : Tag) (whole : Bool) (o c at : ℕ) (l : Lexeme) →
    at < length text → at < l.stop → tag_part_at s text k o c at ≡ Token l → OwnsMemory (lexeme_tok text l) → NeedsMemory (stream_in s text k (behind s text whole) o c at).tokens
inside_memory s text k whole o c at l h m part owns =
    subst (λ (x : Stream). NeedsMemory x.tokens) (sym (stream_in-token s text k (behind s text whole) o c at l h m part)) owns
