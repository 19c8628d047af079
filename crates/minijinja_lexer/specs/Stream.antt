-- What a call of the tokenizer returns of the tokens that are to come.
use Rattle.std.specs.Prelude.{◌≡◌, ◌⊎◌, List, [], ◌∷◌, Option, Some, None, Result, Ok, Err}
use Rattle.minijinja_syntax.specs.Tokens.{Tok, string, int128}
use Rattle.std.specs.Borrow.{Bor}
use Rattle.std.specs.Option.{option_map}
use Rattle.minijinja_syntax.specs.Errors.{kind_of, name_of, span_of, IsOutOfMemory}
use Rattle.minijinja_syntax.specs.Streams.{SpannedTok, Stream, before, ended, finished, refused, spanned_tok}
use Rattle.minijinja_syntax.specs.Texts.{Text}
use Rattle.minijinja_syntax.specs.Syntax.{Syntax}
use Rattle.minijinja_syntax.specs.declared.tokens.Token.{Token}
use Rattle.minijinja_syntax.specs.declared.tokens.Span.{Span}
use Rattle.minijinja_syntax.specs.declared.error.Error.{Error}
use Rattle.minijinja_syntax.specs.declared.error.ErrorKind.{ErrorKind}
use Rattle.minijinja_syntax.specs.declared.error.ErrorKind.TheVariants.{SyntaxError, BadEscape, OutOfMemory}

-- memory was refused
abbrev pub out_of_memory : Stream
out_of_memory = ended (refused OutOfMemory None)

-- the kinds of a tokenizer's refusals
abbrev pub IsTokenizerKind : ErrorKind → Type 0
IsTokenizerKind kind = (kind ≡ SyntaxError) ⊎ (kind ≡ BadEscape) ⊎ (kind ≡ OutOfMemory)

-- the refusal has the name of the source
abbrev pub IsNamed : Text → Error → Type 0
IsNamed filename e = option_map (λ (name : Bor Text). name.now) (name_of e) ≡ Some filename

-- a decoded string and an integer from 2 ^ 64 on own memory
abbrev pub OwnsMemory : Tok → Type 0
OwnsMemory (string t) = Unit {0}
OwnsMemory (int128 n) = Unit {0}
OwnsMemory _ = ⊥

-- the next token does
abbrev pub NeedsMemory : List SpannedTok → Type 0
NeedsMemory [] = ⊥
NeedsMemory (t ∷ ts) = OwnsMemory t.0

-- the refusal is what the tokens end with, none is left, and so it stays
pub record Refuses (old : Stream) (e : Error) (new : Stream) : Type 0 where
  pub none_left : old.tokens ≡ []
  pub is : old.ending ≡ refused (kind_of e) (span_of e)
  pub same : new ≡ old

-- memory was refused for a token that needs it, and is from then on
pub record RunsOut (old : Stream) (e : Error) (new : Stream) : Type 0 where
  pub error : IsOutOfMemory e
  pub needed : NeedsMemory old.tokens
  pub over : new ≡ out_of_memory

-- What a call returns of the tokens to come: the first of them, the end, or a refusal. After those
-- two nothing changes.
abbrev pub Answers : Stream → Result (Option (Token × Span)) Error → Stream → Type 0
Answers old (Ok (Some t)) new = old ≡ before (spanned_tok t ∷ []) new
Answers old (Ok None) new = (old ≡ ended finished) × (new ≡ old)
Answers old (Err e) new = Refuses old e new ⊎ RunsOut old e new

-- what a tokenizer says of itself: its syntax, the name of its source, its text, and the tokens to
-- come
pub record Lexing : Type 0 where
  pub syntax : Syntax
  pub filename : Text
  pub source : Text
  pub stream : Stream
