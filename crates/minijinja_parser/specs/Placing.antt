-- Where errors stand.
use Rattle.std.specs.Prelude.{◌≡◌, Contains, IsSome, Some}
use Rattle.minijinja_syntax.specs.Errors.{kind_of, span_of}
use Rattle.minijinja_syntax.specs.Streams.{SpannedTok, refused}
use Rattle.minijinja_syntax.specs.declared.error.Error.{Error}
use Rattle.minijinja_grammar.specs.Places.{Place}
use Rattle.minijinja_parser.specs.Causes.{IsRefusal}

-- the span of the error is that of one of the tokens that are left at the place, or of the one that
-- was taken before them; or the error is the refusal of the tokenizer that they end with
pub data IsPlacedAt (p : Place) (e : Error) : Type 0 where
  at_token : {t : SpannedTok} → Contains p.tokens t → span_of e ≡ Some t.1 → IsPlacedAt p e
  at_last : span_of e ≡ Some p.last → IsPlacedAt p e
  at_refusal : p.ending ≡ refused (kind_of e) (span_of e) → IsPlacedAt p e

-- an error for what is written stands there
abbrev pub IsPlaced : Place → Error → Type 0
IsPlaced p e = IsRefusal e → IsPlacedAt p e

-- and it has a span
pub record HasSpan (p : Place) (e : Error) : Type 0 where
  pub span : IsSome (span_of e)
  pub stands : IsPlacedAt p e

-- an error for what is written has a span there
abbrev pub IsPlacedInText : Place → Error → Type 0
IsPlacedInText p e = IsRefusal e → HasSpan p e
