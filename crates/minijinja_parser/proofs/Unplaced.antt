-- Errors without a place: where memory ran out, and where the source is too long.
use Rattle.std.proofs.Common.{◌≡◌, inl, inr, None}
use Rattle.minijinja_syntax.specs.Errors.{IsOutOfMemory, kind_of, span_of}
use Rattle.minijinja_syntax.specs.declared.error.Error.{Error}
use Rattle.minijinja_syntax.specs.declared.error.ErrorKind.TheVariants.{OutOfMemory, SourceTooLong}
use Rattle.minijinja_lexer.specs.Stream.{IsTokenizerKind}
use Rattle.minijinja_parser.specs.Causes.{IsUnplaced}

-- an error of the parser is for no source that is too long
pub of_parser : (e : Error) → IsTokenizerKind (kind_of e) → (kind_of e ≡ OutOfMemory → IsOutOfMemory e) → IsUnplaced e
of_parser e cause memory = record { memory = memory; length = not_long cause }
  where
    not_long : IsTokenizerKind (kind_of e) → kind_of e ≡ SourceTooLong → span_of e ≡ None
    not_long (inl i) j = cc
    not_long (inr (inl i)) j = cc
    not_long (inr (inr i)) j = cc

pub of_length : (e : Error) → kind_of e ≡ SourceTooLong → span_of e ≡ None → IsUnplaced e
of_length e kind span = record { memory = λ i. cc; length = λ i. span }
