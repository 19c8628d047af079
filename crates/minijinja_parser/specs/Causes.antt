-- Why a text is refused.
use Rattle.std.specs.Prelude.{◌≡◌, ◌⊎◌, None}
use Rattle.minijinja_syntax.specs.Errors.{IsOutOfMemory, kind_of, span_of}
use Rattle.minijinja_syntax.specs.declared.error.Error.{Error}
use Rattle.minijinja_syntax.specs.declared.error.ErrorKind.TheVariants.{BadEscape, OutOfMemory, SourceTooLong, SyntaxError}

-- memory ran out, or the source is too long
abbrev pub IsLimit : Error → Type 0
IsLimit e = (kind_of e ≡ OutOfMemory) ⊎ (kind_of e ≡ SourceTooLong)

-- the text is at fault
abbrev pub IsRefusal : Error → Type 0
IsRefusal e = (kind_of e ≡ SyntaxError) ⊎ (kind_of e ≡ BadEscape)

abbrev pub IsCause : Error → Type 0
IsCause e = IsRefusal e ⊎ IsLimit e

-- where memory ran out, the error has neither name nor place, and where the source is too long, no
-- place
pub record IsUnplaced (e : Error) : Type 0 where
  pub memory : kind_of e ≡ OutOfMemory → IsOutOfMemory e
  pub length : kind_of e ≡ SourceTooLong → span_of e ≡ None
