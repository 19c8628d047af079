-- What a refusal says.
use Rattle.std.specs.Prelude.{◌≡◌, Option, None}
use Rattle.std.specs.Borrow.{Bor}
use Rattle.minijinja_syntax.specs.Texts.{Text}
use Rattle.minijinja_syntax.specs.declared.error.Error.{Error}
use Rattle.minijinja_syntax.specs.declared.error.ErrorKind.{ErrorKind}
use Rattle.minijinja_syntax.specs.declared.error.ErrorKind.TheVariants.{OutOfMemory, InvalidDelimiter}
use Rattle.minijinja_syntax.specs.declared.error.Detail.{Detail}
use Rattle.minijinja_syntax.specs.declared.error.Detail.TheVariants as detail
use Rattle.minijinja_syntax.specs.declared.tokens.Span.{Span}

-- the kind of the refusal
abbrev pub kind_of : Error → ErrorKind
kind_of e = e.kind

-- what exactly is wrong
abbrev pub detail_of : Error → Detail
detail_of e = e.detail

-- the name of the source, if it is known
abbrev pub name_of : Error → Option (Bor Text)
name_of e = e.name

-- where in the source, if it is known
abbrev pub span_of : Error → Option Span
span_of e = e.span

-- memory was refused: that has no name and no place
pub record IsOutOfMemory (e : Error) : Type 0 where
  pub kind : kind_of e ≡ OutOfMemory
  pub detail : detail_of e ≡ detail.OutOfMemory
  pub name : name_of e ≡ None
  pub span : span_of e ≡ None

-- a syntax cannot be built: that has no name and no place
pub record IsInvalidDelimiter (e : Error) : Type 0 where
  pub kind : kind_of e ≡ InvalidDelimiter
  pub detail : detail_of e ≡ detail.InvalidDelimiter
  pub name : name_of e ≡ None
  pub span : span_of e ≡ None
