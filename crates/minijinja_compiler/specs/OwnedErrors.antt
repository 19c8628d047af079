-- What a refusal says that borrows nothing.
use Rattle.std.specs.Prelude.{◌≡◌, Option, string_bytes}
use Rattle.std.specs.Option.{option_map}
use Rattle.minijinja_syntax.specs.DetailWords.{detail_words}
use Rattle.minijinja_syntax.specs.Errors as borrowed
use Rattle.minijinja_syntax.specs.Texts.{Text}
use Rattle.minijinja_syntax.specs.declared.error.Error.{Error}
use Rattle.minijinja_syntax.specs.declared.error.ErrorKind.{ErrorKind}
use Rattle.minijinja_syntax.specs.declared.tokens.Span.{Span}
use Rattle.minijinja_compiler.specs.declared.owned_error.OwnedError.{OwnedError}

-- the kind of the refusal
abbrev pub kind_of : OwnedError → ErrorKind
kind_of e = e.kind

-- what exactly is wrong, in words
abbrev pub detail_of : OwnedError → Text
detail_of e = string_bytes e.detail

-- the name of the source, if it is known
abbrev pub name_of : OwnedError → Option Text
name_of e = option_map string_bytes e.name

-- where in the source, if it is known
abbrev pub span_of : OwnedError → Option Span
span_of e = e.span

-- it has the kind, the words, the name and the place of the other refusal
pub record IsCopy (e : Error) (copy : OwnedError) : Type 0 where
  pub kind : kind_of copy ≡ borrowed.kind_of e
  pub detail : detail_of copy ≡ detail_words (borrowed.detail_of e)
  pub name : name_of copy ≡ option_map (λ x. x.now) (borrowed.name_of e)
  pub span : span_of copy ≡ borrowed.span_of e
