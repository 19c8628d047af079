-- What is printed and told of the text that a file holds.
use Rattle.std.proofs.Common.{◌≡◌, ◌∙◌, ◌⊎◌, ap, inl, inr, Some, None, subst}
use Rattle.std.specs.Prelude.{ℕ, List, Option, IfSome, OnOk, Result, Ok, Err}
use Rattle.minijinja_syntax.specs.Errors.{IsInvalidDelimiter, IsOutOfMemory, kind_of, span_of}
use Rattle.minijinja_syntax.specs.Syntax.{Syntax}
use Rattle.minijinja_syntax.specs.Texts.{Text}
use Rattle.minijinja_syntax.specs.declared.error.Error.{Error}
use Rattle.minijinja_syntax.specs.declared.error.ErrorKind.TheVariants.{InvalidDelimiter}
use Rattle.mjc_commands.specs.Failure.{IsRefusedAs, refusal_at, refusal_of}
use Rattle.mjc_commands.specs.Output.{Prints}
use Rattle.mjc_commands.specs.Refusals.{IsRefusalOf, IsSyntaxRefusal}
use Rattle.mjc_commands.specs.Showing.{IsMemory}
use Rattle.mjc_commands.specs.Usage.{Task, tokens, code, names, lint, expression, replay}
use Rattle.mjc_commands.specs.declared.failure.Failure.{Failure}
use Rattle.mjc_commands.specs.declared.watched.Watched.{Watched}

-- refused memory may be told of any text
pub memory_told : (task : Task) (syntax : Syntax) (source : Text) (failure : Failure) → IsMemory failure → IsRefusalOf task syntax source failure
memory_told tokens syntax source failure memory = inl memory
memory_told code syntax source failure memory = inl memory
memory_told names syntax source failure memory = inl memory
memory_told lint syntax source failure memory = inl memory
memory_told expression syntax source failure memory = inl memory
memory_told (replay answers) syntax source failure memory = inl memory

-- what is printed of a text is printed of each source that it is known to be
pub prints_known : {W T E : Type 0} (holds : W → Option (List ℕ)) (old new : Watched W) {Is : Text → Type 0} {held : Option (List ℕ)} {Known : Text → Text → Type 0} (r : Result T E) → OnOk r (Prints holds old new Is) → ((source : Text) → held ≡ Some source → (printed : Text) → Is printed → Known source printed) → OnOk r ((source : Text) → held ≡ Some source → Prints holds old new (Known source))
prints_known holds old new (Ok v) prints known = λ source is. record { printed = prints.printed; is = known source is prints.printed prints.is; written = prints.written }
prints_known holds old new (Err e) prints known = prints

-- what is printed may be said to be something else
pub prints_as : {W T E : Type 0} (holds : W → Option (List ℕ)) (old new : Watched W) {Is Other : Text → Type 0} (r : Result T E) → OnOk r (Prints holds old new Is) → ((printed : Text) → Is printed → Other printed) → OnOk r (Prints holds old new Other)
prints_as holds old new (Ok v) prints other = record { printed = prints.printed; is = other prints.printed prints.is; written = prints.written }
prints_as holds old new (Err e) prints other = prints

-- what holds of a text holds of the bytes that it is known to be
pub known_as : {T E : Type 0} (P : Text → Type 0) (r : Result T E) (held : Option (List ℕ)) (text : Text) → IfSome held (λ bytes. text ≡ bytes) → OnOk r (P text) → OnOk r (IfSome held P)
known_as P (Ok v) None text known has = tt
known_as P (Ok v) (Some bytes) text known has = subst P known has
known_as P (Err e) held text known has = has

-- the error of a syntax that cannot be built is told so
pub syntax_refusal : (e : Error) (failure : Failure) → failure ≡ refusal_of e → IsRefusedAs (kind_of e) failure → IsInvalidDelimiter e ⊎ IsOutOfMemory e → IsSyntaxRefusal failure
syntax_refusal e failure is kind (inl invalid) = inr (is ∙ (ap (λ k. refusal_at k (span_of e)) invalid.kind ∙ ap (refusal_at InvalidDelimiter) invalid.span))
syntax_refusal e failure is kind (inr memory) = inl (subst (λ k. IsRefusedAs k failure) memory.kind kind)
