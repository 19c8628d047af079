-- A text that has a tree is refused only by a limit.
use Rattle.std.proofs.Common.{◌≡◌, ◌⊎◌, inl, inr, subst}
use Rattle.minijinja_syntax.specs.Errors.{kind_of}
use Rattle.minijinja_syntax.specs.declared.error.Error.{Error}
use Rattle.minijinja_syntax.specs.declared.error.ErrorKind.TheVariants.{SourceTooLong, TooManyInstructions}
use Rattle.minijinja_parser.specs.Answers.{IsTooLong}
use Rattle.minijinja_parser.specs.Causes.{IsCause, IsLimit}
use Rattle.minijinja_compiler.specs.Headline.{IsCompileCause, IsCompileLimit}
use Rattle.mjc_commands.specs.Failure.{IsRefusedAs}
use Rattle.mjc_commands.specs.Showing.{IsMemory}
use Rattle.mjc_commands.specs.declared.failure.Failure.{Failure}

-- it is told as refused memory, or the text or its code is too long
pub limit_of_failure : (long many : Type 0) (e : Error) (failure : Failure) → IsRefusedAs (kind_of e) failure → (kind_of e ≡ SourceTooLong → long) → (kind_of e ≡ TooManyInstructions → many) → IsCompileLimit e → IsMemory failure ⊎ long ⊎ many
limit_of_failure long many e failure same l m (inl memory) = inl (subst (λ k. IsRefusedAs k failure) memory same)
limit_of_failure long many e failure same l m (inr (inl is)) = inr (inl (l is))
limit_of_failure long many e failure same l m (inr (inr is)) = inr (inr (m is))

-- it is told as refused memory, or the text is too long
pub limit_of_parse : (long : Type 0) (e : Error) (failure : Failure) → IsRefusedAs (kind_of e) failure → (IsTooLong e → long) → IsLimit e → IsMemory failure ⊎ long
limit_of_parse long e failure same l (inl memory) = inl (subst (λ k. IsRefusedAs k failure) memory same)
limit_of_parse long e failure same l (inr is) = inr (l is)

-- why a text is not parsed is why it is not compiled
pub cause_of_parse : (e : Error) → IsCause e → IsCompileCause e
cause_of_parse e (inl refusal) = inl refusal
cause_of_parse e (inr (inl memory)) = inr (inl memory)
cause_of_parse e (inr (inr long)) = inr (inr (inl long))
