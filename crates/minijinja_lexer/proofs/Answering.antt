-- What a refusal returns.
use Rattle.std.proofs.Common.{◌≡◌, refl, ap, sym, ◌∙◌, ⊎_elim, inl, inr, Option}
use Rattle.std.specs.Prelude.{◌⊎◌, IfErr, MatchResult, None, Result, Ok, Err}
use Rattle.minijinja_syntax.specs.Errors.{kind_of, span_of, IsOutOfMemory}
use Rattle.minijinja_syntax.specs.declared.error.Error.{Error}
use Rattle.minijinja_syntax.specs.declared.error.ErrorKind.{ErrorKind}
use Rattle.minijinja_syntax.specs.declared.error.ErrorKind.TheVariants.{OutOfMemory}
use Rattle.minijinja_syntax.specs.declared.tokens.Span.{Span}
use Rattle.minijinja_syntax.specs.declared.tokens.Token.{Token}
use Rattle.minijinja_syntax.specs.Streams.{Stream, ended, refused}
use Rattle.minijinja_lexer.specs.Stream.{Answers, out_of_memory, NeedsMemory, Refuses, RunsOut}

refuses : (old : Stream) (e : Error) (k : ErrorKind) (span : Option Span) → old ≡ ended (refused k span) → kind_of e ≡ k → span_of e ≡ span → Refuses old e (ended (refused k span))
refuses old e k span is kind place = record {
  none_left = ap (λ (s : Stream). s.tokens) is;
  is = ap (λ (s : Stream). s.ending) is ∙ ap (λ k. refused k span) (sym kind) ∙ ap (refused (kind_of e)) (sym place);
  same = sym is;
}

pub answers_refusal : (old : Stream) (answer : Result (Option (Token × Span)) Error) (k : ErrorKind) (span : Option Span) → old ≡ ended (refused k span) → MatchResult answer (λ _. ⊥) (λ e. kind_of e ≡ k) → IfErr answer (λ e. span_of e ≡ span) → Answers old answer (ended (refused k span))
answers_refusal old (Ok t) k span is kind place = absurd kind
answers_refusal old (Err e) k span is kind place = inl (refuses old e k span is kind place)

runs_out : (old : Stream) (e : Error) → (old ≡ out_of_memory) ⊎ NeedsMemory old.tokens → IsOutOfMemory e → Refuses old e out_of_memory ⊎ RunsOut old e out_of_memory
runs_out old e why is = ⊎_elim
    (λ (o : old ≡ out_of_memory). inl (refuses old e OutOfMemory None o is.kind is.span))
    (λ (n : NeedsMemory old.tokens). inr (record { error = is; needed = n; over = refl }))
    why

pub answers_no_memory : (old : Stream) (answer : Result (Option (Token × Span)) Error) → (old ≡ out_of_memory) ⊎ NeedsMemory old.tokens → MatchResult answer (λ _. ⊥) IsOutOfMemory → Answers old answer out_of_memory
answers_no_memory old (Ok t) why is = absurd is
answers_no_memory old (Err e) why is = runs_out old e why is
