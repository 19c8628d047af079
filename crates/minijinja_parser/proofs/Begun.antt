-- Parsers of whole texts, at the place where they begin.
-- What holds there holds before the first token of the text, or memory was refused for that token.
use Rattle.std.proofs.Common.{◌≡◌, [], ◌⊎◌, inl, inr, None, Result, Ok, Err, IfErr, IfOk, IsErrAnd, MatchResult, refl, sym, ap, subst}
use Rattle.minijinja_syntax.specs.Errors.{kind_of, span_of}
use Rattle.minijinja_syntax.specs.Texts.{Text}
use Rattle.minijinja_syntax.specs.Streams.{Stream}
use Rattle.minijinja_syntax.specs.declared.tokens.Span.{Span}
use Rattle.minijinja_syntax.specs.declared.error.Error.{Error}
use Rattle.minijinja_syntax.specs.declared.error.ErrorKind.TheVariants.{OutOfMemory}
use Rattle.minijinja_grammar.specs.Places.{Place}
use Rattle.minijinja_parser.specs.Causes.{IsLimit, IsRefusal}
use Rattle.minijinja_parser.specs.Parsing.{AnswersItsRefusal, HasRefused}
use Rattle.minijinja_parser.specs.Placing.{IsPlaced, IsPlacedAt, IsPlacedInText}
use Rattle.minijinja_parser.proofs.Endings.{EndsSomewhere, placed_in_text}
use Rattle.minijinja_parser.proofs.Wholes.{not_at_fault}
use Rattle.minijinja_parser_tokens.specs.TokenStreams.{Comes, place_after, stream_at}

module _ {A X : Type 0} (T : Place → A → Type 0) (view : X → A) (text : Text) {from : Span} (s : Stream) (p : Place) (r : Result X Error)
    (source : p.source ≡ text) (last : p.last ≡ from) (names : p.names ≡ []) (comes : Comes s (stream_at p))
    (again : HasRefused p OutOfMemory None → IsErrAnd r (λ e. (kind_of e ≡ OutOfMemory) × (span_of e ≡ None))) where
  -- the place is before the first token, or the result is a refusal for memory
  begun : (place_after text from s ≡ p) ⊎ IsErrAnd r (λ e. (kind_of e ≡ OutOfMemory) × (span_of e ≡ None))
  begun = go comes
    where
      go : Comes s (stream_at p) → (place_after text from s ≡ p) ⊎ IsErrAnd r (λ e. (kind_of e ≡ OutOfMemory) × (span_of e ≡ None))
      go (inl e) = let i = ap (λ (t : Stream). t.tokens) e in let j = ap (λ (t : Stream). t.ending) e in inl (rw (sym source, sym last, sym names, sym i, sym j) refl)
      go (inr h) = inr (again h.0)

  -- what is said of a result there is said of it before the first token
  pub begun_ok : (P : Place → X → Type 0) → IfOk r (P p) → IfOk r (P (place_after text from s))
  begun_ok P h = go begun
    where
      none : (o : Result X Error) → IsErrAnd o (λ e. (kind_of e ≡ OutOfMemory) × (span_of e ≡ None)) → IfOk o (P (place_after text from s))
      none (Ok x) k = absurd k
      none (Err e) k = tt

      go : (place_after text from s ≡ p) ⊎ IsErrAnd r (λ e. (kind_of e ≡ OutOfMemory) × (span_of e ≡ None)) → IfOk r (P (place_after text from s))
      go (inl e) = subst (λ q. IfOk r (P q)) (sym e) h
      go (inr k) = none r k

  -- what is said of an error for what is written
  pub begun_err : (P : Place → Error → Type 0) → IfErr r (λ e. IsRefusal e → P p e) → IfErr r (λ e. IsRefusal e → P (place_after text from s) e)
  begun_err P h = go begun
    where
      none : (o : Result X Error) → IsErrAnd o (λ e. (kind_of e ≡ OutOfMemory) × (span_of e ≡ None)) → IfErr o (λ e. IsRefusal e → P (place_after text from s) e)
      none (Ok x) k = tt
      none (Err e) k = λ i. absurd (not_at_fault e i k.0)

      go : (place_after text from s ≡ p) ⊎ IsErrAnd r (λ e. (kind_of e ≡ OutOfMemory) × (span_of e ≡ None)) → IfErr r (λ e. IsRefusal e → P (place_after text from s) e)
      go (inl e) = subst (λ q. IfErr r (λ e. IsRefusal e → P q e)) (sym e) h
      go (inr k) = none r k

  pub begun_refused : IfErr r (λ e. IsRefusal e → (t : A) → T p t → ⊥) → IfErr r (λ e. IsRefusal e → (t : A) → T (place_after text from s) t → ⊥)
  begun_refused = begun_err (λ q e. (t : A) → T q t → ⊥)

  pub begun_placed : EndsSomewhere s.ending → IfErr r (IsPlaced p) → IfErr r (IsPlacedInText (place_after text from s))
  begun_placed ends h = go r (begun_err IsPlacedAt h)
    where
      go : (o : Result X Error) → IfErr o (IsPlaced (place_after text from s)) → IfErr o (IsPlacedInText (place_after text from s))
      go (Ok x) k = tt
      go (Err e) k = placed_in_text (place_after text from s) e ends k

  pub begun_only : ((t : A) → T p t → MatchResult r (λ x. view x ≡ t) (λ e. kind_of e ≡ OutOfMemory)) →
      (t : A) → T (place_after text from s) t → MatchResult r (λ x. view x ≡ t) IsLimit
  begun_only h t d = go begun
    where
      memory : (o : Result X Error) → IsErrAnd o (λ e. (kind_of e ≡ OutOfMemory) × (span_of e ≡ None)) → MatchResult o (λ x. view x ≡ t) IsLimit
      memory (Ok x) k = absurd k
      memory (Err e) k = inl k.0

      wider : (o : Result X Error) → MatchResult o (λ x. view x ≡ t) (λ e. kind_of e ≡ OutOfMemory) → MatchResult o (λ x. view x ≡ t) IsLimit
      wider (Ok x) k = k
      wider (Err e) k = inl k

      go : (place_after text from s ≡ p) ⊎ IsErrAnd r (λ e. (kind_of e ≡ OutOfMemory) × (span_of e ≡ None)) → MatchResult r (λ x. view x ≡ t) IsLimit
      go (inl e) = wider r (h t (subst (λ q. T q t) e d))
      go (inr k) = memory r k

  pub begun_first : AnswersItsRefusal T p r → AnswersItsRefusal T (place_after text from s) r
  begun_first h = go begun
    where
      memory : (o : Result X Error) → IsErrAnd o (λ e. (kind_of e ≡ OutOfMemory) × (span_of e ≡ None)) → AnswersItsRefusal T (place_after text from s) o
      memory (Ok x) k = absurd k
      memory (Err e) k = λ kind span i j. inr k.0

      go : (place_after text from s ≡ p) ⊎ IsErrAnd r (λ e. (kind_of e ≡ OutOfMemory) × (span_of e ≡ None)) → AnswersItsRefusal T (place_after text from s) r
      go (inl e) = subst (λ q. AnswersItsRefusal T q r) (sym e) h
      go (inr k) = memory r k
