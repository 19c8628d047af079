-- What a call that adds code returns where a call within it fails.
use Rattle.std.proofs.Common.{◌≡◌, ◌+◌, ◌∷◌, [], ℕ, Option, Some, None, Result, Ok, Err, length, length-append, sym, ap, subst, ◌∙◌}
use Rattle.std.specs.Prelude.{IfSome, IsErrAnd}
use Rattle.minijinja_syntax.specs.declared.error.Error.{Error}
use Rattle.minijinja_semantics.specs.Code.{Instr}
use Rattle.minijinja_code.specs.Building.{Building, added}
use Rattle.minijinja_code.specs.Generator.{Tries}

abbrev error_of : {X : Type 0} → Error → Result X Error → Error
error_of d (Err e) = e
error_of d (Ok x) = d

abbrev failed : (X : Type 0) → Error → Result X Error
failed X e = Err e

again_with : (X Y : Type 0) (before : Option Error) (d : Error) → IfSome before (λ e. failed X d ≡ failed X e) → IfSome before (λ e. failed Y d ≡ failed Y e)
again_with X Y None d h = tt
again_with X Y (Some e) d h = ap (failed Y) (ap (error_of d) h)

-- a refusal that is passed on
pub tries_on : {X Y : Type 0} {before mid after : Option Error} {n m : ℕ} (s : Result Y Error) (d : Error) → mid ≡ before → n ≡ m → IsErrAnd s (λ e. e ≡ d) → Tries {X = X} mid after (Err d) n → Tries before after s m
tries_on (Ok y) d same count is t = absurd is
tries_on {X} {Y} {before} {mid} {after} {n} {m} (Err e) d same count is t =
    let u : Tries {X = X} before after (Err d) m = subst (λ k. Tries {X = X} before after (Err d) k) count (subst (λ b. Tries {X = X} b after (Err d) n) same t) in
    subst (λ x. Tries {X = Y} before after (Err x) m) (sym is) (record {
      causes = u.causes;
      unplaced = u.unplaced;
      too_many = u.too_many;
      kept = u.kept;
      again = again_with X Y before d u.again;
      ready = tt;
      few = tt;
    })

pub grown : {C : Type 0} {new : Building C} (old : Building C) (i : Instr C) → new ≡ added i old → length new.code ≡ length old.code + 1
grown old i e = ap (λ (b : Building _). length b.code) e ∙ length-append old.code (i ∷ [])
