-- Refusals, and what reading comes to there.
use Rattle.std.proofs.Common.{◌≡◌, ◌∙◌, Result, Ok, Err, sym, ap, subst}
use Rattle.std.specs.Result.{IsErrAnd}
use Rattle.minijinja_grammar.specs.Places.{Place}
use Rattle.minijinja_grammar.specs.internal.Forms.{Read, read_then, misfit}
use Rattle.minijinja_parser_tokens.specs.internal.Reads.{Misfits, Reads}
use Rattle.minijinja_parser_tokens.specs.declared.refusal.Refusal.{Refusal}
use Rattle.minijinja_parser_tokens.specs.declared.refusal.Refusal.TheVariants.{OutOfMemory, Ended, Wrong}

-- where no token fits, none is read
pub refuses : {A X : Type 0} (view : X → A) (o : Read A) (p : Place) (r : Refusal) → o ≡ misfit p p.tokens → Misfits p r → Reads view o (Err r) p
refuses view o p OutOfMemory e h = tt
refuses view o p (Ended w) e h = e ∙ ap (misfit p) h
refuses view o p (Wrong w) e h = e ∙ ap (misfit p) h.2

-- what the first step refuses, the whole does
pub passed : {A B X Y : Type 0} {G : Refusal → Type 0} (view : X → A) (seen : Y → B) (o : Read A) (f : A → Place → Read B) (whole : Read B) (e : Refusal) (r : Result Y Refusal) (p : Place) →
    whole ≡ read_then o f → IsErrAnd r G → ((d : Refusal) → G d → d ≡ e) → Reads view o (Err e) p → Reads seen whole r p
passed view seen o f whole e (Ok x) p i h same j = absurd h
passed view seen o f whole e (Err d) p i h same j = subst (λ x. Reads seen whole (Err x) p) (sym (same d h)) (go e j)
  where
    go : (e : Refusal) → Reads view o (Err e) p → Reads seen whole (Err e) p
    go OutOfMemory k = tt
    go (Ended w) k = i ∙ ap (λ u. read_then u f) k
    go (Wrong w) k = i ∙ ap (λ u. read_then u f) k

-- what is refused first is refused of the whole
pub refused : {A B : Type 0} (whole : Read B) (o : Read A) (k : A → Place → Read B) (r : Refusal) (q : Place) →
    whole ≡ read_then o k → Reads (λ x. x) o (Err r) q → Reads (λ x. x) whole (Err r) q
refused whole o k OutOfMemory q e h = tt
refused whole o k (Ended a) q e h = e ∙ ap (λ r. read_then r k) h
refused whole o k (Wrong a) q e h = e ∙ ap (λ r. read_then r k) h
