-- Answers that fit have the size that their events take.
use Rattle.std.proofs.Common.{◌≡◌, ℕ, List, length, Some, None, Bool, true, false, refl, sym, ap, ◌∙◌}
use Rattle.std.specs.Prelude.{if◌then◌else◌, ◌==◌}
use Rattle.std.proofs.lemmas.Bool.{eqb-true}
use Rattle.minijinja_semantics.specs.Events.{if_as_many}

tested_length : {C : Type 0} (n : ℕ) (vs us : List C) (b : Bool) → (length vs == n) ≡ b → (if b then Some vs else None) ≡ Some us → length us ≡ n
tested_length n vs us true is e = let same : vs ≡ us = cc in ap length (sym same) ∙ eqb-true (length vs) n is
tested_length n vs us false is e = absurd (cc)

-- the length of a list of values that has the given one
pub as_many_length : {C : Type 0} (n : ℕ) (vs us : List C) → if_as_many n vs ≡ Some us → length us ≡ n
as_many_length n vs us e = tested_length n vs us (length vs == n) refl e
