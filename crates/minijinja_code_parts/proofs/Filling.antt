-- Places that are reserved for a jump while code is being made.
use Rattle.std.proofs.Common.{◌≡◌, ℕ, zero, suc, ◌<◌, ◌≤◌, List, [], ◌∷◌, ◌++◌, length, map, refl, sym, ap, ◌∙◌, subst, arith, length-append}
use Rattle.std.specs.Prelude.{slice_set}
use Rattle.std.proofs.lemmas.List.{length-set, set-append_left}
use Rattle.minijinja_semantics.specs.Code.{Instr, Jump}
use Rattle.minijinja_semantics.specs.Pieces.{Piece}
use Rattle.minijinja_emitter.specs.internal.Making.{Made, here_of, capped, Adds}
use Rattle.minijinja_code_parts.specs.internal.EnclosingLoops.{AreBefore, AreOthers, with_ends}

-- two places that are not one may be set in either order
pub sets_apart : {X : Type 0} (xs : List X) (p q : ℕ) (x y : X) → (p ≡ q → ⊥) → slice_set (slice_set xs p x) q y ≡ slice_set (slice_set xs q y) p x
sets_apart [] p q x y n = refl
sets_apart (z ∷ zs) zero zero x y n = absurd (n refl)
sets_apart (z ∷ zs) zero (suc q) x y n = refl
sets_apart (z ∷ zs) (suc p) zero x y n = refl
sets_apart (z ∷ zs) (suc p) (suc q) x y n = ap (λ l. z ∷ l) (sets_apart zs p q x y (λ e. n (ap suc e)))

pub before_later : (n m : ℕ) (ps : List ℕ) → n ≤ m → AreBefore n ps → AreBefore m ps
before_later n m [] le h = tt
before_later n m (p ∷ ps) le h = (omega (arith, h.0), before_later n m ps le h.1)

-- places before one are others
pub before_others : (n : ℕ) (ps : List ℕ) → AreBefore n ps → AreOthers n ps
before_others n [] h = tt
before_others n (p ∷ ps) h = (λ e. absurd (omega (arith, h.0, e)), before_others n ps h.1)

pub before_more : (n p : ℕ) (ps : List ℕ) → AreBefore n ps → p < n → AreBefore n (ps ++ p ∷ [])
before_more n p [] h lt = (lt, tt)
before_more n p (q ∷ ps) h lt = (h.0, before_more n p ps h.1 lt)

pub others_more : (n p : ℕ) (ps : List ℕ) → AreOthers n ps → (p ≡ n → ⊥) → AreOthers n (ps ++ p ∷ [])
others_more n p [] h ne = (ne, tt)
others_more n p (q ∷ ps) h ne = (h.0, others_more n p ps h.1 ne)

module _ {C : Type 0} where
  pub ends_length : (ps : List ℕ) (n : ℕ) (code : List (Instr C)) → length (with_ends ps n code) ≡ length code
  ends_length [] n code = refl
  ends_length (p ∷ ps) n code = ends_length ps n (slice_set code p (Jump n)) ∙ length-set code p (Jump n)

  -- what comes after them is not touched
  pub ends_append : (ps : List ℕ) (n : ℕ) (code more : List (Instr C)) → AreBefore (length code) ps → with_ends ps n (code ++ more) ≡ with_ends ps n code ++ more
  ends_append [] n code more h = refl
  ends_append (p ∷ ps) n code more h =
      ap (with_ends ps n) (set-append_left code more p (Jump n) h.0)
      ∙ ends_append ps n (slice_set code p (Jump n)) more (subst (λ k. AreBefore k ps) (sym (length-set code p (Jump n))) h.1)

  -- another place may be filled before or after
  pub ends_apart : (ps : List ℕ) (n q : ℕ) (i : Instr C) (code : List (Instr C)) → AreOthers q ps → with_ends ps n (slice_set code q i) ≡ slice_set (with_ends ps n code) q i
  ends_apart [] n q i code h = refl
  ends_apart (p ∷ ps) n q i code h =
      ap (with_ends ps n) (sets_apart code q p i (Jump n) (λ e. h.0 (sym e)))
      ∙ ends_apart ps n q i (slice_set code p (Jump n)) h.1

  -- one more place, the last
  pub ends_last : (ps : List ℕ) (n q : ℕ) (code : List (Instr C)) → with_ends (ps ++ q ∷ []) n code ≡ slice_set (with_ends ps n code) q (Jump n)
  ends_last [] n q code = refl
  ends_last (p ∷ ps) n q code = ends_last ps n q (slice_set code p (Jump n))

  -- what is being made, with a jump at each of these places
  abbrev pub filled : List ℕ → ℕ → Made C → Made C
  filled ps n m = record m { code = with_ends ps n m.code }

  pub filled_here : (ps : List ℕ) (n : ℕ) (m : Made C) → here_of (filled ps n m) ≡ here_of m
  filled_here ps n m = ap (λ k. record { place = k; filters = m.filters; tests = m.tests }) (ends_length ps n m.code)

  -- a piece is added after places that wait
  pub filled_adds : {a b : Made C} {p : Piece C} (ps : List ℕ) (n : ℕ) → AreBefore (length a.code) ps → Adds a b p → Adds (filled ps n a) (filled ps n b) p
  filled_adds {a} {b} {p} ps n h s =
      let here : here_of (filled ps n a) ≡ here_of a = filled_here ps n a in
      record {
        code = ap (with_ends ps n) s.code ∙ ends_append ps n a.code (map capped (p.code (here_of a))) h
            ∙ ap (λ k. with_ends ps n a.code ++ map capped (p.code k)) (sym here);
        past = filled_here ps n b ∙ s.past ∙ ap p.past (sym here);
      }

  -- nothing is removed
  pub adds_on : {a b : Made C} (p : Piece C) → Adds a b p → length a.code ≤ length b.code
  adds_on {a} {b} p s = omega (arith, ap length s.code, length-append a.code (map capped (p.code (here_of a))))
