-- Repetitions, a turn at a time.
use Rattle.std.proofs.Common.{◌≡◌, ℕ, zero, suc, ◌<◌, ◌≤◌, List, [], ◌∷◌, length, Option, Some, None, refl, ap, arith}
use Rattle.minijinja_syntax.specs.Streams.{SpannedTok}
use Rattle.minijinja_grammar.specs.Places.{Place}
use Rattle.minijinja_grammar.specs.internal.Forms.{Turn, go_on, over, Form, many, Read, got, short, wrong, after, read_turn, if_held, read_any, read_many, reads}
use Rattle.minijinja_grammar.proofs.Forms.{left, sound, no_longer}

module _ {A B : Type 0} (held : SpannedTok → Option B) (r : A → B → Place → Read (Turn A))
    (shorter : (x : A) (h : B) (p q : Place) (y : Turn A) → r x h p ≡ got y q → left q ≤ left p) where
  -- any bound that is large enough gives the same
  many_enough : (n m : ℕ) (x : A) (p : Place) → left p < n → left p < m → read_many held r n x p ≡ read_many held r m x p
  many_enough zero m x p k l = absurd (omega arith)
  many_enough (suc n) zero x p k l = absurd (omega arith)
  many_enough (suc n) (suc m) x p k l = go p.tokens refl (many_enough n m)
    where
      Later : Type 0
      Later = (y : A) (q : Place) → left q < n → left q < m → read_many held r n y q ≡ read_many held r m y q

      turned : (q : Place) (o : Read (Turn A)) → left q < left p → ((y : Turn A) (s : Place) → o ≡ got y s → left s ≤ left q) → Later →
          read_turn o (read_many held r n) ≡ read_turn o (read_many held r m)
      turned q (got (go_on z) s) i j more = more z s (omega (arith, k, i, j (go_on z) s refl)) (omega (arith, l, i, j (go_on z) s refl))
      turned q (got (over z) s) i j more = refl
      turned q (short s) i j more = refl
      turned q (wrong s) i j more = refl

      at_token : (v : SpannedTok) (us : List SpannedTok) → p.tokens ≡ v ∷ us → (o : Option B) → Later →
          if_held o (λ h. read_turn (r x h (after p v us)) (read_many held r n)) (got x p) ≡ if_held o (λ h. read_turn (r x h (after p v us)) (read_many held r m)) (got x p)
      at_token v us i None more = refl
      at_token v us i (Some h) more = turned (after p v us) (r x h (after p v us)) (omega (arith, ap length i)) (λ y s. shorter x h (after p v us) s y) more

      go : (us : List SpannedTok) → p.tokens ≡ us → Later →
          read_any held (λ h q. read_turn (r x h q) (read_many held r n)) x p us ≡ read_any held (λ h q. read_turn (r x h q) (read_many held r m)) x p us
      go [] i more = refl
      go (v ∷ us) i more = at_token v us i (held v) more

module _ {A B : Type 0} (held : SpannedTok → Option B) (t : A → B → Form (Turn A)) where
  abbrev r : A → B → Place → Read (Turn A)
  r x h = reads (t x h)

  shorter : (x : A) (h : B) (p q : Place) (y : Turn A) → r x h p ≡ got y q → left q ≤ left p
  shorter x h p q y e = no_longer (t x h) p q y (sound (t x h) p q y e)

  -- a turn, and then the others
  pub many_is : (x : A) (p : Place) → reads (many held t x) p ≡ read_any held (λ h q. read_turn (reads (t x h) q) (λ y s. reads (many held t y) s)) x p p.tokens
  unfolding reads
  many_is x p = go p.tokens refl
    where
      turned : (q : Place) (o : Read (Turn A)) → left q < left p → ((y : Turn A) (s : Place) → o ≡ got y s → left s ≤ left q) →
          read_turn o (read_many held r (left p)) ≡ read_turn o (λ y s. read_many held r (suc (left s)) y s)
      turned q (got (go_on z) s) i j = many_enough held r shorter (left p) (suc (left s)) z s (omega (arith, i, j (go_on z) s refl)) (omega arith)
      turned q (got (over z) s) i j = refl
      turned q (short s) i j = refl
      turned q (wrong s) i j = refl

      at_token : (v : SpannedTok) (us : List SpannedTok) → p.tokens ≡ v ∷ us → (o : Option B) →
          if_held o (λ h. read_turn (r x h (after p v us)) (read_many held r (left p))) (got x p) ≡
          if_held o (λ h. read_turn (r x h (after p v us)) (λ y s. read_many held r (suc (left s)) y s)) (got x p)
      at_token v us i None = refl
      at_token v us i (Some h) = turned (after p v us) (r x h (after p v us)) (omega (arith, ap length i)) (λ y s. shorter x h (after p v us) s y)

      go : (us : List SpannedTok) → p.tokens ≡ us →
          read_any held (λ h q. read_turn (r x h q) (read_many held r (left p))) x p us ≡
          read_any held (λ h q. read_turn (r x h q) (λ y s. read_many held r (suc (left s)) y s)) x p us
      go [] i = refl
      go (v ∷ us) i = at_token v us i (held v)
