-- Reading a form gives exactly what it derives.
use Rattle.std.proofs.Common.{◌≡◌, inl, inr, ℕ, zero, suc, ◌<◌, ◌≤◌, Bool, true, false, List, [], ◌∷◌, length, if◌then◌else◌, Option, Some, None, refl, sym, ap, ◌∙◌, subst, arith}
use Rattle.minijinja_syntax.specs.Streams.{SpannedTok}
use Rattle.minijinja_grammar.specs.Places.{Place}
use Rattle.minijinja_grammar.specs.internal.Forms.{Turn, go_on, over, Form, pure, nothing, one, source, start, last, new_name, is_given, giving, and_then, either, many, Takes, Turns, no_turn, last_turn, turn, Derives, Read, got, short, wrong, read_then, after, held_or_wrong, read_one, misfit, read_turn, if_held, read_any, read_many, reads}
use Rattle.minijinja_grammar.specs.Ahead.{comes, held_next}

-- how many tokens are left
abbrev pub left : Place → ℕ
left p = length p.tokens

abbrev tree_or : {A : Type 0} → A → Read A → A
tree_or x (got y p) = y
tree_or x (short p) = x
tree_or x (wrong p) = x

abbrev place_or : {A : Type 0} → Place → Read A → Place
place_or p (got y q) = q
place_or p (short q) = q
place_or p (wrong q) = q

pub same_read : {A : Type 0} (x y : A) (p q : Place) → got x p ≡ got y q → (p ≡ q) × (x ≡ y)
same_read x y p q e = (ap (place_or p) e, ap (tree_or x) e)

pub read_then_got : {A B : Type 0} (o : Read A) (f : A → Place → Read B) (y : B) (r : Place) → read_then o f ≡ got y r →
    (x : A) × (q : Place) × (o ≡ got x q) × (f x q ≡ got y r)
read_then_got (got x q) f y r e = (x, q, refl, e)
read_then_got (short q) f y r e = cc
read_then_got (wrong q) f y r e = cc

-- ---- one token

one_sound : {A : Type 0} (held : SpannedTok → Option A) (p q : Place) (x : A) → read_one held p p.tokens ≡ got x q → Takes held p q x
one_sound {A = A} held p q x e = go p.tokens refl e
  where
    at_token : (t : SpannedTok) (ts : List SpannedTok) (o : Option A) → p.tokens ≡ t ∷ ts → held t ≡ o → held_or_wrong o (after p t ts) ≡ got x q → Takes held p q x
    at_token t ts None k h e = cc
    at_token t ts (Some y) k h e =
        let i : (after p t ts ≡ q) × (y ≡ x) = same_read _ _ _ _ e in
        record { token = t; rest = ts; next = k; holds = h ∙ ap Some i.1; behind = sym i.0 }

    go : (ts : List SpannedTok) → p.tokens ≡ ts → read_one held p ts ≡ got x q → Takes held p q x
    go [] k e = cc
    go (t ∷ ts) k e = at_token t ts (held t) k refl e

one_complete : {A : Type 0} (held : SpannedTok → Option A) (p q : Place) (x : A) → Takes held p q x → read_one held p p.tokens ≡ got x q
one_complete held p q x d = ap (read_one held p) d.next ∙ ap (λ o. held_or_wrong o (after p d.token d.rest)) d.holds ∙ ap (got x) (sym d.behind)

pub takes_shorter : {A : Type 0} (held : SpannedTok → Option A) (p q : Place) (x : A) → Takes held p q x → left q < left p
takes_shorter held p q x d = omega (arith, ap length d.next, ap left d.behind)

-- ---- turns

turns_longer : {A B : Type 0} (held : SpannedTok → Option B) (T : A → B → Place → Place → Turn A → Type 0) →
    ((x : A) (h : B) (p q : Place) (y : Turn A) → T x h p q y → left q ≤ left p) → (x : A) (p q : Place) (y : A) → Turns held T x p q y → left q ≤ left p
turns_longer held T k x p q y (no_turn e) = omega arith
turns_longer held T k x p r y (last_turn {h = h} {q = q} t d) = omega (arith, takes_shorter held p q h t, k x h q r (over y) d)
turns_longer held T k x p s z (turn {y = y} {h = h} {q = q} {r = r} t d m) =
    omega (arith, takes_shorter held p q h t, k x h q r (go_on y) d, turns_longer held T k y r s z m)

-- no form leaves more tokens than there were
pub no_longer : {A : Type 0} (f : Form A) (p q : Place) (x : A) → Derives f p q x → left q ≤ left p
no_longer (pure y) p q x d = omega (arith, ap left d.0)
no_longer nothing p q x d = absurd d
no_longer (one held) p q x d = omega (arith, takes_shorter held p q x d)
no_longer source p q x d = omega (arith, ap left d.0)
no_longer start p q x d = omega (arith, ap left d.0)
no_longer last p q x d = omega (arith, ap left d.0)
no_longer (new_name y) p q x d = omega (arith, ap left d.1)
no_longer (and_then f g) p q x d = omega (arith, no_longer f p d.1 d.0 d.2, no_longer (g d.0) d.1 q x d.3)
no_longer (either begins f g) p q x (inl d) = no_longer f p q x d.1
no_longer (either begins f g) p q x (inr d) = no_longer g p q x d.1
no_longer (many held t y) p q x d = turns_longer held (λ y h. Derives (t y h)) (λ y h. no_longer (t y h)) y p q x d

-- ---- what is read is derived

module _ {A B : Type 0} (held : SpannedTok → Option B) (t : A → B → Form (Turn A)) where
  abbrev T : A → B → Place → Place → Turn A → Type 0
  T x h = Derives (t x h)

  abbrev r : A → B → Place → Read (Turn A)
  r x h = reads (t x h)

  many_sound : ((x : A) (h : B) (p q : Place) (y : Turn A) → r x h p ≡ got y q → T x h p q y) →
      (n : ℕ) (x : A) (p q : Place) (y : A) → read_many held r n x p ≡ got y q → Turns held T x p q y
  many_sound k zero x p q y e = cc
  many_sound k (suc n) x p q y e = go p.tokens refl e (λ z s. many_sound k n z s q y)
    where
      -- what the turns after this one give
      Later : Type 0
      Later = (z : A) (s : Place) → read_many held r n z s ≡ got y q → Turns held T z s q y

      turned : (h : B) (m : Place) → Takes held p m h → (o : Read (Turn A)) → r x h m ≡ o → read_turn o (read_many held r n) ≡ got y q → Later → Turns held T x p q y
      turned h m d (got (go_on z) s) i j more = turn d (k x h m s (go_on z) i) (more z s j)
      turned h m d (got (over z) s) i j more =
          let l : (s ≡ q) × (z ≡ y) = same_read _ _ _ _ j in
          last_turn d (subst (λ v. T x h m q (over v)) l.1 (subst (λ v. T x h m v (over z)) l.0 (k x h m s (over z) i)))
      turned h m d (short s) i j more = cc
      turned h m d (wrong s) i j more = cc

      at_token : (u : SpannedTok) (us : List SpannedTok) → p.tokens ≡ u ∷ us → (o : Option B) → held u ≡ o →
          if_held o (λ h. read_turn (r x h (after p u us)) (read_many held r n)) (got x p) ≡ got y q → Later → Turns held T x p q y
      at_token u us i None l j more =
          let m : (p ≡ q) × (x ≡ y) = same_read _ _ _ _ j in
          subst (λ v. Turns held T x p q v) m.1 (subst (λ v. Turns held T x p v x) m.0 (no_turn (ap (held_next held) i ∙ l)))
      at_token u us i (Some h) l j more = turned h (after p u us) (record { token = u; rest = us; next = i; holds = l; behind = refl }) (r x h (after p u us)) refl j more

      go : (ts : List SpannedTok) → p.tokens ≡ ts → read_any held (λ h m. read_turn (r x h m) (read_many held r n)) x p ts ≡ got y q → Later → Turns held T x p q y
      go [] i j more =
          let m : (p ≡ q) × (x ≡ y) = same_read _ _ _ _ j in
          subst (λ v. Turns held T x p q v) m.1 (subst (λ v. Turns held T x p v x) m.0 (no_turn (ap (held_next held) i)))
      go (u ∷ us) i j more = at_token u us i (held u) refl j more

  many_complete : ((x : A) (h : B) (p q : Place) (y : Turn A) → T x h p q y → r x h p ≡ got y q) →
      (n : ℕ) (x : A) (p q : Place) (y : A) → left p < n → Turns held T x p q y → read_many held r n x p ≡ got y q
  many_complete k zero x p q y l d = absurd (omega arith)
  many_complete k (suc n) x p q y l (no_turn e) = go p.tokens refl
    where
      go : (ts : List SpannedTok) → p.tokens ≡ ts → read_any held (λ h m. read_turn (r x h m) (read_many held r n)) x p ts ≡ got x p
      go [] i = refl
      go (u ∷ us) i = let j : held u ≡ None = sym (ap (held_next held) i) ∙ e in rw j refl
  many_complete k (suc n) x p q y l (last_turn {h = h} {q = m} d f) = rw (d.next, d.holds, sym d.behind, k x h m q (over y) f) refl
  many_complete k (suc n) x p q y l (turn {y = z} {h = h} {q = m} {r = s} d f g) =
      rw (d.next, d.holds, sym d.behind, k x h m s (go_on z) f)
      (many_complete k n z s q y (omega (arith, l, takes_shorter held p m h d, no_longer (t x h) m s (go_on z) f)) g)

pub sound : {A : Type 0} (f : Form A) (p q : Place) (x : A) → reads f p ≡ got x q → Derives f p q x
unfolding reads
sound (pure y) p q x e = same_read _ _ _ _ e
sound nothing p q x e = go p.tokens e
  where
    go : (ts : List SpannedTok) → misfit p ts ≡ got x q → ⊥
    go [] k = cc
    go (t ∷ ts) k = cc
sound (one held) p q x e = one_sound held p q x e
sound source p q x e = same_read _ _ _ _ e
sound start p q x e = same_read _ _ _ _ e
sound last p q x e = same_read _ _ _ _ e
sound (new_name y) p q x e = go (is_given y p) refl e
  where
    no : (ts : List SpannedTok) → misfit p ts ≡ got x q → ⊥
    no [] k = cc
    no (t ∷ ts) k = cc

    go : (b : Bool) → is_given y p ≡ b → (if b then misfit p p.tokens else got tt (giving y p)) ≡ got x q → Derives (new_name y) p q x
    go true i j = absurd (no p.tokens j)
    go false i j = (i, sym (same_read tt x (giving y p) q j).0)
sound (and_then f g) p q x e =
    let i : (y : _) × (m : Place) × (reads f p ≡ got y m) × (reads (g y) m ≡ got x q) = read_then_got _ _ _ _ e in
    (i.0, i.1, sound f p i.1 i.0 i.2, sound (g i.0) i.1 q x i.3)
sound (either begins f g) p q x e = go (comes begins p.tokens) refl e (sound f p q x) (sound g p q x)
  where
    go : (b : Bool) → comes begins p.tokens ≡ b → (if b then reads f p else reads g p) ≡ got x q →
        (reads f p ≡ got x q → Derives f p q x) → (reads g p ≡ got x q → Derives g p q x) → Derives (either begins f g) p q x
    go true i j h k = inl (i, h j)
    go false i j h k = inr (i, k j)
sound (many held t y) p q x e = many_sound held t (λ z h. sound (t z h)) (suc (left p)) y p q x e

pub complete : {A : Type 0} (f : Form A) (p q : Place) (x : A) → Derives f p q x → reads f p ≡ got x q
unfolding reads
complete (pure y) p q x d = rw d.0 (rw d.1 refl)
complete nothing p q x d = absurd d
complete (one held) p q x d = one_complete held p q x d
complete source p q x d = ap (λ y. got y p) d.1 ∙ ap (got x) d.0
complete start p q x d = ap (λ y. got y p) d.1 ∙ ap (got x) d.0
complete last p q x d = ap (λ y. got y p) d.1 ∙ ap (got x) d.0
complete (new_name y) p q x d = rw (d.0, d.1) refl
complete (and_then f g) p q x d = rw (complete f p d.1 d.0 d.2) (complete (g d.0) d.1 q x d.3)
complete (either begins f g) p q x (inl d) = rw d.0 (complete f p q x d.1)
complete (either begins f g) p q x (inr d) = rw d.0 (complete g p q x d.1)
complete (many held t y) p q x d = many_complete held t (λ z h. complete (t z h)) (suc (left p)) y p q x (omega arith) d
