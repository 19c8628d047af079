-- What is told along a form holds of all that it derives.
use Rattle.std.proofs.Common.{◌≡◌, List, [], ◌∷◌, Option, Some, inl, inr, refl, sym, ap, ◌∙◌, subst}
use Rattle.minijinja_syntax.specs.Texts.{Text}
use Rattle.minijinja_syntax.specs.declared.tokens.Span.{Span}
use Rattle.minijinja_syntax.specs.Streams.{SpannedTok}
use Rattle.minijinja_grammar.specs.Places.{Place}
use Rattle.minijinja_grammar.specs.internal.Forms.{Turn, go_on, over, Form, pure, nothing, one, source, start, last, new_name, start_at, and_then, either, many, Takes, Turns, no_turn, last_turn, turn, Derives}
use Rattle.minijinja_grammar.specs.private.Ensured.{Holds, Kept, Ensured}

module _ (T : SpannedTok → Type 0) (S : Span → Type 0) (spans : (t : SpannedTok) → T t → S t.1) (G : Text → Type 0) where
  abbrev pub All : List SpannedTok → Type 0
  All [] = Unit {0}
  All (t ∷ ts) = T t × All ts

  -- such tokens are left, and the last one taken stands at such a span
  pub record Fine (p : Place) : Type 0 where
    pub tokens : All p.tokens
    pub last : S p.last

  -- such a thing is derived, and what is left is so too
  pub record Gives (q : Place) (X : Type 1) : Type 1 where
    pub fine : Fine q
    pub is : X

  start_fine : (p : Place) → Fine p → S (start_at p)
  start_fine p h = go p.tokens refl
    where
      go : (ts : List SpannedTok) → p.tokens ≡ ts → S (start_at p)
      go [] e = subst S (sym (at_end p e)) h.last
        where
          at_end : (p : Place) → p.tokens ≡ [] → start_at p ≡ p.last
          at_end p e = rw e refl
      go (t ∷ ts) e = subst S (sym (at_token p e)) (spans t (subst All e h.tokens).0)
        where
          at_token : (p : Place) → p.tokens ≡ t ∷ ts → start_at p ≡ t.1
          at_token p e = rw e refl

  takes_fine : {A : Type 0} (held : SpannedTok → Option A) (p q : Place) (x : A) → Fine p → (d : Takes held p q x) → Fine q × T d.token
  takes_fine held p q x h d =
      let i : All (d.token ∷ d.rest) = subst All d.next h.tokens in
      (subst Fine (sym d.behind) (record { tokens = i.1; last = spans d.token i.0 }), i.0)

  module _ {A B : Type 0} (held : SpannedTok → Option B) (R : A → B → Place → Place → Turn A → Type 0) (I : A → Type 0)
      (k : (x : A) (t : SpannedTok) (h : B) → I x → T t → held t ≡ Some h → (p q : Place) (y : Turn A) → Fine p → R x h p q y → Fine q × Kept I y) where
    turns_fine : (x : A) (p q : Place) (y : A) → I x → Fine p → Turns held R x p q y → Fine q × I y
    turns_fine x p q y i h (no_turn e) = (h, i)
    turns_fine x p q y i h (last_turn {h = b} {q = m} d f) =
        let j = takes_fine held p m b h d in k x d.token b i j.1 d.holds m q (over y) j.0 f
    turns_fine x p q y i h (turn {y = z} {h = b} {q = m} {r = s} d f g) =
        let j = takes_fine held p m b h d in
        let l = k x d.token b i j.1 d.holds m s (go_on z) j.0 f in
        turns_fine z s q y l.1 l.0 g

  pub ensured : {A : Type 0} (f : Form A) (P : A → Type 1) → Ensured T S G f P → (p q : Place) (x : A) → Fine p → Derives f p q x → Gives q (P x)
  ensured (pure y) P e p q x h d = record { fine = subst Fine d.0 h; is = subst P d.1 e }
  ensured nothing P e p q x h d = absurd d
  ensured (one held) P e p q x h d = let i = takes_fine held p q x h d in record { fine = i.0; is = e d.token x i.1 d.holds }
  ensured source P e p q x h d = record { fine = subst Fine d.0 h; is = e x }
  ensured start P e p q x h d = record { fine = subst Fine d.0 h; is = e x (subst S d.1 (start_fine p h)) }
  ensured last P e p q x h d = record { fine = subst Fine d.0 h; is = e x (subst S d.1 h.last) }
  ensured (new_name y) P e p q x h d = record { fine = subst Fine (sym d.1) (record { tokens = h.tokens; last = h.last }); is = e.1 }
  ensured (and_then f g) P e p q x h d =
      let i = ensured f (λ y. Ensured T S G (g y) P) e p d.1 d.0 h d.2 in
      ensured (g d.0) P i.is d.1 q x i.fine d.3
  ensured (either begins f g) P e p q x h (inl d) = ensured f P e.0 p q x h d.1
  ensured (either begins f g) P e p q x h (inr d) = ensured g P e.1 p q x h d.1
  ensured (many held t y) P e p q x h d =
      let i = turns_fine held (λ z b. Derives (t z b)) e.0
      (λ z u b i j k m n v l r. let o = ensured (t z b) (λ w. Holds (Kept e.0 w)) (e.2 z u b i j k) m n v l r in (o.fine, o.is.it)) y p q x e.1.it h d in
      record { fine = i.0; is = e.3 x i.1 }

-- what follows from a thing that is ensured is ensured
pub weaker : {A : Type 0} (T : SpannedTok → Type 0) (S : Span → Type 0) (G : Text → Type 0) (f : Form A) (P Q : A → Type 1) → ((x : A) → P x → Q x) → Ensured T S G f P → Ensured T S G f Q
weaker T S G (pure x) P Q k e = k x e
weaker T S G nothing P Q k e = e
weaker T S G (one held) P Q k e = λ t x i j. k x (e t x i j)
weaker T S G source P Q k e = λ x. k x (e x)
weaker T S G start P Q k e = λ s i. k s (e s i)
weaker T S G last P Q k e = λ s i. k s (e s i)
weaker T S G (new_name y) P Q k e = (e.0, k tt e.1)
weaker T S G (and_then f g) P Q k e = weaker T S G f (λ x. Ensured T S G (g x) P) (λ x. Ensured T S G (g x) Q) (λ x. weaker T S G (g x) P Q k) e
weaker T S G (either begins f g) P Q k e = (weaker T S G f P Q k e.0, weaker T S G g P Q k e.1)
weaker T S G (many held t x) P Q k e = (e.0, e.1, e.2, λ y i. k y (e.3 y i))

-- no name
abbrev pub No : Text → Type 0
No x = ⊥

-- where no name may be given, none is
module _ (T : SpannedTok → Type 0) (S : Span → Type 0) (spans : (t : SpannedTok) → T t → S t.1) where
  -- none is given up to that place, and what holds of the thing that is derived
  pub record Quietly (p q : Place) (X : Type 1) : Type 1 where
    pub fine : Fine T S spans No q
    pub names : q.names ≡ p.names
    pub is : X

  takes_quietly : {A : Type 0} (held : SpannedTok → Option A) (p q : Place) (x : A) → Takes held p q x → q.names ≡ p.names
  takes_quietly held p q x d = ap (λ (r : Place). r.names) d.behind

  module _ {A B : Type 0} (held : SpannedTok → Option B) (R : A → B → Place → Place → Turn A → Type 0) (I : A → Type 0)
      (k : (x : A) (t : SpannedTok) (h : B) → I x → T t → held t ≡ Some h → (p q : Place) (y : Turn A) → Fine T S spans No p → R x h p q y → Quietly p q (Holds (Kept I y))) where
    turns_quietly : (x : A) (p q : Place) (y : A) → I x → Fine T S spans No p → Turns held R x p q y → Quietly p q (Holds (I y))
    turns_quietly x p q y i h (no_turn e) = record { fine = h; names = refl; is = record { it = i } }
    turns_quietly x p q y i h (last_turn {h = b} {q = m} d f) =
        let j = takes_fine T S spans No held p m b h d in
        let l = k x d.token b i j.1 d.holds m q (over y) j.0 f in
        record { fine = l.fine; names = l.names ∙ takes_quietly held p m b d; is = record { it = l.is.it } }
    turns_quietly x p q y i h (turn {y = z} {h = b} {q = m} {r = s} d f g) =
        let j = takes_fine T S spans No held p m b h d in
        let l = k x d.token b i j.1 d.holds m s (go_on z) j.0 f in
        let o = turns_quietly z s q y l.is.it l.fine g in
        record { fine = o.fine; names = o.names ∙ l.names ∙ takes_quietly held p m b d; is = o.is }

  pub quietly : {A : Type 0} (f : Form A) (P : A → Type 1) → Ensured T S No f P → (p q : Place) (x : A) → Fine T S spans No p → Derives f p q x → Quietly p q (P x)
  quietly (pure y) P e p q x h d = record { fine = subst (Fine T S spans No) d.0 h; names = sym (ap (λ (r : Place). r.names) d.0); is = subst P d.1 e }
  quietly nothing P e p q x h d = absurd d
  quietly (one held) P e p q x h d = let i = takes_fine T S spans No held p q x h d in record { fine = i.0; names = takes_quietly held p q x d; is = e d.token x i.1 d.holds }
  quietly source P e p q x h d = record { fine = subst (Fine T S spans No) d.0 h; names = sym (ap (λ (r : Place). r.names) d.0); is = e x }
  quietly start P e p q x h d = record { fine = subst (Fine T S spans No) d.0 h; names = sym (ap (λ (r : Place). r.names) d.0); is = e x (subst S d.1 (start_fine T S spans No p h)) }
  quietly last P e p q x h d = record { fine = subst (Fine T S spans No) d.0 h; names = sym (ap (λ (r : Place). r.names) d.0); is = e x (subst S d.1 h.last) }
  quietly (new_name y) P e p q x h d = absurd e.0.it
  quietly (and_then f g) P e p q x h d =
      let i = quietly f (λ y. Ensured T S No (g y) P) e p d.1 d.0 h d.2 in
      let j = quietly (g d.0) P i.is d.1 q x i.fine d.3 in
      record { fine = j.fine; names = j.names ∙ i.names; is = j.is }
  quietly (either begins f g) P e p q x h (inl d) = quietly f P e.0 p q x h d.1
  quietly (either begins f g) P e p q x h (inr d) = quietly g P e.1 p q x h d.1
  quietly (many held t y) P e p q x h d =
      let i = turns_quietly held (λ z b. Derives (t z b)) e.0
      (λ z u b i j k m n v l r. quietly (t z b) (λ w. Holds (Kept e.0 w)) (e.2 z u b i j k) m n v l r) y p q x e.1.it h d in
      record { fine = i.fine; names = i.names; is = e.3 x i.is.it }
