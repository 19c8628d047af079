-- What a form derives of all tokens: one thing at most, and what reading them comes to where they
-- end refused.
use Rattle.std.proofs.Common.{◌≡◌, ◌≢◌, inl, inr, List, [], ◌∷◌, ◌++◌, Option, refl, sym, ap, ◌∙◌}
use Rattle.minijinja_syntax.specs.Streams.{SpannedTok, Ending}
use Rattle.minijinja_grammar.specs.Places.{Place}
use Rattle.minijinja_grammar.specs.internal.Forms.{Turn, go_on, over, Form, pure, nothing, one, source, start, last, new_name, and_then, either, many, start_at, Takes, Turns, no_turn, last_turn, turn, Derives, Read, got, short, wrong, reads}
use Rattle.minijinja_grammar.proofs.Forms.{same_read, complete}
use Rattle.minijinja_grammar.proofs.Prefixes.{with_more, Goes, goes}

-- one place and one tree at most
pub one_only : {A : Type 0} (f : Form A) (p q r : Place) (x y : A) → Derives f p q x → Derives f p r y → (q ≡ r) × (x ≡ y)
one_only f p q r x y d e = same_read x y q r (sym (complete f p q x d) ∙ complete f p r y e)

-- ---- how the tokens end does not matter

abbrev pub ending_in : Ending → Place → Place
ending_in e p = record p { ending = e }

module _ (e : Ending) where
  takes_elsewhere : {A : Type 0} (held : SpannedTok → Option A) (p q : Place) (x : A) → Takes held p q x → Takes held (ending_in e p) (ending_in e q) x
  takes_elsewhere held p q x d = record { token = d.token; rest = d.rest; next = d.next; holds = d.holds; behind = ap (ending_in e) d.behind }

  start_elsewhere : (p : Place) → start_at (ending_in e p) ≡ start_at p
  start_elsewhere p = go p.tokens refl
    where
      go : (ts : List SpannedTok) → p.tokens ≡ ts → start_at (ending_in e p) ≡ start_at p
      go [] k = rw k refl
      go (t ∷ ts) k = rw k refl

  turns_elsewhere : {A B : Type 0} (held : SpannedTok → Option B) (T : A → B → Place → Place → Turn A → Type 0) →
      ((x : A) (h : B) (p q : Place) (y : Turn A) → T x h p q y → T x h (ending_in e p) (ending_in e q) y) →
      (x : A) (p q : Place) (y : A) → Turns held T x p q y → Turns held T x (ending_in e p) (ending_in e q) y
  turns_elsewhere held T k x p q y (no_turn n) = no_turn n
  turns_elsewhere held T k x p r y (last_turn {h = h} {q = q} t d) = last_turn (takes_elsewhere held p q h t) (k x h q r (over y) d)
  turns_elsewhere held T k x p s z (turn {y = y} {h = h} {q = q} {r = r} t d m) = turn (takes_elsewhere held p q h t) (k x h q r (go_on y) d) (turns_elsewhere held T k y r s z m)

  pub elsewhere : {A : Type 0} (f : Form A) (p q : Place) (x : A) → Derives f p q x → Derives f (ending_in e p) (ending_in e q) x
  elsewhere (pure y) p q x d = (ap (ending_in e) d.0, d.1)
  elsewhere nothing p q x d = d
  elsewhere (one held) p q x d = takes_elsewhere held p q x d
  elsewhere source p q x d = (ap (ending_in e) d.0, d.1)
  elsewhere start p q x d = (ap (ending_in e) d.0, start_elsewhere p ∙ d.1)
  elsewhere last p q x d = (ap (ending_in e) d.0, d.1)
  elsewhere (new_name y) p q x d = (d.0, ap (ending_in e) d.1)
  elsewhere (and_then f g) p q x d = (d.0, ending_in e d.1, elsewhere f p d.1 d.0 d.2, elsewhere (g d.0) d.1 q x d.3)
  elsewhere (either begins f g) p q x (inl d) = inl (d.0, elsewhere f p q x d.1)
  elsewhere (either begins f g) p q x (inr d) = inr (d.0, elsewhere g p q x d.1)
  elsewhere (many held t y) p q x d = turns_elsewhere held (λ z h. Derives (t z h)) (λ z h. elsewhere (t z h)) y p q x d

-- ---- where more tokens would make a whole

-- reading came to the end of the tokens
abbrev pub IsAtEnd : {A : Type 0} → Read A → Type 0
IsAtEnd (got x q) = q.tokens ≡ []
IsAtEnd (short q) = Unit {0}
IsAtEnd (wrong q) = ⊥

pub at_end : {A : Type 0} (f : Form A) (p q : Place) (more : List SpannedTok) (x : A) → Derives f (with_more more p) q x → q.tokens ≡ [] → IsAtEnd (reads f p)
at_end {A = A} f p q more x d n = go (reads f p) refl (goes more f p)
  where
    none : (us vs : List SpannedTok) → us ++ vs ≡ [] → us ≡ []
    none [] vs e = refl
    none (u ∷ us) vs e = cc

    whole : (q : Place) (y : A) → reads f (with_more more p) ≡ got y (with_more more q) → Derives f (with_more more p) q x → Unit {0}
    whole q y e d = tt

    go : (o : Read A) → reads f p ≡ o → Goes more o (reads f (with_more more p)) → IsAtEnd o
    go (got y r) e k = at_place r.tokens refl k
      where
        at_place : (us : List SpannedTok) → r.tokens ≡ us → (r.tokens ≢ [] → reads f (with_more more p) ≡ got y (with_more more r)) → r.tokens ≡ []
        at_place [] i j = i
        at_place (u ∷ us) i j =
            let l = same_read x y q (with_more more r) (sym (complete f (with_more more p) q x d) ∙ j (λ m. cc)) in
            none r.tokens more (sym (ap (λ (s : Place). s.tokens) l.0) ∙ n)
    go (short r) e k = tt
    go (wrong r) e k = let l = complete f (with_more more p) q x d in cc
