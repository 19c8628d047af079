-- What reading the first tokens of a text comes to, where more of them follow.
use Rattle.std.proofs.Common.{◌≡◌, ◌≢◌, ℕ, zero, suc, ◌+◌, ◌<◌, ◌≤◌, Bool, true, false, List, [], ◌∷◌, ◌++◌, length, if◌then◌else◌, Option, Some, None, refl, ap, arith, length-append}
use Rattle.minijinja_syntax.specs.Streams.{SpannedTok}
use Rattle.minijinja_grammar.specs.Places.{Place}
use Rattle.minijinja_grammar.specs.internal.Forms.{Turn, go_on, over, Form, pure, nothing, one, source, start, last, new_name, is_given, giving, and_then, either, many, start_at, Read, got, short, wrong, read_then, after, held_or_wrong, read_one, misfit, read_turn, if_held, read_any, read_many, reads}
use Rattle.minijinja_grammar.specs.Ahead.{comes}
use Rattle.minijinja_grammar.proofs.Forms.{left, sound, no_longer}

-- these tokens follow those that are left
abbrev pub with_more : List SpannedTok → Place → Place
with_more ts p = record p { tokens = p.tokens ++ ts }

-- reading came to the first where these tokens do not follow, and comes to the second where they do
abbrev pub Goes : {A : Type 0} → List SpannedTok → Read A → Read A → Type 0
Goes ts (got x q) o = q.tokens ≢ [] → o ≡ got x (with_more ts q)
Goes ts (short q) o = Unit {0}
Goes ts (wrong q) o = o ≡ wrong (with_more ts q)

-- where no tokens are left, none is wrong, and none is left after what is read
abbrev Ends : {A : Type 0} → Read A → Type 0
Ends (got x q) = q.tokens ≡ []
Ends (short q) = Unit {0}
Ends (wrong q) = ⊥

ends_then : {A B : Type 0} (o : Read A) (f : A → Place → Read B) → Ends o → ((x : A) (q : Place) → q.tokens ≡ [] → Ends (f x q)) → Ends (read_then o f)
ends_then (got x q) f e k = k x q e
ends_then (short q) f e k = tt
ends_then (wrong q) f e k = absurd e

many_ends : {A B : Type 0} (held : SpannedTok → Option B) (r : A → B → Place → Read (Turn A)) (n : ℕ) (x : A) (p : Place) → p.tokens ≡ [] → Ends (read_many held r n x p)
many_ends held r zero x p e = tt
many_ends held r (suc n) x p e = rw e refl

pub at_end : {A : Type 0} (f : Form A) (p : Place) → p.tokens ≡ [] → Ends (reads f p)
unfolding reads
at_end (pure x) p e = e
at_end nothing p e = rw e tt
at_end (one held) p e = rw e tt
at_end source p e = e
at_end start p e = e
at_end last p e = e
at_end (new_name x) p e = go (is_given x p) p.tokens e
  where
    go : (b : Bool) (ts : List SpannedTok) → ts ≡ [] → Ends (if b then misfit p ts else got (tt {0}) (giving x p))
    go true ts k = rw k tt
    go false ts k = e
at_end (and_then f g) p e = ends_then (reads f p) (λ x. reads (g x)) (at_end f p e) (λ x. at_end (g x))
at_end (either begins f g) p e = let i : comes begins p.tokens ≡ false = ap (comes begins) e in rw i (at_end g p e)
at_end (many held t x) p e = many_ends held (λ y h. reads (t y h)) (suc (left p)) x p e

-- ---- where tokens are left, those after them change nothing

goes_then : {A B : Type 0} (ts : List SpannedTok) (f : A → Place → Read B) →
    ((x : A) (q : Place) → Goes ts (f x q) (f x (with_more ts q))) → ((x : A) (q : Place) → q.tokens ≡ [] → Ends (f x q)) →
    (o u : Read A) → Goes ts o u → Goes ts (read_then o f) (read_then u f)
goes_then {B = B} ts f k h (got x q) u e = go q.tokens refl e
  where
    none : (o : Read B) → Ends o → Goes ts o (read_then u f)
    none (got y r) i = λ n. absurd (n i)
    none (short r) i = tt
    none (wrong r) i = absurd i

    go : (us : List SpannedTok) → q.tokens ≡ us → (q.tokens ≢ [] → u ≡ got x (with_more ts q)) → Goes ts (f x q) (read_then u f)
    go [] i j = none (f x q) (h x q i)
    go (v ∷ us) i j = let l : u ≡ got x (with_more ts q) = j (λ m. cc) in rw l (k x q)
goes_then ts f k h (short q) u e = tt
goes_then ts f k h (wrong q) u e = rw e refl

module _ {A B : Type 0} (ts : List SpannedTok) (held : SpannedTok → Option B) (r : A → B → Place → Read (Turn A))
    (k : (x : A) (h : B) (p : Place) → Goes ts (r x h p) (r x h (with_more ts p)))
    (shorter : (x : A) (h : B) (p q : Place) (y : Turn A) → r x h p ≡ got y q → left q ≤ left p) where
  many_goes : (n m : ℕ) (x : A) (p : Place) → left p + length ts < m → Goes ts (read_many held r n x p) (read_many held r m x (with_more ts p))
  many_goes zero m x p l = tt
  many_goes (suc n) zero x p l = absurd (omega arith)
  many_goes (suc n) (suc m) x p l = go p.tokens refl (many_goes n m)
    where
      Later : Type 0
      Later = (y : A) (q : Place) → left q + length ts < m → Goes ts (read_many held r n y q) (read_many held r m y (with_more ts q))

      turned : (q : Place) (o u : Read (Turn A)) → left q < left p → ((y : Turn A) (s : Place) → o ≡ got y s → left s ≤ left q) → Goes ts o u → Later →
          Goes ts (read_turn o (read_many held r n)) (read_turn u (read_many held r m))
      turned q (got (go_on z) s) u i j g more = at_tokens s.tokens refl g
        where
          at_tokens : (us : List SpannedTok) → s.tokens ≡ us → (s.tokens ≢ [] → u ≡ got (go_on z) (with_more ts s)) →
              Goes ts (read_many held r n z s) (read_turn u (read_many held r m))
          at_tokens [] a b = none (read_many held r n z s) (many_ends held r n z s a)
            where
              none : (o : Read A) → Ends o → Goes ts o (read_turn u (read_many held r m))
              none (got y t) c = λ d. absurd (d c)
              none (short t) c = tt
              none (wrong t) c = absurd c
          at_tokens (v ∷ us) a b = let c : u ≡ got (go_on z) (with_more ts s) = b (λ d. cc) in rw c (more z s (omega (arith, l, i, j (go_on z) s refl)))
      turned q (got (over z) s) u i j g more = λ n. rw (g n) refl
      turned q (short s) u i j g more = tt
      turned q (wrong s) u i j g more = rw g refl

      at_token : (v : SpannedTok) (us : List SpannedTok) → p.tokens ≡ v ∷ us → (o : Option B) → Later →
          Goes ts (if_held o (λ h. read_turn (r x h (after p v us)) (read_many held r n)) (got x p))
          (if_held o (λ h. read_turn (r x h (after p v (us ++ ts))) (read_many held r m)) (got x (with_more ts p)))
      at_token v us i None more = λ n. refl
      at_token v us i (Some h) more = turned (after p v us) (r x h (after p v us)) (r x h (after p v (us ++ ts))) (omega (arith, ap length i)) (λ y s. shorter x h (after p v us) s y) (k x h (after p v us)) more

      go : (us : List SpannedTok) → p.tokens ≡ us → Later →
          Goes ts (read_any held (λ h q. read_turn (r x h q) (read_many held r n)) x p us) (read_any held (λ h q. read_turn (r x h q) (read_many held r m)) x (with_more ts p) (us ++ ts))
      go [] i more = λ n. absurd (n i)
      go (v ∷ us) i more = at_token v us i (held v) more

same_start : (p : Place) (ts : List SpannedTok) → p.tokens ≢ [] → start_at (with_more ts p) ≡ start_at p
same_start p ts n = go p.tokens refl
  where
    go : (us : List SpannedTok) → p.tokens ≡ us → start_at (with_more ts p) ≡ start_at p
    go [] i = absurd (n i)
    go (u ∷ us) i = rw i refl

pub goes : {A : Type 0} (ts : List SpannedTok) (f : Form A) (p : Place) → Goes ts (reads f p) (reads f (with_more ts p))
unfolding reads
goes ts (pure x) p = λ n. refl
goes {A = A} ts nothing p = misfits p.tokens
  where
    misfits : (us : List SpannedTok) → Goes ts (misfit {A = A} p us) (misfit (with_more ts p) (us ++ ts))
    misfits [] = tt
    misfits (u ∷ us) = refl
goes {A = A} ts (one held) p = ones p.tokens
  where
    at_token : (u : SpannedTok) (us : List SpannedTok) (o : Option A) → Goes ts (held_or_wrong o (after p u us)) (held_or_wrong o (after (with_more ts p) u (us ++ ts)))
    at_token u us None = refl
    at_token u us (Some x) = λ n. refl

    ones : (us : List SpannedTok) → Goes ts (read_one held p us) (read_one held (with_more ts p) (us ++ ts))
    ones [] = tt
    ones (u ∷ us) = at_token u us (held u)
goes ts source p = λ n. refl
goes ts start p = λ n. ap (λ s. got s (with_more ts p)) (same_start p ts n)
goes ts last p = λ n. refl
goes ts (new_name x) p = go (is_given x p) p.tokens
  where
    go : (b : Bool) (us : List SpannedTok) → Goes ts (if b then misfit p us else got (tt {0}) (giving x p)) (if b then misfit (with_more ts p) (us ++ ts) else got (tt {0}) (giving x (with_more ts p)))
    go true [] = tt
    go true (u ∷ us) = refl
    go false us = λ n. refl
goes ts (and_then f g) p = goes_then ts (λ x. reads (g x)) (λ x. goes ts (g x)) (λ x. at_end (g x)) (reads f p) (reads f (with_more ts p)) (goes ts f p)
goes {A = A} ts (either begins f g) p = go p.tokens refl (goes ts f p) (goes ts g p)
  where
    chosen : (b : Bool) → Goes ts (reads f p) (reads f (with_more ts p)) → Goes ts (reads g p) (reads g (with_more ts p)) →
        Goes ts (if b then reads f p else reads g p) (if b then reads f (with_more ts p) else reads g (with_more ts p))
    chosen true h k = h
    chosen false h k = k

    none : (o : Read A) → Ends o → (u : Read A) → Goes ts o u
    none (got y r) i u = λ n. absurd (n i)
    none (short r) i u = tt
    none (wrong r) i u = absurd i

    go : (us : List SpannedTok) → p.tokens ≡ us → Goes ts (reads f p) (reads f (with_more ts p)) → Goes ts (reads g p) (reads g (with_more ts p)) →
        Goes ts (reads (either begins f g) p) (reads (either begins f g) (with_more ts p))
    go [] i h k = none (reads (either begins f g) p) (at_end (either begins f g) p i) (reads (either begins f g) (with_more ts p))
    go (u ∷ us) i h k =
        let l : comes begins p.tokens ≡ begins u.0 = ap (comes begins) i in
        let m : comes begins (p.tokens ++ ts) ≡ begins u.0 = ap (λ vs. comes begins (vs ++ ts)) i in
        rw (l, m) (chosen (begins u.0) h k)
goes ts (many held t x) p = many_goes ts held (λ y h. reads (t y h)) (λ y h. goes ts (t y h)) (λ y h q s z e. no_longer (t y h) q s z (sound (t y h) q s z e)) (suc (left p)) (suc (left (with_more ts p))) x p (omega (arith, length-append p.tokens ts))
