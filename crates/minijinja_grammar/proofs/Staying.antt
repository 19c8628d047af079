-- Reading stays in one text, and takes the tokens that are left of it.
use Rattle.minijinja_grammar.proofs.Forms.{left, sound, no_longer}
use Rattle.std.proofs.Common.{◌≡◌, ◌<◌, ◌≤◌, arith, List, [], ◌∷◌, ℕ, zero, suc, Bool, true, false, if◌then◌else◌, Option, Some, None, Contains, refl, sym, ap, subst, ◌∙◌, length}
use Rattle.minijinja_syntax.specs.Streams.{SpannedTok}
use Rattle.minijinja_syntax.specs.declared.tokens.Span.{Span}
use Rattle.minijinja_grammar.specs.Places.{Place}
use Rattle.minijinja_grammar.specs.internal.Forms.{Turn, go_on, over, Form, pure, nothing, one, source, start, last, new_name, is_given, giving, and_then, either, many, after, Read, got, short, wrong, read_then, misfit, read_one, held_or_wrong, read_turn, if_held, read_any, read_many, reads}
use Rattle.minijinja_grammar.specs.Ahead.{comes}

-- the span is that of the token taken before the place, or of one that is left there
pub data IsTakenFrom (p : Place) (s : Span) : Type 0 where
  taken_before : s ≡ p.last → IsTakenFrom p s
  taken_since : {t : SpannedTok} → Contains p.tokens t → s ≡ t.1 → IsTakenFrom p s

-- the text is the same, and how its tokens end; what is left was left before, and what was taken
-- since then was left too
pub record IsOfSame (p q : Place) : Type 0 where
  pub source : q.source ≡ p.source
  pub ending : q.ending ≡ p.ending
  pub within : (t : SpannedTok) → Contains q.tokens t → Contains p.tokens t
  pub last : IsTakenFrom p q.last

same : (p : Place) → IsOfSame p p
same p = record { source = refl; ending = refl; within = λ t h. h; last = taken_before refl }

onwards : (p q r : Place) → IsOfSame p q → IsOfSame q r → IsOfSame p r
onwards p q r h k = record {
  source = k.source ∙ h.source;
  ending = k.ending ∙ h.ending;
  within = λ t i. h.within t (k.within t i);
  last = go r.last k.last;
}
  where
    go : (s : Span) → IsTakenFrom q s → IsTakenFrom p s
    go s (taken_before e) = subst (IsTakenFrom p) (sym e) h.last
    go s (taken_since {t = t} i e) = taken_since (h.within t i) e

-- reading ends in the same text, and where a token is wanted none is left
abbrev pub Stays : {A : Type 0} → Place → Read A → Type 0
Stays p (got x q) = IsOfSame p q
Stays p (short q) = IsOfSame p q × (q.tokens ≡ [])
Stays p (wrong q) = IsOfSame p q

further : {A : Type 0} (p q : Place) → IsOfSame p q → (o : Read A) → Stays q o → Stays p o
further p q h (got x r) k = onwards p q r h k
further p q h (short r) k = (onwards p q r h k.0, k.1)
further p q h (wrong r) k = onwards p q r h k

then_stays : {A B : Type 0} (p : Place) (o : Read A) (f : A → Place → Read B) → Stays p o → ((x : A) (q : Place) → Stays q (f x q)) → Stays p (read_then o f)
then_stays p (got x q) f h k = further p q h (f x q) (k x q)
then_stays p (short q) f h k = h
then_stays p (wrong q) f h k = h

after_same : (p : Place) (t : SpannedTok) (ts : List SpannedTok) → p.tokens ≡ t ∷ ts → IsOfSame p (after p t ts)
after_same p t ts e = record {
  source = refl;
  ending = refl;
  within = λ u h. subst (λ us. Contains us u) (sym e) (suc h.0, omega (arith, h.1), h.2);
  last = taken_since (subst (λ us. Contains us t) (sym e) (0, omega arith, refl)) refl;
}

module _ {A B : Type 0} (held : SpannedTok → Option B) (r : A → B → Place → Read (Turn A)) (k : (x : A) (h : B) (p : Place) → Stays p (r x h p))
    (shorter : (x : A) (h : B) (p q : Place) (y : Turn A) → r x h p ≡ got y q → left q ≤ left p) where
  many_stays : (n : ℕ) (x : A) (p : Place) → left p < n → Stays p (read_many held r n x p)
  many_stays zero x p l = absurd (omega arith)
  many_stays (suc n) x p l = go p.tokens refl (many_stays n)
    where
      Later : Type 0
      Later = (y : A) (q : Place) → left q < n → Stays q (read_many held r n y q)

      turned : (q : Place) → left q < left p → IsOfSame p q → (o : Read (Turn A)) → ((y : Turn A) (s : Place) → o ≡ got y s → left s ≤ left q) → Stays q o → Later → Stays p (read_turn o (read_many held r n))
      turned q i h (got (go_on z) s) j m more = further p s (onwards p q s h m) (read_many held r n z s) (more z s (omega (arith, l, i, j (go_on z) s refl)))
      turned q i h (got (over z) s) j m more = onwards p q s h m
      turned q i h (short s) j m more = (onwards p q s h m.0, m.1)
      turned q i h (wrong s) j m more = onwards p q s h m

      at_token : (v : SpannedTok) (us : List SpannedTok) → p.tokens ≡ v ∷ us → (o : Option B) → Later →
          Stays p (if_held o (λ h. read_turn (r x h (after p v us)) (read_many held r n)) (got x p))
      at_token v us i None more = same p
      at_token v us i (Some h) more = turned (after p v us) (omega (arith, ap length i)) (after_same p v us i) (r x h (after p v us)) (λ y s. shorter x h (after p v us) s y) (k x h (after p v us)) more

      go : (us : List SpannedTok) → p.tokens ≡ us → Later → Stays p (read_any held (λ h q. read_turn (r x h q) (read_many held r n)) x p us)
      go [] i more = same p
      go (v ∷ us) i more = at_token v us i (held v) more

pub stays : {A : Type 0} (f : Form A) (p : Place) → Stays p (reads f p)
unfolding reads
stays (pure x) p = same p
stays {A = A} nothing p = go p.tokens refl
  where
    go : (ts : List SpannedTok) → p.tokens ≡ ts → Stays p (misfit {A = A} p ts)
    go [] e = (same p, e)
    go (t ∷ ts) e = same p
stays {A = A} (one held) p = go p.tokens refl
  where
    at_token : (t : SpannedTok) (ts : List SpannedTok) → p.tokens ≡ t ∷ ts → (o : Option A) → Stays p (held_or_wrong o (after p t ts))
    at_token t ts e None = after_same p t ts e
    at_token t ts e (Some x) = after_same p t ts e

    go : (ts : List SpannedTok) → p.tokens ≡ ts → Stays p (read_one held p ts)
    go [] e = (same p, e)
    go (t ∷ ts) e = at_token t ts e (held t)
stays source p = same p
stays start p = same p
stays last p = same p
stays (new_name x) p = go (is_given x p) p.tokens refl
  where
    go : (b : Bool) (ts : List SpannedTok) → p.tokens ≡ ts → Stays p (if b then misfit p ts else got (tt {0}) (giving x p))
    go true [] e = (same p, e)
    go true (t ∷ ts) e = same p
    go false ts e = record { source = refl; ending = refl; within = λ t h. h; last = taken_before refl }
stays (and_then f g) p = then_stays p (reads f p) (λ x. reads (g x)) (stays f p) (λ x. stays (g x))
stays {A = A} (either begins f g) p = go (comes begins p.tokens) (reads f p) (reads g p) (stays f p) (stays g p)
  where
    go : (b : Bool) (o u : Read A) → Stays p o → Stays p u → Stays p (if b then o else u)
    go true o u h k = h
    go false o u h k = k
stays (many held t x) p = many_stays held (λ y h. reads (t y h)) (λ y h. stays (t y h)) (λ y h q s z e. no_longer (t y h) q s z (sound (t y h) q s z e)) (suc (left p)) x p (omega arith)
