-- Forms that ask whether a token comes, by what taking it gives.
use Rattle.std.proofs.Common.{◌≡◌, ◌<◌, ◌≤◌, length, arith, Bool, true, false, List, [], ◌∷◌, if◌then◌else◌, Some, None, refl, ap, ◌∙◌}
use Rattle.minijinja_syntax.specs.Tokens.{Tok, comma}
use Rattle.minijinja_syntax.specs.declared.tokens.Span.{Span}
use Rattle.minijinja_grammar.specs.Words.{is}
use Rattle.minijinja_syntax.specs.Streams.{SpannedTok}
use Rattle.minijinja_grammar.specs.Places.{Place}
use Rattle.minijinja_grammar.specs.internal.Forms.{Turn, go_on, over, Form, pure, one, either, many, Read, got, short, wrong, read_then, after, held_or_wrong, read_one, read_turn, if_held, read_any, reads, ◌>>=◌}
use Rattle.minijinja_grammar.specs.Ahead.{comes}
use Rattle.minijinja_grammar.specs.internal.ExprForms.{next, items, behind, span_of_mark}
use Rattle.minijinja_parser_tokens.specs.internal.Reads.{eaten, skipped}
use Rattle.minijinja_grammar.proofs.Unrolled.{many_is}
use Rattle.minijinja_parser_tokens.proofs.Taking.{eaten_is}
use Rattle.minijinja_grammar.proofs.Forms.{left, sound, no_longer, takes_shorter, same_read}

pub under : {A B : Type 0} (o : Read A) (f g : A → Place → Read B) → ((x : A) (q : Place) → f x q ≡ g x q) → read_then o f ≡ read_then o g
under (got x q) f g e = e x q
under (short q) f g e = refl
under (wrong q) f g e = refl

pub behind_is : {A : Type 0} (m : Tok) (f g : Form A) (p : Place) → reads (behind m f g) p ≡ read_then (eaten m p) (λ b q. if b then reads f q else reads g q)
unfolding reads
behind_is {A = A} m f g p = go (comes (is m) p.tokens) (read_one (span_of_mark m) p p.tokens)
  where
    go : (b : Bool) (o : Read Span) →
        (if b then read_then o (λ s. reads f) else reads g p) ≡ read_then (if b then read_then o (λ s q. got true q) else got false p) (λ c q. if c then reads f q else reads g q)
    go true (got s q) = refl
    go true (short q) = refl
    go true (wrong q) = refl
    go false o = refl

-- by whether the token comes
pub behind_comes : {A : Type 0} (m : Tok) (f g : Form A) (p : Place) → reads (behind m f g) p ≡ (if comes (is m) p.tokens then read_then (skipped p) (λ s q. reads f q) else reads g p)
behind_comes {A = A} m f g p = behind_is m f g p ∙ rw (eaten_is m p) (go (comes (is m) p.tokens) (skipped p))
  where
    go : (b : Bool) (o : Read Span) →
        read_then (if b then read_then o (λ s q. got true q) else got false p) (λ c q. if c then reads f q else reads g q) ≡ (if b then read_then o (λ s q. reads f q) else reads g p)
    go true (got s q) = refl
    go true (short q) = refl
    go true (wrong q) = refl
    go false o = refl

module _ {A : Type 0} (begins : Tok → Bool) (part : A → Form A) where
  abbrev turn : A → Span → Form (Turn A)
  turn y s = either begins (part y >>= (λ z. pure (go_on z))) (pure (over y))

  abbrev others : A → Place → Read A
  others y = reads (many (span_of_mark comma) turn y)

  turn_is : (y : A) (q : Place) → read_turn (reads (turn y (after q (comma, q.last) []).last) q) others ≡ reads (items begins part y) q
  unfolding reads
  turn_is y q = go (comes begins q.tokens) (reads (part y) q)
    where
      go : (b : Bool) (o : Read A) →
          read_turn (if b then read_then o (λ z u. got (go_on z) u) else got (over y) q) others ≡ (if b then read_then o others else got y q)
      go true (got z u) = refl
      go true (short u) = refl
      go true (wrong u) = refl
      go false o = refl

  others_is : (y : A) (q : Place) → others y q ≡ read_then (eaten comma q) (λ b s. if b then reads (items begins part y) s else got y s)
  unfolding reads
  others_is y q = many_is (span_of_mark comma) turn y q ∙ go q.tokens refl
    where
      at_token : (t : SpannedTok) (ts : List SpannedTok) (b : Bool) →
          if_held (if b then Some t.1 else None) (λ h. read_turn (reads (turn y h) (after q t ts)) others) (got y q) ≡
          read_then (if b then read_then (held_or_wrong (if b then Some t.1 else None) (after q t ts)) (λ s u. got true u) else got false q) (λ c s. if c then reads (items begins part y) s else got y s)
      at_token t ts true = turn_is y (after q t ts)
      at_token t ts false = refl

      go : (ts : List SpannedTok) → q.tokens ≡ ts →
          read_any (span_of_mark comma) (λ h s. read_turn (reads (turn y h) s) others) y q ts ≡
          read_then (if comes (is comma) ts then read_then (read_one (span_of_mark comma) q ts) (λ s u. got true u) else got false q) (λ c s. if c then reads (items begins part y) s else got y s)
      go [] e = refl
      go (t ∷ ts) e = at_token t ts (is comma t.0)

  -- an item, and then the others where a comma comes
  pub items_more : (x : A) (p : Place) → comes begins p.tokens ≡ true → reads (items begins part x) p ≡
      read_then (reads (part x) p) (λ y q. read_then (eaten comma q) (λ b s. if b then reads (items begins part y) s else got y s))
  unfolding reads
  items_more x p e = rw e (under (reads (part x) p) others (λ y q. read_then (eaten comma q) (λ b s. if b then reads (items begins part y) s else got y s)) others_is)

  pub items_done : (x : A) (p : Place) → comes begins p.tokens ≡ false → reads (items begins part x) p ≡ got x p
  unfolding reads
  items_done x p e = rw e refl

-- ---- how many tokens are left

pub read_no_longer : {A : Type 0} (f : Form A) (p q : Place) (x : A) → reads f p ≡ got x q → length q.tokens ≤ length p.tokens
read_no_longer f p q x e = no_longer f p q x (sound f p q x e)

pub take_shorter : (p q : Place) (t : SpannedTok) → reads (one Some) p ≡ got t q → length q.tokens < length p.tokens
take_shorter p q t e = takes_shorter Some p q t (sound (one Some) p q t e)

pub skip_shorter : (p q : Place) (s : Span) → skipped p ≡ got s q → length q.tokens < length p.tokens
skip_shorter p q s e = takes_shorter (λ t. Some t.1) p q s (sound (one (λ t. Some t.1)) p q s e)

pub next_shorter : (m : Tok) (p q : Place) (s : Span) → reads (next m) p ≡ got s q → length q.tokens < length p.tokens
next_shorter m p q s e = takes_shorter (span_of_mark m) p q s (sound (next m) p q s e)

pub eaten_shorter : (m : Tok) (p q : Place) → eaten m p ≡ got true q → length q.tokens < length p.tokens
eaten_shorter m p q e = go (comes (is m) p.tokens) (reads (next m) p) refl e
  where
    go : (b : Bool) (o : Read Span) → reads (next m) p ≡ o → (if b then read_then o (λ s r. got true r) else got false p) ≡ got true q → length q.tokens < length p.tokens
    go true (got s r) i k = let j : (r ≡ q) × (true ≡ true) = same_read _ _ _ _ k in omega (arith, next_shorter m p r s i, ap left j.0)
    go true (short r) i k = cc
    go true (wrong r) i k = cc
    go false o i k = let j : (p ≡ q) × (false ≡ true) = same_read _ _ _ _ k in cc

-- whether a token comes, which is taken
pub flag_is : (m : Tok) (p : Place) → reads (behind m (pure true) (pure false)) p ≡ eaten m p
unfolding reads
flag_is m p = behind_is m (pure true) (pure false) p ∙ go (eaten m p)
  where
    chosen : (b : Bool) (q : Place) → (if b then got true q else got false q) ≡ got b q
    chosen true q = refl
    chosen false q = refl

    go : (o : Read Bool) → read_then o (λ b q. if b then got true q else got false q) ≡ o
    go (got b q) = chosen b q
    go (short q) = refl
    go (wrong q) = refl
