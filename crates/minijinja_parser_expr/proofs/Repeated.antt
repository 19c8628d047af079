-- Repetitions that go on while a kind of token comes.
use Rattle.std.proofs.Common.{◌≡◌, Bool, true, false, List, [], ◌∷◌, if◌then◌else◌, Option, Some, None, refl, ◌∙◌}
use Rattle.minijinja_syntax.specs.Tokens.{Tok}
use Rattle.minijinja_syntax.specs.Streams.{SpannedTok}
use Rattle.minijinja_grammar.specs.Places.{Place}
use Rattle.minijinja_grammar.specs.internal.Forms.{Turn, Form, one, many, Read, got, read_then, read_one, read_turn, read_any, reads}
use Rattle.minijinja_grammar.specs.Ahead.{comes}
use Rattle.minijinja_grammar.proofs.Unrolled.{many_is}

module _ {A B : Type 0} (kind : Tok → Bool) (pick : SpannedTok → B) (turn : A → B → Form (Turn A)) where
  abbrev pub picked : SpannedTok → Option B
  picked t = if kind t.0 then Some (pick t) else None

  abbrev others : A → Place → Read A
  others x = reads (many picked turn x)

  pub many_done : (x : A) (p : Place) → comes kind p.tokens ≡ false → reads (many picked turn x) p ≡ got x p
  many_done x p e = many_is picked turn x p ∙ go p.tokens e
    where
      go : (ts : List SpannedTok) → comes kind ts ≡ false → read_any picked (λ h q. read_turn (reads (turn x h) q) others) x p ts ≡ got x p
      go [] k = refl
      go (t ∷ ts) k = rw k refl

  pub many_more : (x : A) (p : Place) → comes kind p.tokens ≡ true →
      reads (many picked turn x) p ≡ read_then (reads (one picked) p) (λ h q. read_turn (reads (turn x h) q) (λ y s. reads (many picked turn y) s))
  unfolding reads
  many_more x p e = many_is picked turn x p ∙ go p.tokens e
    where
      go : (ts : List SpannedTok) → comes kind ts ≡ true →
          read_any picked (λ h q. read_turn (reads (turn x h) q) others) x p ts ≡ read_then (read_one picked p ts) (λ h q. read_turn (reads (turn x h) q) others)
      go [] k = cc
      go (t ∷ ts) k = rw k refl
