-- Chains of filters, a filter at a time.
use Rattle.std.proofs.Common.{◌≡◌, Bool, true, false, if◌then◌else◌, List, [], ◌∷◌, Some, None, refl, ◌∙◌}
use Rattle.minijinja_syntax.specs.Tokens.{pipe}
use Rattle.minijinja_syntax.specs.Streams.{SpannedTok}
use Rattle.minijinja_syntax.specs.declared.tokens.Span.{Span}
use Rattle.minijinja_tree.specs.SpannedTrees.{Expr}
use Rattle.minijinja_grammar.specs.Words.{is}
use Rattle.minijinja_grammar.specs.internal.Forms.{Form, Read, Turn, go_on, got, short, wrong, many, pure, read_then, read_turn, read_any, read_one, held_or_wrong, if_held, after, reads, ◌>>=◌}
use Rattle.minijinja_grammar.specs.Places.{Place}
use Rattle.minijinja_grammar.specs.Ahead.{comes}
use Rattle.minijinja_grammar.specs.internal.ExprForms.{span_of_mark}
use Rattle.minijinja_grammar.specs.internal.StmtForms.{chain, chained}
use Rattle.minijinja_grammar.proofs.Unrolled.{many_is}
use Rattle.minijinja_parser_tokens.specs.internal.Reads.{eaten}

module _ {C : Type 0} (expr : Form (Expr C)) where
  abbrev turn : Expr C → Span → Form (Turn (Expr C))
  turn e s = chained expr (Some e) >>= (λ x. pure (go_on x))

  -- the filters after a chain so far
  abbrev pub links : Expr C → Place → Read (Expr C)
  links e p = reads (many (span_of_mark pipe) turn e) p

  pub chain_is : (p : Place) → reads (chain expr) p ≡ read_then (reads (chained expr None) p) links
  unfolding reads chain
  chain_is p = refl

  pub links_is : (e : Expr C) (p : Place) → links e p ≡ read_then (eaten pipe p) (λ b q. if b then read_then (reads (chained expr (Some e)) q) links else got e q)
  unfolding reads
  links_is e p = many_is (span_of_mark pipe) turn e p ∙ go p.tokens refl
    where
      turned : (o : Read (Expr C)) → read_turn (read_then o (λ x q. got (go_on x) q)) links ≡ read_then o links
      turned (got x q) = refl
      turned (short q) = refl
      turned (wrong q) = refl

      at_token : (t : SpannedTok) (ts : List SpannedTok) (b : Bool) →
          if_held (if b then Some t.1 else None) (λ h. read_turn (reads (turn e h) (after p t ts)) links) (got e p) ≡
          read_then (if b then read_then (held_or_wrong (if b then Some t.1 else None) (after p t ts)) (λ s u. got true u) else got false p)
          (λ c q. if c then read_then (reads (chained expr (Some e)) q) links else got e q)
      at_token t ts true = turned (reads (chained expr (Some e)) (after p t ts))
      at_token t ts false = refl

      go : (ts : List SpannedTok) → p.tokens ≡ ts →
          read_any (span_of_mark pipe) (λ h s. read_turn (reads (turn e h) s) links) e p ts ≡
          read_then (if comes (is pipe) ts then read_then (read_one (span_of_mark pipe) p ts) (λ s u. got true u) else got false p)
          (λ c q. if c then read_then (reads (chained expr (Some e)) q) links else got e q)
      go [] k = refl
      go (t ∷ ts) k = at_token t ts (is pipe t.0)
