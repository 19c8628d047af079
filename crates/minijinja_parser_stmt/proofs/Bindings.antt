-- The bindings of a `with`, one at a time.
use Rattle.std.proofs.Common.{◌≡◌, Bool, true, false, if◌then◌else◌, List, [], ◌∷◌, ◌++◌, Some, None, refl, ◌∙◌}
use Rattle.minijinja_syntax.specs.Tokens.{block_end, comma}
use Rattle.minijinja_syntax.specs.Streams.{SpannedTok}
use Rattle.minijinja_syntax.specs.declared.tokens.Span.{Span}
use Rattle.minijinja_tree.specs.SpannedTrees.{Expr}
use Rattle.minijinja_grammar.specs.Words.{is}
use Rattle.minijinja_grammar.specs.internal.Forms.{Form, Read, Turn, go_on, got, short, wrong, many, pure, read_then, read_turn, read_any, read_one, held_or_wrong, if_held, after, reads, ◌>>=◌}
use Rattle.minijinja_grammar.specs.Places.{Place}
use Rattle.minijinja_grammar.specs.Ahead.{comes}
use Rattle.minijinja_grammar.specs.internal.ExprForms.{span_of_mark}
use Rattle.minijinja_grammar.specs.internal.StmtForms.{binding, bindings}
use Rattle.minijinja_grammar.proofs.Unrolled.{many_is}
use Rattle.minijinja_parser_tokens.specs.internal.Reads.{eaten}

module _ {C : Type 0} (bound expr : Form (Expr C)) where
  abbrev turn : List (Expr C × Expr C) → Span → Form (Turn (List (Expr C × Expr C)))
  turn bs s = binding bound expr >>= (λ c. pure (go_on (bs ++ c ∷ [])))

  -- the bindings after these
  abbrev pub more_bindings : List (Expr C × Expr C) → Place → Read (List (Expr C × Expr C))
  more_bindings bs p = reads (many (span_of_mark comma) turn bs) p

  pub bindings_none : (p : Place) → comes (is block_end) p.tokens ≡ true → reads (bindings bound expr) p ≡ got [] p
  unfolding reads bindings
  bindings_none p e = rw e refl

  pub bindings_some : (p : Place) → comes (is block_end) p.tokens ≡ false → reads (bindings bound expr) p ≡ read_then (reads (binding bound expr) p) (λ b q. more_bindings (b ∷ []) q)
  unfolding reads bindings
  bindings_some p e = rw e refl

  pub others_is : (bs : List (Expr C × Expr C)) (p : Place) → more_bindings bs p ≡
      read_then (eaten comma p) (λ b q. if b then read_then (reads (binding bound expr) q) (λ c r. more_bindings (bs ++ c ∷ []) r) else got bs q)
  unfolding reads
  others_is bs p = many_is (span_of_mark comma) turn bs p ∙ go p.tokens refl
    where
      turned : (o : Read (Expr C × Expr C)) → read_turn (read_then o (λ c q. got (go_on (bs ++ c ∷ [])) q)) more_bindings ≡ read_then o (λ c r. more_bindings (bs ++ c ∷ []) r)
      turned (got c q) = refl
      turned (short q) = refl
      turned (wrong q) = refl

      at_token : (t : SpannedTok) (ts : List SpannedTok) (b : Bool) →
          if_held (if b then Some t.1 else None) (λ h. read_turn (reads (turn bs h) (after p t ts)) more_bindings) (got bs p) ≡
          read_then (if b then read_then (held_or_wrong (if b then Some t.1 else None) (after p t ts)) (λ s u. got true u) else got false p)
          (λ b q. if b then read_then (reads (binding bound expr) q) (λ c r. more_bindings (bs ++ c ∷ []) r) else got bs q)
      at_token t ts true = turned (reads (binding bound expr) (after p t ts))
      at_token t ts false = refl

      go : (ts : List SpannedTok) → p.tokens ≡ ts →
          read_any (span_of_mark comma) (λ h s. read_turn (reads (turn bs h) s) more_bindings) bs p ts ≡
          read_then (if comes (is comma) ts then read_then (read_one (span_of_mark comma) p ts) (λ s u. got true u) else got false p)
          (λ b q. if b then read_then (reads (binding bound expr) q) (λ c r. more_bindings (bs ++ c ∷ []) r) else got bs q)
      go [] k = refl
      go (t ∷ ts) k = at_token t ts (is comma t.0)
