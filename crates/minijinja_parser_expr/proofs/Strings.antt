-- Neighbouring strings, one at a time.
use Rattle.std.proofs.Common.{◌≡◌, true, false, List, [], ◌∷◌, ◌++◌, Option, Some, None, refl, ap, ◌∙◌}
use Rattle.std.specs.Prelude.{is_some}
use Rattle.minijinja_syntax.specs.Texts.{Text}
use Rattle.minijinja_syntax.specs.Streams.{SpannedTok}
use Rattle.minijinja_syntax.specs.declared.tokens.Span.{Span}
use Rattle.minijinja_value.specs.Values.{Functions}
use Rattle.minijinja_tree.specs.SpannedTrees.{Expr, constant}
use Rattle.minijinja_grammar.specs.Words.{text_of}
use Rattle.minijinja_grammar.specs.Places.{Place}
use Rattle.minijinja_grammar.specs.internal.Forms.{Turn, go_on, Form, pure, one, many, Read, got, read_then, after, read_one, read_turn, if_held, read_any, reads}
use Rattle.minijinja_grammar.specs.Ahead.{comes, held}
use Rattle.minijinja_grammar.specs.internal.ExprForms.{expanded, texts}
use Rattle.minijinja_grammar.proofs.Unrolled.{many_is}
use Rattle.minijinja_parser_expr.specs.private.Texts.{added}

module _ {C F : Type 0} (f : Functions C F) (from : Span) where
  abbrev turn : Text → Text → Form (Turn Text)
  turn t u = pure (go_on (t ++ u))

  abbrev joined : Text → Place → Read (Expr C)
  joined t q = got (constant (f.of_str t) (expanded from q.last)) q

  pub texts_done : (t : Text) (p : Place) → comes (λ u. is_some (text_of u)) p.tokens ≡ false → reads (texts f from t) p ≡ got (constant (f.of_str t) (expanded from p.last)) p
  unfolding reads texts
  texts_done t p e = ap (λ o. read_then o joined) (many_is (held text_of) turn t p) ∙ go p.tokens e
    where
      none : (u : SpannedTok) (us : List SpannedTok) (o : Option Text) → is_some o ≡ false →
          read_then (if_held o (λ h. read_turn (reads (turn t h) (after p u us)) (λ y s. reads (many (held text_of) turn y) s)) (got t p)) joined ≡ joined t p
      none u us None k = refl
      none u us (Some x) k = cc

      go : (us : List SpannedTok) → comes (λ u. is_some (text_of u)) us ≡ false →
          read_then (read_any (held text_of) (λ h q. read_turn (reads (turn t h) q) (λ y s. reads (many (held text_of) turn y) s)) t p us) joined ≡ joined t p
      go [] k = refl
      go (u ∷ us) k = none u us (text_of u.0) k

  pub texts_more : (t : Text) (p : Place) → comes (λ u. is_some (text_of u)) p.tokens ≡ true →
      reads (texts f from t) p ≡ read_then (reads (one Some) p) (λ u q. reads (texts f from (added t (text_of u.0))) q)
  unfolding reads texts
  texts_more t p e = ap (λ o. read_then o joined) (many_is (held text_of) turn t p) ∙ go p.tokens e
    where
      some : (u : SpannedTok) (us : List SpannedTok) (o : Option Text) → is_some o ≡ true →
          read_then (if_held o (λ h. read_turn (reads (turn t h) (after p u us)) (λ y s. reads (many (held text_of) turn y) s)) (got t p)) joined ≡
          reads (texts f from (added t o)) (after p u us)
      some u us None k = cc
      some u us (Some x) k = refl

      go : (us : List SpannedTok) → comes (λ u. is_some (text_of u)) us ≡ true →
          read_then (read_any (held text_of) (λ h q. read_turn (reads (turn t h) q) (λ y s. reads (many (held text_of) turn y) s)) t p us) joined ≡
          read_then (read_one Some p us) (λ u q. reads (texts f from (added t (text_of u.0))) q)
      go [] k = cc
      go (u ∷ us) k = some u us (text_of u.0) k
