-- Bodies of whitespace, a part at a time.
use Rattle.std.proofs.Common.{◌≡◌, Bool, true, false, List, [], ◌∷◌, ◌++◌, if◌then◌else◌, Option, Some, None, refl, ◌∙◌, ap}
use Rattle.minijinja_syntax.specs.Tokens.{template_data, block_start}
use Rattle.minijinja_syntax.specs.Streams.{SpannedTok}
use Rattle.minijinja_tree.specs.SpannedTrees.{Stmt, data_text}
use Rattle.minijinja_grammar.specs.Places.{Place}
use Rattle.minijinja_grammar.specs.internal.Forms.{Turn, go_on, one, pure, Read, got, short, wrong, misfit, read_then, after, read_one, read_turn, read_any, reads}
use Rattle.minijinja_grammar.specs.Ahead.{comes}
use Rattle.minijinja_grammar.specs.internal.ExprForms.{when}
use Rattle.minijinja_grammar.specs.internal.StmtForms.{any_token, blank_body, blank_part}
use Rattle.minijinja_grammar.specs.Statements.{is_blank}
use Rattle.minijinja_parser_tokens.specs.internal.Marks.{is_any}
use Rattle.minijinja_grammar.proofs.Unrolled.{many_is}
use Rattle.minijinja_parser_stmt.specs.private.Blanks.{blank_further, blank_piece, rest_of_blank}
use Rattle.minijinja_parser_stmt.specs.private.Bodies.{with_part}

module _ {C : Type 0} where
  pub blank_is : (p : Place) → reads (blank_body {C = C}) p ≡ reads (rest_of_blank []) p
  unfolding reads blank_body
  blank_is p = refl

  -- where nothing fits, nothing does after it
  none : (ss : List (Stmt C)) (p : Place) (ts : List SpannedTok) → misfit {A = Turn (List (Stmt C))} p ts ≡ read_then (misfit {A = Option (Stmt C)} p ts) (λ o q. got (with_part ss o) q)
  none ss p [] = refl
  none ss p (u ∷ us) = refl

  -- a part is one that is there, or the end
  turn_is : (ss : List (Stmt C)) (t : SpannedTok) (p : Place) → reads (blank_part ss t) p ≡ read_then (blank_piece t p) (λ o q. got (with_part ss o) q)
  unfolding reads
  turn_is ss (template_data x, s) p = go (is_blank x)
    where
      go : (b : Bool) → reads (when b (pure (go_on (ss ++ data_text x s ∷ [])))) p ≡ read_then (if b then got (Some (data_text x s)) p else misfit p p.tokens) (λ o q. got (with_part ss o) q)
      go true = refl
      go false = none ss p p.tokens
  turn_is ss (block_start, s) p = refl
  turn_is ss t p = none ss p p.tokens

  turned : (ss : List (Stmt C)) (o : Read (Option (Stmt C))) → read_turn (read_then o (λ o q. got (with_part ss o) q)) (λ y s. reads (rest_of_blank y) s) ≡ read_then o (blank_further ss)
  turned ss (got None q) = refl
  turned ss (got (Some s) q) = refl
  turned ss (short q) = refl
  turned ss (wrong q) = refl

  pub blank_done : (ss : List (Stmt C)) (p : Place) → comes is_any p.tokens ≡ false → reads (rest_of_blank ss) p ≡ got ss p
  blank_done ss p e = many_is any_token blank_part ss p ∙ go p.tokens e
    where
      go : (ts : List SpannedTok) → comes is_any ts ≡ false → read_any any_token (λ h q. read_turn (reads (blank_part ss h) q) (λ y s. reads (rest_of_blank y) s)) ss p ts ≡ got ss p
      go [] k = refl
      go (t ∷ ts) k = cc

  pub blank_more : (ss : List (Stmt C)) (p : Place) → comes is_any p.tokens ≡ true → reads (rest_of_blank ss) p ≡
      read_then (reads (one Some) p) (λ t q. read_then (blank_piece t q) (blank_further ss))
  unfolding reads
  blank_more ss p e = many_is any_token blank_part ss p ∙ go p.tokens e
    where
      go : (ts : List SpannedTok) → comes is_any ts ≡ true →
          read_any any_token (λ h q. read_turn (reads (blank_part ss h) q) (λ y s. reads (rest_of_blank y) s)) ss p ts ≡
          read_then (read_one Some p ts) (λ t q. read_then (blank_piece t q) (blank_further ss))
      go [] k = cc
      go (t ∷ ts) k = ap (λ o. read_turn o (λ y s. reads (rest_of_blank y) s)) (turn_is ss t (after p t ts)) ∙ turned ss (blank_piece t (after p t ts))
