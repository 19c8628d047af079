-- Bodies, a part at a time.
use Rattle.std.proofs.Common.{◌≡◌, ◌≤◌, length, ℕ, Bool, true, false, List, [], ◌∷◌, ◌++◌, if◌then◌else◌, Option, Some, None, refl, ◌∙◌, ap}
use Rattle.minijinja_syntax.specs.Tokens.{Tok, template_data, variable_start, block_start}
use Rattle.minijinja_syntax.specs.Streams.{SpannedTok}
use Rattle.minijinja_syntax.specs.declared.tokens.Span.{Span}
use Rattle.minijinja_value.specs.Values.{Functions}
use Rattle.minijinja_tree.specs.SpannedTrees.{Stmt}
use Rattle.minijinja_grammar.specs.Places.{Place}
use Rattle.minijinja_grammar.specs.internal.Forms.{Turn, go_on, over, one, Read, got, short, wrong, misfit, read_then, after, read_one, read_turn, read_any, reads}
use Rattle.minijinja_grammar.specs.Ahead.{comes}
use Rattle.minijinja_grammar.specs.internal.ExprForms.{expr_at}
use Rattle.minijinja_grammar.specs.Statements.{Context, Ends, ends_body}
use Rattle.minijinja_grammar.specs.internal.StmtForms.{any_token, body, part, shown, stmt_at, tag}
use Rattle.minijinja_parser_tokens.specs.internal.Marks.{is_any}
use Rattle.minijinja_grammar.proofs.Unrolled.{many_is}
use Rattle.minijinja_grammar.proofs.Forms.{sound, no_longer}
use Rattle.minijinja_parser_stmt.specs.private.Bodies.{further, piece, rest_of_body, some_of, with_part}
use Rattle.minijinja_parser_stmt.specs.internal.Made.{begins_part, opening_of}

module _ {C F : Type 0} (f : Functions C F) (c : Context) (d : ℕ) (ends : Ends) where
  pub body_is : (p : Place) → reads (body (expr_at f d) (stmt_at f c d) ends) p ≡ reads (rest_of_body f c d ends []) p
  unfolding reads body
  body_is p = refl

  -- a part of a body is one that is there, or the end
  turn_is : (ss : List (Stmt C)) (t : SpannedTok) (p : Place) → reads (part (expr_at f d) (stmt_at f c d) ends ss t) p ≡ read_then (piece f c d ends t p) (λ o q. got (with_part ss o) q)
  unfolding reads
  turn_is ss (template_data x, s) p = refl
  turn_is ss (variable_start, s) p = go (reads (shown (expr_at f d) s) p)
    where
      go : (o : Read (Stmt C)) → read_then o (λ s q. got (go_on (ss ++ s ∷ [])) q) ≡ read_then (some_of o) (λ o q. got (with_part ss o) q)
      go (got x q) = refl
      go (short q) = refl
      go (wrong q) = refl
  turn_is ss (block_start, s) p = go (comes (ends_body ends) p.tokens) (reads (tag (stmt_at f c d)) p)
    where
      go : (b : Bool) (o : Read (Stmt C)) → (if b then got (over ss) p else read_then o (λ s q. got (go_on (ss ++ s ∷ [])) q)) ≡
          read_then (if b then got None p else some_of o) (λ o q. got (with_part ss o) q)
      go true o = refl
      go false (got x q) = refl
      go false (short q) = refl
      go false (wrong q) = refl
  turn_is ss t p = none p.tokens
    where
      none : (ts : List SpannedTok) → misfit {A = Turn (List (Stmt C))} p ts ≡ read_then (misfit {A = Option (Stmt C)} p ts) (λ o q. got (with_part ss o) q)
      none [] = refl
      none (u ∷ us) = refl

  turned : (ss : List (Stmt C)) (o : Read (Option (Stmt C))) →
      read_turn (read_then o (λ o q. got (with_part ss o) q)) (λ y s. reads (rest_of_body f c d ends y) s) ≡ read_then o (further f c d ends ss)
  turned ss (got None q) = refl
  turned ss (got (Some s) q) = refl
  turned ss (short q) = refl
  turned ss (wrong q) = refl

  pub body_done : (ss : List (Stmt C)) (p : Place) → comes is_any p.tokens ≡ false → reads (rest_of_body f c d ends ss) p ≡ got ss p
  body_done ss p e = many_is any_token (part (expr_at f d) (stmt_at f c d) ends) ss p ∙ go p.tokens e
    where
      go : (ts : List SpannedTok) → comes is_any ts ≡ false →
          read_any any_token (λ h q. read_turn (reads (part (expr_at f d) (stmt_at f c d) ends ss h) q) (λ y s. reads (rest_of_body f c d ends y) s)) ss p ts ≡ got ss p
      go [] k = refl
      go (t ∷ ts) k = cc

  pub body_more : (ss : List (Stmt C)) (p : Place) → comes is_any p.tokens ≡ true → reads (rest_of_body f c d ends ss) p ≡
      read_then (reads (one Some) p) (λ t q. read_then (piece f c d ends t q) (further f c d ends ss))
  unfolding reads
  body_more ss p e = many_is any_token (part (expr_at f d) (stmt_at f c d) ends) ss p ∙ go p.tokens e
    where
      go : (ts : List SpannedTok) → comes is_any ts ≡ true →
          read_any any_token (λ h q. read_turn (reads (part (expr_at f d) (stmt_at f c d) ends ss h) q) (λ y s. reads (rest_of_body f c d ends y) s)) ss p ts ≡
          read_then (read_one Some p ts) (λ t q. read_then (piece f c d ends t q) (further f c d ends ss))
      go [] k = cc
      go (t ∷ ts) k = ap (λ o. read_turn o (λ y s. reads (rest_of_body f c d ends y) s)) (turn_is ss t (after p t ts)) ∙ turned ss (piece f c d ends t (after p t ts))

  pub part_no_longer : (t : SpannedTok) (p q : Place) (o : Option (Stmt C)) → piece f c d ends t p ≡ got o q → length q.tokens ≤ length p.tokens
  part_no_longer t p q o e = no_longer (part (expr_at f d) (stmt_at f c d) ends [] t) p q (with_part [] o)
      (sound (part (expr_at f d) (stmt_at f c d) ends [] t) p q (with_part [] o) (turn_is [] t p ∙ ap (λ x. read_then x (λ o q. got (with_part [] o) q)) e))

-- the part that the token begins
pub opened : (t u : Tok) → Some u ≡ opening_of t → t ≡ u
opened t u h = go (begins_part t) h
  where
    go : (b : Bool) → Some u ≡ (if b then Some t else None) → t ≡ u
    go true k = cc
    go false k = cc

-- no part begins with another token
pub no_part : {C F : Type 0} (f : Functions C F) (c : Context) (d : ℕ) (ends : Ends) (t : Tok) (s : Span) (p : Place) → None ≡ opening_of t → piece f c d ends (t, s) p ≡ misfit p p.tokens
no_part f c d ends (template_data x) s p h = cc
no_part f c d ends variable_start s p h = cc
no_part f c d ends block_start s p h = cc
no_part f c d ends _ s p h = refl
