-- A block, by its name, its body and its end.
use Rattle.std.proofs.Common.{◌≡◌, Bool, true, false, if◌then◌else◌, List, [], ◌∷◌, Some, None, refl, sym, ap, ◌∙◌}
use Rattle.std.specs.Str.{bytes_eq}
use Rattle.minijinja_syntax.specs.Texts.{Text}
use Rattle.minijinja_syntax.specs.Tokens.{Tok, ident}
use Rattle.minijinja_syntax.specs.Streams.{SpannedTok}
use Rattle.minijinja_syntax.specs.declared.tokens.Span.{Span}
use Rattle.minijinja_tree.specs.SpannedTrees.{Stmt, named_block, stmts_of}
use Rattle.minijinja_grammar.specs.Words.{endblock_word, is_identifier, required_word, scoped_word}
use Rattle.minijinja_grammar.specs.Places.{Place}
use Rattle.minijinja_grammar.specs.internal.Forms.{Read, after, giving, got, held_or_wrong, is_given, misfit, new_name, one, pure, read_one, read_then, reads, short, wrong, ◌>>◌}
use Rattle.minijinja_grammar.specs.Ahead.{comes}
use Rattle.minijinja_grammar.specs.internal.ExprForms.{behind, expanded, ident_and_span, next, span_of_mark}
use Rattle.minijinja_grammar.specs.internal.StmtForms.{Parts, block_body, block_name, block_stmt, end_name, scoped_if_any}
use Rattle.minijinja_grammar.proofs.Climbing.{after_after}
use Rattle.minijinja_parser_tokens.specs.internal.Forms.{new_ident_and_span}
use Rattle.minijinja_parser_tokens.specs.internal.Reads.{eaten}
use Rattle.minijinja_parser_tokens.proofs.Turned.{behind_is, flag_is, under}
use Rattle.minijinja_parser_stmt.specs.private.Blocks.{block_end, block_head}

-- the name alone, of a name that is new
name_is : (p : Place) → reads block_name p ≡ read_then (reads new_ident_and_span p) (λ x q. got x.0 q)
unfolding reads block_name
name_is p = go (reads (one ident_and_span) p)
  where
    named : (x : Text × Span) (b : Bool) (q : Place) (ts : List SpannedTok) →
        read_then (if b then misfit q ts else got (tt {0}) (giving x.0 q)) (λ _ r. got x.0 r) ≡ read_then (read_then (if b then misfit q ts else got (tt {0}) (giving x.0 q)) (λ _ r. got x r)) (λ y r. got y.0 r)
    named x true q [] = refl
    named x true q (t ∷ ts) = refl
    named x false q ts = refl

    go : (o : Read (Text × Span)) → read_then o (λ x q. reads (new_name x.0 >> pure x.0) q) ≡ read_then (read_then o (λ x q. reads (new_name x.0 >> pure x) q)) (λ y r. got y.0 r)
    go (got x q) = named x (is_given x.0 q) q q.tokens
    go (short q) = refl
    go (wrong q) = refl

scoped_is : (p : Place) → reads scoped_if_any p ≡ read_then (eaten scoped_word p) (λ b q. got (tt {0}) q)
unfolding reads
scoped_is p = behind_is scoped_word (pure (tt {0})) (pure (tt {0})) p ∙ under (eaten scoped_word p) _ _ either_way
  where
    either_way : (b : Bool) (q : Place) → (if b then reads (pure (tt {0})) q else reads (pure (tt {0})) q) ≡ got (tt {0}) q
    either_way true q = refl
    either_way false q = refl

-- whether the block is required, after `scoped`
abbrev after_scoped : Text → Unit {0} → Place → Read (Text × Bool)
after_scoped x u r = read_then (reads (behind required_word (pure true) (pure false)) r) (λ required s. got (x, required) s)

abbrev after_name : Text → Place → Read (Text × Bool)
after_name x q = read_then (reads scoped_if_any q) (after_scoped x)

pub head_is : (p : Place) → reads block_head p ≡
    read_then (reads new_ident_and_span p) (λ x q. read_then (eaten scoped_word q) (λ _ r. read_then (eaten required_word r) (λ required s. got (x.0, required) s)))
unfolding reads
head_is p = ap (λ o. read_then o after_name) (name_is p) ∙ after_after (reads new_ident_and_span p) (λ x q. got x.0 q) after_name ∙
    under (reads new_ident_and_span p) _ _ (λ x q. ap (λ o. read_then o (after_scoped x.0)) (scoped_is q) ∙ after_after (eaten scoped_word q) (λ b r. got (tt {0}) r) (after_scoped x.0) ∙
    under (eaten scoped_word q) _ _ (λ b r. ap (λ o. read_then o (λ required s. got (x.0, required) s)) (flag_is required_word r)))

-- the name after the end, by the identifier taken
pub end_name_is : (x : Text) (p : Place) → reads (end_name x) p ≡
    (if comes is_identifier p.tokens then read_then (reads (one ident_and_span) p) (λ y q. if bytes_eq y.0 x then got (tt {0}) q else wrong q) else got (tt {0}) p)
unfolding reads end_name
end_name_is x p = ap (λ o. if comes is_identifier p.tokens then o else got (tt {0}) p) (go p.tokens)
  where
    chosen : (b : Bool) (s : Span) (q : Place) → read_then (held_or_wrong (if b then Some s else None) q) (λ s q. got (tt {0}) q) ≡ (if b then got (tt {0}) q else wrong q)
    chosen true s q = refl
    chosen false s q = refl

    at_token : (t : Tok) (s : Span) (q : Place) → read_then (held_or_wrong (span_of_mark (ident x) (t, s)) q) (λ s q. got (tt {0}) q) ≡
        read_then (held_or_wrong (ident_and_span (t, s)) q) (λ y q. if bytes_eq y.0 x then got (tt {0}) q else wrong q)
    at_token (ident y) s q = chosen (bytes_eq y x) s q
    at_token _ s q = refl

    go : (ts : List SpannedTok) → read_then (read_one (span_of_mark (ident x)) p ts) (λ s q. got (tt {0}) q) ≡ read_then (read_one ident_and_span p ts) (λ y q. if bytes_eq y.0 x then got (tt {0}) q else wrong q)
    go [] = refl
    go (t ∷ ts) = at_token t.0 t.1 (after p t ts)

module _ {C : Type 0} (p : Parts C) (from : Span) where
  -- the body and the end of a block of that name
  abbrev rest : Text × Bool → Place → Read (Stmt C)
  rest h r = read_then (reads (block_body p h.1) r) (λ ss s. read_then (reads (block_end h.0) s) (λ _ u. got (named_block h.0 h.1 (stmts_of ss) (expanded from u.last)) u))

  pub block_is : (q : Place) → reads (block_stmt p from) q ≡ read_then (reads block_head q) rest
  unfolding reads block_stmt
  block_is q = sym (after_after (reads block_name q) after_name rest ∙
      under (reads block_name q) _ _ (λ x r. after_after (reads scoped_if_any r) (after_scoped x) rest ∙
      under (reads scoped_if_any r) _ _ (λ _ s. after_after (reads (behind required_word (pure true) (pure false)) s) (λ b u. got (x, b) u) rest ∙
      under (reads (behind required_word (pure true) (pure false)) s) _ _ (λ b u. under (reads (block_body p b) u) _ _ (λ ss v.
      after_after (reads (next endblock_word) v) (λ _ w. reads (end_name x) w) (λ _ w. got (named_block x b (stmts_of ss) (expanded from w.last)) w))))))
