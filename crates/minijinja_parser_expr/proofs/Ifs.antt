-- If expressions, an if at a time.
use Rattle.std.proofs.Common.{◌≡◌, ℕ, ◌<◌, length, arith, Bool, true, false, if◌then◌else◌, Option, Some, None, refl, ◌∙◌}
use Rattle.minijinja_value.specs.Values.{Functions}
use Rattle.minijinja_syntax.specs.declared.tokens.Span.{Span}
use Rattle.minijinja_tree.specs.SpannedTrees.{Expr, if_expr, optional_of}
use Rattle.minijinja_grammar.specs.Words.{is, if_word, else_word}
use Rattle.minijinja_grammar.specs.Places.{Place}
use Rattle.minijinja_grammar.specs.internal.Forms.{Form, go_on, pure, many, Read, got, short, wrong, read_then, read_turn, reads, ◌>>=◌}
use Rattle.minijinja_grammar.specs.Ahead.{comes}
use Rattle.minijinja_grammar.specs.internal.ExprForms.{if_turn, cond, cond_level, else_part, or_level, not_level, below, expr_at, next, span_of_mark, expanded}
use Rattle.minijinja_parser_tokens.specs.internal.Reads.{eaten, skipped}
use Rattle.minijinja_parser_tokens.specs.declared.operators.Level.TheVariants as level
use Rattle.minijinja_parser_tokens.proofs.Taking.{eaten_is}
use Rattle.minijinja_parser_tokens.proofs.Turned.{behind_is, skip_shorter, read_no_longer}
use Rattle.minijinja_parser_expr.specs.private.Levels.{level_at}
use Rattle.minijinja_parser_expr.proofs.Repeated.{many_done, many_more}

module _ {C : Type 0} (or nested : Form (Expr C)) where
  abbrev others : Expr C × Span → Place → Read (Expr C × Span)
  others x q = reads (many (span_of_mark if_word) (if_turn or nested) x) q

  -- an expression so far, and the ifs that follow it, the first of which begins at the span
  pub ifs : Expr C → Span → Place → Read (Expr C)
  ifs e from p = read_then (others (e, from) p) (λ x q. got x.0 q)

  pub cond_is : (p : Place) → reads (cond or nested) p ≡ read_then (reads or p) (λ e q. ifs e p.last q)
  unfolding reads cond ifs
  cond_is p = refl

  -- of a test and its else part, if it has one
  abbrev pub also : Expr C → Span → Expr C → Option (Expr C) → Place → Expr C
  also e from t o q = if_expr t e (optional_of o) (expanded from q.last)

  -- where an if comes, its test, its else part, and what follows those
  pub ifs_are : (e : Expr C) (from : Span) (p : Place) → ifs e from p ≡ read_then (eaten if_word p) (λ b q. if b
      then read_then (reads or q) (λ t r. read_then (reads (else_part nested) r) (λ o s. ifs (also e from t o s) s.last s))
      else got e q)
  unfolding reads if_turn ifs
  ifs_are e from p = go (comes (is if_word) p.tokens) refl
    where
      first : Expr C × Span → Place → Read (Expr C)
      first x q = got x.0 q

      made : Expr C → Option (Expr C) → Place → Read (Expr C)
      made t o s = read_then (others (also e from t o s, s.last) s) first

      else_is : (t : Expr C) (o : Read (Option (Expr C))) →
          read_then (read_turn (read_then o (λ o s. got (go_on (also e from t o s, s.last)) s)) others) first ≡ read_then o (made t)
      else_is t (got o s) = refl
      else_is t (short s) = refl
      else_is t (wrong s) = refl

      test : (o : Read (Expr C)) →
          read_then (read_turn (read_then o (λ t r. read_then (reads (else_part nested) r) (λ o s. got (go_on (also e from t o s, s.last)) s))) others) first ≡
          read_then o (λ t r. read_then (reads (else_part nested) r) (made t))
      test (got t r) = else_is t (reads (else_part nested) r)
      test (short r) = refl
      test (wrong r) = refl

      rest : Bool → Place → Read (Expr C)
      rest b q = if b then read_then (reads or q) (λ t r. read_then (reads (else_part nested) r) (made t)) else got e q

      taken : (o : Read Span) → read_then (read_then o (λ h q. read_turn (reads (if_turn or nested (e, from) h) q) others)) first ≡
          read_then (read_then o (λ s q. got true q)) rest
      taken (got s q) = test (reads or q)
      taken (short q) = refl
      taken (wrong q) = refl

      go : (b : Bool) → comes (is if_word) p.tokens ≡ b → read_then (others (e, from) p) first ≡
          read_then (if b then read_then (reads (next if_word) p) (λ s q. got true q) else got false p) rest
      go true k = rw (many_more (is if_word) (λ t. t.1) (if_turn or nested) (e, from) p k) (taken (reads (next if_word) p))
      go false k = rw (many_done (is if_word) (λ t. t.1) (if_turn or nested) (e, from) p k) refl

  -- by whether an if comes
  pub ifs_more : (e : Expr C) (from : Span) (p : Place) → comes (is if_word) p.tokens ≡ true → ifs e from p ≡ read_then (skipped p) (λ s q.
      read_then (reads or q) (λ t r. read_then (reads (else_part nested) r) (λ o s. ifs (also e from t o s) s.last s)))
  ifs_more e from p k = ifs_are e from p ∙ rw (eaten_is if_word p, k) (go (skipped p))
    where
      rest : Place → Read (Expr C)
      rest q = read_then (reads or q) (λ t r. read_then (reads (else_part nested) r) (λ o s. ifs (also e from t o s) s.last s))

      go : (o : Read Span) → read_then (read_then o (λ s q. got true q)) (λ b q. if b then rest q else got e q) ≡ read_then o (λ s q. rest q)
      go (got s q) = refl
      go (short q) = refl
      go (wrong q) = refl

  pub ifs_done : (e : Expr C) (from : Span) (p : Place) → comes (is if_word) p.tokens ≡ false → ifs e from p ≡ got e p
  ifs_done e from p k = ifs_are e from p ∙ rw (eaten_is if_word p, k) refl

  pub else_part_is : (p : Place) → reads (else_part nested) p ≡ read_then (eaten else_word p) (λ b q. if b then read_then (reads nested q) (λ e r. got (Some e) r) else got None q)
  unfolding reads
  else_part_is p = behind_is else_word (nested >>= (λ e. pure (Some e))) (pure None) p

module _ {C F : Type 0} (f : Functions C F) (depth : ℕ) where
  pub or_is : (p : Place) → reads (or_level f (below f depth)) p ≡ reads (level_at f depth level.Or) p
  unfolding not_level
  or_is p = refl

  pub cond_level_is : (p : Place) → reads (cond_level f (below f depth)) p ≡
      read_then (reads (level_at f depth level.Or) p) (λ e q. ifs (level_at f depth level.Or) (expr_at f depth) e p.last q)
  unfolding not_level
  cond_level_is p = cond_is (level_at f depth level.Or) (expr_at f depth) p

  -- an if takes a token
  pub if_shorter : (p q r s : Place) (u : Span) (t : Expr C) (o : Option (Expr C)) → skipped p ≡ got u q → reads (level_at f depth level.Or) q ≡ got t r →
      reads (else_part (expr_at f depth)) r ≡ got o s → length s.tokens < length p.tokens
  if_shorter p q r s u t o h i j = omega (arith, skip_shorter p q u h, read_no_longer (level_at f depth level.Or) q r t i, read_no_longer (else_part (expr_at f depth)) r s o j)
