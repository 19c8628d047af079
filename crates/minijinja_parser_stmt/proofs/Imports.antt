-- The target of an import, and the names that are imported, one at a time.
use Rattle.std.proofs.Common.{◌≡◌, Bool, true, false, if◌then◌else◌, List, [], ◌∷◌, ◌++◌, map, Option, Some, None, refl, sym, ap, ◌∙◌}
use Rattle.minijinja_syntax.specs.Tokens.{comma}
use Rattle.minijinja_syntax.specs.Streams.{SpannedTok}
use Rattle.minijinja_syntax.specs.declared.tokens.Span.{Span}
use Rattle.minijinja_tree.specs.SpannedTrees.{Expr, Optional, Stmt, import_all}
use Rattle.minijinja_grammar.specs.Words.{as_word, is}
use Rattle.minijinja_grammar.specs.internal.Forms.{Form, Read, go_on, over, got, short, wrong, misfit, pure, many, read_then, read_turn, read_any, read_one, held_or_wrong, if_held, after, reads, ◌>>=◌, ◌>>◌}
use Rattle.minijinja_grammar.specs.Places.{Place}
use Rattle.minijinja_grammar.specs.Ahead.{comes}
use Rattle.minijinja_grammar.specs.internal.ExprForms.{expanded, next, span_of_mark, spanned, when}
use Rattle.minijinja_grammar.specs.internal.StmtForms.{context_if_any, import_stmt, imported, imports, is_storable, next_imported}
use Rattle.minijinja_grammar.specs.Statements.{ends_names}
use Rattle.minijinja_grammar.proofs.Climbing.{after_after}
use Rattle.minijinja_grammar.proofs.Unrolled.{many_is}
use Rattle.minijinja_parser_tokens.specs.internal.Reads.{eaten}
use Rattle.minijinja_parser_tokens.proofs.Turned.{under}
use Rattle.minijinja_parser_stmt.specs.internal.Made.{name_of, param_of, with_aliases}

module _ {C : Type 0} where
  -- the names after these
  abbrev pub more_imports : List (Expr C × Optional C) → Place → Read (List (Expr C × Optional C))
  more_imports ns p = reads (many (span_of_mark comma) next_imported ns) p

  -- the name after a comma, unless that was the last one, and those after it
  abbrev pub after_comma : List (Expr C × Optional C) → Place → Read (List (Expr C × Optional C))
  after_comma ns q = if comes ends_names q.tokens then got ns q else read_then (reads imported q) (λ n r. more_imports (ns ++ n ∷ []) r)

  pub imports_none : (p : Place) → comes ends_names p.tokens ≡ true → reads (imports {C = C}) p ≡ got [] p
  unfolding reads imports
  imports_none p e = rw e refl

  pub imports_some : (p : Place) → comes ends_names p.tokens ≡ false → reads (imports {C = C}) p ≡ read_then (reads imported p) (λ n q. more_imports (n ∷ []) q)
  unfolding reads imports
  imports_some p e = rw e refl

  pub others_is : (ns : List (Expr C × Optional C)) (p : Place) → more_imports ns p ≡ read_then (eaten comma p) (λ b q. if b then after_comma ns q else got ns q)
  unfolding reads next_imported
  others_is ns p = many_is (span_of_mark comma) next_imported ns p ∙ go p.tokens refl
    where
      turned : (b : Bool) (o : Read (Expr C × Optional C)) (q : Place) →
          read_turn (if b then got (over ns) q else read_then o (λ n r. got (go_on (ns ++ n ∷ [])) r)) more_imports ≡ (if b then got ns q else read_then o (λ n r. more_imports (ns ++ n ∷ []) r))
      turned true o q = refl
      turned false (got n r) q = refl
      turned false (short r) q = refl
      turned false (wrong r) q = refl

      at_token : (t : SpannedTok) (ts : List SpannedTok) (b : Bool) →
          if_held (if b then Some t.1 else None) (λ h. read_turn (reads (next_imported ns h) (after p t ts)) more_imports) (got ns p) ≡
          read_then (if b then read_then (held_or_wrong (if b then Some t.1 else None) (after p t ts)) (λ s u. got true u) else got false p) (λ b q. if b then after_comma ns q else got ns q)
      at_token t ts true = turned (comes ends_names ts) (reads imported (after p t ts)) (after p t ts)
      at_token t ts false = refl

      go : (ts : List SpannedTok) → p.tokens ≡ ts →
          read_any (span_of_mark comma) (λ h s. read_turn (reads (next_imported ns h) s) more_imports) ns p ts ≡
          read_then (if comes (is comma) ts then read_then (read_one (span_of_mark comma) p ts) (λ s u. got true u) else got false p) (λ b q. if b then after_comma ns q else got ns q)
      go [] k = refl
      go (t ∷ ts) k = at_token t ts (is comma t.0)

module _ {C : Type 0} (expr : Form (Expr C)) (from : Span) where
  -- an expression that has to be storable
  abbrev pub storable_form : Form (Expr C)
  storable_form = expr >>= (λ e. when (is_storable e) (pure e))

  -- a context, after the target
  abbrev after_target : Expr C → Expr C → Place → Read (Stmt C)
  after_target e t q = read_then (reads context_if_any q) (λ _ u. got (import_all e t (expanded from u.last)) u)

  pub import_is : (p : Place) → reads (import_stmt expr from) p ≡
      read_then (reads expr p) (λ e q. read_then (reads (next as_word) q) (λ _ r. read_then (reads storable_form r) (after_target e)))
  unfolding reads import_stmt
  import_is p = under (reads expr p) _ _ (λ e q. under (reads (next as_word) q) _ _ (λ _ r.
      under (reads expr r) _ _ (λ t s. at_target e t s (is_storable t)) ∙ sym (after_after (reads expr r) (λ t s. reads (when (is_storable t) (pure t)) s) (after_target e))))
    where
      none : (e : Expr C) (s : Place) (ts : List SpannedTok) → misfit {A = Stmt C} s ts ≡ read_then (misfit s ts) (after_target e)
      none e s [] = refl
      none e s (t ∷ ts) = refl

      at_target : (e t : Expr C) (s : Place) (b : Bool) → reads (when b (context_if_any >> spanned from (import_all e t))) s ≡ read_then (reads (when b (pure t)) s) (after_target e)
      at_target e t s true = refl
      at_target e t s false = none e s s.tokens

-- names with their aliases are parts of a statement as arguments with their defaults are
pub aliases_are : {E C : Type 0} (of : E → Expr C) (ns : List (E × Option E)) → with_aliases (map (param_of of) ns) ≡ map (name_of of) ns
aliases_are of [] = refl
aliases_are of (n ∷ ns) = ap (λ ms. name_of of n ∷ ms) (aliases_are of ns)
