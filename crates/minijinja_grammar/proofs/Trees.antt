-- The laws of the grammar.
use Rattle.std.proofs.Common.{◌≡◌, suc, List, [], ◌∷◌, Contains, arith, refl}
use Rattle.minijinja_syntax.specs.Texts.{Text}
use Rattle.minijinja_value.specs.Values.{Functions}
use Rattle.minijinja_syntax.specs.declared.tokens.Span.{Span}
use Rattle.minijinja_syntax.specs.Streams.{SpannedTok}
use Rattle.minijinja_grammar.specs.internal.Forms.{Form, reads}
use Rattle.minijinja_grammar.specs.Places.{Place}
use Rattle.minijinja_grammar.specs.internal.ExprForms.{expanded, expr_at}
use Rattle.minijinja_grammar.specs.Derived.{max_depth, FitsSoFar, continued}
use Rattle.minijinja_grammar.specs.internal.TemplateForms.{template_at}
use Rattle.minijinja_grammar.specs.internal.Whole.{IsWholeOf}
use Rattle.minijinja_grammar.specs.private.Sound.{IsSound}
use Rattle.minijinja_tree.specs.SpannedTrees.{Expr, Stmt, bare_expr, bare_stmt}
use Rattle.minijinja_tree.specs.WellFormed.{IsWellFormed, IsWhole}
use Rattle.minijinja_tree.specs.Standing.{Stands, StmtStands}
use Rattle.minijinja_grammar.specs.TokenSpans.{StartsAtToken, token_start, start_before, EndsAtToken, token_end, end_before, IsOfTokens}
use Rattle.minijinja_grammar.proofs.Ensured.{All, Fine, ensured}
use Rattle.minijinja_grammar.proofs.Whole.{one_only, ending_in, elsewhere, IsAtEnd, at_end}
use Rattle.minijinja_grammar.proofs.Sound.{expr_sound}
use Rattle.minijinja_grammar.proofs.Standing.{stands, is_whole}
use Rattle.minijinja_grammar.proofs.Templates.{IsTemplate, template_sound}
use Rattle.minijinja_grammar.proofs.Names.{template_distinct}

pub one_whole : {A : Type 0} (form : Form A) (p : Place) (t u : A) → IsWholeOf form p t → IsWholeOf form p u → t ≡ u
one_whole form p t u h k = (one_only form p h.stop k.stop t u h.derived k.derived).1

-- ---- spans

module _ (ts : List SpannedTok) (before : Span) where
  pub token_span : (t : SpannedTok) → Contains ts t → IsOfTokens ts before t.1
  token_span t h = record {
    start = token_start h (record { line = refl; col = refl; offset = refl });
    end = token_end h (record { line = refl; col = refl; offset = refl });
  }

  span_before : IsOfTokens ts before before
  span_before = record {
    start = start_before (record { line = refl; col = refl; offset = refl });
    end = end_before (record { line = refl; col = refl; offset = refl });
  }

  joined : (s to : Span) → IsOfTokens ts before s → IsOfTokens ts before to → IsOfTokens ts before (expanded s to)
  joined s to h i = record { start = starts s h.start; end = ends to i.end }
    where
      starts : (s : Span) → StartsAtToken ts before s → StartsAtToken ts before (expanded s to)
      starts s (token_start m k) = token_start m (record { line = k.line; col = k.col; offset = k.offset })
      starts s (start_before k) = start_before (record { line = k.line; col = k.col; offset = k.offset })

      ends : (to : Span) → EndsAtToken ts before to → EndsAtToken ts before (expanded s to)
      ends to (token_end m k) = token_end m (record { line = k.line; col = k.col; offset = k.offset })
      ends to (end_before k) = end_before (record { line = k.line; col = k.col; offset = k.offset })

  -- any name may be given
  abbrev Any : Text → Type 0
  Any x = Unit {0}

  all_contained : (us : List SpannedTok) → ((t : SpannedTok) → Contains us t → Contains ts t) → All (Contains ts) (IsOfTokens ts before) token_span Any us
  all_contained [] k = tt
  all_contained (u ∷ us) k = (k u (0, omega arith, refl), all_contained us (λ t h. k t (suc h.0, omega (arith, h.1), h.2)))

module _ {C F : Type 0} (f : Functions C F) (p : Place) where
  abbrev T : SpannedTok → Type 0
  T = Contains p.tokens

  abbrev S : Span → Type 0
  S = IsOfTokens p.tokens p.last

  abbrev G : Text → Type 0
  G = Any p.tokens p.last

  fine : Fine T S (token_span p.tokens p.last) G p
  fine = record { tokens = all_contained p.tokens p.last p.tokens (λ t h. h); last = span_before p.tokens p.last }

  template : (t : Stmt C) → IsWholeOf (template_at f max_depth) p t → IsTemplate T S (token_span p.tokens p.last) (joined p.tokens p.last) G f t
  template t h = (ensured T S (token_span p.tokens p.last) G (template_at f max_depth) _
      (template_sound T S (token_span p.tokens p.last) (joined p.tokens p.last) G f (λ x. tt) max_depth) p h.stop t fine h.derived).is.it

  expression : (e : Expr C) → IsWholeOf (expr_at f max_depth) p e → IsSound T S e
  expression e h = (ensured T S (token_span p.tokens p.last) G (expr_at f max_depth) _
      (expr_sound T S (token_span p.tokens p.last) (joined p.tokens p.last) G f max_depth) p h.stop e fine h.derived).is.it

  pub template_formed : (t : Stmt C) → IsWholeOf (template_at f max_depth) p t → IsWellFormed (bare_stmt t)
  template_formed t h = ((template t h).root, template_distinct f max_depth p h.stop t h.derived)

  pub template_stands : (t : Stmt C) → IsWholeOf (template_at f max_depth) p t → StmtStands T S t
  template_stands t h = (template t h).stands

  pub expression_whole : (e : Expr C) → IsWholeOf (expr_at f max_depth) p e → IsWhole (bare_expr e)
  expression_whole e h = is_whole T S e (expression e h)

  pub expression_stands : (e : Expr C) → IsWholeOf (expr_at f max_depth) p e → Stands T S e
  expression_stands e h = stands T S e (expression e h)

-- ---- where tokens fit so far, reading them comes to their end

pub fits_to_end : {A : Type 0} (form : Form A) (p : Place) → FitsSoFar (IsWholeOf form) p → IsAtEnd (reads form p)
fits_to_end form p h =
    at_end form p (ending_in p.ending h.whole.stop) h.more h.tree (elsewhere p.ending form (continued h.more p) h.whole.stop h.tree h.whole.derived) h.whole.none_left
