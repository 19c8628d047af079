-- Reading gives the trees that the relations give.
use Rattle.std.proofs.Common.{◌≡◌, ℕ, List, []}
use Rattle.minijinja_syntax.specs.Texts.{Text}
use Rattle.minijinja_syntax.specs.declared.tokens.Span.{Span}
use Rattle.minijinja_syntax.specs.Streams.{SpannedTok, finished}
use Rattle.minijinja_value.specs.Values.{Functions}
use Rattle.minijinja_tree.specs.Tree as bare
use Rattle.minijinja_tree.specs.SpannedTrees.{Expr, Stmt, bare_expr, bare_stmt}
use Rattle.minijinja_grammar.specs.Places.{Place}
use Rattle.minijinja_grammar.specs.Expressions.{IsExpr}
use Rattle.minijinja_grammar.specs.Derived.{max_depth, IsTemplateTree}
use Rattle.minijinja_grammar.specs.internal.Forms.{got, reads}
use Rattle.minijinja_grammar.specs.internal.ExprForms.{expr_at}
use Rattle.minijinja_grammar.specs.internal.TemplateForms.{template_at}
use Rattle.minijinja_grammar.proofs.Forms.{complete}
use Rattle.minijinja_grammar.proofs.TokenReading.{at}
use Rattle.minijinja_grammar.proofs.Reading.{expr_is_derived}
use Rattle.minijinja_grammar.proofs.StmtReading.{template_is_derived}

pub nowhere : Span
nowhere = record { start_line = 0; start_col = 0; start_offset = 0; end_line = 0; end_col = 0; end_offset = 0 }

module _ {C F : Type 0} (f : Functions C F) where
  -- reading gives the tree, and stops where the derivation does
  pub is_read : (src : Text) (d : ℕ) (ts rest : List SpannedTok) (e : bare.Expr C) (k : Span) → IsExpr f src d ts rest e →
      (x : Expr C) × (r : Span) × (reads (expr_at f d) (at f src finished [] ts k) ≡ got x (at f src finished [] rest r)) × (bare_expr x ≡ e)
  is_read src d ts rest e k a =
      let u = expr_is_derived f src finished [] d ts rest e a k in
      (u.0, u.1, complete (expr_at f d) (at f src finished [] ts k) (at f src finished [] rest u.1) u.0 u.2, u.3)

  -- likewise, and takes all tokens
  pub template_is_read : (p : Place) (x : bare.Stmt C (Unit {0})) → IsTemplateTree f p x →
      (y : Stmt C) × (r : Span) × (ms : _) × (reads (template_at f max_depth) p ≡ got y (at f p.source p.ending ms [] r)) × (bare_stmt y ≡ x)
  template_is_read p x a =
      let u = template_is_derived f p.source p.ending p.names p.tokens p.last x a in
      (u.0, u.1, u.2, complete (template_at f max_depth) p (at f p.source p.ending u.2 [] u.1) u.0 u.3, u.4)
