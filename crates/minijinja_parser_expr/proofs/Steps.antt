-- ExprRules of expressions, a step at a time.
use Rattle.std.proofs.Common.{◌≡◌, ◌∙◌, true, false, List, [], ◌∷◌, ◌++◌, if◌then◌else◌, refl}
use Rattle.minijinja_syntax.specs.Tokens.{comma}
use Rattle.minijinja_tree.specs.SpannedTrees.{Expr}
use Rattle.minijinja_grammar.specs.Words.{begins_expr}
use Rattle.minijinja_grammar.specs.Places.{Place}
use Rattle.minijinja_grammar.specs.internal.Forms.{Form, Read, got, short, wrong, read_then, reads}
use Rattle.minijinja_grammar.specs.Ahead.{comes}
use Rattle.minijinja_grammar.specs.internal.ExprForms as form
use Rattle.minijinja_parser_tokens.specs.internal.Reads.{eaten}
use Rattle.minijinja_parser_tokens.proofs.Turned.{items_more, items_done}

module _ {C : Type 0} (expr : Form (Expr C)) where
  pub exprs_more : (es : List (Expr C)) (p : Place) → comes begins_expr p.tokens ≡ true → reads (form.exprs expr es) p ≡
      read_then (reads expr p) (λ e q. read_then (eaten comma q) (λ b s. if b then reads (form.exprs expr (es ++ e ∷ [])) s else got (es ++ e ∷ []) s))
  unfolding form.exprs form.also reads
  exprs_more es p h = items_more begins_expr (form.also expr) es p h ∙ go (reads expr p)
    where
      go : (o : Read (Expr C)) →
          read_then (read_then o (λ e q. got (es ++ e ∷ []) q)) (λ fs q. read_then (eaten comma q) (λ b s. if b then reads (form.exprs expr fs) s else got fs s)) ≡
          read_then o (λ e q. read_then (eaten comma q) (λ b s. if b then reads (form.exprs expr (es ++ e ∷ [])) s else got (es ++ e ∷ []) s))
      go (got e q) = refl
      go (short q) = refl
      go (wrong q) = refl

  pub exprs_done : (es : List (Expr C)) (p : Place) → comes begins_expr p.tokens ≡ false → reads (form.exprs expr es) p ≡ got es p
  unfolding form.exprs
  exprs_done es p h = items_done begins_expr (form.also expr) es p h
