-- Expressions that the grammar does not derive.
use Rattle.std.proofs.Common.{◌≡◌, ℕ, List, [], ◌∷◌, refl}
use Rattle.std.specs.Prelude.{codes}
use Rattle.minijinja_syntax.specs.Texts.{Text}
use Rattle.minijinja_value.specs.Values.{Functions}
use Rattle.minijinja_syntax.specs.declared.tokens.Span.{Span}
use Rattle.minijinja_syntax.specs.Streams.{SpannedTok, finished}
use Rattle.minijinja_syntax.specs.Tokens.{ident, int, minus, pow, comma, assign, paren_open, paren_close}
use Rattle.minijinja_tree.specs.Tree.{Expr}
use Rattle.minijinja_grammar.specs.internal.Forms.{Read, got, short, wrong, reads}
use Rattle.minijinja_grammar.specs.internal.ExprForms as g
use Rattle.minijinja_grammar.specs.internal.ExprForms.{expr_at}
use Rattle.minijinja_grammar.specs.Expressions.{IsExpr}
use Rattle.minijinja_grammar.proofs.TokenReading.{at}
use Rattle.minijinja_grammar.proofs.ReadTrees.{is_read, nowhere}
use Rattle.minijinja_grammar.specs.Examples.{ExprRefusals}

-- where reading stops, if it gives a tree, with how many tokens left
abbrev pub Stops : {A : Type 0} → Read A → Type 0
Stops (got x q) = q.tokens ≡ []
Stops (short q) = ⊥
Stops (wrong q) = ⊥

module _ {C F : Type 0} (f : Functions C F) (src : Text) where
  pub stops : (d : ℕ) (ts : List SpannedTok) (e : Expr C) → IsExpr f src d ts [] e → Stops (reads (expr_at f d) (at f src finished [] ts nowhere))
  stops d ts e a =
      let u = is_read f src d ts [] e nowhere a in
      rw u.2 refl

  module _ (o : Span) where
    -- `2 **`
    no_right_side : (e : Expr C) → IsExpr f src 300 ((int 2, o) ∷ (pow, o) ∷ []) [] e → ⊥
    unfolding reads g.below g.cond g.level g.pow_level g.not_level g.compared_level g.unary_level g.operand g.postfixed g.primary
    no_right_side e a = stops 300 ((int 2, o) ∷ (pow, o) ∷ []) e a

    -- `x y`
    two_names : (e : Expr C) → IsExpr f src 300 ((ident (codes "x"), o) ∷ (ident (codes "y"), o) ∷ []) [] e → ⊥
    unfolding reads g.below g.cond g.level g.pow_level g.not_level g.compared_level g.unary_level g.operand g.postfixed g.primary g.word
    two_names e a = let i = stops 300 ((ident (codes "x"), o) ∷ (ident (codes "y"), o) ∷ []) e a in cc

    -- `x(y=1, 2)`
    plain_after_keyword : (e : Expr C) → IsExpr f src 300 ((ident (codes "x"), o) ∷ (paren_open, o) ∷ (ident (codes "y"), o) ∷ (assign, o) ∷ (int 1, o) ∷ (comma, o) ∷ (int 2, o) ∷ (paren_close, o) ∷ []) [] e → ⊥
    unfolding reads g.below g.cond g.level g.pow_level g.not_level g.compared_level g.unary_level g.operand g.postfixed g.primary g.word g.args g.arg_items g.also_arg g.arg
    plain_after_keyword e a = stops 300 ((ident (codes "x"), o) ∷ (paren_open, o) ∷ (ident (codes "y"), o) ∷ (assign, o) ∷ (int 1, o) ∷ (comma, o) ∷ (int 2, o) ∷ (paren_close, o) ∷ []) e a

    -- `--x` at depth 3: an Expr, two operands of a `-` and a Primary are 4
    too_deep : (e : Expr C) → IsExpr f src 3 ((minus, o) ∷ (minus, o) ∷ (ident (codes "x"), o) ∷ []) [] e → ⊥
    unfolding reads g.below g.cond g.level g.pow_level g.not_level g.compared_level g.unary_level g.operand g.postfixed g.primary g.word
    too_deep e a = stops 3 ((minus, o) ∷ (minus, o) ∷ (ident (codes "x"), o) ∷ []) e a

pub exprs_refused : {C F : Type 0} (f : Functions C F) → ExprRefusals f
exprs_refused f = record {
  power_without_right_side = λ source o e a. no_right_side f source o e a.derived;
  two_variables = λ source o e a. two_names f source o e a.derived;
  plain_argument_after_keyword = λ source o e a. plain_after_keyword f source o e a.derived;
}
