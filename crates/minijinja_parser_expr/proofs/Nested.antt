-- What nests to a depth, by what nests to one less.
use Rattle.std.proofs.Common.{◌≡◌, ◌≢◌, ℕ, zero, suc, ◌-◌, arith, refl}
use Rattle.minijinja_value.specs.Values.{Functions}
use Rattle.minijinja_grammar.specs.Places.{Place}
use Rattle.minijinja_grammar.specs.internal.Forms.{misfit, reads}
use Rattle.minijinja_grammar.specs.internal.ExprForms.{below, cond_level, deeper, not_level, operand}
use Rattle.minijinja_parser_tokens.specs.declared.operators.Level.TheVariants as level
use Rattle.minijinja_parser_expr.specs.declared.rules.Nest.{Nest}
use Rattle.minijinja_parser_expr.specs.declared.rules.Nest.TheVariants as nest
use Rattle.minijinja_parser_expr.specs.private.Levels.{level_at}
use Rattle.minijinja_parser_expr.specs.private.Nests.{nested_in}

module _ {C F : Type 0} (f : Functions C F) where
  nested_is : (n : Nest) (d : ℕ) (p : Place) → d ≢ 0 → reads (nested_in n (below f d)) p ≡ reads (nested_in n (deeper f (below f (d - 1)))) p
  unfolding below
  nested_is n zero p h = absurd (h refl)
  nested_is n (suc d) p h = let e : suc d - 1 ≡ d = omega arith in rw e refl

  pub expr_is : (n : Nest) (d : ℕ) (p : Place) → n ≡ nest.Expr → d ≢ 0 → reads (nested_in n (below f d)) p ≡ reads (cond_level f (below f (d - 1))) p
  expr_is n d p e h = rw e (nested_is nest.Expr d p h)

  pub opposite_is : (n : Nest) (d : ℕ) (p : Place) → n ≡ nest.Opposite → d ≢ 0 → reads (nested_in n (below f d)) p ≡ reads (level_at f (d - 1) level.Not) p
  unfolding not_level
  opposite_is n d p e h = rw e (nested_is nest.Opposite d p h)

  pub power_is : (n : Nest) (d : ℕ) (p : Place) → n ≡ nest.Power → d ≢ 0 → reads (nested_in n (below f d)) p ≡ reads (level_at f (d - 1) level.Operand) p
  power_is n d p e h = rw e (nested_is nest.Power d p h)

  pub negated_is : (n : Nest) (d : ℕ) (p : Place) → n ≡ nest.Negated → d ≢ 0 → reads (nested_in n (below f d)) p ≡ reads (operand f (below f (d - 1))) p
  negated_is n d p e h = rw e (nested_is nest.Negated d p h)

  -- and nothing is of depth 0
  pub none_is : (n : Nest) (d : ℕ) (p : Place) → d ≡ 0 → reads (nested_in n (below f d)) p ≡ misfit p p.tokens
  unfolding reads below
  none_is nest.Expr d p e = rw e refl
  none_is nest.Opposite d p e = rw e refl
  none_is nest.Power d p e = rw e refl
  none_is nest.Negated d p e = rw e refl
