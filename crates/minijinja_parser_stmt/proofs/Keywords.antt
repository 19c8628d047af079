-- What nests in a statement, by its depth.
use Rattle.std.proofs.Common.{◌≡◌, ◌≢◌, ◌-◌, arith, ℕ, zero, suc, refl}
use Rattle.minijinja_syntax.specs.declared.tokens.Span.{Span}
use Rattle.minijinja_value.specs.Values.{Functions}
use Rattle.minijinja_grammar.specs.Places.{Place}
use Rattle.minijinja_grammar.specs.internal.Forms.{reads}
use Rattle.minijinja_grammar.specs.Statements.{Context}
use Rattle.minijinja_grammar.specs.internal.StmtForms.{if_level, parts_at, stmt_at, stmt_level, within}

module _ {C F : Type 0} (f : Functions C F) (c : Context) where
  pub stmt_is : (d : ℕ) (p : Place) → d ≢ 0 → reads (stmt_at f c d) p ≡ reads (stmt_level c (parts_at f c (d - 1))) p
  unfolding within
  stmt_is zero p n = absurd (n refl)
  stmt_is (suc d) p n = let e : suc d - 1 ≡ d = omega arith in rw e refl

  pub if_is : (d : ℕ) (from : Span) (p : Place) → d ≢ 0 → reads ((within f d).if_ c from) p ≡ reads (if_level (parts_at f c (d - 1)) from) p
  unfolding within
  if_is zero from p n = absurd (n refl)
  if_is (suc d) from p n = let e : suc d - 1 ≡ d = omega arith in rw e refl
