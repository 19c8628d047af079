-- Templates of the grammar stand at tokens, and are well formed except for the names of their blocks.
use Rattle.std.proofs.Common.{ℕ, false}
use Rattle.minijinja_syntax.specs.Texts.{Text}
use Rattle.minijinja_value.specs.Values.{Functions}
use Rattle.minijinja_syntax.specs.declared.tokens.Span.{Span}
use Rattle.minijinja_syntax.specs.Streams.{SpannedTok}
use Rattle.minijinja_tree.specs.SpannedTrees.{Stmt, template, stmts_of, bare_stmt}
use Rattle.minijinja_tree.specs.WellFormed.{IsRoot}
use Rattle.minijinja_grammar.specs.internal.ExprForms.{expanded, expr_at}
use Rattle.minijinja_grammar.specs.internal.StmtForms as stmt
use Rattle.minijinja_grammar.specs.Statements.{outside, at_end_of_text}
use Rattle.minijinja_grammar.specs.internal.TemplateForms as form
use Rattle.minijinja_tree.specs.Standing.{StmtStands}
use Rattle.minijinja_grammar.specs.private.Ensured.{Holds, Ensured}
use Rattle.minijinja_grammar.proofs.Ensured.{weaker}
use Rattle.minijinja_grammar.proofs.Sound.{alone, spanned, expr_sound}
use Rattle.minijinja_grammar.proofs.Statements.{AreAllParts, body, stmt_at}

module _ {C F : Type 0} (T : SpannedTok → Type 0) (S : Span → Type 0) (spans : (t : SpannedTok) → T t → S t.1)
    (joins : (s to : Span) → S s → S to → S (expanded s to)) (G : Text → Type 0) (f : Functions C F) where
  -- a template stands at tokens, and is well formed except for the names of its blocks
  pub record IsTemplate (s : Stmt C) : Type 0 where
    pub stands : StmtStands T S s
    pub root : IsRoot (bare_stmt s)

  pub template_sound : ((x : Text) → G x) → (d : ℕ) → Ensured T S G (form.template_at f d) (λ s. Holds (IsTemplate s))
  unfolding form.template_at
  template_sound gives d = λ from i. weaker T S G (stmt.body (expr_at f d) (stmt.stmt_at f outside d) at_end_of_text) (AreAllParts C T S spans joins G false false) _
      (λ ss h. spanned T S spans joins G from (template (stmts_of ss)) (λ s. Holds (IsTemplate s)) i (λ s j. alone (record { stands = (j, h.it.stand); root = h.it.inner })))
      (body C T S spans joins G false false (expr_at f d) (expr_sound T S spans joins G f d) (stmt.stmt_at f outside d) (stmt_at C T S spans joins G f outside (λ e. gives) d) at_end_of_text)
