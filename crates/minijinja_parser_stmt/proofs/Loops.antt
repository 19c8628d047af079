-- A loop, a part at a time.
use Rattle.std.proofs.Common.{◌≡◌, Bool, false, Option, ap}
use Rattle.minijinja_syntax.specs.declared.tokens.Span.{Span}
use Rattle.minijinja_tree.specs.SpannedTrees.{Expr, Stmt, for_loop, optional_of, stmts_of}
use Rattle.minijinja_grammar.specs.Words.{endfor_word, in_word, recursive_word}
use Rattle.minijinja_grammar.specs.Places.{Place}
use Rattle.minijinja_grammar.specs.internal.Forms.{Read, got, read_then, reads}
use Rattle.minijinja_grammar.specs.internal.ExprForms.{expanded, next}
use Rattle.minijinja_grammar.specs.internal.StmtForms.{Parts, else_body, for_stmt, loop_body, loop_filter}
use Rattle.minijinja_grammar.specs.Statements.{at_endfor}
use Rattle.minijinja_parser_tokens.specs.internal.Reads.{eaten}
use Rattle.minijinja_parser_tokens.proofs.Turned.{flag_is, under}

module _ {C : Type 0} (p : Parts C) (from : Span) where
  -- the bodies of the loop, after its head
  abbrev after_head : Expr C → Expr C → Option (Expr C) → Bool → Place → Read (Stmt C)
  after_head t e o b w = read_then (reads (loop_body p) w) (λ ss x. read_then (reads (else_body p at_endfor endfor_word) x)
      (λ os y. got (for_loop t e (optional_of o) b (stmts_of ss) (stmts_of os) (expanded from y.last)) y))

  pub for_is : (q : Place) → reads (for_stmt p from) q ≡
      read_then (reads (p.targets false) q) (λ t r. read_then (reads (next in_word) r) (λ _ s. read_then (reads p.or s) (λ e u.
      read_then (reads (loop_filter p.expr) u) (λ o v. read_then (eaten recursive_word v) (after_head t e o)))))
  unfolding reads for_stmt
  for_is q = under (reads (p.targets false) q) _ _ (λ t r. under (reads (next in_word) r) _ _ (λ _ s. under (reads p.or s) _ _ (λ e u.
      under (reads (loop_filter p.expr) u) _ _ (λ o v. ap (λ f. read_then f (after_head t e o)) (flag_is recursive_word v)))))
