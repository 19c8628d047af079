-- Statements of a call, by the expression that is one.
use Rattle.std.proofs.Common.{◌≡◌, ◌∷◌, [], List, Option, Some, None, Bool, true, false, refl, sym, ap, ◌∙◌}
use Rattle.std.specs.Prelude.{codes, is_some}
use Rattle.minijinja_syntax.specs.Streams.{SpannedTok}
use Rattle.minijinja_syntax.specs.declared.tokens.Span.{Span}
use Rattle.minijinja_tree.specs.SpannedTrees.{macro_of, Args, Expr, Stmt}
use Rattle.minijinja_grammar.specs.Words.{endcall_word}
use Rattle.minijinja_grammar.specs.internal.Forms.{Form, Read, got, short, wrong, misfit, pure, read_then, reads, ◌>>=◌}
use Rattle.minijinja_grammar.specs.Places.{Place}
use Rattle.minijinja_grammar.specs.internal.ExprForms.{expanded, when}
use Rattle.minijinja_grammar.specs.internal.StmtForms.{Parts, call_in, call_of, call_stmt, called, do_stmt, done, macro_body}
use Rattle.minijinja_grammar.specs.Statements.{at_endcall}
use Rattle.minijinja_grammar.proofs.Climbing.{after_after}
use Rattle.minijinja_parser_tokens.proofs.Turned.{under}
use Rattle.minijinja_parser_stmt.specs.private.Macros.{params_if_any}
use Rattle.minijinja_parser_stmt.specs.internal.Made.{call_block_tree, call_tree}

-- an expression that has to be a call
abbrev pub call_form : {C : Type 0} → Form (Expr C) → Form (Expr C)
call_form expr = expr >>= (λ e. when (is_some (call_of e)) (pure e))

module _ {C : Type 0} (e : Expr C) (q : Place) where
  no_misfit : (r : Place) (ts : List SpannedTok) → misfit r ts ≡ got e q → ⊥
  no_misfit r [] h = cc
  no_misfit r (t ∷ ts) h = cc

  held : (d : Expr C) (r : Place) (b : Bool) → is_some (call_of d) ≡ b → reads (when b (pure d)) r ≡ got e q → is_some (call_of e) ≡ true
  unfolding reads
  held d r true k h = let same : d ≡ e = cc in ap (λ x. is_some (call_of x)) (sym same) ∙ k
  held d r false k h = absurd (no_misfit r r.tokens h)

  read : (o : Read (Expr C)) → read_then o (λ d r. reads (when (is_some (call_of d)) (pure d)) r) ≡ got e q → is_some (call_of e) ≡ true
  read (got d r) h = held d r (is_some (call_of d)) refl h
  read (short r) h = cc
  read (wrong r) h = cc

-- and what is read by it is one
pub call_read : {C : Type 0} (expr : Form (Expr C)) (p q : Place) (e : Expr C) → reads (call_form expr) p ≡ got e q → is_some (call_of e) ≡ true
unfolding reads
call_read expr p q e h = read e q (reads expr p) h

-- where nothing fits, nothing does after it
none_then : {A B : Type 0} (f : A → Place → Read B) (q : Place) (ts : List SpannedTok) → misfit q ts ≡ read_then (misfit q ts) f
none_then f q [] = refl
none_then f q (t ∷ ts) = refl

-- the statement of a call
abbrev dropped : {C : Type 0} → Span → Expr C → Place → Read (Stmt C)
dropped from e q = got (call_tree (call_of e) (expanded from q.last)) q

-- and whatever comes after it
neither : {A B D : Type 0} (f : A → Place → Read D) (g : B → Place → Read D) (q : Place) (ts : List SpannedTok) → read_then (misfit q ts) f ≡ read_then (misfit q ts) g
neither f g q [] = refl
neither f g q (t ∷ ts) = refl

pub do_is : {C : Type 0} (expr : Form (Expr C)) (from : Span) (p : Place) →
    reads (do_stmt expr from) p ≡ read_then (reads (call_form expr) p) (λ e q. got (call_tree (call_of e) (expanded from q.last)) q)
unfolding reads do_stmt
do_is {C = C} expr from p = under (reads expr p) _ _ (λ e q. at_call e (call_of e) q refl) ∙ sym (after_after (reads expr p) (λ e q. reads (when (is_some (call_of e)) (pure e)) q) (dropped from))
  where
    at_call : (e : Expr C) (o : Option (Expr C × Args C × Span)) (q : Place) → call_of e ≡ o → reads (done from o) q ≡ read_then (reads (when (is_some o) (pure e)) q) (dropped from)
    at_call e (Some c) q h = rw h refl
    at_call e None q h = none_then (dropped from) q q.tokens

module _ {C : Type 0} (p : Parts C) (from : Span) where
  -- the body of the call block, after its call
  abbrev pub taken_along : List (Expr C × Option (Expr C)) → Option (Expr C × Args C × Span) → Place → Read (Stmt C)
  taken_along ps o q = read_then (reads (macro_body p at_endcall endcall_word) q) (λ ss r. let s = expanded from r.last in got (call_block_tree o (macro_of (codes "caller") ps ss s) s) r)

  abbrev after_call : List (Expr C × Option (Expr C)) → Expr C × Args C × Span → Place → Read (Stmt C)
  after_call ps c u = taken_along ps (Some c) u

  pub call_block_is : (q : Place) → reads (call_stmt p from) q ≡
      read_then (reads (params_if_any p.expr) q) (λ ps r. read_then (reads (call_form p.expr) r) (λ e u. taken_along ps (call_of e) u))
  unfolding reads call_stmt called
  call_block_is q = under (reads (params_if_any p.expr) q) _ _ (λ ps r.
      after_after (reads p.expr r) (λ e u. reads (call_in (call_of e)) u) (after_call ps) ∙
      under (reads p.expr r) _ _ (λ e u. at_call ps e (call_of e) u refl) ∙
      sym (after_after (reads p.expr r) (λ e u. reads (when (is_some (call_of e)) (pure e)) u) (λ e u. taken_along ps (call_of e) u)))
    where
      at_call : (ps : List (Expr C × Option (Expr C))) (e : Expr C) (o : Option (Expr C × Args C × Span)) (u : Place) → call_of e ≡ o →
          read_then (reads (call_in o) u) (after_call ps) ≡ read_then (reads (when (is_some o) (pure e)) u) (λ e u. taken_along ps (call_of e) u)
      at_call ps e (Some c) u h = rw h refl
      at_call ps e None u h = neither (after_call ps) (λ e u. taken_along ps (call_of e) u) u u.tokens
