-- Expressions of a form, by what is read there.
use Rattle.std.proofs.Common.{◌≡◌, ℕ, Bool, true, false, if◌then◌else◌, refl}
use Rattle.std.specs.Prelude.{is_some}
use Rattle.minijinja_value.specs.Values.{Functions}
use Rattle.minijinja_grammar.specs.Places.{Place}
use Rattle.minijinja_grammar.specs.internal.Forms.{Read, got, misfit, pure, read_then, reads, short, wrong}
use Rattle.minijinja_grammar.specs.internal.ExprForms.{expr_at, when}
use Rattle.minijinja_grammar.specs.internal.StmtForms.{call_of, chain, is_storable, or_at, value}
use Rattle.minijinja_parser_tokens.specs.declared.forms.ExprForm.{ExprForm}
use Rattle.minijinja_parser_tokens.specs.declared.forms.ExprForm.TheVariants as form
use Rattle.minijinja_parser_tokens.specs.internal.Forms.{expr_of, fits, plain_of}
use Rattle.minijinja_parser_tokens.proofs.Turned.{under}

kept : {A : Type 0} (o : Read A) → o ≡ read_then o (λ x q. got x q)
kept (got x q) = refl
kept (short q) = refl
kept (wrong q) = refl

chosen : {A : Type 0} (b : Bool) (x : A) (q : Place) → reads (when b (pure x)) q ≡ (if b then got x q else misfit q q.tokens)
unfolding reads
chosen true x q = refl
chosen false x q = refl

pub expression_is : {C F : Type 0} (f : Functions C F) (w : ExprForm) (d : ℕ) (p : Place) →
    reads (expr_of f w d) p ≡ read_then (reads (plain_of f w d) p) (λ e q. if fits w e then got e q else misfit q q.tokens)
unfolding reads
expression_is f form.Full d p = kept (reads (expr_at f d) p)
expression_is f form.Or d p = kept (reads (or_at f d) p)
expression_is f form.Value d p = kept (reads (value (expr_at f d)) p)
expression_is f form.Chain d p = kept (reads (chain (expr_at f d)) p)
expression_is f form.Call d p = under (reads (expr_at f d) p) _ _ (λ e q. chosen (is_some (call_of e)) e q)
expression_is f form.Storable d p = under (reads (expr_at f d) p) _ _ (λ e q. chosen (is_storable e) e q)
