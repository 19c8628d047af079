-- The forms of the grammar that `ExprForm` and `IdentForm` name.
use Rattle.std.specs.Prelude.{ℕ, Bool, true, is_some}
use Rattle.minijinja_syntax.specs.Texts.{Text}
use Rattle.minijinja_syntax.specs.declared.tokens.Span.{Span}
use Rattle.minijinja_value.specs.Values.{Functions}
use Rattle.minijinja_tree.specs.SpannedTrees.{Expr}
use Rattle.minijinja_grammar.specs.internal.Forms.{Form, one, pure, new_name, ◌>>=◌, ◌>>◌}
use Rattle.minijinja_grammar.specs.internal.ExprForms.{expr_at, ident_and_span, when}
use Rattle.minijinja_grammar.specs.internal.StmtForms.{call_of, chain, is_storable, or_at, value}
use Rattle.minijinja_parser_tokens.specs.declared.forms.ExprForm.{ExprForm}
use Rattle.minijinja_parser_tokens.specs.declared.forms.ExprForm.TheVariants as form
use Rattle.minijinja_parser_tokens.specs.declared.forms.IdentForm.{IdentForm}
use Rattle.minijinja_parser_tokens.specs.declared.forms.IdentForm.TheVariants as name

-- whether an expression may stand there, of those that are read there
abbrev pub fits : {C : Type 0} → ExprForm → Expr C → Bool
fits form.Call e = is_some (call_of e)
fits form.Storable e = is_storable e
fits _ e = true

-- what is read there, before it is known whether it may stand there
abbrev pub plain_of : {C F : Type 0} → Functions C F → ExprForm → ℕ → Form (Expr C)
plain_of f form.Full d = expr_at f d
plain_of f form.Or d = or_at f d
plain_of f form.Value d = value (expr_at f d)
plain_of f form.Chain d = chain (expr_at f d)
plain_of f form.Call d = expr_at f d
plain_of f form.Storable d = expr_at f d

-- what an expression of that form is read by
abbrev pub expr_of : {C F : Type 0} → Functions C F → ExprForm → ℕ → Form (Expr C)
expr_of f form.Full d = expr_at f d
expr_of f form.Or d = or_at f d
expr_of f form.Value d = value (expr_at f d)
expr_of f form.Chain d = chain (expr_at f d)
expr_of f form.Call d = expr_at f d >>= (λ e. when (is_some (call_of e)) (pure e))
expr_of f form.Storable d = expr_at f d >>= (λ e. when (is_storable e) (pure e))

-- an identifier that was not given as a name before, and is given from then on
abbrev pub new_ident_and_span : Form (Text × Span)
new_ident_and_span = one ident_and_span >>= (λ x. new_name x.0 >> pure x)

abbrev pub ident_of : IdentForm → Form (Text × Span)
ident_of name.Any = one ident_and_span
ident_of name.New = new_ident_and_span
