-- What is read where no token is left: the empty template, and no expression.
use Rattle.std.proofs.Common.{◌≡◌, ℕ, zero, suc, List, [], refl, sym, ap, ◌∙◌}
use Rattle.minijinja_syntax.specs.Texts.{Text}
use Rattle.minijinja_syntax.specs.Streams.{Ending, finished}
use Rattle.minijinja_syntax.specs.declared.tokens.Span.{Span}
use Rattle.minijinja_value.specs.Values.{Functions}
use Rattle.minijinja_tree.specs.Tree as bare
use Rattle.minijinja_tree.specs.SpannedTrees.{Expr, Stmt, template, done, bare_stmt}
use Rattle.minijinja_grammar.specs.Places.{Place}
use Rattle.minijinja_grammar.specs.internal.Forms.{got, short, reads}
use Rattle.minijinja_grammar.specs.internal.ExprForms.{below, expr_at, expanded, cond, level, pow_level, not_level, unary_level, operand, postfixed, primary, compared_level}
use Rattle.minijinja_grammar.specs.internal.Whole.{IsWholeOf}
use Rattle.minijinja_grammar.specs.internal.StmtForms.{body}
use Rattle.minijinja_grammar.specs.internal.TemplateForms.{template_at}
use Rattle.minijinja_grammar.proofs.Forms.{same_read, sound}

-- a place without tokens
abbrev spent : Text → Ending → Span → List Text → Place
spent s n l ns = record { source = s; tokens = []; ending = n; last = l; names = ns }

no_expr_there : {C F : Type 0} (f : Functions C F) (d : ℕ) (s : Text) (n : Ending) (l : Span) (ns : List Text) → reads (expr_at f d) (spent s n l ns) ≡ short (spent s n l ns)
unfolding reads below cond level pow_level not_level unary_level operand postfixed primary compared_level
no_expr_there f zero s n l ns = refl
no_expr_there f (suc zero) s n l ns = refl
no_expr_there f (suc (suc d)) s n l ns = refl

pub no_expr : {C F : Type 0} (f : Functions C F) (d : ℕ) (p q : Place) (x : Expr C) → p.tokens ≡ [] → reads (expr_at f d) p ≡ got x q → ⊥
no_expr f d p q x e k =
    let there : p ≡ spent p.source p.ending p.last p.names = rw (sym e) refl in
    let i = ap (reads (expr_at f d)) there ∙ no_expr_there f d p.source p.ending p.last p.names in
    cc

empty_there : {C F : Type 0} (f : Functions C F) (d : ℕ) (s : Text) (n : Ending) (l : Span) (ns : List Text) → reads (template_at f d) (spent s n l ns) ≡ got (template done (expanded l l)) (spent s n l ns)
unfolding reads template_at body
empty_there f d s n l ns = refl

pub empty_template : {C F : Type 0} (f : Functions C F) (d : ℕ) (p q : Place) (t : Stmt C) → p.tokens ≡ [] → reads (template_at f d) p ≡ got t q → bare_stmt t ≡ bare.template bare.done
empty_template {C} {F} f d p q t e k =
    let there : p ≡ spent p.source p.ending p.last p.names = rw (sym e) refl in
    let i = ap (reads (template_at f d)) there ∙ empty_there f d p.source p.ending p.last p.names in
    let j : (q ≡ spent p.source p.ending p.last p.names) × (t ≡ template done (expanded p.last p.last)) = same_read t _ q _ (sym k ∙ i) in
    ap bare_stmt j.1

pub empty_derived : {C F : Type 0} (f : Functions C F) (d : ℕ) (p : Place) → p.tokens ≡ [] → p.ending ≡ finished → IsWholeOf (template_at f d) p (template done (expanded p.last p.last))
empty_derived f d p e k =
    let there : p ≡ spent p.source p.ending p.last p.names = rw (sym e) refl in
    let i : reads (template_at f d) p ≡ got (template done (expanded p.last p.last)) (spent p.source p.ending p.last p.names) = ap (reads (template_at f d)) there ∙ empty_there f d p.source p.ending p.last p.names in
    record { unrefused = k; stop = spent p.source p.ending p.last p.names; derived = sound (template_at f d) p _ _ i; none_left = refl }
