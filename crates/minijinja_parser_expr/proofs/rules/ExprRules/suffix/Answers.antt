use Rattle.std.proofs.Common.{rules, ◌≡◌, ◌∙◌, true, false, refl, sym}
use Rattle.minijinja_syntax.specs.Tokens.{pipe}
use Rattle.minijinja_grammar.specs.Ahead.{comes}
use Rattle.minijinja_grammar.specs.Words.{is}
use Rattle.minijinja_grammar.specs.internal.Forms.{reads}
use Rattle.minijinja_grammar.specs.internal.ExprForms as form
use Rattle.minijinja_grammar.specs.internal.ExprForms.{below}
use Rattle.minijinja_parser_expr.specs.private.Turns.{suffix_at}
use Rattle.minijinja_parser_expr.proofs.Following.{suffix_is}
use Rattle.minijinja_parser_expr.proofs.rules.ExprRules.suffix.Goals as goal

pub returns-in_err-skip : goal.returns-in_err-skip
returns-in_err-skip g c =
    let f = g.N.ExprBuilder.functions in let d = c.args.self.now.depth in
    rw (suffix_is f (below f d) (g.N.ExprBuilder.tree c.args.expr) (g.N.Input.Tokens.place c.args.tokens.now)) (search rules)

pub returns-then-is_filter : goal.returns-then-is_filter
returns-then-is_filter g c =
    let f = g.N.ExprBuilder.functions in let d = c.args.self.now.depth in let e = g.N.ExprBuilder.tree c.args.expr in
    let p = g.N.Input.Tokens.place c.args.tokens.now in let q = g.N.Input.Tokens.place c.skip.new.self in
    let a : comes (is pipe) p.tokens ≡ true = sym c.at-is_filter.ensures ∙ c.if-is_filter.true in
    let i : suffix_at f d e p ≡ reads (form.filtered f (below f d) e) q = suffix_is f (below f d) e p ∙ rw (c.in_ok-skip.ensures, a) refl in
    rw i c.filter.ensures

pub returns : goal.returns
returns g c =
    let f = g.N.ExprBuilder.functions in let d = c.args.self.now.depth in let e = g.N.ExprBuilder.tree c.args.expr in
    let p = g.N.Input.Tokens.place c.args.tokens.now in let q = g.N.Input.Tokens.place c.skip.new.self in
    let a : comes (is pipe) p.tokens ≡ false = sym c.at-is_filter.ensures ∙ c.if-is_filter.false in
    let i : suffix_at f d e p ≡ reads (form.any_test f (below f d) e) q = suffix_is f (below f d) e p ∙ rw (c.in_ok-skip.ensures, a) refl in
    rw i c.any_test.ensures
