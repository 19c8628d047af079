use Rattle.std.proofs.Common.{rules, ◌≡◌, ◌∙◌, [], ◌∷◌, ◌++◌, map, ap, sym}
use Rattle.minijinja_grammar.specs.internal.Forms.{got, reads}
use Rattle.minijinja_grammar.specs.internal.ExprForms as form
use Rattle.minijinja_grammar.specs.internal.ExprForms.{expr_at}
use Rattle.minijinja_parser_expr.proofs.Following.{rest_of_tuple_is}
use Rattle.minijinja_parser_expr.proofs.rules.ExprRules.rest_of_tuple.Goals as goal

pub returns-in_err-expect : goal.returns-in_err-expect
returns-in_err-expect g c =
    let e = rest_of_tuple_is (expr_at g.N.ExprBuilder.functions c.args.self.now.depth) c.args.from (g.N.ExprBuilder.tree c.args.first) (g.N.Input.Tokens.place c.args.tokens.now) in
    let h : reads (form.exprs (expr_at g.N.ExprBuilder.functions c.args.self.now.depth) (g.N.ExprBuilder.tree c.args.first ∷ [])) (g.N.Input.Tokens.place c.args.tokens.now) ≡ got (map g.N.ExprBuilder.tree c.in_ok-items.items.items) (g.N.Input.Tokens.place c.exprs.new.tokens) =
    ap (λ xs. reads (form.exprs (expr_at g.N.ExprBuilder.functions c.args.self.now.depth) (map g.N.ExprBuilder.tree xs)) (g.N.Input.Tokens.place c.args.tokens.now)) (sym (c.in_ok-push.ensures.items ∙ ap (λ xs. xs ++ c.args.first ∷ []) c.new-items.ensures.items)) ∙ c.in_ok-items.ensures in
    rw (e, h) (search rules)

pub returns : goal.returns
returns g c =
    let e = rest_of_tuple_is (expr_at g.N.ExprBuilder.functions c.args.self.now.depth) c.args.from (g.N.ExprBuilder.tree c.args.first) (g.N.Input.Tokens.place c.args.tokens.now) in
    let h : reads (form.exprs (expr_at g.N.ExprBuilder.functions c.args.self.now.depth) (g.N.ExprBuilder.tree c.args.first ∷ [])) (g.N.Input.Tokens.place c.args.tokens.now) ≡ got (map g.N.ExprBuilder.tree c.in_ok-items.items.items) (g.N.Input.Tokens.place c.exprs.new.tokens) =
    ap (λ xs. reads (form.exprs (expr_at g.N.ExprBuilder.functions c.args.self.now.depth) (map g.N.ExprBuilder.tree xs)) (g.N.Input.Tokens.place c.args.tokens.now)) (sym (c.in_ok-push.ensures.items ∙ ap (λ xs. xs ++ c.args.first ∷ []) c.new-items.ensures.items)) ∙ c.in_ok-items.ensures in
    rw (e, h, c.in_ok-expect.ensures) c.spanned.ensures
