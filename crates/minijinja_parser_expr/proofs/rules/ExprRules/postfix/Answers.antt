use Rattle.std.proofs.Common.{rules, ◌≡◌, ◌∙◌, true, false, refl, sym}
use Rattle.minijinja_syntax.specs.Tokens.{bracket_open, dot}
use Rattle.minijinja_tree.specs.SpannedTrees as tree
use Rattle.minijinja_tree.specs.SpannedTrees.{args_of}
use Rattle.minijinja_grammar.specs.Ahead.{comes}
use Rattle.minijinja_grammar.specs.Words.{is}
use Rattle.minijinja_grammar.specs.internal.Forms.{got, read_then, reads}
use Rattle.minijinja_grammar.specs.internal.ExprForms as form
use Rattle.minijinja_grammar.specs.internal.ExprForms.{expanded, expr_at}
use Rattle.minijinja_parser_expr.specs.private.Turns.{postfix_at}
use Rattle.minijinja_parser_expr.proofs.Following.{member_same, postfix_is}
use Rattle.minijinja_parser_expr.proofs.rules.ExprRules.postfix.Goals as goal

pub returns-in_err-skip : goal.returns-in_err-skip
returns-in_err-skip g c =
    let f = g.N.ExprBuilder.functions in let d = c.args.self.now.depth in
    rw (postfix_is (expr_at f d) f (g.N.ExprBuilder.tree c.args.expr) c.args.from (g.N.Input.Tokens.place c.args.tokens.now)) (search rules)

pub returns-then-is_attribute : goal.returns-then-is_attribute
returns-then-is_attribute g c =
    let f = g.N.ExprBuilder.functions in let d = c.args.self.now.depth in let e = g.N.ExprBuilder.tree c.args.expr in
    let p = g.N.Input.Tokens.place c.args.tokens.now in let q = g.N.Input.Tokens.place c.skip.new.self in
    let a : comes (is dot) p.tokens ≡ true = sym c.at-is_attribute.ensures ∙ c.if-is_attribute.true in
    let i : postfix_at f d e c.args.from p ≡ reads (form.member (expr_at f d) f e c.args.from) q = postfix_is (expr_at f d) f e c.args.from p ∙ rw (c.in_ok-skip.ensures, a) refl in
    rw (i ∙ sym (member_same (expr_at f d) f e c.args.from q)) c.member.ensures

pub returns-then-is_subscript : goal.returns-then-is_subscript
returns-then-is_subscript g c =
    let f = g.N.ExprBuilder.functions in let d = c.args.self.now.depth in let e = g.N.ExprBuilder.tree c.args.expr in
    let p = g.N.Input.Tokens.place c.args.tokens.now in let q = g.N.Input.Tokens.place c.skip.new.self in
    let a : comes (is dot) p.tokens ≡ false = sym c.at-is_attribute.ensures ∙ c.if-is_attribute.false in
    let b : comes (is bracket_open) p.tokens ≡ true = sym c.at-is_subscript.ensures ∙ c.if-is_subscript.true in
    let i : postfix_at f d e c.args.from p ≡ reads (form.subscript (expr_at f d) e c.args.from) q = postfix_is (expr_at f d) f e c.args.from p ∙ rw (c.in_ok-skip.ensures, a, b) refl in
    rw i c.subscript.ensures

pub returns-in_err-args : goal.returns-in_err-args
returns-in_err-args g c =
    let f = g.N.ExprBuilder.functions in let d = c.args.self.now.depth in let e = g.N.ExprBuilder.tree c.args.expr in
    let p = g.N.Input.Tokens.place c.args.tokens.now in let q = g.N.Input.Tokens.place c.skip.new.self in
    let a : comes (is dot) p.tokens ≡ false = sym c.at-is_attribute.ensures ∙ c.if-is_attribute.false in
    let b : comes (is bracket_open) p.tokens ≡ false = sym c.at-is_subscript.ensures ∙ c.if-is_subscript.false in
    let i : postfix_at f d e c.args.from p ≡ read_then (reads (form.args (expr_at f d)) q) (λ xs r. got (tree.call e (args_of xs) (expanded c.args.from r.last)) r) =
    postfix_is (expr_at f d) f e c.args.from p ∙ rw (c.in_ok-skip.ensures, a, b) refl in
    rw i (search rules)

pub returns : goal.returns
returns g c =
    let f = g.N.ExprBuilder.functions in let d = c.args.self.now.depth in let e = g.N.ExprBuilder.tree c.args.expr in
    let p = g.N.Input.Tokens.place c.args.tokens.now in let q = g.N.Input.Tokens.place c.skip.new.self in
    let a : comes (is dot) p.tokens ≡ false = sym c.at-is_attribute.ensures ∙ c.if-is_attribute.false in
    let b : comes (is bracket_open) p.tokens ≡ false = sym c.at-is_subscript.ensures ∙ c.if-is_subscript.false in
    let i : postfix_at f d e c.args.from p ≡ read_then (reads (form.args (expr_at f d)) q) (λ xs r. got (tree.call e (args_of xs) (expanded c.args.from r.last)) r) =
    postfix_is (expr_at f d) f e c.args.from p ∙ rw (c.in_ok-skip.ensures, a, b) refl in
    rw (i, c.in_ok-args.ensures) c.spanned.ensures
