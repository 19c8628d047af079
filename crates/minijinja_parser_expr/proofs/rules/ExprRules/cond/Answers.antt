use Rattle.std.proofs.Common.{rules, ◌≡◌, ◌∙◌, refl, sym}
use Rattle.std.specs.Option.{option_map}
use Rattle.minijinja_grammar.specs.internal.Forms.{got, reads}
use Rattle.minijinja_tree.specs.SpannedTrees.{if_expr, optional_of}
use Rattle.minijinja_grammar.specs.internal.ExprForms.{else_part, expanded, expr_at}
use Rattle.minijinja_grammar.proofs.Forms.{same_read}
use Rattle.minijinja_parser_tokens.specs.declared.operators.Level.TheVariants as level
use Rattle.minijinja_parser_expr.specs.private.Levels.{level_at}
use Rattle.minijinja_parser_expr.proofs.Ifs.{cond_level_is, if_shorter, ifs_done, ifs_more}
use Rattle.minijinja_parser_expr.proofs.rules.ExprRules.cond.Goals as goal

pub returns-in_err-expr : goal.returns-in_err-expr
returns-in_err-expr g c = rw (cond_level_is g.N.ExprBuilder.functions c.args.self.now.depth (g.N.Input.Tokens.place c.args.tokens.now)) (search rules)

pub loop-from-init : goal.loop-from-init
loop-from-init g c =
    cond_level_is g.N.ExprBuilder.functions c.args.self.now.depth (g.N.Input.Tokens.place c.args.tokens.now) ∙ rw (c.in_ok-expr.ensures, c.last_span-from.ensures) refl

pub returns-in_err-skip : goal.returns-in_err-skip
returns-in_err-skip g c =
    let f = g.N.ExprBuilder.functions in let d = c.args.self.now.depth in
    let p = g.N.Input.Tokens.place c.loop-from.tokens in
    let e = c.loop-from.invariant ∙ ifs_more (level_at f d level.Or) (expr_at f d) (g.N.ExprBuilder.tree c.loop-from.expr) c.loop-from.from p (sym c.loop-from-test.ensures) in
    rw e (search rules)

pub returns-in_err-test_expr : goal.returns-in_err-test_expr
returns-in_err-test_expr g c =
    let f = g.N.ExprBuilder.functions in let d = c.args.self.now.depth in
    let p = g.N.Input.Tokens.place c.loop-from.tokens in
    let e = c.loop-from.invariant ∙ ifs_more (level_at f d level.Or) (expr_at f d) (g.N.ExprBuilder.tree c.loop-from.expr) c.loop-from.from p (sym c.loop-from-test.ensures) in
    rw (e, c.in_ok-skip.ensures) (search rules)

pub returns-in_err-false_expr : goal.returns-in_err-false_expr
returns-in_err-false_expr g c =
    let f = g.N.ExprBuilder.functions in let d = c.args.self.now.depth in
    let p = g.N.Input.Tokens.place c.loop-from.tokens in let q = g.N.Input.Tokens.place c.skip.new.self in
    let e = c.loop-from.invariant ∙ ifs_more (level_at f d level.Or) (expr_at f d) (g.N.ExprBuilder.tree c.loop-from.expr) c.loop-from.from p (sym c.loop-from-test.ensures) in
    let r = g.N.Input.Tokens.place c.level-in-loop-from.new.tokens in
    let t : reads (level_at f d level.Or) q ≡ got (g.N.ExprBuilder.tree c.in_ok-test_expr.test_expr) r = c.in_ok-test_expr.ensures in
    rw (e, c.in_ok-skip.ensures, t) (search rules)

pub loop-from-smaller : goal.loop-from-smaller
loop-from-smaller g c =
    let p = g.N.Input.Tokens.place c.loop-from.tokens in let q = g.N.Input.Tokens.place c.skip.new.self in
    if_shorter g.N.ExprBuilder.functions c.args.self.now.depth p q (g.N.Input.Tokens.place c.level-in-loop-from.new.tokens) (g.N.Input.Tokens.place c.else_part.new.tokens) _ _ _
    c.in_ok-skip.ensures c.in_ok-test_expr.ensures c.in_ok-false_expr.ensures

pub loop-from-preserved : goal.loop-from-preserved
loop-from-preserved g c =
    let f = g.N.ExprBuilder.functions in let d = c.args.self.now.depth in let v = g.N.ExprBuilder.tree in
    let p = g.N.Input.Tokens.place c.loop-from.tokens in let q = g.N.Input.Tokens.place c.skip.new.self in
    let e = c.loop-from.invariant ∙ ifs_more (level_at f d level.Or) (expr_at f d) (v c.loop-from.expr) c.loop-from.from p (sym c.loop-from-test.ensures) in
    let r = g.N.Input.Tokens.place c.level-in-loop-from.new.tokens in let s = g.N.Input.Tokens.place c.else_part.new.tokens in
    let t : reads (level_at f d level.Or) q ≡ got (v c.in_ok-test_expr.test_expr) r = c.in_ok-test_expr.ensures in
    let o : reads (else_part (expr_at f d)) r ≡ got (option_map v c.in_ok-false_expr.false_expr) s = c.in_ok-false_expr.ensures in
    let made : if_expr (v c.in_ok-test_expr.test_expr) (v c.loop-from.expr) (optional_of (option_map v c.in_ok-false_expr.false_expr)) (expanded c.loop-from.from s.last) ≡ v c.in_ok-expr-2.expr =
    (same_read _ _ s s c.in_ok-expr-2.ensures).1 in
    e ∙ rw (c.in_ok-skip.ensures, t, o, made, c.last_span-from-in-loop-from.ensures) refl

pub returns : goal.returns
returns g c =
    let f = g.N.ExprBuilder.functions in let d = c.args.self.now.depth in
    let p = g.N.Input.Tokens.place c.loop-from.tokens in
    c.loop-from.invariant ∙ ifs_done (level_at f d level.Or) (expr_at f d) (g.N.ExprBuilder.tree c.loop-from.expr) c.loop-from.from p (sym c.loop-from-test.ensures)
