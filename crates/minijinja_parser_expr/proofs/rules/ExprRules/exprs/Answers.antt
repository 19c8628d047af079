use Rattle.std.proofs.Common.{rules, ◌∙◌, sym, map}
use Rattle.minijinja_syntax.specs.Tokens.{comma}
use Rattle.minijinja_grammar.specs.internal.Forms.{reads}
use Rattle.minijinja_grammar.specs.internal.ExprForms as form
use Rattle.minijinja_grammar.specs.internal.ExprForms.{expr_at}
use Rattle.minijinja_parser_expr.proofs.Entries.{exprs_also, exprs_last, item_shorter, map_pushed}
use Rattle.minijinja_parser_expr.proofs.Steps.{exprs_done, exprs_more}
use Rattle.minijinja_parser_expr.proofs.rules.ExprRules.exprs.Goals as goal

pub returns-then-not-branch : goal.returns-then-not-branch
returns-then-not-branch g c =
    let v = g.N.ExprBuilder.tree in
    let expr = expr_at g.N.ExprBuilder.functions c.args.self.now.depth in
    let e = c.in_ok-nested.field-0 in
    ◌∙◌ {a = reads (form.exprs expr (map v c.args.items.items)) (g.N.Input.Tokens.place c.args.tokens.now)} c.loop-items.invariant
    (exprs_last expr (map v c.loop-items.items.items) (map v c.push.new.self.items)
    (g.N.Input.Tokens.place c.loop-items.tokens) (g.N.Input.Tokens.place c.nested.new.tokens) (g.N.Input.Tokens.place c.eat.new.self) (v e) c.in_ok-eat.field-0 c.loop-items-test.ensures c.in_ok-nested.ensures
    c.in_ok-eat.ensures c.if-not-branch.true (map_pushed v c.loop-items.items.items c.push.new.self.items e c.in_ok-push.ensures.items))

pub loop-items-smaller : goal.loop-items-smaller
loop-items-smaller g c = item_shorter (expr_at g.N.ExprBuilder.functions c.args.self.now.depth) comma (g.N.Input.Tokens.place c.loop-items.tokens) (g.N.Input.Tokens.place c.nested.new.tokens) (g.N.Input.Tokens.place c.eat.new.self)
    (g.N.ExprBuilder.tree c.in_ok-nested.field-0) c.in_ok-eat.field-0 c.in_ok-nested.ensures c.in_ok-eat.ensures c.if-not-branch.false

pub loop-items-preserved : goal.loop-items-preserved
loop-items-preserved g c =
    let v = g.N.ExprBuilder.tree in
    let expr = expr_at g.N.ExprBuilder.functions c.args.self.now.depth in
    let e = c.in_ok-nested.field-0 in
    ◌∙◌ {a = reads (form.exprs expr (map v c.args.items.items)) (g.N.Input.Tokens.place c.args.tokens.now)} c.loop-items.invariant
    (exprs_also expr (map v c.loop-items.items.items) (map v c.push.new.self.items)
    (g.N.Input.Tokens.place c.loop-items.tokens) (g.N.Input.Tokens.place c.nested.new.tokens) (g.N.Input.Tokens.place c.eat.new.self) (v e) c.in_ok-eat.field-0 c.loop-items-test.ensures c.in_ok-nested.ensures
    c.in_ok-eat.ensures c.if-not-branch.false (map_pushed v c.loop-items.items.items c.push.new.self.items e c.in_ok-push.ensures.items))

pub returns-in_err-nested : goal.returns-in_err-nested
returns-in_err-nested g c =
    let v = g.N.ExprBuilder.tree in
    let e = c.loop-items.invariant ∙ exprs_more (expr_at g.N.ExprBuilder.functions c.args.self.now.depth) (map v c.loop-items.items.items) (g.N.Input.Tokens.place c.loop-items.tokens) (sym c.loop-items-test.ensures) in
    rw e (search rules)

pub returns-in_err-eat : goal.returns-in_err-eat
returns-in_err-eat g c =
    let v = g.N.ExprBuilder.tree in
    let e = c.loop-items.invariant ∙ exprs_more (expr_at g.N.ExprBuilder.functions c.args.self.now.depth) (map v c.loop-items.items.items) (g.N.Input.Tokens.place c.loop-items.tokens) (sym c.loop-items-test.ensures) in
    rw (e, c.in_ok-nested.ensures) (search rules)

pub returns : goal.returns
returns g c =
    let v = g.N.ExprBuilder.tree in
    c.loop-items.invariant ∙ exprs_done (expr_at g.N.ExprBuilder.functions c.args.self.now.depth) (map v c.loop-items.items.items) (g.N.Input.Tokens.place c.loop-items.tokens) (sym c.loop-items-test.ensures)
