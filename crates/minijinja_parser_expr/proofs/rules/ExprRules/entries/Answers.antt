use Rattle.std.proofs.Common.{rules, ◌∙◌, sym, map}
use Rattle.minijinja_syntax.specs.Tokens.{comma}
use Rattle.minijinja_grammar.specs.internal.ExprForms.{expr_at}
use Rattle.minijinja_parser_expr.proofs.Entries.{entries_also, entries_last, entries_more, entry_shorter, map_pushed}
use Rattle.minijinja_parser_expr.proofs.rules.ExprRules.entries.Goals as goal

pub returns-then-not-branch : goal.returns-then-not-branch
returns-then-not-branch g c =
    let v = g.N.ExprBuilder.tree in
    let key = c.in_ok-nested.field-0 in
    let value = c.in_ok-nested-2.field-0 in
    c.loop-keys.invariant ∙
    entries_last (expr_at g.N.ExprBuilder.functions c.args.self.now.depth)
    (map v c.loop-keys.keys.items) (map v c.push.new.self.items) (map v c.loop-keys.values.items) (map v c.push-in-loop-keys.new.self.items)
    (g.N.Input.Tokens.place c.loop-keys.tokens) (g.N.Input.Tokens.place c.nested.new.tokens) (g.N.Input.Tokens.place c.expect.new.self) (g.N.Input.Tokens.place c.nested-in-loop-keys.new.tokens) (g.N.Input.Tokens.place c.eat.new.self)
    (v key) (v value) c.in_ok-expect.field-0 c.in_ok-eat.field-0 c.loop-keys-test.ensures
    c.in_ok-nested.ensures c.in_ok-expect.ensures c.in_ok-nested-2.ensures c.in_ok-eat.ensures c.if-not-branch.true
    (map_pushed v c.loop-keys.keys.items c.push.new.self.items key c.in_ok-push.ensures.items)
    (map_pushed v c.loop-keys.values.items c.push-in-loop-keys.new.self.items value c.in_ok-push-2.ensures.items)

pub loop-keys-smaller : goal.loop-keys-smaller
loop-keys-smaller g c =
    let v = g.N.ExprBuilder.tree in
    entry_shorter (expr_at g.N.ExprBuilder.functions c.args.self.now.depth) comma
    (g.N.Input.Tokens.place c.loop-keys.tokens) (g.N.Input.Tokens.place c.nested.new.tokens) (g.N.Input.Tokens.place c.expect.new.self) (g.N.Input.Tokens.place c.nested-in-loop-keys.new.tokens) (g.N.Input.Tokens.place c.eat.new.self)
    (v c.in_ok-nested.field-0) (v c.in_ok-nested-2.field-0) c.in_ok-expect.field-0 c.in_ok-eat.field-0
    c.in_ok-nested.ensures c.in_ok-expect.ensures c.in_ok-nested-2.ensures c.in_ok-eat.ensures c.if-not-branch.false

pub loop-keys-preserved : goal.loop-keys-preserved
loop-keys-preserved g c =
    let v = g.N.ExprBuilder.tree in
    let key = c.in_ok-nested.field-0 in
    let value = c.in_ok-nested-2.field-0 in
    c.loop-keys.invariant ∙
    entries_also (expr_at g.N.ExprBuilder.functions c.args.self.now.depth)
    (map v c.loop-keys.keys.items) (map v c.push.new.self.items) (map v c.loop-keys.values.items) (map v c.push-in-loop-keys.new.self.items)
    (g.N.Input.Tokens.place c.loop-keys.tokens) (g.N.Input.Tokens.place c.nested.new.tokens) (g.N.Input.Tokens.place c.expect.new.self) (g.N.Input.Tokens.place c.nested-in-loop-keys.new.tokens) (g.N.Input.Tokens.place c.eat.new.self)
    (v key) (v value) c.in_ok-expect.field-0 c.in_ok-eat.field-0 c.loop-keys-test.ensures
    c.in_ok-nested.ensures c.in_ok-expect.ensures c.in_ok-nested-2.ensures c.in_ok-eat.ensures c.if-not-branch.false
    (map_pushed v c.loop-keys.keys.items c.push.new.self.items key c.in_ok-push.ensures.items)
    (map_pushed v c.loop-keys.values.items c.push-in-loop-keys.new.self.items value c.in_ok-push-2.ensures.items)

pub returns-in_err-nested : goal.returns-in_err-nested
returns-in_err-nested g c =
    let v = g.N.ExprBuilder.tree in
    let e = c.loop-keys.invariant ∙ entries_more (expr_at g.N.ExprBuilder.functions c.args.self.now.depth) (map v c.loop-keys.keys.items) (map v c.loop-keys.values.items) (g.N.Input.Tokens.place c.loop-keys.tokens) (sym c.loop-keys-test.ensures) in
    rw e (search rules)

pub returns-in_err-expect : goal.returns-in_err-expect
returns-in_err-expect g c =
    let v = g.N.ExprBuilder.tree in
    let e = c.loop-keys.invariant ∙ entries_more (expr_at g.N.ExprBuilder.functions c.args.self.now.depth) (map v c.loop-keys.keys.items) (map v c.loop-keys.values.items) (g.N.Input.Tokens.place c.loop-keys.tokens) (sym c.loop-keys-test.ensures) in
    rw (e, c.in_ok-nested.ensures) (search rules)

pub returns-in_err-nested-2 : goal.returns-in_err-nested-2
returns-in_err-nested-2 g c =
    let v = g.N.ExprBuilder.tree in
    let e = c.loop-keys.invariant ∙ entries_more (expr_at g.N.ExprBuilder.functions c.args.self.now.depth) (map v c.loop-keys.keys.items) (map v c.loop-keys.values.items) (g.N.Input.Tokens.place c.loop-keys.tokens) (sym c.loop-keys-test.ensures) in
    rw (e, c.in_ok-nested.ensures, c.in_ok-expect.ensures) (search rules)

pub returns-in_err-eat : goal.returns-in_err-eat
returns-in_err-eat g c =
    let v = g.N.ExprBuilder.tree in
    let e = c.loop-keys.invariant ∙ entries_more (expr_at g.N.ExprBuilder.functions c.args.self.now.depth) (map v c.loop-keys.keys.items) (map v c.loop-keys.values.items) (g.N.Input.Tokens.place c.loop-keys.tokens) (sym c.loop-keys-test.ensures) in
    rw (e, c.in_ok-nested.ensures, c.in_ok-expect.ensures, c.in_ok-nested-2.ensures) (search rules)
